-- What was wanting in a turn, and what was looked at, phase by phase.
use Rattle.std.proofs.Common.{◌≡◌, ◌⊎◌, ◌<◌, ◌≤◌, ◌+◌, ◌-◌, ◌^◌, ◌∙◌, ℕ, List, [], ◌∷◌}
use Rattle.std.proofs.Common.{◌++◌, length, min, refl, sym, ap, subst, arith, inl, inr}
use Rattle.std.specs.Prelude.{Bool, true, false, cond, slice_get, IfSome, Result, Ok, Err, IfOk, IfErr, IsErrAnd}
use Rattle.std.proofs.lemmas.Bool.Decides.{eqb_tells}
use Rattle.pg_node.specs.PgGroup.declared.table.GroupTable.{Ghosts}
use Rattle.pg_node.specs.PgNodeState.declared.state.fault.NodeFault.{NodeFault}
use Rattle.pg_node.specs.PgNodeState.declared.state.fault.NodeFault.TheVariants.{Refused, Damaged, OutOfMemory}
use Rattle.pg_node.specs.Bytes.{is_drained}
use Rattle.pg_node.specs.PgNodeState.Issued.{ports_of}
use Rattle.pg_node.specs.Nodes.{held_by, has_lost, links_of}
use Rattle.pg_node_run.specs.declared.linked.LinkedNode.{LinkedNode}
use Rattle.pg_node_run.specs.declared.linked.Peer.{Peer}
use Rattle.pg_node_run.specs.declared.notices.Notice.{Notice}
use Rattle.pg_node_run.specs.declared.notices.Notices.{Notices}
use Rattle.pg_node.specs.PgRing.declared.slot_in.SlotIn.{SlotIn}
use Rattle.pg_node.specs.PgRing.Slots.{slots_left, taken}
use Rattle.pg_node_run.specs.Acts.{Saw, Did}
use Rattle.pg_node_run.specs.Events.{Acted, ActsOnce, IsRefusedAs, IsFault, TookNext}
use Rattle.pg_node_run.specs.Events.{told_of_action, told_of_loss, told_of_peer}
use Rattle.pg_node_run.specs.Follows.{Follows, node_of, peers_of}
use Rattle.pg_node_run.specs.Notices.{inlet_of, kept_of}
use Rattle.pg_node_run.specs.Tries.{CameMore, ComesTo, HasLooked, HasPulled, HasPulledAll, HasPut, HasPutAll}
use Rattle.pg_node_run.specs.Tries.{IsNoWant, IsPutOff, IsWant, Pulling, Taking, Seeing, Commanding, Listing}
use Rattle.pg_node_run.specs.Tries.{Passing, Retrying, RefusedLoss, SawDrained, WasWanting}
use Rattle.pg_node_run.proofs.Following.{follows_itself, follows_on}
use Rattle.pg_node.specs.PgStep.declared.command.Command.{Command}
use Rattle.pg_node.specs.PgStep.declared.command.OpId.{OpId}
use Rattle.pg_node.specs.PgStep.declared.refusal.Refusal.{Refusal}
use Rattle.pg_node.specs.PgStep.declared.refusal.Refusal.TheVariants.{NodeLost}
use Rattle.pg_node.specs.PgStep.Step.{Issue, Retry, TimedTurn}

-- what is so is not otherwise
pub not_both : {A : Type 0} (b : Bool) → b ≡ true → b ≡ false → A
not_both b is other = absurd (let e = sym is ∙ other in cc)

-- what was seen is seen
pub not_unseen : {A : Type 0} (r : Result Bool NodeFault) → IfOk r (λ seen. seen ≡ true) → r ≡ Ok false → A
not_unseen r seen is = let e : false ≡ true = subst (λ (x : Result Bool NodeFault). IfOk x (λ seen. seen ≡ true)) is seen in absurd (cc)

-- ---- what is kept of notices

abbrev first_or : Notice → List Notice → Notice
first_or none [] = none
first_or none (x ∷ xs) = x

pub none_kept : {A : Type 0} (notice : Notice) (n : Notices) → kept_of n ≡ [] → kept_of n ≡ notice ∷ [] → A
none_kept notice n none kept = absurd (let e = ap length (sym none ∙ kept) in omega (arith, e))

-- what was looked for before is so later
pub looked_still : (n m o : Notices) → inlet_of o ≡ inlet_of m
    → (kept_of n ≡ [] → (slots_left (inlet_of m) ≡ []) ⊎ (length (taken (inlet_of n)) < length (taken (inlet_of m))))
    → kept_of n ≡ [] → (slots_left (inlet_of o) ≡ []) ⊎ (length (taken (inlet_of n)) < length (taken (inlet_of o)))
looked_still n m o same looked none = subst (λ (i : SlotIn Notice). (slots_left i ≡ []) ⊎ (length (taken (inlet_of n)) < length (taken i))) (sym same) (looked none)

module _ {T L I : Type 0} {g : Ghosts T} (accepts : L → List ℕ → L → Type 0) (gives : I → List ℕ → I → Type 0) where
  pub looked_none : (a b : LinkedNode T L I g) (n m : Notices) → kept_of m ≡ []
      → (kept_of n ≡ [] → (slots_left (inlet_of m) ≡ []) ⊎ (length (taken (inlet_of n)) < length (taken (inlet_of m)))) → HasLooked accepts gives a n b m
  looked_none a b n m none looked = record { put_off = λ notice kept. none_kept notice m none kept; looked = looked }

  -- the one that is kept is the one that is put off
  pub put_off_as : (notice other : Notice) (a b : LinkedNode T L I g) (n : Notices) → kept_of n ≡ notice ∷ [] → kept_of n ≡ other ∷ [] → IsPutOff accepts gives notice a b
      → IsPutOff accepts gives other a b
  put_off_as notice other a b n kept kept2 off = subst (λ (x : Notice). IsPutOff accepts gives x a b) (ap (first_or notice) (sym kept ∙ kept2)) off

-- ---- faults

-- the fault of a result
abbrev err_of : {A : Type 0} → NodeFault → Result A NodeFault → NodeFault
err_of none (Ok value) = none
err_of none (Err fault) = fault

-- Bytes of a peer are wanting where its loss was not seen and its link is sound.
bytes_wanting : (lost damaged : Bool) (fault : NodeFault) → (lost ≡ true → fault ≡ Refused NodeLost) → (lost ≡ false → damaged ≡ true → fault ≡ Damaged)
    → (lost ≡ false → damaged ≡ false → fault ≡ OutOfMemory) → IsWant fault → (lost ≡ false) × (damaged ≡ false) × (fault ≡ OutOfMemory)
bytes_wanting true damaged fault first second memory want = absurd (subst IsWant (first refl) want)
bytes_wanting false true fault first second memory want = absurd (subst IsWant (second refl refl) want)
bytes_wanting false false fault first second memory want = (refl, refl, memory refl refl)

-- what else is told of bytes, where the link is sound, is that the peer is lost
only_lost : (lost : Bool) (fault : NodeFault) → (lost ≡ true → fault ≡ Refused NodeLost) → (lost ≡ false → fault ≡ OutOfMemory) → IsNoWant fault → (lost ≡ true) × (fault ≡ Refused NodeLost)
only_lost true fault first memory no_want = (refl, first refl)
only_lost false fault first memory no_want = absurd (subst IsNoWant (memory refl) no_want)

-- a loss that was seen is refused as that
lost_told : (lost : Bool) (rest : Result TimedTurn Refusal) → lost ≡ true → IsRefusedAs (cond lost (Err NodeLost) rest) (Refused NodeLost)
lost_told true rest is = refl
lost_told false rest is = absurd (cc)

module _ {T L I : Type 0} {g : Ghosts T} (accepts : L → List ℕ → L → Type 0) (gives : I → List ℕ → I → Type 0)
    (link_rests : (a : L) → accepts a [] a) (inlet_rests : (a : I) → gives a [] a)
    (link_composes : (a b c : L) (xs ys : List ℕ) → accepts a xs b → accepts b ys c → accepts a (xs ++ ys) c)
    (inlet_composes : (a b c : I) (xs ys : List ℕ) → gives a xs b → gives b ys c → gives a (xs ++ ys) c) where
  stay : (a : LinkedNode T L I g) → ComesTo accepts gives a a
  stay a = ([], follows_itself accepts gives link_rests inlet_rests a)

  on : (a b c : LinkedNode T L I g) → ComesTo accepts gives a b → ComesTo accepts gives b c → ComesTo accepts gives a c
  on a b c h k = (h.0 ++ k.0, follows_on accepts gives link_composes inlet_composes h.0 k.0 a b c h.1 k.1)

  -- no event happened in either
  pub none_on : (a b c : LinkedNode T L I g) → Follows accepts gives [] a b → Follows accepts gives [] b c → Follows accepts gives [] a c
  none_on a b c h k = follows_on accepts gives link_composes inlet_composes [] [] a b c h k

  -- ---- what was wanting

  pub wanting_between : (a b c d : LinkedNode T L I g) → ComesTo accepts gives a b → WasWanting accepts gives b c → ComesTo accepts gives c d → WasWanting accepts gives a d
  wanting_between a b c d h w k = record {
    before = w.before;
    first = on a b w.before h w.first;
    part = w.part;
    fault = w.fault;
    told = w.told;
    want = w.want;
    rest = on w.before c d w.rest k;
  }

  -- in one stretch or in the next
  pub wanting_on : (before here both : Bool) (a b c : LinkedNode T L I g) → (both ≡ false → (before ≡ false) ⊎ (here ≡ false)) → ComesTo accepts gives a b → ComesTo accepts gives b c
      → (before ≡ false → WasWanting accepts gives a b) → (here ≡ false → WasWanting accepts gives b c) → both ≡ false → WasWanting accepts gives a c
  wanting_on before here both a b c either h k first second short = go (either short)
    where
      go : (before ≡ false) ⊎ (here ≡ false) → WasWanting accepts gives a c
      go (inl e) = wanting_between a a b c (stay a) (first e) k
      go (inr e) = wanting_between a b c c h (second e) (stay c)

  pub pulling_wants : (peer : ℕ) (r : Result ℕ NodeFault) (a b : LinkedNode T L I g) → peer < length (peers_of a) → Follows accepts gives [] a b
      → (has_lost (held_by (node_of a)) peer ≡ true → r ≡ Err (Refused NodeLost))
      → (has_lost (held_by (node_of a)) peer ≡ false → (links_of (node_of a) peer).damaged ≡ true → r ≡ Err Damaged)
      → (has_lost (held_by (node_of a)) peer ≡ false → (links_of (node_of a) peer).damaged ≡ false → IfErr r (λ fault. fault ≡ OutOfMemory))
      → IsErrAnd r IsWant → WasWanting accepts gives a b
  pulling_wants peer (Ok count) a b within moved lost damaged memory want = absurd want
  pulling_wants peer (Err fault) a b within moved lost damaged memory want =
      let is = bytes_wanting (has_lost (held_by (node_of a)) peer) ((links_of (node_of a) peer).damaged) fault (λ e. ap (err_of fault) (lost e)) (λ e d. ap (err_of fault) (damaged e d)) memory want in record {
        before = a;
        first = stay a;
        part = Pulling peer;
        fault = fault;
        told = (within, is.0, is.1, is.2);
        want = want;
        rest = ([], moved);
      }

  pub taking_wants : (peer : ℕ) (r : Result Bool NodeFault) (a b : LinkedNode T L I g) → peer < length (peers_of a) → TookNext accepts gives peer r a b
      → IfErr r (IsFault (told_of_peer (node_of a) peer)) → IsErrAnd r IsWant → WasWanting accepts gives a b
  taking_wants peer (Ok took) a b within next told want = absurd want
  taking_wants peer (Err fault) a b within next told want = record {
    before = a;
    first = stay a;
    part = Taking peer;
    fault = fault;
    told = (within, told);
    want = want;
    rest = ([], next);
  }

  pub seeing_wants : (notice : Notice) (r : Result (Unit {0}) NodeFault) (fault : NodeFault) (a b : LinkedNode T L I g) → notice.peer < length (peers_of a) → r ≡ Err fault
      → Acted accepts gives (Saw notice.peer notice.last) r a b → IfErr r (IsRefusedAs (told_of_loss (node_of a) notice.peer notice.last)) → IsWant fault → WasWanting accepts gives a b
  seeing_wants notice r fault a b within is acted told want = record {
    before = a;
    first = stay a;
    part = Seeing notice;
    fault = fault;
    told = (within, subst (λ (x : Result (Unit {0}) NodeFault). IfErr x (IsRefusedAs (told_of_loss (node_of a) notice.peer notice.last))) is told);
    want = want;
    rest = ([], subst (λ x. Acted accepts gives (Saw notice.peer notice.last) x a b) is acted);
  }

  pub commanding_wants : (port : ℕ) (command : Command) (r : Result (Unit {0}) (NodeFault × Command)) (back : NodeFault × Command) (a b : LinkedNode T L I g) → port < ports_of (held_by (node_of a))
      → r ≡ Err back → Acted accepts gives (Did (Issue port command)) r a b → IsRefusedAs (told_of_action (node_of a) (Issue port command)) back.0 → IsWant back.0 → WasWanting accepts gives a b
  commanding_wants port command r back a b within is acted told want = record {
    before = a;
    first = stay a;
    part = Commanding port command;
    fault = back.0;
    told = (within, told);
    want = want;
    rest = ([], subst (λ x. Acted accepts gives (Did (Issue port command)) x a b) is acted);
  }

  pub retrying_wants : (op : OpId) (r : Result (Unit {0}) NodeFault) (fault : NodeFault) (a b : LinkedNode T L I g) → op.port < ports_of (held_by (node_of a)) → r ≡ Err fault
      → Acted accepts gives (Did (Retry op)) r a b → IfErr r (IsRefusedAs (told_of_action (node_of a) (Retry op))) → IsWant fault → WasWanting accepts gives a b
  retrying_wants op r fault a b within is acted told want = record {
    before = a;
    first = stay a;
    part = Retrying op;
    fault = fault;
    told = (within, subst (λ (x : Result (Unit {0}) NodeFault). IfErr x (IsRefusedAs (told_of_action (node_of a) (Retry op)))) is told);
    want = want;
    rest = ([], subst (λ x. Acted accepts gives (Did (Retry op)) x a b) is acted);
  }

  pub passing_wants : (op : OpId) (a : LinkedNode T L I g) → WasWanting accepts gives a a
  passing_wants op a = record { before = a; first = stay a; part = Passing op; fault = OutOfMemory; told = refl; want = tt; rest = stay a }

  pub listing_wants : (a : LinkedNode T L I g) → WasWanting accepts gives a a
  listing_wants a = record { before = a; first = stay a; part = Listing; fault = OutOfMemory; told = refl; want = tt; rest = stay a }

  -- the phases of a turn, of which the last hands over answers
  pub turn_wanting : (took saw commanded retried put handed one two three four five : Bool) (a b c d e f : LinkedNode T L I g) (X : Type 0)
      → (one ≡ false → (took ≡ false) ⊎ (saw ≡ false)) → (two ≡ false → (one ≡ false) ⊎ (commanded ≡ false)) → (three ≡ false → (two ≡ false) ⊎ (retried ≡ false))
      → (four ≡ false → (three ≡ false) ⊎ (put ≡ false)) → (five ≡ false → (four ≡ false) ⊎ (handed ≡ false))
      → ComesTo accepts gives a b → ComesTo accepts gives b c → ComesTo accepts gives c d → ComesTo accepts gives d e → ComesTo accepts gives e f
      → (took ≡ false → WasWanting accepts gives a b) → (saw ≡ false → WasWanting accepts gives b c) → (commanded ≡ false → WasWanting accepts gives c d)
      → (retried ≡ false → WasWanting accepts gives d e) → put ≡ true → (handed ≡ false → X) → five ≡ false → WasWanting accepts gives a f ⊎ X
  turn_wanting took saw commanded retried put handed one two three four five a b c d e f X first second third fourth fifth ab bc cd de ef wants_took wants_saw wants_commanded wants_retried whole leaves short =
      go (fifth short)
    where
      ac : ComesTo accepts gives a c
      ac = on a b c ab bc

      ad : ComesTo accepts gives a d
      ad = on a c d ac cd

      ae : ComesTo accepts gives a e
      ae = on a d e ad de

      by_four : four ≡ false → WasWanting accepts gives a f
      by_four = wanting_on three put four a e f fourth ae ef
          (wanting_on two retried three a d e third ad de
          (wanting_on one commanded two a c d second ac cd (wanting_on took saw one a b c first ab bc wants_took wants_saw) wants_commanded) wants_retried) (λ e. not_both put whole e)

      go : (four ≡ false) ⊎ (handed ≡ false) → WasWanting accepts gives a f ⊎ X
      go (inl e) = inl (by_four e)
      go (inr e) = inr (leaves e)

  -- ---- bytes that came in

  pub pulled_one : (moves : I → ℕ → ℕ → Type 0) (peer : ℕ) (r : Result ℕ NodeFault) (a b : LinkedNode T L I g) → Follows accepts gives [] a b
      → (has_lost (held_by (node_of a)) peer ≡ false → (links_of (node_of a) peer).damaged ≡ false → IfErr r (λ fault. fault ≡ OutOfMemory)) → IfErr r IsNoWant
      → IfOk r (λ count. length (links_of (node_of b) peer).unread ≡ length (links_of (node_of a) peer).unread + count)
      → IfOk r (λ count. IfSome (slice_get (peers_of a) peer) (λ (p : Peer L I). moves p.inlet 4096 count)) → HasPulled accepts gives moves peer a b
  pulled_one moves peer (Ok count) a b moved memory no_want came many = record {
    before = a;
    first = stay a;
    after = b;
    moved = moved;
    came = λ here sound. record { count = count; came = came; many = many };
    rest = stay b;
  }
  pulled_one moves peer (Err fault) a b moved memory no_want came many = record {
    before = a;
    first = stay a;
    after = b;
    moved = moved;
    came = λ here sound. absurd (subst IsNoWant (memory here sound) no_want);
    rest = stay b;
  }

  pub pulled_between : (moves : I → ℕ → ℕ → Type 0) (peer : ℕ) (a b c d : LinkedNode T L I g) → ComesTo accepts gives a b → HasPulled accepts gives moves peer b c → ComesTo accepts gives c d
      → HasPulled accepts gives moves peer a d
  pulled_between moves peer a b c d h pulled k = record {
    before = pulled.before;
    first = on a b pulled.before h pulled.first;
    after = pulled.after;
    moved = pulled.moved;
    came = pulled.came;
    rest = on pulled.after c d pulled.rest k;
  }

  pub pulled_more : (moves : I → ℕ → ℕ → Type 0) (place : ℕ) (a b c : LinkedNode T L I g) → ComesTo accepts gives a b → ComesTo accepts gives b c
      → ((peer : ℕ) → peer < place → HasPulled accepts gives moves peer a b) → HasPulled accepts gives moves place b c
      → (peer : ℕ) → peer < place + 1 → HasPulled accepts gives moves peer a c
  pulled_more moves place a b c h k before here peer low = elim (eqb_tells peer place) [
    | inl t ↦ subst (λ p. HasPulled accepts gives moves p a c) (sym t.1) (pulled_between moves place a b c c h here (stay c))
    | inr f ↦ pulled_between moves peer a a b c (stay a) (before peer (omega (arith, f.1, low))) k
  ]

  pub same_peers : (a b : LinkedNode T L I g) → ComesTo accepts gives a b → length (peers_of b) ≡ length (peers_of a)
  same_peers a b h = h.1.moved.len

  pub pulled_still : (moves : I → ℕ → ℕ → Type 0) (a b c : LinkedNode T L I g) → HasPulledAll accepts gives moves a b → ComesTo accepts gives b c → HasPulledAll accepts gives moves a c
  pulled_still moves a b c all k peer low = pulled_between moves peer a a b c (stay a) (all peer low) k

  -- ---- bytes that were put

  pub put_one : (moves : L → ℕ → ℕ → Type 0) (peer count : ℕ) (a b : LinkedNode T L I g) → Follows accepts gives [] a b
      → length (links_of (node_of b) peer).outbox + count ≡ length (links_of (node_of a) peer).outbox
      → IfSome (slice_get (peers_of a) peer) (λ (p : Peer L I). moves p.link (min (2 ^ 64 - 1) (length (links_of (node_of a) peer).outbox)) count) → HasPut accepts gives moves peer a b
  put_one moves peer count a b moved put many = record {
    before = a;
    first = stay a;
    count = count;
    after = b;
    moved = moved;
    put = put;
    many = many;
    rest = follows_itself accepts gives link_rests inlet_rests b;
  }

  pub put_between : (moves : L → ℕ → ℕ → Type 0) (peer : ℕ) (a b c d : LinkedNode T L I g) → ComesTo accepts gives a b → HasPut accepts gives moves peer b c → Follows accepts gives [] c d
      → HasPut accepts gives moves peer a d
  put_between moves peer a b c d h has k = record {
    before = has.before;
    first = on a b has.before h has.first;
    count = has.count;
    after = has.after;
    moved = has.moved;
    put = has.put;
    many = has.many;
    rest = none_on has.after c d has.rest k;
  }

  pub put_more : (moves : L → ℕ → ℕ → Type 0) (place : ℕ) (a b c : LinkedNode T L I g) → Follows accepts gives [] a b → Follows accepts gives [] b c
      → ((peer : ℕ) → peer < place → HasPut accepts gives moves peer a b) → HasPut accepts gives moves place b c → (peer : ℕ) → peer < place + 1 → HasPut accepts gives moves peer a c
  put_more moves place a b c h k before here peer low = elim (eqb_tells peer place) [
    | inl t ↦ subst (λ p. HasPut accepts gives moves p a c) (sym t.1) (put_between moves place a b c c ([], h) here (follows_itself accepts gives link_rests inlet_rests c))
    | inr f ↦ put_between moves peer a a b c (stay a) (before peer (omega (arith, f.1, low))) k
  ]

  pub put_after : (moves : L → ℕ → ℕ → Type 0) (a b c : LinkedNode T L I g) → ComesTo accepts gives a b → HasPutAll accepts gives moves b c → HasPutAll accepts gives moves a c
  put_after moves a b c h all peer low =
      put_between moves peer a b c c h (all peer (subst (λ n. peer < n) (sym (same_peers a b h)) low)) (follows_itself accepts gives link_rests inlet_rests c)

  -- ---- losses

  more_between : (peer : ℕ) (a b c d : LinkedNode T L I g) → ComesTo accepts gives a b → CameMore accepts gives peer b c → ComesTo accepts gives c d → CameMore accepts gives peer a d
  more_between peer a b c d h more k = record {
    before = more.before;
    first = on a b more.before h more.first;
    after = more.after;
    moved = more.moved;
    more = more.more;
    rest = on more.after c d more.rest k;
  }

  refused_between : (notice : Notice) (a b c d : LinkedNode T L I g) → ComesTo accepts gives a b → RefusedLoss accepts gives notice b c → ComesTo accepts gives c d → RefusedLoss accepts gives notice a d
  refused_between notice a b c d h refused k = record {
    before = refused.before;
    first = on a b refused.before h refused.first;
    fault = refused.fault;
    told = refused.told;
    no_want = refused.no_want;
    rest = on refused.before c d refused.rest k;
  }

  put_off_between : (notice : Notice) (a b c d : LinkedNode T L I g) → ComesTo accepts gives a b → IsPutOff accepts gives notice b c → ComesTo accepts gives c d → IsPutOff accepts gives notice a d
  put_off_between notice a b c d h (inl nowhere) k = inl (subst (λ n. n ≤ notice.peer) (same_peers a b h) nowhere)
  put_off_between notice a b c d h (inr (inl more)) k = inr (inl (more_between notice.peer a b c d h more k))
  put_off_between notice a b c d h (inr (inr refused)) k = inr (inr (refused_between notice a b c d h refused k))

  pub looked_between : (a b c d : LinkedNode T L I g) (n m : Notices) → ComesTo accepts gives a b → HasLooked accepts gives b n c m → ComesTo accepts gives c d → HasLooked accepts gives a n d m
  looked_between a b c d n m h looked k = record {
    put_off = λ notice kept. put_off_between notice a b c d h (looked.put_off notice kept) k;
    looked = looked.looked;
  }

  pub saw_drained : (moves : I → ℕ → ℕ → Type 0) (notice : Notice) (a m b : LinkedNode T L I g) → Follows accepts gives [] a m
      → ((links_of (node_of a) notice.peer).damaged ≡ true) ⊎ IfSome (slice_get (peers_of a) notice.peer) (λ (p : Peer L I). moves p.inlet 4096 0)
      → is_drained (links_of (node_of m) notice.peer) ≡ true → ActsOnce accepts gives (λ input. input ≡ Saw notice.peer notice.last) m b → SawDrained accepts gives moves a b
  saw_drained moves notice a m b moved nothing is saw = record {
    notice = notice;
    before = a;
    first = stay a;
    drained = m;
    moved = moved;
    nothing = nothing;
    is = is;
    after = b;
    saw = saw;
    rest = stay b;
  }

  pub drained_between : (moves : I → ℕ → ℕ → Type 0) (a b c d : LinkedNode T L I g) → ComesTo accepts gives a b → SawDrained accepts gives moves b c → ComesTo accepts gives c d
      → SawDrained accepts gives moves a d
  drained_between moves a b c d h saw k = record {
    notice = saw.notice;
    before = saw.before;
    first = on a b saw.before h saw.first;
    drained = saw.drained;
    moved = saw.moved;
    nothing = saw.nothing;
    is = saw.is;
    after = saw.after;
    saw = saw.saw;
    rest = on saw.after c d saw.rest k;
  }

  pub came_more : (peer count : ℕ) (a b : LinkedNode T L I g) → Follows accepts gives [] a b → 0 < count
      → length (links_of (node_of b) peer).unread ≡ length (links_of (node_of a) peer).unread + count → CameMore accepts gives peer a b
  came_more peer count a b moved some came = record {
    before = a;
    first = stay a;
    after = b;
    moved = moved;
    more = omega (arith, some, came);
    rest = stay b;
  }

  pub refused_loss : (notice : Notice) (r : Result (Unit {0}) NodeFault) (fault : NodeFault) (a b : LinkedNode T L I g) → r ≡ Err fault → Acted accepts gives (Saw notice.peer notice.last) r a b
      → IfErr r (IsRefusedAs (told_of_loss (node_of a) notice.peer notice.last)) → IsNoWant fault → RefusedLoss accepts gives notice a b
  refused_loss notice r fault a b is acted told no_want = record {
    before = a;
    first = stay a;
    fault = fault;
    told = subst (λ (x : Result (Unit {0}) NodeFault). IfErr x (IsRefusedAs (told_of_loss (node_of a) notice.peer notice.last))) is told;
    no_want = no_want;
    rest = ([], subst (λ x. Acted accepts gives (Saw notice.peer notice.last) x a b) is acted);
  }

  pub refused_behind : (notice : Notice) (r : Result Bool NodeFault) (a b c : LinkedNode T L I g) → ComesTo accepts gives a b
      → IfErr r (λ fault. IsNoWant fault → RefusedLoss accepts gives notice b c) → IfErr r (λ fault. IsNoWant fault → RefusedLoss accepts gives notice a c)
  refused_behind notice (Ok seen) a b c h refused = tt
  refused_behind notice (Err fault) a b c h refused = λ no_want. refused_between notice a b c c h (refused no_want) (stay c)

  -- a pull of bytes from a sound link told a fault that is no want
  pub refused_pull : (notice : Notice) (r : Result ℕ NodeFault) (fault : NodeFault) (a b : LinkedNode T L I g) → r ≡ Err fault → Follows accepts gives [] a b
      → (links_of (node_of a) notice.peer).damaged ≡ false → (has_lost (held_by (node_of a)) notice.peer ≡ true → r ≡ Err (Refused NodeLost))
      → (has_lost (held_by (node_of a)) notice.peer ≡ false → (links_of (node_of a) notice.peer).damaged ≡ false → IfErr r (λ told. told ≡ OutOfMemory)) → IsNoWant fault
      → RefusedLoss accepts gives notice a b
  refused_pull notice r fault a b is moved sound lost memory no_want =
      let only = only_lost (has_lost (held_by (node_of a)) notice.peer) fault (λ e. ap (err_of fault) (sym is ∙ lost e))
      (λ e. subst (λ (x : Result ℕ NodeFault). IfErr x (λ told. told ≡ OutOfMemory)) is (memory e sound)) no_want
      in record {
        before = a;
        first = stay a;
        fault = fault;
        told = subst (IsRefusedAs (told_of_loss (node_of a) notice.peer notice.last)) (sym only.1) (lost_told (has_lost (held_by (node_of a)) notice.peer) _ only.0);
        no_want = no_want;
        rest = ([], moved);
      }
