-- Where nothing is on the way to a live node, each lock that such a node gave is that of a ready command.
use Rattle.std.proofs.Common.{◌≡◌, ◌≢◌, ◌⊎◌, inl, inr, ℕ, Bool, true, false, map, List, [], ◌∷◌}
use Rattle.std.proofs.Common.{Some, refl, ap, sym, ◌∙◌, subst}
use Rattle.std.specs.List.{IsDistinct}
use Rattle.std.proofs.lemmas.Bool.{cases_eq}
use Rattle.pg_term.specs.declared.term.Term.{Term}
use Rattle.pg_term.specs.RefParts.{RefParts}
use Rattle.pg_term.specs.Same.{same_atom}
use Rattle.pg_laws.specs.PgRefs.Numbered.{numbered}
use Rattle.pg_laws.specs.PgGroup.declared.update.Update.{Update}
use Rattle.pg_laws.specs.PgGroup.Value.{name_of}
use Rattle.pg_laws.specs.PgLock.Locks.{is_holder}
use Rattle.pg_laws.specs.PgMessageTypes.declared.message.Message.{Message}
use Rattle.pg_laws.specs.PgStep.Machines.Clocked.{packets_of}
use Rattle.pg_laws.specs.PgStep.Machines.Losing.{LosingEvent, Sent}
use Rattle.pg_laws.specs.PgStep.declared.command.OpId.{OpId}
use Rattle.pg_laws.specs.PgStep.Attempts.{waits}
use Rattle.pg_laws.specs.PgStep.Config.{Config, name_at, names_of, nodes_at}
use Rattle.pg_laws.specs.PgStep.LossLaws.{LosingFrameWorld}
use Rattle.pg_laws.specs.PgStep.Nodes.{Node, Nodes}
use Rattle.pg_laws.specs.PgStep.State.{State, Status, Use, live_nodes}
use Rattle.pg_laws.specs.PgStep.State.Stage.{Asking, Changing}
use Rattle.pg_laws.specs.PgStep.State.Status.{Asked, No, Unasked, Yes}
use Rattle.pg_laws.specs.PgStep.State.Use.{Fresh, Locking, Owning, Spent, Updating}
use Rattle.pg_laws.specs.PgStep.Step.{Action}
use Rattle.pg_laws.specs.Counted.{is_open}
use Rattle.pg_laws.specs.ReferencesFit.{Fits as FitsUse}
use Rattle.pg_laws.proofs.locks.Kept.{near, talk}
use Rattle.pg_laws.proofs.locks.Lines.{Fits, FitsReply, FitsStatus, Line, backs, holds, outs}
use Rattle.pg_laws.proofs.locks.Lines.Line.{Closing, Confirming, Giving, Having, Quiet, Refusing, Telling, Wanting}
use Rattle.pg_laws.proofs.places.Shown.{IsHere}
use Rattle.pg_laws.proofs.quiet.Linked.{HasUpdate, IsUnder, Linked}
use Rattle.pg_laws.proofs.quiet.Rest.{pair_of}
use Rattle.pg_laws.proofs.quiet.Runs.{IsOfNode}
use Rattle.pg_laws.proofs.references.Keys.{terms}
use Rattle.pg_laws.proofs.references.References.{about, numbered_same}
use Rattle.pg_laws_losses.specs.Quiet.{IsQuietLive}
use Rattle.pg_laws_losses.specs.Reached.{LosingReaches}
use Rattle.pg_laws_losses.proofs.Bridge.{Left, live_at, near_at}
use Rattle.pg_laws_losses.proofs.Bridges.{Bridged, bridged}
use Rattle.pg_laws_losses.proofs.Lossy.{bare}
use Rattle.pg_laws_losses.proofs.Retries.{lost_waits, waits_for_retries}
use Rattle.pg_laws_losses.proofs.Unheld.{no_lock_of_lost}
use Rattle.pg_laws_losses.specs.Readiness.Ready.{OfReady, is_ready}
use Rattle.pg_laws_losses.proofs.Readiness.Holders.{all_linked, holders}

nothing_sent : (all : List Message) → [] ≡ map Sent all → all ≡ []
nothing_sent [] e = refl
nothing_sent (x ∷ xs) e = absurd (cc)

-- a lock that is held about which nothing is on the way
has_it : (r : RefParts) (l : Line) (name : Term) → holds l name ≡ true → [] ≡ outs r l → [] ≡ backs r l → l ≡ Having name
has_it r (Having N) name held out back = ap Having (terms.is N name held)
has_it r Quiet name held out back = absurd (cc held)
has_it r (Closing N) name held out back = absurd (cc out)
has_it r (Wanting N) name held out back = absurd (cc held)
has_it r (Giving N) name held out back = absurd (cc back)
has_it r Refusing name held out back = absurd (cc held)
has_it r (Telling u) name held out back = absurd (cc held)
has_it r Confirming name held out back = absurd (cc held)

having_name : (M N : Term) → Having M ≡ Having N → M ≡ N
having_name M N e = cc

-- what a reference is used for that has the lock of a name at a node
data HasLock (name : Term) (used : Use) : Type 0 where
  AsksIt : (op : OpId) (u : Update) (lead : Node) (st : Node → Status) → name_of u ≡ name → used ≡ Locking op u lead st → HasLock name used
  OwnsIt : (n : ℕ) → used ≡ Owning name n → HasLock name used

yes_only : (M name : Term) (v : Status) → FitsStatus M v (Having name) → M ≡ name
yes_only M name Yes f = having_name M name (sym f)
yes_only M name Unasked f = absurd (cc f)
yes_only M name Asked f = absurd f
yes_only M name No f = absurd f

no_reply : (u : Update) (name : Term) (b : Bool) → FitsReply u b (Having name) → ⊥
no_reply u name true f = absurd (cc f)
no_reply u name false f = f

has_lock : (name : Term) (used : Use) (p : Node) → Fits used p (Having name) → HasLock name used
has_lock name (Locking op u lead st) p f = AsksIt op u lead st (yes_only (name_of u) name (st p) f) refl
has_lock name (Owning N n) p f = OwnsIt n (ap (λ z. Owning z n) (having_name N name (sym f)))
has_lock name Fresh p f = absurd (cc f)
has_lock name Spent p f = absurd f
has_lock name (Updating op u c replied) p f = absurd (no_reply u name (replied p) f)

module _ (config : Config) (apart : IsDistinct same_atom (names_of config)) (es : List (LosingEvent Action)) (w : LosingFrameWorld) (l : LosingReaches config es w) (quiet : IsQuietLive config w)
    (i : ℕ) (here : IsHere config i) (lives : w.gone i ≡ false) (name : Term) (holder : RefParts) (is : (w.world.node i).state.locks name ≡ Some holder) where
  abbrev b : Bridged config apart (bare w)
  b = bridged config apart es w l

  known : IsOfNode config holder
  known = holders config apart es w l i here name holder is

  abbrev j : ℕ
  j = known.place

  abbrev c : ℕ
  c = known.number

  unseen : (w.world.node i).state.lost (name_at config known.place) ≡ false
  unseen = ap (λ (r : RefParts). (w.world.node i).state.lost r.node) (sym known.is) ∙ no_lock_of_lost config apart es w i l here name holder is

  unlost : (w.world.node known.place).state.lost (name_at config i) ≡ false
  unlost = sym (b.has.sees known.place (name_at config i) known.here) ∙ (live_at config apart (bare w) b.has i here lives).unseen (name_at config known.place)

  way_in : known.place ≢ i → (bare w).world.wire known.place i ≡ []
  way_in other = ap packets_of (quiet known.place i (pair_of config known.place i known.here here other) lives)

  j_lives : w.gone known.place ≡ false
  j_lives = go (cases_eq known.place i)
    where
      go : (known.place ≡ i) ⊎ (known.place ≡ i → ⊥) → w.gone known.place ≡ false
      go (inl same) = ap w.gone same ∙ lives
      go (inr other) = lost_waits (w.gone known.place) (b.has.ways known.place i) (subst (λ z. Left (w.gone known.place) z (b.has.ways known.place i)) (way_in other) (b.has.cut known.place i known.here here other unseen))

  meets : near b.has.world (name_at config known.place) (name_at config i)
  meets = near_at config apart (bare w) b.has i known.place here known.here lives unseen

  -- nothing is on the way between the two
  none_in : b.has.world.wire (name_at config known.place) (name_at config i) ≡ []
  none_in = go (cases_eq known.place i)
    where
      go : (known.place ≡ i) ⊎ (known.place ≡ i → ⊥) → b.has.world.wire (name_at config known.place) (name_at config i) ≡ []
      go (inl same) = subst (λ z. b.has.world.wire (name_at config z) (name_at config i) ≡ []) (sym same) (b.has.inv.tidy.own (name_at config i))
      go (inr other) = b.has.shows.wire known.place i known.here here ∙ nothing_sent (b.has.ways known.place i)
          (subst (λ z. z ≡ map Sent (b.has.ways known.place i)) (way_in other) (subst (λ z. Left z ((bare w).world.wire known.place i) (b.has.ways known.place i)) j_lives (b.has.cut known.place i known.here here other unseen)))

  none_back : b.has.world.wire (name_at config i) (name_at config known.place) ≡ []
  none_back = go (cases_eq i known.place)
    where
      go : (i ≡ known.place) ⊎ (i ≡ known.place → ⊥) → b.has.world.wire (name_at config i) (name_at config known.place) ≡ []
      go (inl same) = subst (λ z. b.has.world.wire (name_at config i) (name_at config z) ≡ []) same (b.has.inv.tidy.own (name_at config i))
      go (inr other) = b.has.shows.wire i known.place here known.here ∙ nothing_sent (b.has.ways i known.place)
          (subst (λ z. z ≡ map Sent (b.has.ways i known.place)) (ap packets_of (quiet i known.place (pair_of config i known.place here known.here other) j_lives))
          (subst (λ z. Left z ((bare w).world.wire i known.place) (b.has.ways i known.place)) lives (b.has.cut i known.place here known.here other unlost)))

  line : talk b.has.world (name_at config known.place) known.number (name_at config i)
  line = b.has.inv.lines (name_at config known.place) known.number (name_at config i) meets

  held_there : holds line.line name ≡ true
  held_there =
      sym (line.hold_is name) ∙ (ap (λ (s : State). is_holder (s.locks name) (numbered (name_at config known.place) known.number)) (b.has.shows.node i here)
      ∙ (ap (λ o. is_holder o (numbered (name_at config known.place) known.number)) (is ∙ ap Some known.is) ∙ numbered_same (name_at config known.place) known.number))

  line_is : line.line ≡ Having name
  line_is = has_it (numbered (name_at config known.place) known.number) line.line name held_there
      (sym (ap (about (numbered (name_at config known.place) known.number)) none_in) ∙ line.out_is)
      (sym (ap (about (numbered (name_at config known.place) known.number)) none_back) ∙ line.back_is)

  abbrev s : State
  s = (w.world.node known.place).state

  lock_use : HasLock name ((w.world.node known.place).state.uses known.number)
  lock_use = has_lock name ((w.world.node known.place).state.uses known.number) (name_at config i)
      (subst (Fits ((w.world.node known.place).state.uses known.number) (name_at config i)) line_is
      (subst (λ (z : State). Fits (z.uses known.number) (name_at config i) line.line) (b.has.shows.node known.place known.here) line.fits))

  links : Linked (w.world.node known.place).state
  links = all_linked config es w l known.place

  abbrev m : Nodes
  m = live_nodes (nodes_at config known.place) (w.world.node known.place).state

  waits_so : (op : OpId) → waits m ((w.world.node known.place).state.stages op) (w.world.node known.place).state ≡ is_open ((w.world.node known.place).state.stages op)
  waits_so op = waits_for_retries config apart es w l quiet known.place known.here j_lives op

  asks_ready : (op : OpId) (u : Update) (lead : Node) (st : Node → Status) → name_of u ≡ name → (w.world.node known.place).state.uses known.number ≡ Locking op u lead st → OfReady config w name holder
  asks_ready op u lead st named used =
      let stage : (w.world.node known.place).state.stages op ≡ Asking known.number = subst (λ x. FitsUse known.number x s.stages s.uses) used (links.fitting.fits known.number) in
      record {
        node = known.place;
        here = known.here;
        lives = j_lives;
        number = known.number;
        is = known.is;
        op = op;
        ready = subst (λ z. waits m z s ≡ is_open z → is_ready m z s ≡ true) (sym stage) (λ h. h) (waits_so op);
        update = u;
        named = named;
        under = inl (lead, st, used);
      }

  goes_out : (n : ℕ) (used : Use) → (w.world.node known.place).state.uses n ≡ used → IsUnder name known.number used → OfReady config w name holder
  goes_out n (Updating op u lock replied) used_is under =
      let fits : FitsUse n (Updating op u lock replied) s.stages s.uses = subst (λ x. FitsUse n x s.stages s.uses) used_is (links.fitting.fits n) in
      let stage : (w.world.node known.place).state.stages op ≡ Changing n = fits.0 in
      record {
        node = known.place;
        here = known.here;
        lives = j_lives;
        number = known.number;
        is = known.is;
        op = op;
        ready = subst (λ z. waits m z s ≡ is_open z → is_ready m z s ≡ true) (sym stage) (λ h. h) (waits_so op);
        update = u;
        named = under.0;
        under = inr (n, replied, used_is ∙ ap (λ z. Updating op u z replied) under.1);
      }
  goes_out n Fresh used_is under = absurd under
  goes_out n Spent used_is under = absurd under
  goes_out n (Owning N k) used_is under = absurd under
  goes_out n (Locking op u lead st) used_is under = absurd under

  pub of_ready : OfReady config w name holder
  of_ready = go lock_use
    where
      go : HasLock name ((w.world.node known.place).state.uses known.number) → OfReady config w name holder
      go (AsksIt op u lead st named used) = asks_ready op u lead st named used
      go (OwnsIt n used) = goes_out n ((w.world.node known.place).state.uses n) refl (subst (λ x. HasUpdate known.number x s.uses) used (links.links.owned known.number))
