-- What the links of a node have moved where one peer's change, and one stretch after another.
use Rattle.std.specs.Prelude.{true}
use Rattle.std.proofs.Common.{◌≡◌, ◌≢◌, ◌<◌, ◌∙◌, ◌⊎◌, ℕ, cond, get_or, take, drop, length, List, [], ◌∷◌}
use Rattle.std.proofs.Common.{◌++◌, refl, sym, ap, subst, inl, inr, append_assoc, append-nil, zero, suc}
use Rattle.std.specs.Prelude.{slice_set}
use Rattle.std.proofs.lemmas.Bool.{cases_eq, eq-eqb, ne_eqb}
use Rattle.std.proofs.lemmas.List.{get_or-set_same, get_or-set_other, get_or_default, take-append-drop}
use Rattle.std.proofs.lemmas.List.{length-set}
use Rattle.std.proofs.lemmas.Grind.{flat_map-append}
use Rattle.pg_node.specs.PgGroup.Functions.{upd}
use Rattle.pg_node.specs.PgNodeSends.Frames.{frames_to}
use Rattle.pg_node.specs.Links.{Link, at_link}
use Rattle.pg_node_run.specs.declared.linked.Peer.{Peer}
use Rattle.pg_node_run.specs.Acts.{Act, Saw, frames_sent, frames_taken, is_from, loss_of, losses_of}
use Rattle.pg_node_run.specs.Follows.{HasMoved, HaveMoved, WasClosed}

-- a link of a node where one changes
pub link_there : (k : ℕ) (change : Link → Link) (links : ℕ → Link) → at_link k change links k ≡ change (links k)
unfolding upd
link_there k change links = ap (λ b. cond b (change (links k)) (links k)) (eq-eqb k k refl)

pub link_else : (k j : ℕ) (change : Link → Link) (links : ℕ → Link) → j ≢ k → at_link k change links j ≡ links j
unfolding upd
link_else k j change links n = ap (λ b. cond b (change (links k)) (links j)) (ne_eqb k j (λ e. n (sym e)))

-- where what changes makes no mark and takes none away, all marks are as they were
pub marks_kept : (k : ℕ) (change : Link → Link) → ((link : Link) → (change link).damaged ≡ link.damaged) → (links : ℕ → Link) (place : ℕ)
    → (at_link k change links place).damaged ≡ (links place).damaged
marks_kept k change keeps links place = go (cases_eq place k)
  where
    go : (place ≡ k) ⊎ (place ≢ k) → (at_link k change links place).damaged ≡ (links place).damaged
    go (inl e) =
        subst (λ j. (at_link k change links j).damaged ≡ (links j).damaged) (sym e)
        (ap (λ (l : Link). l.damaged) (link_there k change links) ∙ keeps (links k))
    go (inr n) = ap (λ (l : Link). l.damaged) (link_else k place change links n)

-- two lists of which nothing is one list
pub nil_first : {A : Type 0} (xs ys : List A) → xs ++ ys ≡ [] → xs ≡ []
nil_first [] ys none = refl
nil_first (x ∷ xs) ys none = absurd (cc)

pub nil_second : {A : Type 0} (xs ys : List A) → xs ++ ys ≡ [] → ys ≡ []
nil_second [] ys none = none
nil_second (x ∷ xs) ys none = absurd (cc)

-- two stretches that saw no loss of the peer at a place are one
pub losses_join : (place : ℕ) (first second : List Act) → losses_of place (first ++ second) ≡ losses_of place first ++ losses_of place second
losses_join place first second = flat_map-append (λ (act : Act). loss_of place act.input) first second

pub none_first : (place : ℕ) (first second : List Act) → losses_of place (first ++ second) ≡ [] → losses_of place first ≡ []
none_first place first second none = nil_first (losses_of place first) (losses_of place second) (sym (losses_join place first second) ∙ none)

pub none_second : (place : ℕ) (first second : List Act) → losses_of place (first ++ second) ≡ [] → losses_of place second ≡ []
none_second place first second none = nil_second (losses_of place first) (losses_of place second) (sym (losses_join place first second) ∙ none)

-- what two stretches took, one behind the other
pub taken_join : (place : ℕ) (first second : List Act) → frames_taken place (first ++ second) ≡ frames_taken place first ++ frames_taken place second
taken_join place first second = flat_map-append (λ (act : Act). cond (is_from place act.input) act.came []) first second

-- two equations of lists, one behind the other
seam : (p b a f q c s : List ℕ) → p ++ b ≡ a ++ f → q ++ c ≡ b ++ s → (p ++ q) ++ c ≡ a ++ (f ++ s)
seam p b a f q c s one two = append_assoc p q c ∙ (ap (λ w. p ++ w) two ∙ (sym (append_assoc p b s) ∙ (ap (λ w. w ++ s) one ∙ append_assoc a f s)))

take_none : (n : ℕ) → ◌≡◌ {A = List ℕ} (take n []) []
take_none zero = refl
take_none (suc n) = refl

drop_none : (n : ℕ) → ◌≡◌ {A = List ℕ} (drop n []) []
drop_none zero = refl
drop_none (suc n) = refl

-- what two stretches sent, one behind the other
sent_join : (place : ℕ) (first second : List Act) → frames_sent place (first ++ second) ≡ frames_sent place first ++ frames_sent place second
sent_join place first second = flat_map-append (λ (act : Act). frames_to act.sends place) first second

-- an act saw the loss of the peer at a place, by which nothing waits any more, or it did not
abbrev pub Closes : ℕ → Act → Link → Type 0
Closes place act bytes2 = (losses_of place (act ∷ []) ≡ []) ⊎ (((last : ℕ) × (act.input ≡ Saw place last)) × (bytes2.outbox ≡ []))

module _ {L I : Type 0} (accepts : L → List ℕ → L → Type 0) (gives : I → List ℕ → I → Type 0) where
  -- nothing has moved
  pub unmoved : (link_rests : (a : L) → accepts a [] a) (inlet_rests : (a : I) → gives a [] a) (place : ℕ) (bytes bytes2 : Link) (peer : Peer L I)
      → bytes2.outbox ≡ bytes.outbox → bytes2.unread ≡ bytes.unread → (bytes.damaged ≡ true → bytes2.damaged ≡ true) → HasMoved accepts gives place [] bytes bytes2 peer peer
  unmoved link_rests inlet_rests place bytes bytes2 peer out came lasts = record {
    put = [];
    accepted = link_rests peer.link;
    sent = λ none. out ∙ sym (append-nil bytes.outbox);
    closed = inl refl;
    idle = λ e _. (refl, out ∙ e);
    given = [];
    gave = inlet_rests peer.inlet;
    taken = append-nil bytes.unread ∙ sym came;
    lasts = lasts;
    still = λ damaged. refl;
  }

  -- bytes went out
  pub put_moved : (inlet_rests : (a : I) → gives a [] a) (place n : ℕ) (bytes bytes2 : Link) (peer peer2 : Peer L I)
      → accepts peer.link (take n bytes.outbox) peer2.link → peer2.inlet ≡ peer.inlet → bytes2.outbox ≡ drop n bytes.outbox → bytes2.unread ≡ bytes.unread → (bytes.damaged ≡ true → bytes2.damaged ≡ true)
      → HasMoved accepts gives place [] bytes bytes2 peer peer2
  put_moved inlet_rests place n bytes bytes2 peer peer2 accepted same out came lasts = record {
    put = take n bytes.outbox;
    accepted = accepted;
    sent = λ none. ap (λ w. take n bytes.outbox ++ w) out ∙ (take-append-drop n bytes.outbox ∙ sym (append-nil bytes.outbox));
    closed = inl refl;
    idle = λ e _. (ap (take n) e ∙ take_none n, out ∙ (ap (drop n) e ∙ drop_none n));
    given = [];
    gave = subst (λ i. gives peer.inlet [] i) (sym same) (inlet_rests peer.inlet);
    taken = append-nil bytes.unread ∙ sym came;
    lasts = lasts;
    still = λ damaged. refl;
  }

  -- bytes came in
  pub pull_moved : (link_rests : (a : L) → accepts a [] a) (place : ℕ) (piece : List ℕ) (bytes bytes2 : Link) (peer peer2 : Peer L I)
      → gives peer.inlet piece peer2.inlet → peer2.link ≡ peer.link → bytes2.outbox ≡ bytes.outbox → bytes2.unread ≡ bytes.unread ++ piece → (bytes.damaged ≡ true → bytes2.damaged ≡ true)
      → HasMoved accepts gives place [] bytes bytes2 peer peer2
  pull_moved link_rests place piece bytes bytes2 peer peer2 gave same out came lasts = record {
    put = [];
    accepted = subst (λ l. accepts peer.link [] l) (sym same) (link_rests peer.link);
    sent = λ none. out ∙ sym (append-nil bytes.outbox);
    closed = inl refl;
    idle = λ e _. (refl, out ∙ e);
    given = piece;
    gave = gave;
    taken = sym came;
    lasts = lasts;
    still = λ damaged. refl;
  }

  -- an act took a frame, or none, and sent frames, unless it saw a loss
  pub act_moved : (link_rests : (a : L) → accepts a [] a) (inlet_rests : (a : I) → gives a [] a) (place : ℕ) (act : Act) (bytes bytes2 : Link) (peer : Peer L I)
      → (losses_of place (act ∷ []) ≡ [] → bytes2.outbox ≡ bytes.outbox ++ frames_sent place (act ∷ [])) → Closes place act bytes2 → bytes.unread ≡ frames_taken place (act ∷ []) ++ bytes2.unread
      → (bytes.damaged ≡ true → bytes2.damaged ≡ true) → (bytes.damaged ≡ true → frames_taken place (act ∷ []) ≡ []) → HasMoved accepts gives place (act ∷ []) bytes bytes2 peer peer
  act_moved link_rests inlet_rests place act bytes bytes2 peer out shut came lasts still = record {
    put = [];
    accepted = link_rests peer.link;
    sent = out;
    closed = by_it shut;
    idle = λ e f. (refl, waits e f shut);
    given = [];
    gave = inlet_rests peer.inlet;
    taken = append-nil bytes.unread ∙ came;
    lasts = lasts;
    still = still;
  }
    where
      by_it : Closes place act bytes2 → (losses_of place (act ∷ []) ≡ []) ⊎ WasClosed place (act ∷ []) bytes.outbox [] bytes2.outbox
      by_it (inl none) = inl none
      by_it (inr (saw, gone)) = inr (record {
        before = [];
        saw = act;
        after = [];
        cut = refl;
        last = saw.0;
        is = saw.1;
        first = [];
        later = [];
        parts = refl;
        dropped = bytes.outbox;
        sent = sym (append-nil bytes.outbox);
        silent = λ _. (refl, gone);
      })

      waits : bytes.outbox ≡ [] → frames_sent place (act ∷ []) ≡ [] → Closes place act bytes2 → bytes2.outbox ≡ []
      waits e f (inl none) = out none ∙ (ap (λ w. w ++ frames_sent place (act ∷ [])) e ∙ f)
      waits e f (inr (saw, gone)) = gone

  -- the links of the peer at one place change
  pub peer_set : (acts : List Act) (links links2 : ℕ → Link) (peers : List (Peer L I)) (k : ℕ) (peer peer2 : Peer L I) → k < length peers → peer ≡ get_or peers k peer
      → HasMoved accepts gives k acts (links k) (links2 k) peer peer2
      → ((place : ℕ) (other : Peer L I) → place ≢ k → HasMoved accepts gives place acts (links place) (links2 place) other other)
      → HaveMoved accepts gives acts links links2 peers (slice_set peers k peer2)
  peer_set acts links links2 peers k peer peer2 within is here others = record {
    len = length-set peers k peer2;
    each = λ place none low. go place none low (cases_eq place k);
  }
    where
      go : (place : ℕ) (none : Peer L I) → place < length peers → (place ≡ k) ⊎ (place ≢ k)
          → HasMoved accepts gives place acts (links place) (links2 place) (get_or peers place none) (get_or (slice_set peers k peer2) place none)
      go place none low (inl e) =
          let first : get_or peers k none ≡ peer = sym (is ∙ get_or_default peers k peer none within) in
          let last : get_or (slice_set peers k peer2) k none ≡ peer2 = get_or-set_same peers k peer2 none within in
          subst (λ j. HasMoved accepts gives j acts (links j) (links2 j) (get_or peers j none) (get_or (slice_set peers k peer2) j none)) (sym e)
          (subst (λ x. HasMoved accepts gives k acts (links k) (links2 k) x (get_or (slice_set peers k peer2) k none)) (sym first)
          (subst (λ y. HasMoved accepts gives k acts (links k) (links2 k) peer y) (sym last) here))
      go place none low (inr n) =
          subst (λ y. HasMoved accepts gives place acts (links place) (links2 place) (get_or peers place none) y) (sym (get_or-set_other peers k place peer2 none n))
          (others place (get_or peers place none) n)

  -- those of no peer change
  pub peers_kept : (acts : List Act) (links links2 : ℕ → Link) (peers : List (Peer L I))
      → ((place : ℕ) (other : Peer L I) → HasMoved accepts gives place acts (links place) (links2 place) other other)
      → HaveMoved accepts gives acts links links2 peers peers
  peers_kept acts links links2 peers each = record { len = refl; each = λ place none low. each place (get_or peers place none) }

  -- ---- one stretch after another

  pub moved_on : ((a b c : L) (xs ys : List ℕ) → accepts a xs b → accepts b ys c → accepts a (xs ++ ys) c)
      → ((a b c : I) (xs ys : List ℕ) → gives a xs b → gives b ys c → gives a (xs ++ ys) c)
      → (place : ℕ) (first second : List Act) (bytes bytes2 bytes3 : Link) (peer peer2 peer3 : Peer L I)
      → HasMoved accepts gives place first bytes bytes2 peer peer2 → HasMoved accepts gives place second bytes2 bytes3 peer2 peer3
      → HasMoved accepts gives place (first ++ second) bytes bytes3 peer peer3
  moved_on link_composes inlet_composes place first second bytes bytes2 bytes3 peer peer2 peer3 h k = record {
    put = h.put ++ k.put;
    accepted = link_composes peer.link peer2.link peer3.link h.put k.put h.accepted k.accepted;
    sent = λ none. seam h.put bytes2.outbox bytes.outbox (frames_sent place first) k.put bytes3.outbox (frames_sent place second)
        (h.sent (none_first place first second none)) (k.sent (none_second place first second none))
        ∙ ap (λ w. bytes.outbox ++ w) (sym (sent_join place first second));
    closed = either h.closed k.closed;
    idle = λ e f.
        let both = sym (sent_join place first second) ∙ f in
        let one = h.idle e (nil_first (frames_sent place first) (frames_sent place second) both) in
        let two = k.idle one.1 (nil_second (frames_sent place first) (frames_sent place second) both) in
        (ap (λ w. w ++ k.put) one.0 ∙ two.0, two.1);
    given = h.given ++ k.given;
    gave = inlet_composes peer.inlet peer2.inlet peer3.inlet h.given k.given h.gave k.gave;
    taken = sym (seam (frames_taken place first) bytes2.unread bytes.unread h.given (frames_taken place second) bytes3.unread k.given (sym h.taken) (sym k.taken))
        ∙ ap (λ w. w ++ bytes3.unread) (sym (taken_join place first second));
    lasts = λ damaged. k.lasts (h.lasts damaged);
    still = λ damaged. taken_join place first second ∙ (ap (λ w. w ++ frames_taken place second) (h.still damaged) ∙ k.still (h.lasts damaged));
  }
    where
      either : (losses_of place first ≡ []) ⊎ WasClosed place first bytes.outbox h.put bytes2.outbox → (losses_of place second ≡ []) ⊎ WasClosed place second bytes2.outbox k.put bytes3.outbox
          → (losses_of place (first ++ second) ≡ []) ⊎ WasClosed place (first ++ second) bytes.outbox (h.put ++ k.put) bytes3.outbox
      either (inl none) (inl none2) = inl (losses_join place first second ∙ (ap (λ w. w ++ losses_of place second) none ∙ none2))
      either (inl none) (inr shut) = inr (record {
        before = first ++ shut.before;
        saw = shut.saw;
        after = shut.after;
        cut = ap (λ w. first ++ w) shut.cut ∙ sym (append_assoc first shut.before (shut.saw ∷ shut.after));
        last = shut.last;
        is = shut.is;
        first = h.put ++ shut.first;
        later = shut.later;
        parts = ap (λ w. h.put ++ w) shut.parts ∙ sym (append_assoc h.put shut.first shut.later);
        dropped = shut.dropped;
        sent = seam h.put bytes2.outbox bytes.outbox (frames_sent place first) shut.first shut.dropped (frames_sent place shut.before) (h.sent none) shut.sent
            ∙ ap (λ w. bytes.outbox ++ w) (sym (sent_join place first shut.before));
        silent = shut.silent;
      })
      either (inr shut) any = inr (record {
        before = shut.before;
        saw = shut.saw;
        after = shut.after ++ second;
        cut = ap (λ w. w ++ second) shut.cut ∙ append_assoc shut.before (shut.saw ∷ shut.after) second;
        last = shut.last;
        is = shut.is;
        first = shut.first;
        later = shut.later ++ k.put;
        parts = ap (λ w. w ++ k.put) shut.parts ∙ append_assoc shut.first shut.later k.put;
        dropped = shut.dropped;
        sent = shut.sent;
        silent = λ f.
            let both = sym (sent_join place (shut.saw ∷ shut.after) second) ∙ f in
            let one = shut.silent (nil_first (frames_sent place (shut.saw ∷ shut.after)) (frames_sent place second) both) in
            let two = k.idle one.1 (nil_second (frames_sent place (shut.saw ∷ shut.after)) (frames_sent place second) both) in
            (ap (λ w. w ++ k.put) one.0 ∙ two.0, two.1);
      })

  pub have_moved_on : ((a b c : L) (xs ys : List ℕ) → accepts a xs b → accepts b ys c → accepts a (xs ++ ys) c)
      → ((a b c : I) (xs ys : List ℕ) → gives a xs b → gives b ys c → gives a (xs ++ ys) c)
      → (first second : List Act) (links links2 links3 : ℕ → Link) (peers peers2 peers3 : List (Peer L I))
      → HaveMoved accepts gives first links links2 peers peers2 → HaveMoved accepts gives second links2 links3 peers2 peers3
      → HaveMoved accepts gives (first ++ second) links links3 peers peers3
  have_moved_on link_composes inlet_composes first second links links2 links3 peers peers2 peers3 h k = record {
    len = k.len ∙ h.len;
    each = λ place none low. moved_on link_composes inlet_composes place first second (links place) (links2 place) (links3 place) (get_or peers place none) (get_or peers2 place none) (get_or peers3 place none)
        (h.each place none low) (k.each place none (subst (λ n. place < n) (sym h.len) low));
  }
