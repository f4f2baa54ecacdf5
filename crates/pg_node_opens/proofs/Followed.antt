-- Open commands go as the turns of a node do.
use Rattle.std.proofs.Common.{◌≡◌, ℕ, ◌<◌, ◌+◌, ◌-◌, zero, suc, Bool, true, false, ◌&&◌, ◌||◌}
use Rattle.std.proofs.Common.{◌==◌, cond, nat_eq, nat_lt, nat_le, get_or, length, replicate}
use Rattle.std.proofs.Common.{List, [], ◌∷◌, Some, None, refl, ap, sym, ◌∙◌, subst, arith}
use Rattle.std.specs.Prelude.{slice_set}
use Rattle.std.specs.List.{IsDistinct, list_any}
use Rattle.std.proofs.Math.Path.{fun_ext}
use Rattle.std.proofs.lemmas.Bool.{eqb-true, eq-eqb}
use Rattle.std.proofs.lemmas.Bool.Decides.{nat_tests}
use Rattle.pg_term.specs.Same.{same_atom}
use Rattle.pg_step.specs.PgGroup.declared.update.Update.{Update}
use Rattle.pg_step.specs.PgGroup.Value.{name_of}
use Rattle.pg_step.specs.PgGroup.Functions.{upd}
use Rattle.pg_step.specs.PgGroup.Table.{Table}
use Rattle.pg_step.specs.declared.command.OpId.{OpId}
use Rattle.pg_step.specs.Nodes.{Node, Nodes}
use Rattle.pg_step.specs.State.{State, Status, new_state}
use Rattle.pg_step.specs.State.Status.{Unasked}
use Rattle.pg_step.specs.State.Use.{Fresh, Locking, Owning, Updating, Spent}
use Rattle.pg_step.specs.State.Stage.{Closed, Waiting, Changing}
use Rattle.pg_step.specs.Peers.{would_grant}
use Rattle.pg_step.specs.Attempts.{same_op, new_attempt, ask, with_asked}
use Rattle.pg_step.specs.Attempts.{count_answer, give_up, begin, finish, own_verdict}
use Rattle.pg_node_opens.specs.declared.mark.Mark.{Mark}
use Rattle.pg_node_opens.specs.declared.mark.Mark.TheVariants as mark
use Rattle.pg_node_opens.specs.declared.mark.Asked.{Asked as Whom}
use Rattle.pg_node_opens.specs.Marks.{status_of, has_yes, verdict_mark, mark_at, first_mark}
use Rattle.pg_node_opens.specs.declared.command.Phase.{Phase}
use Rattle.pg_node_opens.specs.declared.command.Phase.TheVariants as phase
use Rattle.pg_node_opens.specs.declared.command.OpenCommand.{OpenCommand}
use Rattle.pg_node_opens.specs.Layers.{over, or_as, seek, others}
use Rattle.pg_node_opens.specs.Places.{name_at, lost_in, live_in, ArePlaces}
use Rattle.pg_node_opens.specs.Named.{statuses, replies, whom, has_place}
use Rattle.pg_node_opens.specs.Commands.{use_in, use_at, has_in, stage_in, stage_at}
use Rattle.pg_node_opens.specs.Commands.{unused, uses_in, stages_in, AreKnown, Turns}
use Rattle.pg_node_opens.specs.declared.command.Stage.TheVariants as seen
use Rattle.pg_node_opens.specs.Readings.{stage_seen, is_locking}
use Rattle.pg_node_opens.specs.Opens.{Says}
use Rattle.pg_node_opens.specs.TakenBack.{command_taken_back}
use Rattle.pg_node_opens.proofs.Layered.{set_length, others_length}
use Rattle.pg_node_opens.proofs.Named.{clash, reads_set, reads_all, by_places, reads_at, reads_nobody, atom_other}
use Rattle.pg_node_opens.proofs.Uses.{known_after, fits_started, fits_same, fits_given, fits_begun}
use Rattle.pg_node_opens.proofs.Uses.{was, stage_was, stage_new, stage_same, stage_ended, marked_lock}
use Rattle.pg_node_opens.proofs.Uses.{marked_update, started, begun, given, ended, use_taken_back}
use Rattle.pg_node_opens.proofs.Asking.{asked_statuses, own_at}
use Rattle.pg_node_opens.proofs.Found.{Stands, StandsFor, waiting_phase, locking_phase}

-- ---- words

both_same : {A : Type 0} (b : Bool) (a : A) → cond b a a ≡ a
both_same true a = refl
both_same false a = refl

pub op_is : (a b : OpId) → same_op a b ≡ true → a ≡ b
op_is a b e = λ i. record { port = eqb-true a.port b.port (first (nat_eq a.port b.port) (nat_eq a.number b.number) e) i; number = eqb-true a.number b.number (second (nat_eq a.port b.port) (nat_eq a.number b.number) e) i }
  where
    first : (b c : Bool) → (b && c) ≡ true → b ≡ true
    first true c e = refl
    first false c e = e

    second : (b c : Bool) → (b && c) ≡ true → c ≡ true
    second true c e = e
    second false c e = absurd (clash (sym e))

pub op_same : (a : OpId) → same_op a a ≡ true
op_same a = ap (λ b. b && nat_eq a.number a.number) (eq-eqb a.port a.port refl) ∙ eq-eqb a.number a.number refl

-- ---- a node as it is made

pub new_says : (names : List Node) (lost : List Bool) (n : ℕ) (table : Table) (made : ℕ) → lost ≡ replicate n false → Says names lost 0 [] (new_state table made)
new_says names lost n table made e = record {
  references = refl;
  uses = fun_ext (λ x. sym (ap (λ b. cond b Spent Fresh) (none x)));
  opened = refl;
  stages = refl;
  lost_peers = fun_ext (λ q. sym (ap (λ z. lost_in names z q) e ∙ no n names q));
}
  where
    none : (x : ℕ) → (nat_lt 0 x && nat_le x 0) ≡ false
    none x = grind (arith, nat_tests)

    no : (n : ℕ) (names : List Node) (q : Node) → lost_in names (replicate n false) q ≡ false
    no zero [] q = refl
    no zero (m ∷ names) q = refl
    no (suc n) [] q = refl
    no (suc n) (m ∷ names) q = ap (λ z. cond (same_atom m q) false z) (no n names q) ∙ both_same (same_atom m q) false

-- ---- what a command is, by what its reference is used for

pub record LocksAs (names : List Node) (o : OpenCommand) (x : ℕ) (op : OpId) (update : Update) (f : Node) (st : Node → Status) (first : ℕ) : Type 0 where
  pub phase : o.phase ≡ phase.Asking x first
  pub is_op : o.op ≡ op
  pub is_update : o.update ≡ update
  pub is_first : name_at names first ≡ f
  pub marks : statuses names o.marks ≡ st

pub record UpdatesAs (names : List Node) (o : OpenCommand) (x : ℕ) (op : OpId) (update : Update) (lock : ℕ) (replied : Node → Bool) : Type 0 where
  pub phase : o.phase ≡ phase.Changing lock x
  pub is_op : o.op ≡ op
  pub is_update : o.update ≡ update
  pub marks : replies names o.marks ≡ replied

module _ (names : List Node) (made : ℕ) (os : List OpenCommand) (k : ℕ) (o : OpenCommand) (known : AreKnown names made os) where
  pub locks_as : (x : ℕ) (op : OpId) (update : Update) (f : Node) (st : Node → Status) → Stands os k o x → uses_in names made os x ≡ Locking op update f st → (first : ℕ) × LocksAs names o x op update f st first
  locks_as x op update f st at e = go o.phase refl at.has (sym (was names made os k o known at.here x) ∙ e)
    where
      go : (ph : Phase) → o.phase ≡ ph → has_in ph x ≡ true → or_as (over (use_in names o.op o.update ph o.marks x) (seek (use_at names) (others os k) x)) (unused made x) ≡ Locking op update f st
          → (first : ℕ) × LocksAs names o x op update f st first
      go phase.Waiting p h e = absurd (clash (sym h))
      go (phase.Asking lock first) p h e = (first, let g = same (nat_eq lock x) h e in record { phase = p ∙ ap (λ z. phase.Asking z first) (eqb-true lock x h); is_op = g.0; is_update = g.1; is_first = g.2; marks = g.3 })
        where
          same : (b : Bool) → b ≡ true → or_as (over (cond b (Some (Locking o.op o.update (name_at names first) (statuses names o.marks))) None) (seek (use_at names) (others os k) x)) (unused made x) ≡ Locking op update f st
              → (o.op ≡ op) × (o.update ≡ update) × (name_at names first ≡ f) × (statuses names o.marks ≡ st)
          same true h e = (cc, cc, cc, cc)
          same false h e = absurd (clash (sym h))
      go (phase.Changing lock number) p h e = absurd (two (nat_eq number x) (nat_eq lock x) h e)
        where
          two : (b c : Bool) → (b || c) ≡ true → or_as (over (cond b (Some (Updating o.op o.update lock (replies names o.marks))) (cond c (Some (Owning (name_of o.update) number)) None)) (seek (use_at names) (others os k) x)) (unused made x) ≡ Locking op update f st → ⊥
          two true c h e = cc
          two false true h e = cc
          two false false h e = clash (sym h)

  pub updates_as : (x : ℕ) (op : OpId) (update : Update) (l : ℕ) (replied : Node → Bool) → Stands os k o x → uses_in names made os x ≡ Updating op update l replied → UpdatesAs names o x op update l replied
  updates_as x op update l replied at e = go o.phase refl at.has (sym (was names made os k o known at.here x) ∙ e)
    where
      go : (ph : Phase) → o.phase ≡ ph → has_in ph x ≡ true → or_as (over (use_in names o.op o.update ph o.marks x) (seek (use_at names) (others os k) x)) (unused made x) ≡ Updating op update l replied
          → UpdatesAs names o x op update l replied
      go phase.Waiting p h e = absurd (clash (sym h))
      go (phase.Asking lock first) p h e = absurd (one (nat_eq lock x) h e)
        where
          one : (b : Bool) → b ≡ true → or_as (over (cond b (Some (Locking o.op o.update (name_at names first) (statuses names o.marks))) None) (seek (use_at names) (others os k) x)) (unused made x) ≡ Updating op update l replied → ⊥
          one true h e = cc
          one false h e = clash (sym h)
      go (phase.Changing lock number) p h e = let g = same (nat_eq number x) (nat_eq lock x) refl h e in record { phase = p ∙ ap (λ z. phase.Changing z number) g.2 ∙ ap (phase.Changing l) (eqb-true number x g.4); is_op = g.0; is_update = g.1; marks = g.3 }
        where
          same : (b c : Bool) → nat_eq number x ≡ b → (b || c) ≡ true → or_as (over (cond b (Some (Updating o.op o.update lock (replies names o.marks))) (cond c (Some (Owning (name_of o.update) number)) None)) (seek (use_at names) (others os k) x)) (unused made x) ≡ Updating op update l replied
              → (o.op ≡ op) × (o.update ≡ update) × (lock ≡ l) × (replies names o.marks ≡ replied) × (nat_eq number x ≡ true)
          same true c n h e = (cc, cc, cc, cc, n)
          same false true n h e = absurd (cc)
          same false false n h e = absurd (clash (sym h))

  -- a command that waits
  pub waits_as : (op : OpId) (update : Update) → StandsFor os k o op → stages_in os op ≡ Waiting update → (o.phase ≡ phase.Waiting) × (o.update ≡ update)
  waits_as op update at e = go o.phase refl (one (same_op o.op op) at.is ∙ (sym (stage_was names made os k o known at.here op) ∙ e))
    where
      one : (b : Bool) → b ≡ true → stage_in o.update o.phase ≡ or_as (over (cond b (Some (stage_in o.update o.phase)) None) (seek stage_at (others os k) op)) Closed
      one true h = refl
      one false h = absurd (clash (sym h))

      go : (ph : Phase) → o.phase ≡ ph → stage_in o.update o.phase ≡ Waiting update → (o.phase ≡ phase.Waiting) × (o.update ≡ update)
      go ph p e = which ph p (ap (stage_in o.update) (sym p) ∙ e)
        where
          which : (ph : Phase) → o.phase ≡ ph → stage_in o.update ph ≡ Waiting update → (o.phase ≡ phase.Waiting) × (o.update ≡ update)
          which phase.Waiting p e = (p, cc)
          which (phase.Asking lock first) p e = absurd (cc)
          which (phase.Changing lock number) p e = absurd (cc)

-- ---- one command is changed

module _ (names : List Node) (lost : List Bool) (made : ℕ) (os : List OpenCommand) (k : ℕ) (o o' : OpenCommand) (apart : IsDistinct same_atom names) (places : ArePlaces names lost) (known : AreKnown names made os) where
  -- nobody but perhaps the own node has a mark
  first_marks : (own : Mark) → length o'.marks ≡ length names → ((place : ℕ) → place < length o.marks → get_or o'.marks place mark.Unasked ≡ first_mark own place) → length o.marks ≡ length names
      → (place : ℕ) → place < length names → get_or o'.marks place mark.Unasked ≡ first_mark own place
  first_marks own same' each same place l = each place (subst (λ z. place < z) (sym same) l)

  pub start_follows : (op : OpId) (first : ℕ) (update : Update) → StandsFor os k o op → stages_in os op ≡ Waiting update → Turns o o' (phase.Asking (made + 1) first) → first < length names
      → ((place : ℕ) → place < length o.marks → get_or o'.marks place mark.Unasked ≡ first_mark mark.Unasked place)
      → (s : State) → Says names lost made os s → Says names lost (made + 1) (slice_set os k o') (new_attempt (name_at names first) op update s).state
  start_follows op first update at waits t l each s h =
      let w = waits_as names made os k o known op update at waits in
      let is_op : op ≡ o.op = sym (op_is o.op op at.is) in
      let none : (λ (q : Node). Unasked) ≡ statuses names o'.marks = fun_ext (λ q. sym (reads_all status_of Unasked names o'.marks mark.Unasked q
      (λ j lj. ap status_of (each j (subst (λ z. j < z) t.marks lj) ∙ both_same (j == 0) mark.Unasked)))) in
      record {
        references = ap (λ n. n + 1) h.references;
        uses = (λ i. upd nat_eq (h.uses i) (h.references i + 1) (Locking (is_op i) (sym w.1 i) (name_at names first) (none i))) ∙ sym (started names made os k o known at.here o' first w.0 t l);
        opened = h.opened ∙ sym (set_length stage_at os k o');
        stages = (λ i. upd same_op (h.stages i) (is_op i) (stage_in o'.update (phase.Asking (h.references i + 1) first)))
            ∙ (ap (λ ph. upd same_op (stages_in os) o.op (stage_in o'.update ph)) (sym t.phase) ∙ sym (stage_new names made os k o known at.here o' t.op));
        lost_peers = h.lost_peers;
      }

  pub ask_follows : (x : ℕ) (who : Whom) (granted : Bool) (op : OpId) (update : Update) (f : Node) (st : Node → Status) → Stands os k o x → uses_in names made os x ≡ Locking op update f st → Turns o o' o.phase → has_place who (length names) ≡ true
      → ((place : ℕ) → place < length o.marks → get_or o'.marks place mark.Unasked ≡ mark_at (get_or o.marks place mark.Unasked) (get_or lost place false) who place granted)
      → (s : State) → Says names lost made os s → would_grant (live_in names lost) s (name_of update) ≡ granted
      → Says names lost made (slice_set os k o') (ask (live_in names lost) (whom names who) x op update f st s).state
  ask_follows x who granted op update f st at e t p each s h grants =
      let w = locks_as names made os k o known x op update f st at e in
      let same = known.marked k o at.here in
      let now = asked_statuses names lost apart places o.marks same o'.marks who granted (t.marks ∙ same) p each in
      record {
        references = h.references;
        uses = (λ i. upd nat_eq (h.uses i) x (Locking (sym w.1.is_op i) (sym w.1.is_update i) (sym w.1.is_first i) (with_asked (live_in names lost) (whom names who) (sym w.1.marks i) (grants i))))
            ∙ (ap (λ z. upd nat_eq (uses_in names made os) x (Locking o.op o.update (name_at names w.0) z)) (sym now) ∙ sym (marked_lock names made os k o known at.here o' x w.0 w.1.phase t));
        opened = h.opened ∙ sym (set_length stage_at os k o');
        stages = h.stages ∙ sym (stage_same names made os k o known at.here o' t.op (λ i. stage_in (t.update i) (t.phase i)));
        lost_peers = h.lost_peers;
      }

  verdict_same : (granted : Bool) → status_of (verdict_mark granted) ≡ own_verdict granted
  verdict_same true = refl
  verdict_same false = refl

  -- a mark of a request for the lock is set
  pub lock_mark_follows : (x place : ℕ) (mk : Mark) (op : OpId) (update : Update) (f : Node) (st : Node → Status) → Stands os k o x → uses_in names made os x ≡ Locking op update f st → Turns o o' o.phase → place < length names
      → o'.marks ≡ slice_set o.marks place mk
      → (s : State) → Says names lost made os s → Says names lost made (slice_set os k o') (count_answer x op update f st (name_at names place) (status_of mk) s).state
  unfolding upd
  lock_mark_follows x place mk op update f st at e t l is s h =
      let w = locks_as names made os k o known x op update f st at e in
      let now : statuses names o'.marks ≡ upd same_atom (statuses names o.marks) (name_at names place) (status_of mk) = fun_ext (λ q. ap (λ z. statuses names z q) is
      ∙ reads_set status_of Unasked names o.marks place mk q apart (known.marked k o at.here) l) in
      record {
        references = h.references;
        uses = (λ i. upd nat_eq (h.uses i) x (Locking (sym w.1.is_op i) (sym w.1.is_update i) (sym w.1.is_first i) (upd same_atom (sym w.1.marks i) (name_at names place) (status_of mk))))
            ∙ (ap (λ z. upd nat_eq (uses_in names made os) x (Locking o.op o.update (name_at names w.0) z)) (sym now) ∙ sym (marked_lock names made os k o known at.here o' x w.0 w.1.phase t));
        opened = h.opened ∙ sym (set_length stage_at os k o');
        stages = h.stages ∙ sym (stage_same names made os k o known at.here o' t.op (λ i. stage_in (t.update i) (t.phase i)));
        lost_peers = h.lost_peers;
      }

  pub count_answer_follows : (x place : ℕ) (granted : Bool) (op : OpId) (update : Update) (f : Node) (st : Node → Status) → Stands os k o x → uses_in names made os x ≡ Locking op update f st → Turns o o' o.phase → place < length names
      → o'.marks ≡ slice_set o.marks place (verdict_mark granted)
      → (s : State) → Says names lost made os s → Says names lost made (slice_set os k o') (count_answer x op update f st (name_at names place) (own_verdict granted) s).state
  count_answer_follows x place granted op update f st at e t l is s h =
      subst (λ (status : Status). Says names lost made (slice_set os k o') (count_answer x op update f st (name_at names place) status s).state) (verdict_same granted)
      (lock_mark_follows x place (verdict_mark granted) op update f st at e t l is s h)

  -- a mark of an update is set
  pub update_mark_follows : (x place : ℕ) (mk : Mark) (op : OpId) (update : Update) (lock : ℕ) (replied : Node → Bool) → Stands os k o x → uses_in names made os x ≡ Updating op update lock replied → Turns o o' o.phase → place < length names
      → o'.marks ≡ slice_set o.marks place mk
      → (s : State) → Says names lost made os s → Says names lost made (slice_set os k o') (record s { uses = upd nat_eq s.uses x (Updating op update lock (upd same_atom replied (name_at names place) (has_yes mk))) })
  unfolding upd
  update_mark_follows x place mk op update lock replied at e t l is s h =
      let w = updates_as names made os k o known x op update lock replied at e in
      let now : replies names o'.marks ≡ upd same_atom (replies names o.marks) (name_at names place) (has_yes mk) = fun_ext (λ q. ap (λ z. replies names z q) is
      ∙ reads_set has_yes false names o.marks place mk q apart (known.marked k o at.here) l) in
      record {
        references = h.references;
        uses = (λ i. upd nat_eq (h.uses i) x (Updating (sym w.is_op i) (sym w.is_update i) lock (upd same_atom (sym w.marks i) (name_at names place) (has_yes mk))))
            ∙ (ap (λ z. upd nat_eq (uses_in names made os) x (Updating o.op o.update lock z)) (sym now) ∙ sym (marked_update names made os k o known at.here o' lock x w.phase t));
        opened = h.opened ∙ sym (set_length stage_at os k o');
        stages = h.stages ∙ sym (stage_same names made os k o known at.here o' t.op (λ i. stage_in (t.update i) (t.phase i)));
        lost_peers = h.lost_peers;
      }

  pub give_up_follows : (m : Nodes) (x : ℕ) (op : OpId) (update : Update) (f : Node) (st : Node → Status) → Stands os k o x → uses_in names made os x ≡ Locking op update f st → Turns o o' phase.Waiting
      → (s : State) → Says names lost made os s → Says names lost made (slice_set os k o') (give_up m x op update st s).state
  give_up_follows m x op update f st at e t s h =
      let w = locks_as names made os k o known x op update f st at e in
      record {
        references = h.references;
        uses = (λ i. upd nat_eq (h.uses i) x Spent) ∙ sym (given names made os k o known at.here o' x w.0 w.1.phase t places.some);
        opened = h.opened ∙ sym (set_length stage_at os k o');
        stages = (λ i. upd same_op (h.stages i) (sym w.1.is_op i) (Waiting ((sym w.1.is_update ∙ sym t.update) i)))
            ∙ (ap (λ ph. upd same_op (stages_in os) o.op (stage_in o'.update ph)) (sym t.phase) ∙ sym (stage_new names made os k o known at.here o' t.op));
        lost_peers = h.lost_peers;
      }

  pub begin_follows : (m : Nodes) (x : ℕ) (op : OpId) (update : Update) (f : Node) (st : Node → Status) → Stands os k o x → uses_in names made os x ≡ Locking op update f st → Turns o o' (phase.Changing x (made + 1))
      → ((place : ℕ) → place < length o.marks → get_or o'.marks place mark.Unasked ≡ first_mark mark.Yes place) → m.own ≡ name_at names 0
      → (s : State) → Says names lost made os s → Says names lost (made + 1) (slice_set os k o') (begin m x op update s).state
  begin_follows m x op update f st at e t each own s h =
      let w = locks_as names made os k o known x op update f st at e in
      let same = known.marked k o at.here in
      let same' : length o'.marks ≡ length names = t.marks ∙ same in
      let now : same_atom (name_at names 0) ≡ replies names o'.marks = by_places names (same_atom (name_at names 0)) (replies names o'.marks)
      (λ j l. own_at names lost apart places j l ∙ sym (reads_at has_yes false names o'.marks j mark.Unasked apart same' l ∙ (ap has_yes (each j (subst (λ z. j < z) (sym same) l)) ∙ yes (j == 0))))
      (λ q n. not_own q n ∙ sym (reads_nobody has_yes false names o'.marks q n)) in
      record {
        references = ap (λ n. n + 1) h.references;
        uses = (λ i. upd nat_eq (upd nat_eq (h.uses i) x (Owning (name_of (sym w.1.is_update i)) (h.references i + 1))) (h.references i + 1) (Updating (sym w.1.is_op i) (sym w.1.is_update i) x (same_atom (own i))))
            ∙ (ap (λ z. upd nat_eq (upd nat_eq (uses_in names made os) x (Owning (name_of o.update) (made + 1))) (made + 1) (Updating o.op o.update x z)) now ∙ sym (begun names made os k o known at.here o' x w.0 w.1.phase t places.some));
        opened = h.opened ∙ sym (set_length stage_at os k o');
        stages = (λ i. upd same_op (h.stages i) (sym w.1.is_op i) (Changing (h.references i + 1)))
            ∙ (ap (λ ph. upd same_op (stages_in os) o.op (stage_in o'.update ph)) (sym t.phase) ∙ sym (stage_new names made os k o known at.here o' t.op));
        lost_peers = h.lost_peers;
      }
    where
      yes : (b : Bool) → has_yes (cond b mark.Yes mark.Unasked) ≡ b
      yes true = refl
      yes false = refl

      not_own : (q : Node) → list_any (same_atom q) names ≡ false → same_atom (name_at names 0) q ≡ false
      not_own q n = go names places.some n
        where
          first : (b c : Bool) → (b || c) ≡ false → b ≡ false
          first true c e = e
          first false c e = refl

          none_less : 0 < 0 → ⊥
          none_less l = omega arith

          go : (ns : List Node) → 0 < length ns → list_any (same_atom q) ns ≡ false → same_atom (name_at ns 0) q ≡ false
          go [] l n = absurd (none_less l)
          go (n ∷ ns) l e = atom_other q n (first (same_atom q n) (list_any (same_atom q) ns) e)

-- ---- what is known stays so

module _ (names : List Node) (made : ℕ) (os : List OpenCommand) (k : ℕ) (o o' : OpenCommand) (known : AreKnown names made os) where
  pub start_known : (op : OpId) (first : ℕ) → StandsFor os k o op → stage_seen (stages_in os op) ≡ seen.Waiting → Turns o o' (phase.Asking (made + 1) first) → first < length names → AreKnown names (made + 1) (slice_set os k o')
  start_known op first at e t l = known_after names made os k o known at.here (made + 1) o' (fits_started names made os k o known at.here o' first (waiting_phase names made os k o known op at e) t l)

  pub same_known : (x : ℕ) → Stands os k o x → Turns o o' o.phase → AreKnown names made (slice_set os k o')
  same_known x at t = known_after names made os k o known at.here made o' (fits_same names made os k o known at.here o' t)

  pub give_up_known : (x : ℕ) → Stands os k o x → Turns o o' phase.Waiting → 0 < length names → AreKnown names made (slice_set os k o')
  give_up_known x at t l = known_after names made os k o known at.here made o' (fits_given names made os k o known at.here o' t l)

  pub begin_known : (x : ℕ) → Stands os k o x → is_locking (uses_in names made os x) ≡ true → Turns o o' (phase.Changing x (made + 1)) → 0 < length names → AreKnown names (made + 1) (slice_set os k o')
  begin_known x at i t l = let p = locking_phase names made os k o known x at i in
      known_after names made os k o known at.here (made + 1) o' (fits_begun names made os k o known at.here o' x p.0 p.1 t l)

-- ---- a command ends

one_less : (a b : ℕ) → suc a ≡ b → b - 1 ≡ a
one_less a b e = omega arith

pub finish_follows : (names : List Node) (lost : List Bool) (made : ℕ) (os : List OpenCommand) (k : ℕ) (o : OpenCommand) → AreKnown names made os
    → (m : Nodes) (x : ℕ) (op : OpId) (update : Update) (lock : ℕ) (replied : Node → Bool) → Stands os k o x → uses_in names made os x ≡ Updating op update lock replied
    → (s : State) → Says names lost made os s → Says names lost made (others os k) (finish m x op update lock s).state
finish_follows names lost made os k o known m x op update lock replied at e s h =
    let w = updates_as names made os k o known x op update lock replied at e in
    record {
      references = h.references;
      uses = (λ i. upd nat_eq (upd nat_eq (h.uses i) lock Spent) x Spent) ∙ sym (ended names made os k o known at.here lock x w.phase);
      opened = ap (λ n. n - 1) h.opened ∙ one_less (length (others os k)) (length os) (others_length stage_at os k o at.here);
      stages = (λ i. upd same_op (h.stages i) (sym w.is_op i) Closed) ∙ sym (stage_ended names made os k o known at.here);
      lost_peers = h.lost_peers;
    }

-- ---- a command is taken back

pub take_back_follows : (names : List Node) (lost : List Bool) (made : ℕ) (os : List OpenCommand) (k : ℕ) (o : OpenCommand) → AreKnown names made os
    → (op : OpId) → StandsFor os k o op → stage_seen (stages_in os op) ≡ seen.Waiting
    → (s : State) → Says names lost made os s → Says names lost made (others os k) (command_taken_back op s).state
take_back_follows names lost made os k o known op at waits s h =
    let is_op : op ≡ o.op = sym (op_is o.op op at.is) in
    record {
      references = h.references;
      uses = h.uses ∙ sym (use_taken_back names made os k o known at.here (waiting_phase names made os k o known op at waits));
      opened = ap (λ n. n - 1) h.opened ∙ one_less (length (others os k)) (length os) (others_length stage_at os k o at.here);
      stages = (λ i. upd same_op (h.stages i) (is_op i) Closed) ∙ sym (stage_ended names made os k o known at.here);
      lost_peers = h.lost_peers;
    }
