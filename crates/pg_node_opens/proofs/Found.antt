-- What is read of a command that was found, or of none.
use Rattle.std.proofs.Common.{◌≡◌, ℕ, ◌<◌, Bool, true, false, not, ◌&&◌, ◌||◌, ◌==◌, cond, nat_eq, get_or}
use Rattle.std.proofs.Common.{length, List, [], ◌∷◌, Option, Some, None, IfSome, refl, ap, sym, ◌∙◌, subst}
use Rattle.std.specs.Prelude.{slice_get}
use Rattle.std.specs.List.{IsDistinct, list_any}
use Rattle.std.proofs.lemmas.Option.{slice_get_read}
use Rattle.std.proofs.lemmas.Bool.{eqb-true}
use Rattle.pg_term.specs.Same.{same_atom}
use Rattle.pg_step.specs.PgGroup.declared.update.Update.{Update}
use Rattle.pg_step.specs.PgGroup.Value.{name_of}
use Rattle.pg_step.specs.PgLock.Attempts.{after_round, does_wait}
use Rattle.pg_step.specs.PgMulticall.Gathered.{what_of}
use Rattle.pg_step.specs.PgMulticall.declared.gather.Taken.TheVariants.{Counted, Stranger, Double}
use Rattle.pg_step.specs.PgMessageTypes.declared.message.Said.TheVariants.{Applied}
use Rattle.pg_step.specs.declared.command.OpId.{OpId}
use Rattle.pg_step.specs.Nodes.{Node, Nodes}
use Rattle.pg_step.specs.State.{State, Use, Stage}
use Rattle.pg_step.specs.State.Use.{Fresh, Locking, Owning, Updating, Spent}
use Rattle.pg_step.specs.State.Stage.{Closed, Waiting, Asking, Changing}
use Rattle.pg_step.specs.Attempts.{same_op, gathered, is_complete, waits, lock_entry, is_yes}
use Rattle.pg_step.specs.Attempts.{round_of, none_denied, none_missing, all_granted, with_asked}
use Rattle.pg_node_opens.specs.declared.mark.Mark.{Mark}
use Rattle.pg_node_opens.specs.declared.mark.Mark.TheVariants as mark
use Rattle.pg_node_opens.specs.declared.mark.Asked.TheVariants.{Nobody, All}
use Rattle.pg_node_opens.specs.declared.mark.Wanted.TheVariants.{Answered, NotDenied, Granted}
use Rattle.pg_node_opens.specs.Marks.{status_of, has_yes, lock_heard, all_marks}
use Rattle.pg_node_opens.specs.declared.command.Phase.{Phase}
use Rattle.pg_node_opens.specs.declared.command.Phase.TheVariants as phase
use Rattle.pg_node_opens.specs.declared.command.OpenCommand.{OpenCommand}
use Rattle.pg_node_opens.specs.declared.command.Gathering.TheVariants.{Nothing}
use Rattle.pg_node_opens.specs.Layers.{over, or_as, seek, answers, others}
use Rattle.pg_node_opens.specs.Places.{name_at, live_in, ArePlaces}
use Rattle.pg_node_opens.specs.Named.{statuses, replies}
use Rattle.pg_node_opens.specs.Commands.{use_in, use_at, has_in, stage_in, stage_at, is_made}
use Rattle.pg_node_opens.specs.Commands.{unused, uses_in, stages_in, first_in, AreKnown}
use Rattle.pg_node_opens.specs.declared.command.Stage.TheVariants as seen
use Rattle.pg_node_opens.specs.Readings.{is_closed, is_lock, is_update, is_updating, update_of, update_in}
use Rattle.pg_node_opens.specs.Readings.{waiting_of, waiting_in, waits_by, gathering_of, gathering_in}
use Rattle.pg_node_opens.specs.Readings.{stage_seen, stage_seen_in, heard_in, complete_in, is_locking}
use Rattle.pg_node_opens.specs.Outlooks.{outlook_of, outlook_by, outlook_in, round_in}
use Rattle.pg_node_opens.proofs.Layered.{quiet_is, quiet_both}
use Rattle.pg_node_opens.proofs.Named.{clash}
use Rattle.pg_node_opens.proofs.Rest.{waits_not}
use Rattle.pg_node_opens.proofs.Uses.{has_is, was, stage_was}
use Rattle.pg_node_opens.proofs.Asking.{status_at, reply_at, same_at, every_nobody, every_all, every_reply}

-- ---- nobody has it

none_sought : (names : List Node) (os : List OpenCommand) (x : ℕ) → list_any (λ o. has_in o.phase x) os ≡ false → answers (seek (use_at names) os x) ≡ false
none_sought names [] x e = refl
none_sought names (o ∷ os) x e = quiet_both (use_at names o x) (seek (use_at names) os x)
    (has_is names o.op o.update o.phase o.marks x ∙ first (has_in o.phase x) (list_any (λ o. has_in o.phase x) os) e)
    (none_sought names os x (second (has_in o.phase x) (list_any (λ o. has_in o.phase x) os) e))
  where
    first : (b c : Bool) → (b || c) ≡ false → b ≡ false
    first true c e = e
    first false c e = refl

    second : (b c : Bool) → (b || c) ≡ false → c ≡ false
    second true c e = absurd (clash e)
    second false c e = e

pub nobody_uses : (names : List Node) (made : ℕ) (os s : List OpenCommand) (x : ℕ) → s ≡ os → list_any (λ o. has_in o.phase x) s ≡ false → uses_in names made os x ≡ unused made x
nobody_uses names made os s x same e = ap (λ z. or_as z (unused made x)) (quiet_is (seek (use_at names) os x) (none_sought names os x (ap (list_any (λ o. has_in o.phase x)) (sym same) ∙ e)))

unused_no : {A : Type 0} (f : Use → A) (a : A) (made x : ℕ) → f Spent ≡ a → f Fresh ≡ a → f (unused made x) ≡ a
unused_no f a made x e g = go (is_made made x)
  where
    go : (b : Bool) → f (cond b Spent Fresh) ≡ a
    go true = e
    go false = g

pub nothing_of : {A : Type 0} (f : Use → A) (a : A) (names : List Node) (made : ℕ) (os s : List OpenCommand) (x : ℕ) → s ≡ os → list_any (λ o. has_in o.phase x) s ≡ false → f Spent ≡ a → f Fresh ≡ a → f (uses_in names made os x) ≡ a
nothing_of f a names made os s x same e g h = ap f (nobody_uses names made os s x same e) ∙ unused_no f a made x g h

pub closed_of : (os s : List OpenCommand) (op : OpId) → s ≡ os → list_any (λ o. same_op o.op op) s ≡ false → stages_in os op ≡ Closed
closed_of os s op same e = go os (ap (list_any (λ o. same_op o.op op)) (sym same) ∙ e)
  where
    one : (b : Bool) (o : OpenCommand) (os : List OpenCommand) → (b || list_any (λ o. same_op o.op op) os) ≡ false → (list_any (λ o. same_op o.op op) os ≡ false → stages_in os op ≡ Closed)
        → or_as (over (cond b (Some (stage_in o.update o.phase)) None) (seek stage_at os op)) Closed ≡ Closed
    one true o os e h = absurd (clash e)
    one false o os e h = h e

    go : (os : List OpenCommand) → list_any (λ o. same_op o.op op) os ≡ false → stages_in os op ≡ Closed
    go [] e = refl
    go (o ∷ os) e = one (same_op o.op op) o os e (go os)

-- ---- a command has it

pub record Stands (os : List OpenCommand) (k : ℕ) (o : OpenCommand) (x : ℕ) : Type 0 where
  pub here : slice_get os k ≡ Some o
  pub has : has_in o.phase x ≡ true

pub stands : (os s : List OpenCommand) (k : ℕ) (o : OpenCommand) (x : ℕ) → s ≡ os → k < length s → IfSome (slice_get s k) (λ o. has_in o.phase x ≡ true) → o ≡ get_or os k o → Stands os k o x
stands os s k o x same within h e =
    let here : slice_get os k ≡ Some o = slice_get_read os (length os) k o refl (subst {A = List OpenCommand} (λ z. k < length z) same within) e in
    record { here = here; has = subst {A = Option OpenCommand} (λ o. IfSome o (λ o. has_in o.phase x ≡ true)) (ap (λ z. slice_get z k) same ∙ here) h }

pub record StandsFor (os : List OpenCommand) (k : ℕ) (o : OpenCommand) (op : OpId) : Type 0 where
  pub here : slice_get os k ≡ Some o
  pub is : same_op o.op op ≡ true

pub stands_for : (os s : List OpenCommand) (k : ℕ) (o : OpenCommand) (op : OpId) → s ≡ os → k < length s → IfSome (slice_get s k) (λ o. same_op o.op op ≡ true) → o ≡ get_or os k o → StandsFor os k o op
stands_for os s k o op same within h e =
    let here : slice_get os k ≡ Some o = slice_get_read os (length os) k o refl (subst {A = List OpenCommand} (λ z. k < length z) same within) e in
    record { here = here; is = subst {A = Option OpenCommand} (λ o. IfSome o (λ o. same_op o.op op ≡ true)) (ap (λ z. slice_get z k) same ∙ here) h }

gathers : (names : List Node) (op : OpId) (u : Update) (ph : Phase) (marks : List Mark) (x : ℕ) (r : Option Use) (d : Use) → has_in ph x ≡ true → gathering_of (or_as (over (use_in names op u ph marks x) r) d) ≡ gathering_in op ph x
gathers names op u phase.Waiting marks x r d h = absurd (clash (sym h))
gathers names op u (phase.Asking lock first) marks x r d h = one (nat_eq lock x) h
  where
    one : (b : Bool) → b ≡ true → gathering_of (or_as (over (cond b (Some (Locking op u (name_at names first) (statuses names marks))) None) r) d) ≡ cond b (gathering_of (Locking op u (name_at names first) (statuses names marks))) Nothing
    one true h = refl
    one false h = absurd (clash (sym h))
gathers names op u (phase.Changing lock number) marks x r d h = two (nat_eq number x) (nat_eq lock x) h
  where
    two : (b c : Bool) → (b || c) ≡ true → gathering_of (or_as (over (cond b (Some (Updating op u lock (replies names marks))) (cond c (Some (Owning (name_of u) number)) None)) r) d) ≡ cond b (gathering_of (Updating op u lock (replies names marks))) Nothing
    two true c h = refl
    two false true h = refl
    two false false h = absurd (clash (sym h))

pub gathering_here : (names : List Node) (made : ℕ) (os : List OpenCommand) (k : ℕ) (o : OpenCommand) (x : ℕ) → AreKnown names made os → Stands os k o x → gathering_in o.op o.phase x ≡ gathering_of (uses_in names made os x)
gathering_here names made os k o x known at = sym (ap gathering_of (was names made os k o known at.here x) ∙ gathers names o.op o.update o.phase o.marks x _ _ at.has)

pub stage_seen_here : (names : List Node) (made : ℕ) (os : List OpenCommand) (k : ℕ) (o : OpenCommand) (op : OpId) → AreKnown names made os → StandsFor os k o op → stage_seen_in o.phase ≡ stage_seen (stages_in os op)
stage_seen_here names made os k o op known at = sym (ap stage_seen (stage_was names made os k o known at.here op) ∙ (one (same_op o.op op) (seek stage_at (others os k) op) at.is ∙ which o.phase))
  where
    one : (b : Bool) (r : Option Stage) → b ≡ true → stage_seen (or_as (over (cond b (Some (stage_in o.update o.phase)) None) r) Closed) ≡ stage_seen (stage_in o.update o.phase)
    one true r e = refl
    one false r e = absurd (clash (sym e))

    which : (ph : Phase) → stage_seen (stage_in o.update ph) ≡ stage_seen_in ph
    which phase.Waiting = refl
    which (phase.Asking lock first) = refl
    which (phase.Changing lock number) = refl

hears : (names : List Node) (op : OpId) (u : Update) (ph : Phase) (marks : List Mark) (x place : ℕ) (m : Mark) (r : Option Use) (d : Use) → has_in ph x ≡ true
    → statuses names marks (name_at names place) ≡ status_of m → replies names marks (name_at names place) ≡ has_yes m → same_atom (name_at names (first_in ph)) (name_at names place) ≡ (first_in ph == place)
    → what_of true (gathered (or_as (over (use_in names op u ph marks x) r) d) (name_at names place)) ≡ heard_in ph m place x
hears names op u phase.Waiting marks x place m r d h e f g = absurd (clash (sym h))
hears names op u (phase.Asking lock first) marks x place m r d h e f g = one (nat_eq lock x) h
  where
    one : (b : Bool) → b ≡ true → what_of true (gathered (or_as (over (cond b (Some (Locking op u (name_at names first) (statuses names marks))) None) r) d) (name_at names place)) ≡ cond b (lock_heard m (first == place)) Stranger
    one true h = ap (λ z. what_of true (lock_entry z (same_atom (name_at names first) (name_at names place)))) e ∙ ap (lock_heard m) g
    one false h = absurd (clash (sym h))
hears names op u (phase.Changing lock number) marks x place m r d h e f g = two (nat_eq number x) (nat_eq lock x) h
  where
    yes : (b : Bool) → what_of true (Some (cond b (Some Applied) None)) ≡ cond b Double Counted
    yes true = refl
    yes false = refl

    two : (b c : Bool) → (b || c) ≡ true → what_of true (gathered (or_as (over (cond b (Some (Updating op u lock (replies names marks))) (cond c (Some (Owning (name_of u) number)) None)) r) d) (name_at names place)) ≡ cond b (cond (has_yes m) Double Counted) Stranger
    two true c h = ap (λ b. what_of true (Some (cond b (Some Applied) None))) f ∙ yes (has_yes m)
    two false true h = refl
    two false false h = absurd (clash (sym h))

pub heard_here : (names : List Node) (lost : List Bool) (made : ℕ) (os : List OpenCommand) (k : ℕ) (o : OpenCommand) (x place : ℕ) → IsDistinct same_atom names → ArePlaces names lost → AreKnown names made os → Stands os k o x → place < length names
    → heard_in o.phase (get_or o.marks place mark.Unasked) place x ≡ what_of true (gathered (uses_in names made os x) (name_at names place))
heard_here names lost made os k o x place apart places known at l =
    sym (ap (λ z. what_of true (gathered z (name_at names place))) (was names made os k o known at.here x)
    ∙ hears names o.op o.update o.phase o.marks x place (get_or o.marks place mark.Unasked) _ _ at.has
    (status_at names lost apart places o.marks (known.marked k o at.here) place l)
    (reply_at names lost apart places o.marks (known.marked k o at.here) place l)
    (same_at names lost apart places (first_in o.phase) place (known.first k o at.here) l))

module _ (names : List Node) (lost : List Bool) (made : ℕ) (os : List OpenCommand) (k : ℕ) (o : OpenCommand) (apart : IsDistinct same_atom names) (places : ArePlaces names lost) (known : AreKnown names made os) (x : ℕ) (at : Stands os k o x) where
  completes : (op : OpId) (u : Update) (ph : Phase) (marks : List Mark) (r : Option Use) (d : Use) → has_in ph x ≡ true → length marks ≡ length names
      → is_complete (live_in names lost) (or_as (over (use_in names op u ph marks x) r) d) ≡ complete_in ph marks lost x
  completes op u phase.Waiting marks r d h same = absurd (clash (sym h))
  completes op u (phase.Asking lock first) marks r d h same = one (nat_eq lock x) h
    where
      one : (b : Bool) → b ≡ true → is_complete (live_in names lost) (or_as (over (cond b (Some (Locking op u (name_at names first) (statuses names marks))) None) r) d) ≡ (b && all_marks marks lost Answered Nobody false)
      one true h = every_nobody names lost apart places marks same Answered false
      one false h = absurd (clash (sym h))
  completes op u (phase.Changing lock number) marks r d h same = two (nat_eq number x) (nat_eq lock x) h
    where
      two : (b c : Bool) → (b || c) ≡ true → is_complete (live_in names lost) (or_as (over (cond b (Some (Updating op u lock (replies names marks))) (cond c (Some (Owning (name_of u) number)) None)) r) d) ≡ (b && all_marks marks lost Granted Nobody false)
      two true c h = every_reply names lost apart places marks same
      two false true h = refl
      two false false h = absurd (clash (sym h))

  pub complete_here : complete_in o.phase o.marks lost x ≡ is_complete (live_in names lost) (uses_in names made os x)
  complete_here = sym (ap (is_complete (live_in names lost)) (was names made os k o known at.here x) ∙ completes o.op o.update o.phase o.marks _ _ at.has (known.marked k o at.here))

  abbrev goes_on : List Mark → ℕ → Bool → Bool
  goes_on marks first granted = not (does_wait (after_round (round_in marks first) (all_marks marks lost NotDenied Nobody granted)))

  looks : (op : OpId) (u : Update) (ph : Phase) (marks : List Mark) (r : Option Use) (d : Use) (granted : Bool) → has_in ph x ≡ true → is_locking (or_as (over (use_in names op u ph marks x) r) d) ≡ true → length marks ≡ length names
      → outlook_of (live_in names lost) granted (or_as (over (use_in names op u ph marks x) r) d) ≡ outlook_in ph marks lost granted
  looks op u phase.Waiting marks r d granted h i same = absurd (clash (sym h))
  looks op u (phase.Asking lock first) marks r d granted h i same = one (nat_eq lock x) h
    where
      one : (b : Bool) → b ≡ true → outlook_of (live_in names lost) granted (or_as (over (cond b (Some (Locking op u (name_at names first) (statuses names marks))) None) r) d) ≡ outlook_in (phase.Asking lock first) marks lost granted
      one true h = ap (λ z. outlook_by z (not (does_wait (after_round (round_of (name_at names first) (statuses names marks)) (none_denied (live_in names lost) (statuses names marks)))))
          (all_granted (live_in names lost) (with_asked (live_in names lost) (λ q. true) (statuses names marks) granted)) (none_missing (live_in names lost) (with_asked (live_in names lost) (λ q. true) (statuses names marks) granted)))
          (every_nobody names lost apart places marks same Answered granted)
          ∙ (ap (λ z. outlook_by (all_marks marks lost Answered Nobody granted) z
          (all_granted (live_in names lost) (with_asked (live_in names lost) (λ q. true) (statuses names marks) granted)) (none_missing (live_in names lost) (with_asked (live_in names lost) (λ q. true) (statuses names marks) granted)))
          (waits_not (is_yes (statuses names marks (name_at names first))) (none_denied (live_in names lost) (statuses names marks)) ∙ (every_nobody names lost apart places marks same NotDenied granted
          ∙ sym (waits_not (has_yes (get_or marks first mark.Unasked)) (all_marks marks lost NotDenied Nobody granted))))
          ∙ (ap (λ z. outlook_by (all_marks marks lost Answered Nobody granted) (goes_on marks first granted) z (none_missing (live_in names lost) (with_asked (live_in names lost) (λ q. true) (statuses names marks) granted)))
          (every_all names lost apart places marks same Granted granted)
          ∙ ap (outlook_by (all_marks marks lost Answered Nobody granted) (goes_on marks first granted) (all_marks marks lost Granted All granted))
          (every_all names lost apart places marks same Answered granted)))
      one false h = absurd (clash (sym h))
  looks op u (phase.Changing lock number) marks r d granted h i same = absurd (two (nat_eq number x) (nat_eq lock x) h i)
    where
      two : (b c : Bool) → (b || c) ≡ true → is_locking (or_as (over (cond b (Some (Updating op u lock (replies names marks))) (cond c (Some (Owning (name_of u) number)) None)) r) d) ≡ true → ⊥
      two true c h i = clash (sym i)
      two false true h i = clash (sym i)
      two false false h i = clash (sym h)

  pub outlook_here : (granted : Bool) → is_locking (uses_in names made os x) ≡ true → outlook_in o.phase o.marks lost granted ≡ outlook_of (live_in names lost) granted (uses_in names made os x)
  outlook_here granted i = sym (ap (outlook_of (live_in names lost) granted) (was names made os k o known at.here x)
      ∙ looks o.op o.update o.phase o.marks _ _ granted at.has (ap is_locking (sym (was names made os k o known at.here x)) ∙ i) (known.marked k o at.here))

-- ---- what is asked of a command that is not there

pub no_locking : (names : List Node) (made : ℕ) (os s : List OpenCommand) (x : ℕ) → s ≡ os → list_any (λ o. has_in o.phase x) s ≡ false → is_locking (uses_in names made os x) ≡ true → ⊥
no_locking names made os s x same e h = clash (sym h ∙ nothing_of is_locking false names made os s x same e refl refl)

pub no_updating : (names : List Node) (made : ℕ) (os s : List OpenCommand) (x : ℕ) → s ≡ os → list_any (λ o. has_in o.phase x) s ≡ false → is_updating (uses_in names made os x) ≡ true → ⊥
no_updating names made os s x same e h = clash (sym h ∙ nothing_of is_updating false names made os s x same e refl refl)

pub no_waiting : (os s : List OpenCommand) (op : OpId) → s ≡ os → list_any (λ o. same_op o.op op) s ≡ false → stage_seen (stages_in os op) ≡ seen.Waiting → ⊥
no_waiting os s op same e h = let c : stage_seen Closed ≡ seen.Waiting = ap stage_seen (sym (closed_of os s op same e)) ∙ h in cc

-- ---- the phase of a command, by what is asked of it

module _ (names : List Node) (made : ℕ) (os : List OpenCommand) (k : ℕ) (o : OpenCommand) (known : AreKnown names made os) where
  pub waiting_phase : (op : OpId) → StandsFor os k o op → stage_seen (stages_in os op) ≡ seen.Waiting → o.phase ≡ phase.Waiting
  waiting_phase op at e = go o.phase refl (stage_seen_here names made os k o op known at ∙ e)
    where
      go : (ph : Phase) → o.phase ≡ ph → stage_seen_in o.phase ≡ seen.Waiting → o.phase ≡ phase.Waiting
      go phase.Waiting p h = p
      go (phase.Asking lock first) p h = absurd (let c : seen.Asking lock ≡ seen.Waiting = ap stage_seen_in (sym p) ∙ h in cc)
      go (phase.Changing lock number) p h = absurd (let c : seen.Changing number ≡ seen.Waiting = ap stage_seen_in (sym p) ∙ h in cc)

  pub locking_phase : (x : ℕ) → Stands os k o x → is_locking (uses_in names made os x) ≡ true → (first : ℕ) × (o.phase ≡ phase.Asking x first)
  locking_phase x at i = go o.phase refl at.has (ap is_locking (sym (was names made os k o known at.here x)) ∙ i)
    where
      go : (ph : Phase) → o.phase ≡ ph → has_in ph x ≡ true → is_locking (or_as (over (use_in names o.op o.update ph o.marks x) (seek (use_at names) (others os k) x)) (unused made x)) ≡ true → (first : ℕ) × (o.phase ≡ phase.Asking x first)
      go phase.Waiting p h i = absurd (clash (sym h))
      go (phase.Asking lock first) p h i = (first, p ∙ ap (λ z. phase.Asking z first) (eqb-true lock x h))
      go (phase.Changing lock number) p h i = absurd (two (nat_eq number x) (nat_eq lock x) h i)
        where
          two : (b c : Bool) → (b || c) ≡ true → is_locking (or_as (over (cond b (Some (Updating o.op o.update lock (replies names o.marks))) (cond c (Some (Owning (name_of o.update) number)) None)) (seek (use_at names) (others os k) x)) (unused made x)) ≡ true → ⊥
          two true c h i = clash (sym i)
          two false true h i = clash (sym i)
          two false false h i = clash (sym h)

-- ---- the update of a command

update_looks : (names : List Node) (op : OpId) (u : Update) (ph : Phase) (marks : List Mark) (x : ℕ) (r : Option Use) (d : Use) → has_in ph x ≡ true → update_of (or_as (over (use_in names op u ph marks x) r) d) ≡ update_in u ph x
update_looks names op u phase.Waiting marks x r d h = absurd (clash (sym h))
update_looks names op u (phase.Asking lock first) marks x r d h = one (nat_eq lock x) h
  where
    one : (b : Bool) → b ≡ true → update_of (or_as (over (cond b (Some (Locking op u (name_at names first) (statuses names marks))) None) r) d) ≡ cond b (Some u) None
    one true h = refl
    one false h = absurd (clash (sym h))
update_looks names op u (phase.Changing lock number) marks x r d h = two (nat_eq number x) (nat_eq lock x) h
  where
    two : (b c : Bool) → (b || c) ≡ true → update_of (or_as (over (cond b (Some (Updating op u lock (replies names marks))) (cond c (Some (Owning (name_of u) number)) None)) r) d) ≡ cond b (Some u) None
    two true c h = refl
    two false true h = refl
    two false false h = absurd (clash (sym h))

pub update_here : (names : List Node) (made : ℕ) (os : List OpenCommand) (k : ℕ) (o : OpenCommand) (x : ℕ) → AreKnown names made os → Stands os k o x → update_in o.update o.phase x ≡ update_of (uses_in names made os x)
update_here names made os k o x known at = sym (ap update_of (was names made os k o known at.here x) ∙ update_looks names o.op o.update o.phase o.marks x _ _ at.has)

pub waiting_here : (names : List Node) (made : ℕ) (os : List OpenCommand) (k : ℕ) (o : OpenCommand) (op : OpId) → AreKnown names made os → StandsFor os k o op → waiting_in o.update o.phase ≡ waiting_of (stages_in os op)
waiting_here names made os k o op known at = sym (ap waiting_of (stage_was names made os k o known at.here op) ∙ (one (same_op o.op op) (seek stage_at (others os k) op) at.is ∙ which o.phase))
  where
    one : (b : Bool) (r : Option Stage) → b ≡ true → waiting_of (or_as (over (cond b (Some (stage_in o.update o.phase)) None) r) Closed) ≡ waiting_of (stage_in o.update o.phase)
    one true r e = refl
    one false r e = absurd (clash (sym e))

    which : (ph : Phase) → waiting_of (stage_in o.update ph) ≡ waiting_in o.update ph
    which phase.Waiting = refl
    which (phase.Asking lock first) = refl
    which (phase.Changing lock number) = refl

-- whether a command waits, by how it stands
pub waits_so : (m : Nodes) (stage : Stage) (uses : ℕ → Use) (s : State) → s.uses ≡ uses → waits_by (stage_seen stage) (λ number. is_complete m (uses number)) ≡ waits m stage s
waits_so m Closed uses s e = refl
waits_so m (Waiting update) uses s e = refl
waits_so m (Asking lock) uses s e = λ i. is_complete m (sym e i lock)
waits_so m (Changing number) uses s e = λ i. is_complete m (sym e i number)

-- ---- what is gathered, by a test

pub lock_gathered : (used : Use) → is_lock (gathering_of used) ≡ is_locking used
lock_gathered Fresh = refl
lock_gathered (Locking op update first st) = refl
lock_gathered (Owning name number) = refl
lock_gathered (Updating op update lock replied) = refl
lock_gathered Spent = refl

pub update_gathered : (used : Use) → is_update (gathering_of used) ≡ is_updating used
update_gathered Fresh = refl
update_gathered (Locking op update first st) = refl
update_gathered (Owning name number) = refl
update_gathered (Updating op update lock replied) = refl
update_gathered Spent = refl

closed_stage : (stage : Stage) → is_closed (stage_seen stage) ≡ true → stage ≡ Closed
closed_stage Closed e = refl
closed_stage (Waiting update) e = absurd (clash (sym e))
closed_stage (Asking lock) e = absurd (clash (sym e))
closed_stage (Changing number) e = absurd (clash (sym e))

pub closed_by : (b : Bool) (stage : Stage) → b ≡ is_closed (stage_seen stage) → (b ≡ true → stage ≡ Closed) × (stage ≡ Closed → b ≡ true)
closed_by b stage e = (λ h. closed_stage stage (sym e ∙ h), λ h. e ∙ ap (λ z. is_closed (stage_seen z)) h)
