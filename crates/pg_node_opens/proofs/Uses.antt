-- What becomes of the uses of references and of the stages of commands as one command changes.
use Rattle.std.proofs.Common.{◌≡◌, ℕ, ◌<◌, ◌+◌, Bool, true, false, ◌&&◌, ◌||◌, cond, nat_eq, nat_lt, nat_le}
use Rattle.std.proofs.Common.{length, List, Option, Some, None, refl, ap, sym, ◌∙◌, subst, inl, inr, ◌⊎◌, arith}
use Rattle.std.specs.Prelude.{slice_get, slice_set}
use Rattle.std.proofs.Math.Path.{fun_ext}
use Rattle.std.proofs.lemmas.Bool.Decides.{nat_tests}
use Rattle.pg_step.specs.PgGroup.declared.update.Update.{Update}
use Rattle.pg_step.specs.PgGroup.Value.{name_of}
use Rattle.pg_step.specs.PgGroup.Functions.{upd}
use Rattle.pg_step.specs.declared.command.OpId.{OpId}
use Rattle.pg_step.specs.Nodes.{Node}
use Rattle.pg_step.specs.State.{Use, Stage}
use Rattle.pg_step.specs.State.Use.{Fresh, Locking, Owning, Updating, Spent}
use Rattle.pg_step.specs.State.Stage.{Closed}
use Rattle.pg_step.specs.Attempts.{same_op}
use Rattle.pg_node_opens.specs.declared.mark.Mark.{Mark}
use Rattle.pg_node_opens.specs.declared.command.Phase.{Phase}
use Rattle.pg_node_opens.specs.declared.command.Phase.TheVariants as phase
use Rattle.pg_node_opens.specs.declared.command.OpenCommand.{OpenCommand}
use Rattle.pg_node_opens.specs.Layers.{over, or_as, seek, answers, others}
use Rattle.pg_node_opens.specs.Places.{name_at}
use Rattle.pg_node_opens.specs.Named.{statuses, replies}
use Rattle.pg_node_opens.specs.Commands.{use_in, use_at, has_in, stage_in, stage_at, is_made}
use Rattle.pg_node_opens.specs.Commands.{unused, uses_in, stages_in, first_in, AreKnown, Turns}
use Rattle.pg_node_opens.proofs.Layered.{quiet_is, quiet_left, quiet_right, quiet_both, pull, pull_set, set_apart}
use Rattle.pg_node_opens.proofs.Layered.{alone, others_quiet, apart_of, alone_of, apart_others, set_each, others_each}
use Rattle.pg_node_opens.proofs.Named.{clash, split}

pub use_as : (names : List Node) (o o' : OpenCommand) (ph : Phase) (x : ℕ) → Turns o o' ph → use_at names o' x ≡ use_in names o.op o.update ph o'.marks x
use_as names o o' ph x t = ap (λ z. use_in names z o'.update o'.phase o'.marks x) t.op
    ∙ (ap (λ z. use_in names o.op z o'.phase o'.marks x) t.update
    ∙ ap (λ z. use_in names o.op o.update z o'.marks x) t.phase)

pub use_was : (names : List Node) (o : OpenCommand) (ph : Phase) (x : ℕ) → o.phase ≡ ph → use_at names o x ≡ use_in names o.op o.update ph o.marks x
use_was names o ph x e = ap (λ z. use_in names o.op o.update z o.marks x) e

-- whose reference it is does not depend on the marks
pub has_is : (names : List Node) (op : OpId) (update : Update) (ph : Phase) (marks : List Mark) (x : ℕ) → answers (use_in names op update ph marks x) ≡ has_in ph x
has_is names op update phase.Waiting marks x = refl
has_is names op update (phase.Asking lock first) marks x = one (nat_eq lock x)
  where
    one : (b : Bool) → answers (cond b (Some (Locking op update (name_at names first) (statuses names marks))) None) ≡ b
    one true = refl
    one false = refl
has_is names op update (phase.Changing lock number) marks x = two (nat_eq number x) (nat_eq lock x)
  where
    two : (b c : Bool) → answers (cond b (Some (Updating op update lock (replies names marks))) (cond c (Some (Owning (name_of update) number)) None)) ≡ (b || c)
    two true c = refl
    two false true = refl
    two false false = refl

-- what is to be known of the new form of a command
pub record Fits (names : List Node) (made made' : ℕ) (os : List OpenCommand) (k : ℕ) (o o' : OpenCommand) : Type 0 where
  pub op : o'.op ≡ o.op
  pub free : (x : ℕ) → answers (use_at names o' x) ≡ true → answers (seek (use_at names) (others os k) x) ≡ false
  pub grows : (x : ℕ) → is_made made' x ≡ false → is_made made x ≡ false
  pub own : (x : ℕ) → is_made made' x ≡ false → answers (use_at names o' x) ≡ false
  pub marks : length o'.marks ≡ length o.marks
  pub first : first_in o'.phase < length names

module _ (names : List Node) (made : ℕ) (os : List OpenCommand) (k : ℕ) (o : OpenCommand) (known : AreKnown names made os) (here : slice_get os k ≡ Some o) where
  -- what the other commands use a reference for
  abbrev pub rest : ℕ → Option Use
  rest x = seek (use_at names) (others os k) x

  pub was : (x : ℕ) → uses_in names made os x ≡ or_as (over (use_at names o x) (rest x)) (unused made x)
  was x = ap (λ z. or_as z (unused made x)) (pull (use_at names) os k o here (apart_of (use_at names) os known.uses_alone) x)

  sought : (x : ℕ) → answers (seek (use_at names) os x) ≡ answers (over (use_at names o x) (rest x))
  sought x = ap answers (pull (use_at names) os k o here (apart_of (use_at names) os known.uses_alone) x)

  -- a reference that was not made is nobody's
  pub unmade_own : (x : ℕ) → is_made made x ≡ false → answers (use_at names o x) ≡ false
  unmade_own x e = quiet_left (use_at names o x) (rest x) (sym (sought x) ∙ known.uses_made x e)

  pub unmade_rest : (x : ℕ) → is_made made x ≡ false → answers (rest x) ≡ false
  unmade_rest x e = quiet_right (use_at names o x) (rest x) (sym (sought x) ∙ known.uses_made x e)

  pub alone_rest : (x : ℕ) → answers (use_at names o x) ≡ true → answers (rest x) ≡ false
  alone_rest x e = alone (use_at names) os k o here (apart_of (use_at names) os known.uses_alone) x e

  -- a reference that it gives back is spent
  pub gone : (x : ℕ) → answers (use_at names o x) ≡ true → or_as (rest x) (unused made x) ≡ Spent
  gone x e = ap (λ z. or_as z (unused made x)) (quiet_is (rest x) (alone_rest x e)) ∙ go (split (is_made made x))
    where
      go : (is_made made x ≡ true) ⊎ (is_made made x ≡ false) → cond (is_made made x) Spent Fresh ≡ Spent
      go (inl f) = ap (λ b. cond b Spent Fresh) f
      go (inr f) = absurd (clash (sym e ∙ unmade_own x f))

  -- ---- the stages

  abbrev pub other_stages : OpId → Option Stage
  other_stages x = seek stage_at (others os k) x

  pub stage_was : (x : OpId) → stages_in os x ≡ or_as (over (stage_at o x) (other_stages x)) Closed
  stage_was x = ap (λ z. or_as z Closed) (pull stage_at os k o here (apart_of stage_at os known.stages_alone) x)

  pub stage_has : (p : OpenCommand) (x : OpId) → answers (stage_at p x) ≡ same_op p.op x
  stage_has p x = one (same_op p.op x)
    where
      one : (b : Bool) → answers (cond b (Some (stage_in p.update p.phase)) None) ≡ b
      one true = refl
      one false = refl

  stage_free : (o' : OpenCommand) → o'.op ≡ o.op → (x : OpId) → answers (stage_at o' x) ≡ true → answers (other_stages x) ≡ false
  stage_free o' e x h = alone stage_at os k o here (apart_of stage_at os known.stages_alone) x (stage_has o x ∙ (ap (λ z. same_op z x) (sym e) ∙ (sym (stage_has o' x) ∙ h)))

  pub stage_new : (o' : OpenCommand) → o'.op ≡ o.op → stages_in (slice_set os k o') ≡ upd same_op (stages_in os) o.op (stage_in o'.update o'.phase)
  unfolding upd
  stage_new o' e = fun_ext (λ x. ap (λ z. or_as z Closed) (pull_set stage_at os k o o' here (apart_of stage_at os known.stages_alone) (stage_free o' e) x)
      ∙ (ap (λ z. or_as (over (cond (same_op z x) (Some (stage_in o'.update o'.phase)) None) (other_stages x)) Closed) e
      ∙ (one (same_op o.op x) (other_stages x) ∙ ap (cond (same_op o.op x) (stage_in o'.update o'.phase)) (sym (stage_was x)))))
    where
      one : (b : Bool) (r : Option Stage) → or_as (over (cond b (Some (stage_in o'.update o'.phase)) None) r) Closed ≡ cond b (stage_in o'.update o'.phase) (or_as (over (cond b (Some (stage_in o.update o.phase)) None) r) Closed)
      one true r = refl
      one false r = refl

  -- a command that stays in its stage
  pub stage_same : (o' : OpenCommand) → o'.op ≡ o.op → stage_in o'.update o'.phase ≡ stage_in o.update o.phase → stages_in (slice_set os k o') ≡ stages_in os
  stage_same o' e same = fun_ext (λ x. ap (λ z. or_as z Closed) (pull_set stage_at os k o o' here (apart_of stage_at os known.stages_alone) (stage_free o' e) x)
      ∙ (ap (λ z. or_as (over (cond (same_op z x) (Some (stage_in o'.update o'.phase)) None) (other_stages x)) Closed) e
      ∙ (ap (λ z. or_as (over (cond (same_op o.op x) (Some z) None) (other_stages x)) Closed) same ∙ sym (stage_was x))))

  pub stage_here : stages_in os o.op ≡ or_as (over (stage_at o o.op) (other_stages o.op)) Closed
  stage_here = stage_was o.op

  -- ---- the new form

  pub known_after : (made' : ℕ) (o' : OpenCommand) → Fits names made made' os k o o' → AreKnown names made' (slice_set os k o')
  known_after made' o' f = record {
    uses_alone = alone_of (use_at names) (slice_set os k o') (set_apart (use_at names) os k o' (apart_of (use_at names) os known.uses_alone) f.free);
    stages_alone = alone_of stage_at (slice_set os k o') (set_apart stage_at os k o' (apart_of stage_at os known.stages_alone) (stage_free o' f.op));
    uses_made = λ x e. ap answers (pull_set (use_at names) os k o o' here (apart_of (use_at names) os known.uses_alone) f.free x)
        ∙ quiet_both (use_at names o' x) (rest x) (f.own x e) (unmade_rest x (f.grows x e));
    marked = set_each stage_at (λ p. length p.marks ≡ length names) os k o' known.marked (f.marks ∙ known.marked k o here);
    first = set_each stage_at (λ p. first_in p.phase < length names) os k o' known.first f.first;
  }

  is : (made' : ℕ) (o' : OpenCommand) → Fits names made made' os k o o' → (x : ℕ) → uses_in names made' (slice_set os k o') x ≡ or_as (over (use_at names o' x) (rest x)) (unused made' x)
  is made' o' f x = ap (λ z. or_as z (unused made' x)) (pull_set (use_at names) os k o o' here (apart_of (use_at names) os known.uses_alone) f.free x)

  -- ---- it is known by other marks

  pub fits_same : (o' : OpenCommand) → Turns o o' o.phase → Fits names made made os k o o'
  fits_same o' t = record {
    op = t.op;
    free = λ x e. alone_rest x (same x ∙ e);
    grows = λ x e. e;
    own = λ x e. sym (same x) ∙ unmade_own x e;
    marks = t.marks;
    first = subst (λ ph. first_in ph < length names) (sym t.phase) (known.first k o here);
  }
    where
      same : (x : ℕ) → answers (use_at names o x) ≡ answers (use_at names o' x)
      same x = has_is names o.op o.update o.phase o.marks x ∙ (sym (has_is names o.op o.update o.phase o'.marks x) ∙ ap answers (sym (use_as names o o' o.phase x t)))

  pub marked_lock : (o' : OpenCommand) (lock first : ℕ) → o.phase ≡ phase.Asking lock first → Turns o o' o.phase
      → uses_in names made (slice_set os k o') ≡ upd nat_eq (uses_in names made os) lock (Locking o.op o.update (name_at names first) (statuses names o'.marks))
  unfolding upd
  marked_lock o' lock first e t = fun_ext (λ x. is made o' (fits_same o' t) x
      ∙ (ap (λ z. or_as (over z (rest x)) (unused made x)) (use_as names o o' o.phase x t ∙ ap (λ ph. use_in names o.op o.update ph o'.marks x) e)
      ∙ (one (nat_eq lock x) (rest x) (unused made x)
      ∙ ap (cond (nat_eq lock x) (Locking o.op o.update (name_at names first) (statuses names o'.marks)))
      (sym (was x ∙ ap (λ z. or_as (over z (rest x)) (unused made x)) (use_was names o (phase.Asking lock first) x e))))))
    where
      one : (b : Bool) (r : Option Use) (d : Use) → or_as (over (cond b (Some (Locking o.op o.update (name_at names first) (statuses names o'.marks))) None) r) d
          ≡ cond b (Locking o.op o.update (name_at names first) (statuses names o'.marks)) (or_as (over (cond b (Some (Locking o.op o.update (name_at names first) (statuses names o.marks))) None) r) d)
      one true r d = refl
      one false r d = refl

  pub marked_update : (o' : OpenCommand) (lock number : ℕ) → o.phase ≡ phase.Changing lock number → Turns o o' o.phase
      → uses_in names made (slice_set os k o') ≡ upd nat_eq (uses_in names made os) number (Updating o.op o.update lock (replies names o'.marks))
  unfolding upd
  marked_update o' lock number e t = fun_ext (λ x. is made o' (fits_same o' t) x
      ∙ (ap (λ z. or_as (over z (rest x)) (unused made x)) (use_as names o o' o.phase x t ∙ ap (λ ph. use_in names o.op o.update ph o'.marks x) e)
      ∙ (one (nat_eq number x) (cond (nat_eq lock x) (Some (Owning (name_of o.update) number)) None) (rest x) (unused made x)
      ∙ ap (cond (nat_eq number x) (Updating o.op o.update lock (replies names o'.marks)))
      (sym (was x ∙ ap (λ z. or_as (over z (rest x)) (unused made x)) (use_was names o (phase.Changing lock number) x e))))))
    where
      one : (b : Bool) (own r : Option Use) (d : Use) → or_as (over (cond b (Some (Updating o.op o.update lock (replies names o'.marks))) own) r) d
          ≡ cond b (Updating o.op o.update lock (replies names o'.marks)) (or_as (over (cond b (Some (Updating o.op o.update lock (replies names o.marks))) own) r) d)
      one true own r d = refl
      one false own r d = refl

  -- ---- a new attempt

  pub more_made : (x : ℕ) → is_made (made + 1) x ≡ false → is_made made x ≡ false
  more_made x e = more made x e
    where
      more : (made x : ℕ) → (nat_lt 0 x && nat_le x (made + 1)) ≡ false → (nat_lt 0 x && nat_le x made) ≡ false
      more made x e = grind (arith, nat_tests)

  -- the next number
  pub is_next : (x : ℕ) → nat_eq (made + 1) x ≡ true → is_made made x ≡ false
  is_next x e = next made x e
    where
      next : (made x : ℕ) → nat_eq (made + 1) x ≡ true → (nat_lt 0 x && nat_le x made) ≡ false
      next made x e = grind (arith, nat_tests)

  pub not_next : (x : ℕ) → is_made (made + 1) x ≡ false → nat_eq (made + 1) x ≡ false
  not_next x e = next made x e
    where
      next : (made x : ℕ) → (nat_lt 0 x && nat_le x (made + 1)) ≡ false → nat_eq (made + 1) x ≡ false
      next made x e = grind (arith, nat_tests)

  pub unused_more : (x : ℕ) → nat_eq (made + 1) x ≡ false → unused (made + 1) x ≡ unused made x
  unused_more x e = ap (λ b. cond b Spent Fresh) (same made x e)
    where
      same : (made x : ℕ) → nat_eq (made + 1) x ≡ false → (nat_lt 0 x && nat_le x (made + 1)) ≡ (nat_lt 0 x && nat_le x made)
      same made x e = grind (arith, nat_tests)

  pub fits_started : (o' : OpenCommand) (first : ℕ) → o.phase ≡ phase.Waiting → Turns o o' (phase.Asking (made + 1) first) → first < length names → Fits names made (made + 1) os k o o'
  fits_started o' first e t l = record {
    op = t.op;
    free = λ x h. unmade_rest x (is_next x (sym (has x) ∙ h));
    grows = more_made;
    own = λ x h. has x ∙ not_next x h;
    marks = t.marks;
    first = subst (λ ph. first_in ph < length names) (sym t.phase) l;
  }
    where
      has : (x : ℕ) → answers (use_at names o' x) ≡ nat_eq (made + 1) x
      has x = ap answers (use_as names o o' (phase.Asking (made + 1) first) x t) ∙ has_is names o.op o.update (phase.Asking (made + 1) first) o'.marks x

  pub started : (o' : OpenCommand) (first : ℕ) → o.phase ≡ phase.Waiting → Turns o o' (phase.Asking (made + 1) first) → first < length names
      → uses_in names (made + 1) (slice_set os k o') ≡ upd nat_eq (uses_in names made os) (made + 1) (Locking o.op o.update (name_at names first) (statuses names o'.marks))
  unfolding upd
  started o' first e t l = fun_ext (λ x. is (made + 1) o' (fits_started o' first e t l) x
      ∙ (ap (λ z. or_as (over z (rest x)) (unused (made + 1) x)) (use_as names o o' (phase.Asking (made + 1) first) x t)
      ∙ (one (nat_eq (made + 1) x) (rest x) (unused (made + 1) x) (unused made x) (unused_more x)
      ∙ ap (cond (nat_eq (made + 1) x) (Locking o.op o.update (name_at names first) (statuses names o'.marks)))
      (sym (was x ∙ ap (λ z. or_as (over z (rest x)) (unused made x)) (use_was names o phase.Waiting x e))))))
    where
      one : (b : Bool) (r : Option Use) (d d' : Use) → (b ≡ false → d ≡ d') → or_as (over (cond b (Some (Locking o.op o.update (name_at names first) (statuses names o'.marks))) None) r) d
          ≡ cond b (Locking o.op o.update (name_at names first) (statuses names o'.marks)) (or_as (over None r) d')
      one true r d d' h = refl
      one false r d d' h = ap (or_as r) (h refl)

  -- ---- the update begins

  pub fits_begun : (o' : OpenCommand) (lock first : ℕ) → o.phase ≡ phase.Asking lock first → Turns o o' (phase.Changing lock (made + 1)) → 0 < length names → Fits names made (made + 1) os k o o'
  fits_begun o' lock first e t l = record {
    op = t.op;
    free = λ x h. free x (nat_eq (made + 1) x) refl (sym (has x) ∙ h);
    grows = more_made;
    own = λ x h. has x ∙ (ap (λ b. b || nat_eq lock x) (not_next x h) ∙ (sym (had x) ∙ unmade_own x (more_made x h)));
    marks = t.marks;
    first = subst (λ ph. first_in ph < length names) (sym t.phase) l;
  }
    where
      has : (x : ℕ) → answers (use_at names o' x) ≡ (nat_eq (made + 1) x || nat_eq lock x)
      has x = ap answers (use_as names o o' (phase.Changing lock (made + 1)) x t) ∙ has_is names o.op o.update (phase.Changing lock (made + 1)) o'.marks x

      had : (x : ℕ) → answers (use_at names o x) ≡ nat_eq lock x
      had x = ap answers (use_was names o (phase.Asking lock first) x e) ∙ has_is names o.op o.update (phase.Asking lock first) o.marks x

      free : (x : ℕ) (b : Bool) → nat_eq (made + 1) x ≡ b → (nat_eq (made + 1) x || nat_eq lock x) ≡ true → answers (rest x) ≡ false
      free x true f h = unmade_rest x (is_next x f)
      free x false f h = alone_rest x (had x ∙ (sym (ap (λ b. b || nat_eq lock x) f) ∙ h))

  pub begun : (o' : OpenCommand) (lock first : ℕ) → o.phase ≡ phase.Asking lock first → Turns o o' (phase.Changing lock (made + 1)) → 0 < length names
      → uses_in names (made + 1) (slice_set os k o')
      ≡ upd nat_eq (upd nat_eq (uses_in names made os) lock (Owning (name_of o.update) (made + 1))) (made + 1) (Updating o.op o.update lock (replies names o'.marks))
  unfolding upd
  begun o' lock first e t l = fun_ext (λ x. is (made + 1) o' (fits_begun o' lock first e t l) x
      ∙ (ap (λ z. or_as (over z (rest x)) (unused (made + 1) x)) (use_as names o o' (phase.Changing lock (made + 1)) x t)
      ∙ (one (nat_eq (made + 1) x) (nat_eq lock x) (rest x) (unused (made + 1) x) (unused made x) (unused_more x)
      ∙ ap (λ z. cond (nat_eq (made + 1) x) (Updating o.op o.update lock (replies names o'.marks)) (cond (nat_eq lock x) (Owning (name_of o.update) (made + 1)) z))
      (sym (was x ∙ ap (λ z. or_as (over z (rest x)) (unused made x)) (use_was names o (phase.Asking lock first) x e))))))
    where
      one : (b c : Bool) (r : Option Use) (d d' : Use) → (b ≡ false → d ≡ d')
          → or_as (over (cond b (Some (Updating o.op o.update lock (replies names o'.marks))) (cond c (Some (Owning (name_of o.update) (made + 1))) None)) r) d
          ≡ cond b (Updating o.op o.update lock (replies names o'.marks)) (cond c (Owning (name_of o.update) (made + 1))
          (or_as (over (cond c (Some (Locking o.op o.update (name_at names first) (statuses names o.marks))) None) r) d'))
      one true c r d d' h = refl
      one false true r d d' h = refl
      one false false r d d' h = ap (or_as r) (h refl)

  -- ---- the attempt is given up

  pub fits_given : (o' : OpenCommand) → Turns o o' phase.Waiting → 0 < length names → Fits names made made os k o o'
  fits_given o' t l = record {
    op = t.op;
    free = λ x h. absurd (clash (sym h ∙ has x));
    grows = λ x h. h;
    own = λ x h. has x;
    marks = t.marks;
    first = subst (λ ph. first_in ph < length names) (sym t.phase) l;
  }
    where
      has : (x : ℕ) → answers (use_at names o' x) ≡ false
      has x = ap answers (use_as names o o' phase.Waiting x t)

  pub given : (o' : OpenCommand) (lock first : ℕ) → o.phase ≡ phase.Asking lock first → Turns o o' phase.Waiting → 0 < length names
      → uses_in names made (slice_set os k o') ≡ upd nat_eq (uses_in names made os) lock Spent
  unfolding upd
  given o' lock first e t l = fun_ext (λ x. is made o' (fits_given o' t l) x
      ∙ (ap (λ z. or_as (over z (rest x)) (unused made x)) (use_as names o o' phase.Waiting x t)
      ∙ (one (nat_eq lock x) (rest x) (unused made x) (λ h. gone x (had x ∙ h))
      ∙ ap (cond (nat_eq lock x) Spent) (sym (was x ∙ ap (λ z. or_as (over z (rest x)) (unused made x)) (use_was names o (phase.Asking lock first) x e))))))
    where
      had : (x : ℕ) → answers (use_at names o x) ≡ nat_eq lock x
      had x = ap answers (use_was names o (phase.Asking lock first) x e) ∙ has_is names o.op o.update (phase.Asking lock first) o.marks x

      one : (b : Bool) (r : Option Use) (d : Use) → (b ≡ true → or_as r d ≡ Spent)
          → or_as r d ≡ cond b Spent (or_as (over (cond b (Some (Locking o.op o.update (name_at names first) (statuses names o.marks))) None) r) d)
      one true r d h = h refl
      one false r d h = refl

  -- ---- the command ends

  pub ended : (lock number : ℕ) → o.phase ≡ phase.Changing lock number
      → uses_in names made (others os k) ≡ upd nat_eq (upd nat_eq (uses_in names made os) lock Spent) number Spent
  unfolding upd
  ended lock number e = fun_ext (λ x. one (nat_eq number x) (nat_eq lock x) (rest x) (unused made x) (λ h. gone x (had x ∙ h))
      ∙ ap (λ z. cond (nat_eq number x) Spent (cond (nat_eq lock x) Spent z)) (sym (was x ∙ ap (λ z. or_as (over z (rest x)) (unused made x)) (use_was names o (phase.Changing lock number) x e))))
    where
      had : (x : ℕ) → answers (use_at names o x) ≡ (nat_eq number x || nat_eq lock x)
      had x = ap answers (use_was names o (phase.Changing lock number) x e) ∙ has_is names o.op o.update (phase.Changing lock number) o.marks x

      one : (b c : Bool) (r : Option Use) (d : Use) → ((b || c) ≡ true → or_as r d ≡ Spent)
          → or_as r d ≡ cond b Spent (cond c Spent (or_as (over (cond b (Some (Updating o.op o.update lock (replies names o.marks))) (cond c (Some (Owning (name_of o.update) number)) None)) r) d))
      one true c r d h = h refl
      one false true r d h = h refl
      one false false r d h = refl

  pub stage_ended : stages_in (others os k) ≡ upd same_op (stages_in os) o.op Closed
  unfolding upd
  stage_ended = fun_ext (λ x. one (same_op o.op x) (other_stages x) (λ h. alone stage_at os k o here (apart_of stage_at os known.stages_alone) x (stage_has o x ∙ h))
      ∙ ap (cond (same_op o.op x) Closed) (sym (stage_was x)))
    where
      one : (b : Bool) (r : Option Stage) → (b ≡ true → answers r ≡ false) → or_as r Closed ≡ cond b Closed (or_as (over (cond b (Some (stage_in o.update o.phase)) None) r) Closed)
      one true r h = ap (λ z. or_as z Closed) (quiet_is r (h refl))
      one false r h = refl

  -- a command that waits uses no reference
  pub use_taken_back : o.phase ≡ phase.Waiting → uses_in names made (others os k) ≡ uses_in names made os
  use_taken_back e = fun_ext (λ x. sym (was x ∙ ap (λ z. or_as (over z (rest x)) (unused made x)) (use_was names o phase.Waiting x e)))

  pub known_ended : AreKnown names made (others os k)
  known_ended = record {
    uses_alone = alone_of (use_at names) (others os k) (apart_others (use_at names) os k (apart_of (use_at names) os known.uses_alone));
    stages_alone = alone_of stage_at (others os k) (apart_others stage_at os k (apart_of stage_at os known.stages_alone));
    uses_made = λ x e. others_quiet (use_at names) os k x (known.uses_made x e);
    marked = others_each stage_at (λ p. length p.marks ≡ length names) os k known.marked;
    first = others_each stage_at (λ p. first_in p.phase < length names) os k known.first;
  }
