-- When updates, marks and phases are seen as one.
use Rattle.std.proofs.Common.{◌≡◌, ℕ, ◌<◌, zero, suc, Bool, true, false, ◌&&◌, cond, nat_eq, ◌==◌, get_or}
use Rattle.std.proofs.Common.{length, List, [], ◌∷◌, Some, None, refl, ap, sym, ◌∙◌, subst, arith}
use Rattle.std.specs.Cmp.{first_so, second_so}
use Rattle.std.specs.Cmp.Lexicographic.{pointwise}
use Rattle.std.specs.List.{IsDistinct}
use Rattle.std.proofs.lemmas.Bool.{eqb-true, eq-eqb}
use Rattle.std.proofs.lemmas.List.{same_lists, get_or_default}
use Rattle.std.proofs.Math.Bool.{beq}
use Rattle.pg_term.specs.contracts.term.TermEq.TheImpl.Laws.{laws-law as terms}
use Rattle.pg_term.specs.contracts.pid.PidEq.TheImpl.Laws.{laws-law as pids}
use Rattle.pg_term.specs.Same.{same_atom, same_term, same_pid}
use Rattle.pg_term.proofs.Same.{same_term as term_is, pid_is}
use Rattle.pg_step.specs.PgGroup.declared.update.Update.{Update}
use Rattle.pg_step.specs.PgGroup.declared.update.Update.TheVariants as update
use Rattle.pg_step.specs.PgGroup.Value.{name_of}
use Rattle.pg_step.specs.declared.command.OpId.{OpId}
use Rattle.pg_step.specs.Nodes.{Node}
use Rattle.pg_step.specs.Attempts.{same_op}
use Rattle.pg_step.specs.State.Use.{Owning, Updating}
use Rattle.pg_node_opens.specs.declared.mark.Mark.{Mark}
use Rattle.pg_node_opens.specs.declared.mark.Mark.TheVariants as mark
use Rattle.pg_node_opens.specs.Marks.{status_of, has_yes, all_below, same_mark, same_test, same_marks, same_replies}
use Rattle.pg_node_opens.specs.declared.command.Phase.{Phase}
use Rattle.pg_node_opens.specs.declared.command.Phase.TheVariants as phase
use Rattle.pg_node_opens.specs.declared.command.OpenCommand.{OpenCommand}
use Rattle.pg_node_opens.specs.Named.{replies}
use Rattle.pg_node_opens.specs.Commands.{use_in, use_at, stage_in, stage_at}
use Rattle.pg_node_opens.specs.Twins.{same_update, is_alike, is_twin}
use Rattle.pg_node_opens.proofs.Named.{clash, by_places, reads_at, reads_nobody}
use Rattle.pg_node_opens.proofs.Followed.{op_is}

-- ---- lists

pub both_true : (b c : Bool) → b ≡ true → c ≡ true → (b && c) ≡ true
both_true b c e f = ap (λ z. z && c) e ∙ f

pub lists_are : {A : Type 0} (test : A → A → Bool) → ((x y : A) → test x y ≡ true → x ≡ y) → (xs ys : List A) → pointwise test xs ys ≡ true → xs ≡ ys
lists_are test is [] [] e = refl
lists_are test is [] (y ∷ ys) e = absurd (clash (sym e))
lists_are test is (x ∷ xs) [] e = absurd (clash (sym e))
lists_are test is (x ∷ xs) (y ∷ ys) e = λ i. is x y (first_so (test x y) (pointwise test xs ys) e) i ∷ lists_are test is xs ys (second_so (test x y) (pointwise test xs ys) e) i

pub list_self : {A : Type 0} (test : A → A → Bool) → ((x : A) → test x x ≡ true) → (xs : List A) → pointwise test xs xs ≡ true
list_self test self [] = refl
list_self test self (x ∷ xs) = both_true (test x x) (pointwise test xs xs) (self x) (list_self test self xs)

pub flag_is : (b c : Bool) → beq b c ≡ true → b ≡ c
flag_is true true e = refl
flag_is true false e = absurd (clash (sym e))
flag_is false true e = absurd (clash (sym e))
flag_is false false e = refl

pub flag_self : (b : Bool) → beq b b ≡ true
flag_self true = refl
flag_self false = refl

-- ---- tests of all places

last : (n : ℕ) → n < suc n
last n = omega arith

none_less : (k : ℕ) → k < 0 → ⊥
none_less k h = omega arith

pub all_below_true : (n : ℕ) (p : ℕ → Bool) → ((k : ℕ) → k < n → p k ≡ true) → all_below n p ≡ true
all_below_true zero p h = refl
all_below_true (suc n) p h = both_true (p n) (all_below n p) (h n (last n)) (all_below_true n p (λ k l. h k (more k n l)))
  where
    more : (k n : ℕ) → k < n → k < suc n
    more k n l = omega arith

pub all_below_at : (n : ℕ) (p : ℕ → Bool) → all_below n p ≡ true → (k : ℕ) → k < n → p k ≡ true
all_below_at zero p e k l = absurd (none_less k l)
all_below_at (suc n) p e k l = go (k == n) refl (all_below_at n p (second_so (p n) (all_below n p) e) k)
  where
    less : (k n : ℕ) → k < suc n → (k ≡ n → ⊥) → k < n
    less k n l apart = omega arith

    go : (b : Bool) → (k == n) ≡ b → (k < n → p k ≡ true) → p k ≡ true
    go true f h = ap p (eqb-true k n f) ∙ first_so (p n) (all_below n p) e
    go false f h = h (less k n l (λ same. clash (sym (eq-eqb k n same) ∙ f)))

-- ---- updates

pub update_is : (u v : Update) → same_update u v ≡ true → u ≡ v
update_is (update.Create g) (update.Create h) e = ap update.Create (term_is g h e)
update_is (update.Delete g) (update.Delete h) e = ap update.Delete (term_is g h e)
update_is (update.Join g p) (update.Join h q) e = λ i. update.Join (term_is g h (first_so (same_term g h) (same_pid p q) e) i) (pid_is p q (second_so (same_term g h) (same_pid p q) e) i)
update_is (update.Leave g p) (update.Leave h q) e = λ i. update.Leave (term_is g h (first_so (same_term g h) (same_pid p q) e) i) (pid_is p q (second_so (same_term g h) (same_pid p q) e) i)
update_is (update.Create g) (update.Delete h) e = absurd (clash (sym e))
update_is (update.Create g) (update.Join h q) e = absurd (clash (sym e))
update_is (update.Create g) (update.Leave h q) e = absurd (clash (sym e))
update_is (update.Delete g) (update.Create h) e = absurd (clash (sym e))
update_is (update.Delete g) (update.Join h q) e = absurd (clash (sym e))
update_is (update.Delete g) (update.Leave h q) e = absurd (clash (sym e))
update_is (update.Join g p) (update.Create h) e = absurd (clash (sym e))
update_is (update.Join g p) (update.Delete h) e = absurd (clash (sym e))
update_is (update.Join g p) (update.Leave h q) e = absurd (clash (sym e))
update_is (update.Leave g p) (update.Create h) e = absurd (clash (sym e))
update_is (update.Leave g p) (update.Delete h) e = absurd (clash (sym e))
update_is (update.Leave g p) (update.Join h q) e = absurd (clash (sym e))

pub update_self : (u : Update) → same_update u u ≡ true
update_self (update.Create g) = terms.refl g
update_self (update.Delete g) = terms.refl g
update_self (update.Join g p) = both_true (same_term g g) (same_pid p p) (terms.refl g) (pids.refl p)
update_self (update.Leave g p) = both_true (same_term g g) (same_pid p p) (terms.refl g) (pids.refl p)

-- ---- marks

mark_is : (m n : Mark) → same_mark m n ≡ true → m ≡ n
mark_is mark.Unasked mark.Unasked e = refl
mark_is mark.Asked mark.Asked e = refl
mark_is mark.Yes mark.Yes e = refl
mark_is mark.No mark.No e = refl
mark_is mark.Unasked mark.Asked e = absurd (clash (sym e))
mark_is mark.Unasked mark.Yes e = absurd (clash (sym e))
mark_is mark.Unasked mark.No e = absurd (clash (sym e))
mark_is mark.Asked mark.Unasked e = absurd (clash (sym e))
mark_is mark.Asked mark.Yes e = absurd (clash (sym e))
mark_is mark.Asked mark.No e = absurd (clash (sym e))
mark_is mark.Yes mark.Unasked e = absurd (clash (sym e))
mark_is mark.Yes mark.Asked e = absurd (clash (sym e))
mark_is mark.Yes mark.No e = absurd (clash (sym e))
mark_is mark.No mark.Unasked e = absurd (clash (sym e))
mark_is mark.No mark.Asked e = absurd (clash (sym e))
mark_is mark.No mark.Yes e = absurd (clash (sym e))

-- marks are one where they are one status
pub mark_by_status : (m n : Mark) → status_of m ≡ status_of n → same_mark m n ≡ true
mark_by_status mark.Unasked mark.Unasked e = refl
mark_by_status mark.Asked mark.Asked e = refl
mark_by_status mark.Yes mark.Yes e = refl
mark_by_status mark.No mark.No e = refl
mark_by_status mark.Unasked mark.Asked e = absurd (cc)
mark_by_status mark.Unasked mark.Yes e = absurd (cc)
mark_by_status mark.Unasked mark.No e = absurd (cc)
mark_by_status mark.Asked mark.Unasked e = absurd (cc)
mark_by_status mark.Asked mark.Yes e = absurd (cc)
mark_by_status mark.Asked mark.No e = absurd (cc)
mark_by_status mark.Yes mark.Unasked e = absurd (cc)
mark_by_status mark.Yes mark.Asked e = absurd (cc)
mark_by_status mark.Yes mark.No e = absurd (cc)
mark_by_status mark.No mark.Unasked e = absurd (cc)
mark_by_status mark.No mark.Asked e = absurd (cc)
mark_by_status mark.No mark.Yes e = absurd (cc)

pub test_is : (b c : Bool) → same_test b c ≡ true → b ≡ c
test_is true c e = sym e
test_is false true e = absurd (clash (sym e))
test_is false false e = refl

pub test_same : (b c : Bool) → b ≡ c → same_test b c ≡ true
test_same b c e = ap (same_test b) (sym e) ∙ self b
  where
    self : (b : Bool) → same_test b b ≡ true
    self true = refl
    self false = refl

marks_are : (ms ns : List Mark) → same_marks ms ns ≡ true → ms ≡ ns
marks_are ms ns e =
    let len : length ms ≡ length ns = eqb-true (length ms) (length ns) (first_so (nat_eq (length ms) (length ns)) (all_below (length ms) (λ k. same_mark (get_or ms k mark.Unasked) (get_or ns k mark.Unasked))) e) in
    same_lists ms ns len (λ k d l. get_or_default ms k d mark.Unasked l
    ∙ (mark_is (get_or ms k mark.Unasked) (get_or ns k mark.Unasked)
    (all_below_at (length ms) (λ k. same_mark (get_or ms k mark.Unasked) (get_or ns k mark.Unasked)) (second_so (nat_eq (length ms) (length ns)) (all_below (length ms) (λ k. same_mark (get_or ms k mark.Unasked) (get_or ns k mark.Unasked))) e) k l)
    ∙ get_or_default ns k mark.Unasked d (subst (λ z. k < z) len l)))

replies_at : (ms ns : List Mark) → same_replies ms ns ≡ true → (k : ℕ) → k < length ms → has_yes (get_or ms k mark.Unasked) ≡ has_yes (get_or ns k mark.Unasked)
replies_at ms ns e k l = test_is (has_yes (get_or ms k mark.Unasked)) (has_yes (get_or ns k mark.Unasked))
    (all_below_at (length ms) (λ k. same_test (has_yes (get_or ms k mark.Unasked)) (has_yes (get_or ns k mark.Unasked)))
    (second_so (nat_eq (length ms) (length ns)) (all_below (length ms) (λ k. same_test (has_yes (get_or ms k mark.Unasked)) (has_yes (get_or ns k mark.Unasked)))) e) k l)

-- ---- what twins are seen as

module _ (names : List Node) (apart : IsDistinct same_atom names) (ms ns : List Mark) (same_ms : length ms ≡ length names) (same_ns : length ns ≡ length names) where
  replies_are : same_replies ms ns ≡ true → replies names ms ≡ replies names ns
  replies_are e = by_places names (replies names ms) (replies names ns)
      (λ k l. reads_at has_yes false names ms k mark.Unasked apart same_ms l
      ∙ (replies_at ms ns e k (subst (λ z. k < z) (sym same_ms) l) ∙ sym (reads_at has_yes false names ns k mark.Unasked apart same_ns l)))
      (λ q n. reads_nobody has_yes false names ms q n ∙ sym (reads_nobody has_yes false names ns q n))

  pub use_alike : (op : OpId) (u : Update) (ph other : Phase) (x : ℕ) → is_alike ph ms other ns ≡ true → use_in names op u ph ms x ≡ use_in names op u other ns x
  use_alike op u phase.Waiting phase.Waiting x e = refl
  use_alike op u (phase.Asking lock first) (phase.Asking lock' first') x e =
      let l = eqb-true lock lock' (first_so (nat_eq lock lock') (nat_eq first first' && same_marks ms ns) e) in
      let rest : (nat_eq first first' && same_marks ms ns) ≡ true = second_so (nat_eq lock lock') (nat_eq first first' && same_marks ms ns) e in
      let f = eqb-true first first' (first_so (nat_eq first first') (same_marks ms ns) rest) in
      let m = marks_are ms ns (second_so (nat_eq first first') (same_marks ms ns) rest) in
      λ i. use_in names op u (phase.Asking (l i) (f i)) (m i) x
  use_alike op u (phase.Changing lock number) (phase.Changing lock' number') x e =
      let l = eqb-true lock lock' (first_so (nat_eq lock lock') (nat_eq number number' && same_replies ms ns) e) in
      let rest : (nat_eq number number' && same_replies ms ns) ≡ true = second_so (nat_eq lock lock') (nat_eq number number' && same_replies ms ns) e in
      let n = eqb-true number number' (first_so (nat_eq number number') (same_replies ms ns) rest) in
      let r = replies_are (second_so (nat_eq number number') (same_replies ms ns) rest) in
      λ i. cond (nat_eq (n i) x) (Some (Updating op u (l i) (r i))) (cond (nat_eq (l i) x) (Some (Owning (name_of u) (n i))) None)
  use_alike op u phase.Waiting (phase.Asking lock' first') x e = absurd (clash (sym e))
  use_alike op u phase.Waiting (phase.Changing lock' number') x e = absurd (clash (sym e))
  use_alike op u (phase.Asking lock first) phase.Waiting x e = absurd (clash (sym e))
  use_alike op u (phase.Asking lock first) (phase.Changing lock' number') x e = absurd (clash (sym e))
  use_alike op u (phase.Changing lock number) phase.Waiting x e = absurd (clash (sym e))
  use_alike op u (phase.Changing lock number) (phase.Asking lock' first') x e = absurd (clash (sym e))

stage_alike : (u : Update) (ph other : Phase) (ms ns : List Mark) → is_alike ph ms other ns ≡ true → stage_in u ph ≡ stage_in u other
stage_alike u phase.Waiting phase.Waiting ms ns e = refl
stage_alike u (phase.Asking lock first) (phase.Asking lock' first') ms ns e =
    ap (λ z. stage_in u (phase.Asking z first)) (eqb-true lock lock' (first_so (nat_eq lock lock') (nat_eq first first' && same_marks ms ns) e))
stage_alike u (phase.Changing lock number) (phase.Changing lock' number') ms ns e =
    ap (λ z. stage_in u (phase.Changing lock z)) (eqb-true number number' (first_so (nat_eq number number') (same_replies ms ns) (second_so (nat_eq lock lock') (nat_eq number number' && same_replies ms ns) e)))
stage_alike u phase.Waiting (phase.Asking lock' first') ms ns e = absurd (clash (sym e))
stage_alike u phase.Waiting (phase.Changing lock' number') ms ns e = absurd (clash (sym e))
stage_alike u (phase.Asking lock first) phase.Waiting ms ns e = absurd (clash (sym e))
stage_alike u (phase.Asking lock first) (phase.Changing lock' number') ms ns e = absurd (clash (sym e))
stage_alike u (phase.Changing lock number) phase.Waiting ms ns e = absurd (clash (sym e))
stage_alike u (phase.Changing lock number) (phase.Asking lock' first') ms ns e = absurd (clash (sym e))

module _ (o p : OpenCommand) (e : is_twin o p ≡ true) where
  rest_so : (same_update o.update p.update && is_alike o.phase o.marks p.phase p.marks) ≡ true
  rest_so = second_so _ (same_update o.update p.update && is_alike o.phase o.marks p.phase p.marks) e

  same_ops : o.op ≡ p.op
  same_ops = op_is o.op p.op (first_so _ (same_update o.update p.update && is_alike o.phase o.marks p.phase p.marks) e)

  same_updates : o.update ≡ p.update
  same_updates = update_is o.update p.update (first_so (same_update o.update p.update) (is_alike o.phase o.marks p.phase p.marks) rest_so)

  alike_so : is_alike o.phase o.marks p.phase p.marks ≡ true
  alike_so = second_so (same_update o.update p.update) (is_alike o.phase o.marks p.phase p.marks) rest_so

  pub twin_use : (names : List Node) → IsDistinct same_atom names → length o.marks ≡ length names → length p.marks ≡ length names → (x : ℕ) → use_at names o x ≡ use_at names p x
  twin_use names apart so sp x = (λ i. use_in names (same_ops i) (same_updates i) o.phase o.marks x)
      ∙ use_alike names apart o.marks p.marks so sp p.op p.update o.phase p.phase x alike_so

  pub twin_stage : (x : OpId) → stage_at o x ≡ stage_at p x
  twin_stage x = (λ i. cond (same_op (same_ops i) x) (Some (stage_in (same_updates i) o.phase)) None)
      ∙ ap (λ z. cond (same_op p.op x) (Some z) None) (stage_alike p.update o.phase p.phase o.marks p.marks alike_so)
