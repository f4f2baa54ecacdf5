-- What `==` tells of marks, and how many are not marked.
use Rattle.std.proofs.Common.{◌≡◌, ℕ, suc, zero, ◌+◌, ◌<◌, Bool, true, false, cond, List, [], ◌∷◌}
use Rattle.std.proofs.Common.{length, get_or, set, replicate, refl, sym, ap, ◌∙◌, arith, nat_eq}
use Rattle.std.proofs.lemmas.Bool.{ne_eqb}
use Rattle.std.specs.List.{list_all}
use Rattle.std.proofs.Math.Bool.{beq}
use Rattle.std.specs.Bool.{Decides}
use Rattle.std.specs.Cmp.Lexicographic.{pointwise}
use Rattle.std.proofs.lemmas.Slice.Eq.{slice_eq-Decides}
use Rattle.pg_exchange.specs.Marks.{unmarked}

one_mark : (a b : Bool) → Decides (beq a b) (a ≡ b)
one_mark true true = (λ e. refl, λ e. refl)
one_mark true false = (λ e. cc, λ e. cc)
one_mark false true = (λ e. cc, λ e. cc)
one_mark false false = (λ e. refl, λ e. refl)

pub marks_told : (marks others : List Bool) (r : Bool) → r ≡ pointwise beq marks others → Decides r (marks ≡ others)
marks_told marks others r is = slice_eq-Decides one_mark marks others r is

-- one mark more, where none was
pub one_less : (marks : List Bool) (i : ℕ) (d : Bool) → i < length marks → false ≡ get_or marks i d → unmarked (set marks i true) + 1 ≡ unmarked marks
one_less [] i d h e = absurd (omega arith)
one_less (mark ∷ marks) zero d h e = let f : 1 ≡ cond {A = ℕ} mark 0 1 = ap (λ b. cond {A = ℕ} b 0 1) e in omega arith
one_less (mark ∷ marks) (suc i) d h e = let f = one_less marks i d (omega arith) e in omega arith

pub none_marked : (peers : ℕ) → peers ≡ unmarked (replicate peers false)
none_marked zero = refl
none_marked (suc peers) = let f = none_marked peers in omega arith

all_marked_by : (marks : List Bool) → unmarked marks ≡ 0 → list_all (λ marked. marked) marks ≡ true
all_marked_by [] e = refl
all_marked_by (true ∷ marks) e = all_marked_by marks (omega (arith, e))
all_marked_by (false ∷ marks) e = absurd (omega arith)

some_unmarked : (marks : List Bool) (n : ℕ) → unmarked marks ≡ suc n → list_all (λ marked. marked) marks ≡ false
some_unmarked [] n e = absurd (omega arith)
some_unmarked (true ∷ marks) n e = some_unmarked marks n (omega (arith, e))
some_unmarked (false ∷ marks) n e = refl

-- all are marked where none is missing
pub all_marked : (marks : List Bool) (missing : ℕ) → missing ≡ unmarked marks → nat_eq missing 0 ≡ list_all (λ marked. marked) marks
all_marked marks zero e = sym (all_marked_by marks (sym e))
all_marked marks (suc n) e = ne_eqb (suc n) 0 (λ h. omega (arith, h)) ∙ sym (some_unmarked marks n (sym e))
