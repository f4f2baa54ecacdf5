-- Which command is the same as another.
use Rattle.std.proofs.Common.{◌≡◌, ◌≢◌, ◌⊎◌, refl, ap, inl, inr}
use Rattle.std.specs.Prelude.{Bool, true, false, nat_eq, ◌&&◌}
use Rattle.std.proofs.lemmas.Bool.{cases_eq, eq-eqb, eqb-true}
use Rattle.pg_node.specs.PgStep.declared.command.OpId.{OpId}
use Rattle.pg_node.specs.PgStep.Attempts.{same_op}

first_true : (b c : Bool) → (b && c) ≡ true → b ≡ true
first_true true c e = refl
first_true false c e = e

second_true : (b c : Bool) → (b && c) ≡ true → c ≡ true
second_true true c e = e
second_true false c e = absurd (cc)

pub same_is : (a b : OpId) → same_op a b ≡ true → a ≡ b
same_is a b e = λ i. record {
  port = eqb-true a.port b.port (first_true (nat_eq a.port b.port) (nat_eq a.number b.number) e) i;
  number = eqb-true a.number b.number (second_true (nat_eq a.port b.port) (nat_eq a.number b.number) e) i;
}

pub one_or_other : (a b : OpId) → (a ≡ b) ⊎ (a ≢ b)
one_or_other a b = go (cases_eq a.port b.port) (cases_eq a.number b.number)
  where
    go : (a.port ≡ b.port) ⊎ (a.port ≢ b.port) → (a.number ≡ b.number) ⊎ (a.number ≢ b.number) → (a ≡ b) ⊎ (a ≢ b)
    go (inl p) (inl n) = inl (λ i. record { port = p i; number = n i })
    go (inr p) n = inr (λ e. p (ap (λ (op : OpId). op.port) e))
    go (inl p) (inr n) = inr (λ e. n (ap (λ (op : OpId). op.number) e))

pub same_itself : (a : OpId) → same_op a a ≡ true
same_itself a = both (nat_eq a.port a.port) (nat_eq a.number a.number) (eq-eqb a.port a.port refl) (eq-eqb a.number a.number refl)
  where
    both : (b c : Bool) → b ≡ true → c ≡ true → (b && c) ≡ true
    both true true p q = refl
    both true false p q = absurd (cc)
    both false c p q = absurd (cc)
