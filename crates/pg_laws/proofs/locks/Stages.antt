-- Commands by their stages, and what a node keeps where a turn leaves its references and commands.
use Rattle.std.proofs.Common.{◌≡◌, ◌&&◌, nat_eq, ap, sym, ◌∙◌}
use Rattle.std.specs.Cmp.{first_so, second_so}
use Rattle.pg_step.specs.PgGroup.Functions.{upd}
use Rattle.pg_step.specs.declared.command.OpId.{OpId}
use Rattle.pg_step.specs.State.{Stage}
use Rattle.pg_step.specs.Attempts.{same_op}
use Rattle.pg_laws.proofs.references.Keys.{Decides, numbers, read_other}

pub commands : Decides same_op
commands = record {
  refl = λ x. ap (λ b. b && nat_eq x.number x.number) (numbers.refl x.port) ∙ numbers.refl x.number;
  is = λ x y e.
      let port = numbers.is x.port y.port (first_so (nat_eq x.port y.port) (nat_eq x.number y.number) e) in
      let number = numbers.is x.number y.number (second_so (nat_eq x.port y.port) (nat_eq x.number y.number) e) in
      λ i. record { port = port i; number = number i };
}

-- a stage that is not the one that changes
pub other_stage : (f : OpId → Stage) (k : OpId) (v w : Stage) (op : OpId) → f op ≡ w → (f k ≡ w → ⊥) → upd same_op f k v op ≡ w
other_stage f k v w op e n = read_other same_op commands f k v op (λ q. n (ap f (sym q) ∙ e)) ∙ e
