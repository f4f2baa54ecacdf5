use Rattle.std.proofs.Common.{◌∙◌}
use Rattle.std.proofs.Math.Bool.{beq}
use Rattle.std.specs.Cmp.Lexicographic.{pointwise}
use Rattle.pg_exchange.proofs.Marks.{marks_told}
use Rattle.pg_exchange.proofs.formation.Formation.same.Goals as goal

pub returns : goal.returns
returns c = marks_told c.args.self.now c.args.other.now c.eq.result (c.eq.ensures ∙ (λ i. pointwise beq (c.self.view_is i) (c.other.view_is i)))
