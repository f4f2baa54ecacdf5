use Rattle.std.proofs.Common.{◌≡◌, ◌∙◌, false, replicate, rules, ap, sym}
use Rattle.pg_exchange.specs.Marks.{unmarked}
use Rattle.pg_exchange.proofs.Marks.{none_marked}
use Rattle.pg_exchange.proofs.formation.Formation.new.Goals as goal

pub invariant_of-result : goal.invariant_of-result
invariant_of-result c =
    let all : c.resize.new.self.items ≡ replicate c.args.peers false = search rules in
    none_marked c.args.peers ∙ ap unmarked (sym all)
