use Rattle.std.proofs.Common.{◌∙◌, Bool, List, ap}
use Rattle.std.specs.List.{list_all}
use Rattle.pg_exchange.proofs.Marks.{all_marked}
use Rattle.pg_exchange.proofs.formation.Formation.formed.Goals as goal

pub returns : goal.returns
returns c = all_marked c.self.inside.marks.items c.self.inside.missing c.self.invariant ∙ ap (λ (ms : List Bool). list_all (λ marked. marked) ms) c.self.view_is
