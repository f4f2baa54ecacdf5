use Rattle.std.proofs.Common.{◌≡◌, ◌∙◌, ap, rules}
use Rattle.std.specs.List.{filter}
use Rattle.std.proofs.lemmas.Fn.{filter_same}
use Rattle.pg_node_run.specs.Pauses.{wait_in}
use Rattle.pg_node_run.proofs.Pausing.{gone, is_off, others_left}
use Rattle.pg_node_run.proofs.pauses.Pauses.forget.Goals as goal

pub returns-clause-forgotten : goal.returns-clause-forgotten
returns-clause-forgotten c =
    let left : c.retain.new.self.items ≡ filter (is_off c.args.op) c.args.self.now.entries.items = filter_same _ _ _ (λ x b f' k. search rules) _ _ c.retain.ensures.filtered in
    ap (wait_in c.args.op) left ∙ gone c.args.op c.args.self.now.entries.items

pub returns-clause-others : goal.returns-clause-others
returns-clause-others c = λ other apart.
    let left : c.retain.new.self.items ≡ filter (is_off c.args.op) c.args.self.now.entries.items = filter_same _ _ _ (λ x b f' k. search rules) _ _ c.retain.ensures.filtered in
    ap (wait_in other) left ∙ others_left c.args.op other c.args.self.now.entries.items apart
