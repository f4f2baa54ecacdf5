use Rattle.std.proofs.Common.{rules, ◌∙◌, sym}
use Rattle.pg_node_state.proofs.Commanded.{end_unformed, end_refused}
use Rattle.pg_node_state.proofs.state.NodeState.end_fault.Goals as goal

pub returns-then-not-formed : goal.returns-then-not-formed
returns-then-not-formed g c =
    end_unformed c.args.self.now c.args.pid.now c.finish-end.result c.finish-end.ensures c.formed.result c.formed.ensures c.if-not-formed.true
    (λ e. let h = sym c.if-eq.false ∙ c.eq.ensures in search rules)

pub returns : goal.returns
returns g c =
    end_refused c.args.self.now c.args.pid.now c.finish-end.result c.finish-end.ensures c.formed.result c.fault_of_end.result c.formed.ensures c.if-not-formed.false
    (λ e. let h = sym c.if-eq.false ∙ c.eq.ensures in search rules)
    c.fault_of_end.ensures.unmade c.fault_of_end.ensures.ended c.fault_of_end.ensures.none
