use Rattle.std.proofs.Common.{◌≡◌, arith}
use Rattle.std.proofs.lemmas.Result.{IfOk-weaker}
use Rattle.pg_node_state.proofs.SameNodes.{alike_of_same, same_of_alike}
use Rattle.pg_node_state.proofs.state.NodeState.looks_same.Goals as goal

pub returns : goal.returns
returns g c =
    let one = c.args.self.now in
    let other = c.args.other.now in
    let e = c.if-self-other.false in
    let clock : one.clock ≡ other.clock = omega (arith, e) in
    IfOk-weaker c.is_alike.result _ _ (λ same h. (λ t. same_of_alike one other clock (h.0 t), λ s. h.1 (alike_of_same one other s))) c.is_alike.ensures
