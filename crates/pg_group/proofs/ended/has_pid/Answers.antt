use Rattle.std.proofs.Common.{[], sym, ap, ◌∙◌}
use Rattle.std.specs.Prelude.{unwrap_or}
use Rattle.pg_group.specs.Numbers.{has_number, number_of}
use Rattle.pg_group.proofs.EndedNumbers.{has_in}
use Rattle.pg_group.proofs.ended.has_pid.Goals as goal

pub returns-in-Some : goal.returns-in-Some
returns-in-Some c =
    let pid = c.args.pid.now in
    c.has.ensures ∙ ap (has_number c.in-Some.numbers.now) c.of.ensures
    ∙ ap (λ o. has_number (unwrap_or o []) (number_of pid)) c.in-Some.ensures.value
    ∙ sym (has_in c.args.numbers.now c.len-nodes.ensures.ordered pid.node (number_of pid))

pub returns-in-None : goal.returns-in-None
returns-in-None c =
    let pid = c.args.pid.now in
    ap (λ o. has_number (unwrap_or o []) (number_of pid)) c.in-None.ensures.value
    ∙ sym (has_in c.args.numbers.now c.len-nodes.ensures.ordered pid.node (number_of pid))
