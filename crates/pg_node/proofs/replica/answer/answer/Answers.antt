use Rattle.std.proofs.lemmas.Result.{on_ok_weaker, err_from_is_err_and, MatchResult-weaker}
use Rattle.std.proofs.Common.{◌^◌, ℕ, List, length, arith, subst}
use Rattle.std.specs.Prelude.{OnOk}
use Rattle.pg_node.specs.Replicas.Replica.{pair_of, taken_packet, AnswersServed}
use Rattle.pg_node_state.specs.States.{state_of}
use Rattle.pg_node_state.proofs.Counts.{short}
use Rattle.pg_node.proofs.Replicas.Bodies.{unread_refused, answers, untaken_refused}
use Rattle.pg_node.proofs.replica.answer.answer.Goals as goal

pub returns-in_err-packet-clause-fault : goal.returns-in_err-packet-clause-fault
returns-in_err-packet-clause-fault g c =
    let p = err_from_is_err_and c.from_residual-in_err-packet.result c.from_residual-in_err-packet.ensures.1 in
    rw (p.1, p.2) (unread_refused (pair_of c.args.node.now) (state_of c.args.node.now) c.args.body.now c.in_err-packet.field-0.0 c.in_err-packet.ensures.exact)

pub answer_packet-requires-clause-few : goal.answer_packet-requires-clause-few
answer_packet-requires-clause-few g c = short (length c.args.body.now) (2 ^ 32) c.in_ok-packet.packet.message (omega (arith, c.requires.len)) c.in_ok-packet.ensures.few

pub returns-clause-ok : goal.returns-clause-ok
returns-clause-ok g c =
    let pair = pair_of c.args.node.now in
    let state = state_of c.args.node.now in
    let packet = c.in_ok-packet.packet in
    let after = state_of c.answer_packet.new.node in
    let written = c.answer_packet.new.out.items in
    on_ok_weaker c.answer_packet.result (answers pair state c.args.body.now packet c.in_ok-packet.ensures.exact after c.args.out.now.items written)
    (subst (λ (items : List ℕ). OnOk c.answer_packet.result (AnswersServed (taken_packet pair state packet) after items written)) c.in_ok-reserve.ensures.items c.answer_packet.ensures.ok)

pub returns-clause-fault : goal.returns-clause-fault
returns-clause-fault g c =
    MatchResult-weaker c.answer_packet.result c.answer_packet.ensures.fault (λ x h. h) (untaken_refused (pair_of c.args.node.now) (state_of c.args.node.now) c.args.body.now c.in_ok-packet.packet c.in_ok-packet.ensures.exact)
