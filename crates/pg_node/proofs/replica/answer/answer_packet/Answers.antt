use Rattle.std.proofs.Common.{◌≡◌, ◌++◌, ◌∙◌, ℕ, List, ap}
use Rattle.pg_node_state.specs.PgMessageTypes.declared.packet.Packet.{Packet}
use Rattle.pg_node_state.specs.PgNodeSends.Frames.{frames_to}
use Rattle.pg_node_state.specs.States.{names_of, state_of, answers_of}
use Rattle.pg_node.proofs.Replicas.Taken.{answers, refuses}
use Rattle.pg_node.proofs.replica.answer.answer_packet.Goals as goal

pub returns-in-Ok-clause-ok : goal.returns-in-Ok-clause-ok
returns-in-Ok-clause-ok g c =
    let old = c.args.node.now in
    let new = c.take_owned.new.self in
    let written : c.write_sent.new.out.items ≡ c.args.out.now.items ++ frames_to c.in-Ok.done.sends.items 0 =
    c.write_sent.ensures ∙ ap (λ (sends : List (ℕ × Packet)). c.args.out.now.items ++ frames_to sends 0) c.as_slice.ensures.value in
    answers (names_of old) c.requires.one_peer (state_of old) c.args.packet (state_of new) (answers_of old) (answers_of new) c.in-Ok.done c.args.out.now.items c.write_sent.new.out.items
    c.in-Ok.ensures.event c.in-Ok.ensures.fits written

pub returns-in-Err-clause-fault : goal.returns-in-Err-clause-fault
returns-in-Err-clause-fault g c =
    let old = c.args.node.now in
    let new = c.take_owned.new.self in
    rw c.untaken.ensures (refuses (names_of old) c.requires.one_peer (state_of old) c.args.packet (state_of new) (answers_of old) (answers_of new) c.in-Err.fault c.in-Err.ensures.event)
