use Rattle.pg_node_ports.proofs.Answered.{there, none_counted, one_answered, rooms_apart, none_forgotten}
use Rattle.pg_node_ports.proofs.port.keep_reserved.Goals as goal

pub answer-requires : goal.answer-requires
answer-requires c = c.requires.room c.index_mut-port.result.now (there c.args.ports.now.items c.args.op.port c.from.result c.index_mut-port.result.now c.index_mut-port.result.now c.from.ensures c.requires.place c.index_mut-port.ensures.value)

pub returns-clause-kept : goal.returns-clause-kept
returns-clause-kept c = one_answered c.args.ports.now.items c.args.op.port c.from.result c.index_mut-port.result.now c.answer.new.self c.from.ensures c.requires.place c.index_mut-port.ensures.value _ c.answer.ensures.answers

pub returns-clause-counts : goal.returns-clause-counts
returns-clause-counts c = none_counted c.args.ports.now.items c.args.op.port c.from.result c.index_mut-port.result.now c.answer.new.self c.from.ensures c.requires.place c.index_mut-port.ensures.value c.answer.ensures.count

pub returns-clause-rooms : goal.returns-clause-rooms
returns-clause-rooms c = rooms_apart c.args.ports.now.items c.args.op.port c.from.result c.index_mut-port.result.now c.answer.new.self c.from.ensures c.requires.place c.index_mut-port.ensures.value

pub returns-clause-forgotten : goal.returns-clause-forgotten
returns-clause-forgotten c = none_forgotten c.args.ports.now.items c.args.op.port c.from.result c.index_mut-port.result.now c.answer.new.self c.from.ensures c.requires.place c.index_mut-port.ensures.value c.answer.ensures.forgotten
