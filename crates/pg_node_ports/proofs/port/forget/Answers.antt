use Rattle.pg_node_ports.proofs.Answered.{none_counted, answers_left, more_forgotten, rooms_kept}
use Rattle.pg_node_ports.proofs.port.forget.Goals as goal

pub returns-clause-counts : goal.returns-clause-counts
returns-clause-counts c = none_counted c.args.ports.now.items c.args.port c.from.result c.index_mut-entry.result.now c.forget.new.self c.from.ensures c.requires.place c.index_mut-entry.ensures.value c.forget.ensures.counts

pub returns-clause-answers : goal.returns-clause-answers
returns-clause-answers c = answers_left c.args.ports.now.items c.args.port c.from.result c.index_mut-entry.result.now c.forget.new.self c.from.ensures c.requires.place c.index_mut-entry.ensures.value c.args.count c.forget.ensures.answers

pub returns-clause-forgotten : goal.returns-clause-forgotten
returns-clause-forgotten c = more_forgotten c.args.ports.now.items c.args.port c.from.result c.index_mut-entry.result.now c.forget.new.self c.from.ensures c.requires.place c.index_mut-entry.ensures.value c.args.count c.forget.ensures.forgotten

pub returns-clause-rooms : goal.returns-clause-rooms
returns-clause-rooms c = rooms_kept c.args.ports.now.items c.args.port c.from.result c.index_mut-entry.result.now c.forget.new.self c.from.ensures c.requires.place c.index_mut-entry.ensures.value c.forget.ensures.room
