use Rattle.std.proofs.Common.{refl, arith}
use Rattle.pg_node_ports.proofs.Answered.{count_there, one_counted, none_answered, rooms_kept, none_forgotten}
use Rattle.pg_node_ports.proofs.port.count.Goals as goal

pub overflow_add-entry : goal.overflow_add-entry
overflow_add-entry c =
    let here = count_there c.args.ports.now.items c.args.port c.from.result c.index_mut-entry.result.now c.index_mut-entry.result.now c.from.ensures c.requires.place c.index_mut-entry.ensures.value in
    omega (arith, here, c.requires.few)

pub returns-clause-counts : goal.returns-clause-counts
returns-clause-counts c = one_counted c.args.ports.now.items c.args.port c.from.result c.index_mut-entry.result.now _ c.from.ensures c.requires.place c.index_mut-entry.ensures.value refl

pub returns-clause-answers : goal.returns-clause-answers
returns-clause-answers c = none_answered c.args.ports.now.items c.args.port c.from.result c.index_mut-entry.result.now _ c.from.ensures c.requires.place c.index_mut-entry.ensures.value refl

pub returns-clause-rooms : goal.returns-clause-rooms
returns-clause-rooms c = rooms_kept c.args.ports.now.items c.args.port c.from.result c.index_mut-entry.result.now _ c.from.ensures c.requires.place c.index_mut-entry.ensures.value (λ room. room)

pub returns-clause-forgotten : goal.returns-clause-forgotten
returns-clause-forgotten c = none_forgotten c.args.ports.now.items c.args.port c.from.result c.index_mut-entry.result.now _ c.from.ensures c.requires.place c.index_mut-entry.ensures.value refl
