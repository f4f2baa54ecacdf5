use Rattle.std.proofs.Common.{◌∙◌, ◌+◌, ◌++◌, ◌∷◌, [], ℕ, sym, ap, arith}
use Rattle.pg_node_ports.proofs.Answered.{there, count_there, one_counted, one_answered, rooms_apart, none_forgotten}
use Rattle.pg_node_ports.proofs.port.give.Goals as goal

pub overflow_add-entry : goal.overflow_add-entry
overflow_add-entry c =
    let here = count_there c.args.ports.now.items c.args.port c.from.result c.index_mut-entry.result.now c.index_mut-entry.result.now c.from.ensures c.requires.place c.index_mut-entry.ensures.value in
    omega (arith, here, c.requires.few)

pub answer-requires : goal.answer-requires
answer-requires c = c.requires.room c.index_mut-entry.result.now (there c.args.ports.now.items c.args.port c.from.result c.index_mut-entry.result.now c.index_mut-entry.result.now c.from.ensures c.requires.place c.index_mut-entry.ensures.value)

pub returns-clause-counts : goal.returns-clause-counts
returns-clause-counts c = one_counted c.args.ports.now.items c.args.port c.from.result c.index_mut-entry.result.now c.answer.new.self c.from.ensures c.requires.place c.index_mut-entry.ensures.value c.answer.ensures.count

pub returns-clause-answers : goal.returns-clause-answers
returns-clause-answers c =
    let counted = count_there c.args.ports.now.items c.args.port c.from.result c.index_mut-entry.result.now c.index_mut-entry.result.now c.from.ensures c.requires.place c.index_mut-entry.ensures.value in
    one_answered c.args.ports.now.items c.args.port c.from.result c.index_mut-entry.result.now c.answer.new.self c.from.ensures c.requires.place c.index_mut-entry.ensures.value _
    (c.answer.ensures.answers ∙ ap (λ (n : ℕ). c.index_mut-entry.result.now.answers.items ++ record { number = n + 1; reply = c.args.reply } ∷ []) (sym counted))

pub returns-clause-rooms : goal.returns-clause-rooms
returns-clause-rooms c = rooms_apart c.args.ports.now.items c.args.port c.from.result c.index_mut-entry.result.now c.answer.new.self c.from.ensures c.requires.place c.index_mut-entry.ensures.value

pub returns-clause-forgotten : goal.returns-clause-forgotten
returns-clause-forgotten c = none_forgotten c.args.ports.now.items c.args.port c.from.result c.index_mut-entry.result.now c.answer.new.self c.from.ensures c.requires.place c.index_mut-entry.ensures.value c.answer.ensures.forgotten
