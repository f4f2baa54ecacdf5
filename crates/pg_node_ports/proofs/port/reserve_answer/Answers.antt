use Rattle.std.proofs.Common.{Result, Ok, Err}
use Rattle.std.specs.Prelude.{OnOk}
use Rattle.pg_node_ports.proofs.Answered.{there, none_counted, none_answered, room_there, rooms_kept, none_forgotten}
use Rattle.pg_node_ports.proofs.port.reserve_answer.Goals as goal

pub returns-clause-counts : goal.returns-clause-counts
returns-clause-counts c = none_counted c.args.ports.now.items c.args.port c.from.result c.index_mut-entry.result.now c.reserve.new.self c.from.ensures c.requires.place c.index_mut-entry.ensures.value c.reserve.ensures.count

pub returns-clause-answers : goal.returns-clause-answers
returns-clause-answers c = none_answered c.args.ports.now.items c.args.port c.from.result c.index_mut-entry.result.now c.reserve.new.self c.from.ensures c.requires.place c.index_mut-entry.ensures.value c.reserve.ensures.answers

on_ok : {A E : Type 0} (r : Result A E) (P Q : Type 0) → (P → Q) → OnOk r P → OnOk r Q
on_ok (Ok x) P Q f p = f p
on_ok (Err e) P Q f p = tt

pub returns-clause-ok : goal.returns-clause-ok
returns-clause-ok c = on_ok c.reserve.result _ _ (room_there c.args.ports.now.items c.args.port c.from.result c.index_mut-entry.result.now c.reserve.new.self c.from.ensures c.requires.place c.index_mut-entry.ensures.value) c.reserve.ensures.ok

pub returns-clause-succeeds : goal.returns-clause-succeeds
returns-clause-succeeds c = λ room. c.reserve.ensures.succeeds (room c.index_mut-entry.result.now (there c.args.ports.now.items c.args.port c.from.result c.index_mut-entry.result.now c.index_mut-entry.result.now c.from.ensures c.requires.place c.index_mut-entry.ensures.value))

pub returns-clause-rooms : goal.returns-clause-rooms
returns-clause-rooms c = rooms_kept c.args.ports.now.items c.args.port c.from.result c.index_mut-entry.result.now c.reserve.new.self c.from.ensures c.requires.place c.index_mut-entry.ensures.value c.reserve.ensures.room

pub returns-clause-forgotten : goal.returns-clause-forgotten
returns-clause-forgotten c = none_forgotten c.args.ports.now.items c.args.port c.from.result c.index_mut-entry.result.now c.reserve.new.self c.from.ensures c.requires.place c.index_mut-entry.ensures.value c.reserve.ensures.forgotten
