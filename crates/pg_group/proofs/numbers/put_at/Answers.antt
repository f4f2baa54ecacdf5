use Rattle.std.proofs.Common.{◌∙◌, rules}
use Rattle.pg_group.proofs.Chunks.{chunk_sorted, set_kept, put_there_too}
use Rattle.pg_group.proofs.numbers.put_at.Goals as goal

pub insert-requires-clause-sorted : goal.insert-requires-clause-sorted
insert-requires-clause-sorted c = chunk_sorted c.args.chunks.now.items c.args.number c.requires.sorted c.args.at c.requires.place c.index_mut.result.now c.requires.within c.index_mut.ensures.value

pub returns-in_err-insert-clause-err : goal.returns-in_err-insert-clause-err
returns-in_err-insert-clause-err c =
    let same = set_kept c.args.chunks.now.items c.args.at c.index_mut.result.now c.insert.new.self c.requires.within c.index_mut.ensures.value c.in_err-insert.ensures.err in
    search rules

pub returns-clause-ok : goal.returns-clause-ok
returns-clause-ok c =
    c.divide.ensures
    ∙ put_there_too c.args.chunks.now.items c.args.number c.requires.sorted c.args.at c.requires.place c.index_mut.result.now c.requires.within c.index_mut.ensures.value c.insert.new.self c.in_ok-insert.ensures.ok
