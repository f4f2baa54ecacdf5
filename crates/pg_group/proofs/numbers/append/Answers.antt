use Rattle.std.proofs.Common.{◌-◌, ◌<◌, List, length, subst, arith, rules}
use Rattle.pg_group.specs.declared.chunk.Chunk.{Chunk}
use Rattle.pg_group.proofs.Chunks.{set_kept, more_last}
use Rattle.pg_group.proofs.numbers.append.Goals as goal

pub returns-in_err-append-clause-err : goal.returns-in_err-append-clause-err
returns-in_err-append-clause-err c =
    let some : 0 < length c.args.chunks.now.items = subst (λ (l : List Chunk). 0 < length l) c.deref.ensures.value (c.has_room.ensures c.if-has_room.true) in
    let len = c.len-last.ensures in
    let is_len = c.args.chunks.now.ok.0 in
    let same = set_kept c.args.chunks.now.items (c.len-last.result - 1) c.index_mut.result.now c.append.new.self (omega arith) c.index_mut.ensures.value c.in_err-append.ensures.err in
    search rules

pub returns-in_ok-append-clause-ok : goal.returns-in_ok-append-clause-ok
returns-in_ok-append-clause-ok c =
    let some : 0 < length c.args.chunks.now.items = subst (λ (l : List Chunk). 0 < length l) c.deref.ensures.value (c.has_room.ensures c.if-has_room.true) in
    let len = c.len-last.ensures in
    let is_len = c.args.chunks.now.ok.0 in
    more_last c.args.chunks.now.items (c.len-last.result - 1) c.index_mut.result.now c.append.new.self c.args.number (omega arith) c.index_mut.ensures.value c.in_ok-append.ensures.ok
