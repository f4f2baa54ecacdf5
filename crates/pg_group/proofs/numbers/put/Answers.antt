use Rattle.std.proofs.Common.{List, subst, ◌∙◌, arith}
use Rattle.pg_group.specs.declared.chunk.Chunk.{Chunk}
use Rattle.pg_group.specs.Numbers.{IsPlace}
use Rattle.pg_group.proofs.Chunks.{put_behind}
use Rattle.pg_group.proofs.numbers.put.Goals as goal

pub returns-in_ok-append-clause-ok : goal.returns-in_ok-append-clause-ok
returns-in_ok-append-clause-ok c =
    let at = c.find-at.result in
    let place = subst (λ (l : List Chunk). IsPlace l c.args.number at) c.deref.ensures.value c.find-at.ensures in
    let len = c.len.ensures in
    let is_len = c.args.chunks.now.ok.0 in
    let past = c.if-at-len.false in
    c.in_ok-append.ensures.ok ∙ put_behind c.args.chunks.now.items c.args.number c.requires at place (omega arith)
