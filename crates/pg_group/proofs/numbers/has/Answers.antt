use Rattle.std.proofs.Common.{◌≡◌, false, sym, ◌∙◌, arith}
use Rattle.std.proofs.lemmas.Bool.Decides.{nat_tests}
use Rattle.std.specs.Prelude.{nat_lt, length}
use Rattle.pg_group.proofs.Chunks.{chunk_sorted, has_there, has_none}
use Rattle.pg_group.proofs.numbers.has.Goals as goal

pub has-requires : goal.has-requires
has-requires c = chunk_sorted c.args.chunks.now c.args.number c.requires c.find-at.result c.find-at.ensures c.index-chunks-at.result c.if-at-chunks.true c.index-chunks-at.is

pub returns-then-at-chunks : goal.returns-then-at-chunks
returns-then-at-chunks c = c.has.ensures ∙ sym (has_there c.args.chunks.now c.args.number c.requires c.find-at.result c.find-at.ensures c.index-chunks-at.result c.if-at-chunks.true c.index-chunks-at.is)

pub returns-else-at-chunks : goal.returns-else-at-chunks
returns-else-at-chunks c =
    let not_there = c.if-at-chunks.false in
    let e : nat_lt c.find-at.result (length c.args.chunks.now) ≡ false = grind (arith, nat_tests) in
    e ∙ sym (has_none c.args.chunks.now c.args.number c.requires c.find-at.result c.find-at.ensures not_there)
