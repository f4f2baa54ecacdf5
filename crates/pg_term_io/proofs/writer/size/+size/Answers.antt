use Rattle.std.proofs.Common.{rules, arith, ap, ◌<◌}
use Rattle.pg_term.specs.Depth.{depth, greatest_depth}
use Rattle.pg_term_io.proofs.Deep.{part_depth, depth_more}
use Rattle.pg_term_io.proofs.Written.{len_more}
use Rattle.pg_term_io.proofs.writer.size.+size.Goals as goal

pub all_len-returns-in_err-item_len-clause-err : goal.all_len-returns-in_err-item_len-clause-err
all_len-returns-in_err-item_len-clause-err t c =
    let part = part_depth c.args.terms.now c.loop-term.term-index c.term-item.result c.loop-term-test.true in
    let deep : c.args.room < greatest_depth c.args.terms.now = omega (arith, part, ap depth c.term-item.is, c.in_err-item_len.ensures.err.1) in
    search rules

pub all_len-loop-term-preserved : goal.all_len-loop-term-preserved
all_len-loop-term-preserved t c =
    let len = len_more c.args.terms.now c.loop-term.term-index c.term-item.result c.loop-term-test.true c.term-item.is in
    let deep = depth_more c.args.terms.now c.loop-term.term-index c.term-item.result c.loop-term-test.true c.term-item.is in
    (omega (arith, c.in_ok-item_len.ensures.ok.0, c.loop-term.invariant.0), omega (arith, c.in_ok-item_len.ensures.ok.1, c.loop-term.invariant.1))
