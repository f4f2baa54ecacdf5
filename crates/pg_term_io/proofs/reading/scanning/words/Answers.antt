use Rattle.std.proofs.lemmas.Result.{err_from_is_err_and}
use Rattle.pg_term_io.specs.Scanning.{over_word, over_words}
use Rattle.pg_term_io.proofs.Walked.{goes_on, stops, is_done}
use Rattle.pg_term_io.proofs.reading.scanning.words.Goals as goal

pub returns-in_err-rest : goal.returns-in_err-rest
returns-in_err-rest c =
    let p = err_from_is_err_and c.from_residual.result c.from_residual.ensures.1 in
    rw (p.1, p.2) (stops over_word c.args.count c.loop.counter c.loop.rest.now (over_words c.args.count c.args.bytes.now) c.in_err-rest.field-0.0 c.loop-test.true c.in_err-rest.ensures c.loop.invariant)

pub loop-preserved : goal.loop-preserved
loop-preserved c = goes_on over_word c.args.count c.loop.counter c.loop.rest.now (over_words c.args.count c.args.bytes.now) c.in_ok-rest.rest.now c.loop-test.true c.in_ok-rest.ensures c.loop.invariant

pub returns : goal.returns
returns c = is_done over_word c.args.count c.loop.counter c.loop.rest.now (over_words c.args.count c.args.bytes.now) c.loop-test.false c.loop.invariant
