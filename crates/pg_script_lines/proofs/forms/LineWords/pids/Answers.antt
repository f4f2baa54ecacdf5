use Rattle.std.proofs.lemmas.Result.{err_from_is_err_and}
use Rattle.pg_script_lines.specs.Words.{words_left}
use Rattle.pg_script_lines.proofs.PidsSaid.{goes_first, goes_on, goes_bad, goes_over}
use Rattle.pg_script_lines.proofs.forms.LineWords.pids.Goals as goal

pub loop-word-init : goal.loop-word-init
loop-word-init c = goes_first (words_left c.args.self.now.words) c.new-pids.result.items c.new-pids.ensures.items

pub loop-word-preserved : goal.loop-word-preserved
loop-word-preserved c =
    goes_on (words_left c.args.self.now.words) (words_left c.loop-word.self.words) (words_left c.next.new.self) c.loop-word.pids.items c.push.new.self.items c.in-Some.word.now c.in_ok-read_pid.field-0
    c.loop-word.invariant c.in-Some.ensures c.in_ok-read_pid.ensures.ok c.in_ok-push.ensures.items

pub returns-in_err-read_pid-clause-err : goal.returns-in_err-read_pid-clause-err
returns-in_err-read_pid-clause-err c =
    let p = err_from_is_err_and c.from_residual.result c.from_residual.ensures.1 in
    rw (p.1, p.2) (λ e. goes_bad (words_left c.args.self.now.words) (words_left c.loop-word.self.words) (words_left c.next.new.self) c.loop-word.pids.items c.in-Some.word.now
    c.loop-word.invariant c.in-Some.ensures (c.in_err-read_pid.ensures.err e))

pub returns-clause-ok : goal.returns-clause-ok
returns-clause-ok c =
    goes_over (words_left c.args.self.now.words) (words_left c.loop-word.self.words) (words_left c.next.new.self) c.loop-word.pids.items c.from_vec.result
    c.loop-word.invariant c.in_default.ensures.0 c.in_default.ensures.1 c.from_vec.ensures
