use Rattle.std.proofs.Common.{ap, refl, ◌∙◌}
use Rattle.pg_talk.specs.Written.{is_full_end}
use Rattle.pg_talk.proofs.Turns.{goes_passed_on, goes_then}
use Rattle.pg_talk.proofs.service.serving.Serving.close_some.Goals as goal

pub give_up_all-requires : goal.give_up_all-requires
give_up_all-requires g c = ap is_full_end c.attend_all.ensures.end ∙ c.requires

pub returns-then-are_idle-clause-goes : goal.returns-then-are_idle-clause-goes
returns-then-are_idle-clause-goes g c =
    let contents = g.W.Sink.contents in
    goes_passed_on c.args.self.now c.attend_all.new.self _ (contents c.args.writer.now) (contents c.attend_all.new.writer) (contents c.flush.new.writer) c.in_ok-attend_all.ensures.goes refl refl c.in_ok-flush.ensures.bytes

pub returns-then-is_over-clause-goes : goal.returns-then-is_over-clause-goes
returns-then-is_over-clause-goes g c =
    let contents = g.W.Sink.contents in
    let mid = record c.attend_all.new.self { outlet = c.flush.new.self } in
    goes_then c.args.self.now mid c.give_up_all.new.self (contents c.args.writer.now) (contents c.flush.new.writer) (contents c.give_up_all.new.writer)
    (goes_passed_on c.args.self.now c.attend_all.new.self mid (contents c.args.writer.now) (contents c.attend_all.new.writer) (contents c.flush.new.writer) c.in_ok-attend_all.ensures.goes refl refl c.in_ok-flush.ensures.bytes)
    c.in_ok-give_up_all.ensures.goes

pub returns-clause-goes : goal.returns-clause-goes
returns-clause-goes g c =
    let contents = g.W.Sink.contents in
    goes_passed_on c.args.self.now c.attend_all.new.self _ (contents c.args.writer.now) (contents c.attend_all.new.writer) (contents c.flush.new.writer) c.in_ok-attend_all.ensures.goes refl refl c.in_ok-flush.ensures.bytes

pub returns-then-are_idle-clause-passed : goal.returns-then-are_idle-clause-passed
returns-then-are_idle-clause-passed g c = λ first h. c.in_ok-flush.ensures.passed first (c.in_ok-attend_all.ensures.passed first h)

pub returns-then-is_over-clause-passed : goal.returns-then-is_over-clause-passed
returns-then-is_over-clause-passed g c = λ first h. c.in_ok-give_up_all.ensures.passed first (c.in_ok-flush.ensures.passed first (c.in_ok-attend_all.ensures.passed first h))

pub returns-clause-passed : goal.returns-clause-passed
returns-clause-passed g c = λ first h. c.in_ok-flush.ensures.passed first (c.in_ok-attend_all.ensures.passed first h)
