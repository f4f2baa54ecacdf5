use Rattle.pg_talk.proofs.service.serving.Serving.turn.Goals as goal

pub returns-then-took-clause-passed : goal.returns-then-took-clause-passed
returns-then-took-clause-passed g c = λ first h. c.in_ok-attended.ensures.passed first (c.in_ok-took.ensures.passed first h)

pub returns-then-is_done-clause-passed : goal.returns-then-is_done-clause-passed
returns-then-is_done-clause-passed g c = λ first h. c.in_ok-flush.ensures.passed first (c.in_ok-attended.ensures.passed first (c.in_ok-took.ensures.passed first h))

pub returns-clause-passed : goal.returns-clause-passed
returns-clause-passed g c = λ first h. c.in_ok-flush.ensures.passed first (c.in_ok-attended.ensures.passed first (c.in_ok-took.ensures.passed first h))
