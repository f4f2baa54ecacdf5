use Rattle.pg_talk.proofs.Turns.{on_ok}
use Rattle.pg_talk.proofs.service.outlet.Outlet.put_reply.Goals as goal

pub returns-in-Ok-Some-clause-passed : goal.returns-in-Ok-Some-clause-passed
returns-in-Ok-Some-clause-passed g c = on_ok c.put_refused.result _ _ c.put_refused.ensures.passed (λ passed first h. passed first (c.in-Ok-Some.ensures.passed first h))
