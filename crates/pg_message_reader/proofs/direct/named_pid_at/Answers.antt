use Rattle.pg_message_reader.proofs.direct.named_pid_at.Goals as goal

pub returns-in-Ok-clause-terms : goal.returns-in-Ok-clause-terms
returns-in-Ok-clause-terms c = (c.in_ok-name.rest.now, c.in_ok-name.ensures.term, c.in-Ok.ensures 60)
