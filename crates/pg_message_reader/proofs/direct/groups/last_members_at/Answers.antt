use Rattle.pg_message_reader.proofs.direct.groups.last_members_at.Goals as goal

pub returns-in-Ok : goal.returns-in-Ok
returns-in-Ok c = (c.in_ok-members.end.now, c.in_ok-members.ensures 57, c.in-Ok.ensures.found)
