use Rattle.std.proofs.Common.{inl}
use Rattle.pg_program.proofs.node.config_of.Goals as goal

pub returns-in-Ok-clause-given : goal.returns-in-Ok-clause-given
returns-in-Ok-clause-given c = inl (c.in-Ok.config, c.in-Ok.ensures, c.checked.ensures)
