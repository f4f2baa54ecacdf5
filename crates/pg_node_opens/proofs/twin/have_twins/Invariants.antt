use Rattle.std.proofs.Common.{◌≡◌, drop}
use Rattle.pg_node_opens.specs.Twins.{have_twins}
use Rattle.pg_node_opens.proofs.twin.have_twins.Given as goal

-- what is left of the list says what all of it says
abbrev pub invariant-loop-command : goal.invariant-loop-command
invariant-loop-command l = have_twins (drop l.command-index l.fn.commands) l.fn.others ≡ have_twins l.fn.commands l.fn.others
