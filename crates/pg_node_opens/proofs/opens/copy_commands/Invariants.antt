use Rattle.std.proofs.Common.{◌≡◌, take}
use Rattle.pg_node_opens.proofs.opens.copy_commands.Given as goal

-- the commands so far
abbrev pub invariant-loop-command : goal.invariant-loop-command
invariant-loop-command l = l.copies.items ≡ take l.command-index l.commands.items
