use Rattle.std.proofs.Common.{◌≡◌, ◌<◌, ◌≤◌, ℕ, length, Some}
use Rattle.std.specs.Prelude.{slice_get}
use Rattle.pg_node_opens.specs.declared.command.OpenCommand.{OpenCommand}
use Rattle.pg_node_opens.specs.Commands.{Forgets}
use Rattle.pg_node_opens.proofs.opens.forget.Given as goal

abbrev pub invariant-loop-k : goal.invariant-loop-k
invariant-loop-k l = record {
  len : length l.commands.items ≡ length l.initial.commands.items;
  done : (j : ℕ) (old new : OpenCommand) → j < l.k → slice_get l.initial.commands.items j ≡ Some old → slice_get l.commands.items j ≡ Some new → Forgets l.place old new;
  left : (j : ℕ) → l.k ≤ j → slice_get l.commands.items j ≡ slice_get l.initial.commands.items j;
}
