-- Commands that are refused: what a name is found to be, and the rest computes.
use Rattle.std.proofs.Common.{◌≡◌, ℕ, Bool, true, false, not, cond, Some, None, Option, Ok, refl, ap}
use Rattle.pg_term.specs.declared.term.Term.{Term}
use Rattle.pg_laws.specs.PgGroup.Functions.{upd}
use Rattle.pg_laws.specs.PgMessageTypes.Name.{is_name}
use Rattle.pg_laws.specs.PgStep.declared.command.Command.{Command}
use Rattle.pg_laws.specs.PgStep.declared.command.Command.TheVariants as command
use Rattle.pg_laws.specs.PgStep.declared.command_fault.CommandFault.{CommandFault}
use Rattle.pg_laws.specs.PgStep.declared.command_fault.CommandFault.TheVariants.{NameTooLarge, ForeignPid}
use Rattle.pg_laws.specs.PgStep.Commands.{command_by, count_command, next_op}
use Rattle.pg_laws.specs.PgStep.State.{State, Response, live_nodes}
use Rattle.pg_laws.specs.PgStep.Turns.{and_then}
use Rattle.pg_laws_examples.specs.Examples.{a1, b1, c1, busy_node, keeping_node}
use Rattle.pg_laws_examples.specs.RefusedCommands.{at_a, answer_in, answer_to, opened_in, LargeNames, ForeignMembers}
use Rattle.pg_laws_examples.specs.RefusedCommands.{RefusedEnds, ProcessesMade, LookedFor, OpenCommands}

-- the answer to a command whose name is found to be too large or not, and which has this fault else
abbrev named_as : Bool → Option CommandFault → State → Command → Option Response
named_as fine fault s c = answer_in (Ok (and_then (count_command 0 s) (command_by (cond (not fine) (Some NameTooLarge) fault) (live_nodes at_a s) (next_op 0 s) c)))

fine : (name : Term) → is_name name ≡ true → (fault : Option CommandFault) (s : State) (c : Command) → named_as (is_name name) fault s c ≡ named_as true fault s c
fine name named fault s c = ap (λ b. named_as b fault s c) named

large : (name : Term) → is_name name ≡ false → (fault : Option CommandFault) (s : State) (c : Command) → named_as (is_name name) fault s c ≡ named_as false fault s c
large name named fault s c = ap (λ b. named_as b fault s c) named

pub large_names : (name : Term) → is_name name ≡ false → LargeNames name
large_names name named = record {
  create = large name named None (busy_node true 0 0) (command.Create name);
  delete = large name named None (busy_node true 0 0) (command.Delete name);
  join = large name named None (busy_node true 0 0) (command.Join name a1);
  join_foreign = large name named (Some ForeignPid) (busy_node true 0 0) (command.Join name c1);
  leave = large name named None (busy_node true 0 0) (command.Leave name a1);
  members = large name named None (busy_node true 0 0) (command.Members name);
  local_members = large name named None (busy_node true 0 0) (command.LocalMembers name);
  closest = large name named None (busy_node true 0 0) (command.Closest name 0);
}

pub foreign_members : (g : Term) → is_name g ≡ true → ForeignMembers g
foreign_members g named = record {
  join = fine g named (Some ForeignPid) (busy_node true 0 0) (command.Join g c1);
  leave = fine g named (Some ForeignPid) (busy_node true 0 0) (command.Leave g c1);
  join_peer = fine g named None (busy_node true 0 0) (command.Join g b1);
}

pub refused_ends : RefusedEnds
refused_ends = record {
  foreign = refl;
  unformed = refl;
  unformed_unmade = refl;
  unmade = refl;
  number_zero = refl;
  number_two = refl;
  ended_unmade = refl;
  again = refl;
  once = refl;
}

pub process_limit : ProcessesMade
process_limit = record { last = refl; none_left = refl }

pub looked_for : (g : Term) → is_name g ≡ true → LookedFor g
unfolding upd
looked_for g named = record {
  create = fine g named None keeping_node (command.Create g);
  join = fine g named None keeping_node (command.Join g a1);
  leave = fine g named None keeping_node (command.Leave g a1);
  create_absent = fine g named None (busy_node true 0 0) (command.Create g);
  delete_absent = fine g named None (busy_node true 0 0) (command.Delete g);
  join_absent = fine g named None (busy_node true 0 0) (command.Join g a1);
  leave_absent = fine g named None (busy_node true 0 0) (command.Leave g a1);
}

-- what a command that is taken leaves open
abbrev opened_as : Bool → (g : Term) → ℕ
opened_as fine g = opened_in (Ok (and_then (count_command 0 (busy_node true 0 255)) (command_by (cond (not fine) (Some NameTooLarge) None) (live_nodes at_a (busy_node true 0 255)) (next_op 0 (busy_node true 0 255)) (command.Create g))))

pub busy_node_refuses : (g : Term) → is_name g ≡ true → OpenCommands g
unfolding upd
busy_node_refuses g named = record {
  taken = fine g named None (busy_node true 0 255) (command.Create g);
  opened = ap (λ b. opened_as b g) named;
  full = fine g named None (busy_node true 0 256) (command.Create g);
  full_delete = fine g named None (busy_node true 0 256) (command.Delete g);
  foreign_first = fine g named (Some ForeignPid) (busy_node true 0 256) (command.Join g c1);
  looked = fine g named None (busy_node true 0 256) (command.Join g a1);
  closed = refl;
}
