-- What came of a command, once its turn is known.
use Rattle.std.proofs.Common.{◌≡◌, ◌<◌, ◌≤◌, ◌+◌, ◌∙◌, ℕ, Bool, true, false, not, cond, drop}
use Rattle.std.proofs.Common.{List, Option, Some, None, Result, Ok, Err, refl, sym, ap, subst}
use Rattle.std.specs.Option.{is_some}
use Rattle.std.specs.Prelude.{IsOk}
use Rattle.std.proofs.lemmas.Bool.{le-leb, lt-ltb}
use Rattle.pg_node_ports.specs.PgEnds.declared.fault.EndFault.{EndFault}
use Rattle.pg_node_ports.specs.PgEnds.declared.fault.EndFault.TheVariants as end
use Rattle.pg_node_ports.specs.PgEnds.Numbers.{is_among}
use Rattle.pg_node_ports.specs.PgEnds.Processes.{made_of, finish_of}
use Rattle.pg_node_ports.specs.PgGroup.declared.table.GroupTable.{Ghosts}
use Rattle.pg_node_ports.specs.PgGroup.declared.update.Update.{Update}
use Rattle.pg_node_ports.specs.PgGroup.declared.update.Update.TheVariants as update
use Rattle.pg_node_ports.specs.PgGroup.Ended.{ended_of}
use Rattle.pg_node_ports.specs.PgGroup.Value.{name_of}
use Rattle.pg_node_ports.specs.PgMessageTypes.Name.{is_name}
use Rattle.pg_node_ports.specs.PgNodeOpens.Opens.{lost_of}
use Rattle.pg_node_ports.specs.PgNodeOpens.Places.{name_at}
use Rattle.pg_term.specs.declared.pid.Pid.{Pid}
use Rattle.pg_term.specs.Same.{same_atom}
use Rattle.pg_node_ports.specs.PgStep.Machines.Clocked.{Timed}
use Rattle.pg_node_ports.specs.PgStep.declared.answer.Answer.{Answer}
use Rattle.pg_node_ports.specs.PgStep.declared.command.Command.{Command}
use Rattle.pg_node_ports.specs.PgStep.declared.command.Command.TheVariants.{Create, Delete, Join, Leave, Make, Finish}
use Rattle.pg_node_ports.specs.PgStep.declared.command.Command.TheVariants.{Members, LocalMembers, WhichGroups, Closest}
use Rattle.pg_node_ports.specs.PgStep.declared.command.OpId.{OpId}
use Rattle.pg_node_ports.specs.PgStep.declared.command_fault.CommandFault.{CommandFault}
use Rattle.pg_node_ports.specs.PgStep.declared.command_fault.CommandFault.TheVariants.{NameTooLarge, ForeignPid}
use Rattle.pg_node_ports.specs.PgStep.declared.command_fault.CommandFault.TheVariants.{NotFormed, NotMade, AlreadyEnded}
use Rattle.pg_node_ports.specs.PgStep.declared.refusal.Refusal.TheVariants as refusal
use Rattle.pg_node_ports.specs.PgStep.Nodes.{Node, Nodes}
use Rattle.pg_node_ports.specs.PgStep.State.{State, live_nodes, formed}
use Rattle.pg_node_ports.specs.PgStep.State.Response.{Read}
use Rattle.pg_node_ports.specs.PgStep.StepLaws.{is_query}
use Rattle.pg_node_ports.specs.PgStep.Turns.{NodeTurn}
use Rattle.pg_node_ports.specs.PgStep.Commands.{command, fault_of, change_of, change, carried_out, answer}
use Rattle.pg_node_ports.specs.PgStep.Step.{Issue, CLOCK_LIMIT, at_clock, timed, step_act}
use Rattle.pg_node_sends.specs.declared.done.Done.{Done}
use Rattle.pg_node_sends.specs.declared.outgoing.Outgoing.{Ghosts as Listing}
use Rattle.pg_node_state.specs.declared.state.NodeState.{NodeState}
use Rattle.pg_node_state.specs.Ports.{merged_in}
use Rattle.pg_node_state.specs.States.{names_of, nodes_of, live_of, kept_by, Happens, Comes}
use Rattle.pg_node_state.proofs.Formed.{all_left}
use Rattle.pg_node_sends.proofs.Updates.{update_is}

-- a command at a port that is there, within the limit of the clock
pub command_comes : {S : Type 0} {h : Listing S} (m : Nodes) (ports port : ℕ) (c : Command) (s : Timed State) → port < ports → s.clock + 1 ≤ CLOCK_LIMIT
    → (names : List Node) (done : Done S h) (s1 : Timed State) (before after : ℕ → List Answer)
    → Happens names (at_clock (s.clock + 1) (command m (live_nodes m s.state) port c s.state)) done s1 before after
    → Comes names (step_act m ports (Issue port c) s) (Ok done) s1 before after
command_comes m ports port c s place within names done s1 before after happened = subst (λ r. Comes names r (Ok done) s1 before after) (sym is) happened
  where
    turn : NodeTurn
    turn = command m (live_nodes m s.state) port c s.state

    is : step_act m ports (Issue port c) s ≡ Ok (at_clock (s.clock + 1) turn)
    is = ap (λ b. timed (s.clock + 1) (cond b (Ok turn) (Err refusal.NoSuchPlace))) (lt-ltb port ports place)
        ∙ ap (λ b. cond b (Ok (at_clock (s.clock + 1) turn)) (Err refusal.ClockFull)) (le-leb (s.clock + 1) CLOCK_LIMIT within)

-- a command for a change is carried out as that change
pub changes : (c : Command) → is_some (change_of c) ≡ true → (update : Update) × (change_of c ≡ Some update) × ((m : Nodes) (op : OpId) (s : State) → change m op update s ≡ carried_out m op c s)
changes (Create name) e = (update.Create name, refl, λ m op s. refl)
changes (Delete name) e = (update.Delete name, refl, λ m op s. refl)
changes (Join name pid) e = (update.Join name pid, refl, λ m op s. refl)
changes (Leave name pid) e = (update.Leave name pid, refl, λ m op s. refl)
changes Make e = absurd (cc)
changes (Finish pid) e = absurd (cc)
changes (Members name) e = absurd (cc)
changes (LocalMembers name) e = absurd (cc)
changes WhichGroups e = absurd (cc)
changes (Closest name word) e = absurd (cc)

-- the name in a change that is not refused can be sent
pub named_by : (m : Nodes) (s : State) (c : Command) → fault_of m s c ≡ None → (told : Update) → change_of c ≡ Some told → is_name (name_of told) ≡ true
named_by m s c none = by_command c none
  where
    fits : (b : Bool) (later : Option CommandFault) → cond (not b) (Some NameTooLarge) later ≡ None → b ≡ true
    fits true later e = refl
    fits false later e = absurd (cc)

    of : (asked told : Update) → Some asked ≡ Some told → is_name (name_of asked) ≡ true → is_name (name_of told) ≡ true
    of asked told e named = subst (λ (u : Update). is_name (name_of u) ≡ true) (update_is asked told e) named

    by_command : (c : Command) → fault_of m s c ≡ None → (told : Update) → change_of c ≡ Some told → is_name (name_of told) ≡ true
    by_command (Create name) none told e = of (update.Create name) told e (fits (is_name name) _ none)
    by_command (Delete name) none told e = of (update.Delete name) told e (fits (is_name name) _ none)
    by_command (Join name pid) none told e = of (update.Join name pid) told e (fits (is_name name) _ none)
    by_command (Leave name pid) none told e = of (update.Leave name pid) told e (fits (is_name name) _ none)
    by_command Make none told e = absurd (cc)
    by_command (Finish pid) none told e = absurd (cc)
    by_command (Members name) none told e = absurd (cc)
    by_command (LocalMembers name) none told e = absurd (cc)
    by_command WhichGroups none told e = absurd (cc)
    by_command (Closest name word) none told e = absurd (cc)

-- a query is answered from the table as it is
pub reads_table : (c : Command) → is_query c ≡ true → (m : Nodes) (op : OpId) (s : State) → answer op (Read c s.table) s ≡ carried_out m op c s
reads_table (Create name) e = absurd (cc)
reads_table (Delete name) e = absurd (cc)
reads_table (Join name pid) e = absurd (cc)
reads_table (Leave name pid) e = absurd (cc)
reads_table Make e = absurd (cc)
reads_table (Finish pid) e = absurd (cc)
reads_table (Members name) e = λ m op s. refl
reads_table (LocalMembers name) e = λ m op s. refl
reads_table WhichGroups e = λ m op s. refl
reads_table (Closest name word) e = λ m op s. refl

-- ---- ends that are refused

-- whether a node is formed is the same of the whole set and of those that count, as the lost are marked
formed_whole : {T : Type 0} {g : Ghosts T} (node : NodeState T g) → formed (nodes_of node) (kept_by node) ≡ formed (live_of node) (kept_by node)
formed_whole node = all_left (lost_of node.opens) (merged_in (names_of node) node.formation) (drop 1 (names_of node)) node.forgotten

-- the faults of an end, where it is known whose the process is, whether the node is formed, and what its processes are
abbrev refused_end : (own formed made ended : Bool) → Option CommandFault
refused_end own formed made ended = cond (not own) (Some ForeignPid) (cond (not formed) (Some NotFormed) (cond (not made) (Some NotMade) (cond ended (Some AlreadyEnded) None)))

module _ {T : Type 0} {g : Ghosts T} (node : NodeState T g) (pid : Pid) (told : Result (Unit {0}) EndFault) (is : told ≡ finish_of node.processes pid (ended_of node.ended)) where
  abbrev own : Bool
  own = same_atom pid.node (name_at (names_of node) 0)

  abbrev made : Bool
  made = is_among (made_of node.processes) pid

  abbrev ended : Bool
  ended = ended_of node.ended pid

  tells : told ≡ cond own (cond made (cond ended (Err end.AlreadyEnded) (Ok tt)) (Err end.NotMade)) (Err end.ForeignPid)
  tells = is ∙ (λ i. cond (same_atom pid.node (node.own i)) (cond made (cond ended (Err end.AlreadyEnded) (Ok tt)) (Err end.NotMade)) (Err end.ForeignPid))

  refuses : (is_formed : Bool) → is_formed ≡ formed (live_of node) (kept_by node) → refused_end own is_formed made ended ≡ fault_of (nodes_of node) (kept_by node) (Finish pid)
  refuses is_formed same = ap (λ b. refused_end own b made ended) (same ∙ sym (formed_whole node))

  pub end_unformed : (is_formed : Bool) → is_formed ≡ formed (live_of node) (kept_by node) → is_formed ≡ false → (told ≡ Err end.ForeignPid → ⊥) → Some NotFormed ≡ fault_of (nodes_of node) (kept_by node) (Finish pid)
  end_unformed is_formed same unformed apart = go own tells ∙ (ap (λ b. refused_end own b made ended) (sym unformed) ∙ refuses is_formed same)
    where
      go : (b : Bool) → told ≡ cond b (cond made (cond ended (Err end.AlreadyEnded) (Ok tt)) (Err end.NotMade)) (Err end.ForeignPid) → Some NotFormed ≡ refused_end b false made ended
      go true e = refl
      go false e = absurd (apart e)

  pub end_refused : (is_formed : Bool) (fault : Option CommandFault) → is_formed ≡ formed (live_of node) (kept_by node) → is_formed ≡ true → (told ≡ Err end.ForeignPid → ⊥)
      → (told ≡ Err end.NotMade → fault ≡ Some NotMade) → (told ≡ Err end.AlreadyEnded → fault ≡ Some AlreadyEnded) → (IsOk told → fault ≡ None)
      → fault ≡ fault_of (nodes_of node) (kept_by node) (Finish pid)
  end_refused is_formed fault same is_so apart unmade again none = go own made ended tells ∙ (ap (λ b. refused_end own b made ended) (sym is_so) ∙ refuses is_formed same)
    where
      go : (own made ended : Bool) → told ≡ cond own (cond made (cond ended (Err end.AlreadyEnded) (Ok tt)) (Err end.NotMade)) (Err end.ForeignPid) → fault ≡ refused_end own true made ended
      go false is_made has_ended e = absurd (apart e)
      go true false has_ended e = unmade e
      go true true true e = again e
      go true true false e = none (subst IsOk (sym e) refl)
