-- A node whose parts were copied is the same node.
use Rattle.std.proofs.Common.{◌≡◌, ◌≤◌, ◌+◌, ◌*◌, ◌^◌, ◌∙◌, ℕ, true, Bool, List, length, sym, ap, subst}
use Rattle.pg_term.specs.declared.pid.Pid.{Pid}
use Rattle.pg_term.specs.declared.term.Term.{Term}
use Rattle.pg_node_ports.specs.PgGroup.declared.table.GroupTable.{Ghosts}
use Rattle.pg_node_ports.specs.PgGroup.Table.{Table}
use Rattle.pg_node_ports.specs.PgGroup.Value.{count_in}
use Rattle.pg_node_ports.specs.PgEnds.declared.processes.Processes.{Processes}
use Rattle.pg_node_ports.specs.PgEnds.Processes.{node_of}
use Rattle.pg_node_ports.specs.PgMessageTypes.Limits.{max_stamp}
use Rattle.pg_node_ports.specs.PgNodeOpens.declared.opens.Opens.{Opens}
use Rattle.pg_node_ports.specs.PgNodeOpens.Opens.{AreSame, names_of, lost_of, references_of, uses_of, stages_of}
use Rattle.pg_node_ports.specs.PgNodeOpens.Places.{name_at}
use Rattle.pg_node_ports.specs.PgStep.declared.command.OpId.{OpId}
use Rattle.pg_node_ports.specs.PgStep.Nodes.{Node}
use Rattle.pg_node_ports.specs.PgStep.State.{Use, Stage}
use Rattle.pg_node_state.specs.declared.state.NodeState.{NodeState}
use Rattle.pg_node_ports.specs.declared.port.Port.{Port}
use Rattle.pg_node_state.specs.Ports.{AreGiven, CameIn, merged_in}
use Rattle.pg_node_ports.specs.Ports.{port_commands}
use Rattle.pg_node_ports.specs.Same.{AreSamePorts}

module _ {T : Type 0} {g : Ghosts T} (one : NodeState T g) (opens : Opens) (table : T) (formation : List Bool) (processes : Processes) (ports : List Port)
    (same : AreSame one.opens opens) (contents : g.contents table ≡ g.contents one.table) (marks : formation ≡ one.formation) (node : node_of processes ≡ node_of one.processes) (alike : AreSamePorts one.ports.items ports) where
  given_too : AreGiven (CameIn (length ports) (port_commands ports)) (uses_of opens) (stages_of opens)
  given_too =
      subst (λ (st : OpId → Stage). AreGiven (CameIn (length ports) (port_commands ports)) (uses_of opens) st) same.stages
      (subst (λ (us : ℕ → Use). AreGiven (CameIn (length ports) (port_commands ports)) us (stages_of one.opens)) same.uses
      (subst (λ (cs : ℕ → ℕ). AreGiven (CameIn (length ports) cs) (uses_of one.opens) (stages_of one.opens)) alike.counts
      (subst (λ n. AreGiven (CameIn n (port_commands one.ports.items)) (uses_of one.opens) (stages_of one.opens)) alike.count one.given)))

  pub kept_too : record {
    peers : length formation + 1 ≡ length (names_of opens);
    own : node_of processes ≡ name_at (names_of opens) 0;
    forgotten : (q : Node) → lost_of opens q ≡ true → merged_in (names_of opens) formation q ≡ true;
    within : one.clock ≤ max_stamp;
    made : references_of opens ≤ 2 * one.clock;
    counted : (port : ℕ) → port_commands ports port ≤ one.clock;
    given : AreGiven (CameIn (length ports) (port_commands ports)) (uses_of opens) (stages_of opens);
    few : (name : Term) (pid : Pid) → count_in (g.contents table name) pid ≤ 2 ^ 32 + one.clock;
  }
  kept_too = record {
    peers = ap (λ (ms : List Bool). length ms + 1) marks ∙ one.peers ∙ ap (λ (ns : List Node). length ns) same.names;
    own = node ∙ one.own ∙ ap (λ (ns : List Node). name_at ns 0) same.names;
    forgotten = λ q lost. (λ i. merged_in (sym same.names i) (marks i) q) ∙ one.forgotten q (ap (λ (f : Node → Bool). f q) same.lost_peers ∙ lost);
    within = one.within;
    made = subst (λ n. n ≤ 2 * one.clock) same.references one.made;
    counted = λ port. subst (λ (f : ℕ → ℕ). f port ≤ one.clock) alike.counts (one.counted port);
    given = given_too;
    few = λ name pid. subst (λ (t : Table). count_in (t name) pid ≤ 2 ^ 32 + one.clock) (sym contents) (one.few name pid);
  }
