-- The open commands of a node show its state.
use Rattle.std.proofs.Common.{◌≡◌, ℕ, Bool, List, None, refl, sym, ap, subst}
use Rattle.pg_term.specs.declared.pid.Pid.{Pid}
use Rattle.pg_node_ports.specs.PgGroup.declared.table.GroupTable.{Ghosts}
use Rattle.pg_node_ports.specs.PgGroup.Table.{Table}
use Rattle.pg_node_ports.specs.PgLock.Locks.{Locks}
use Rattle.pg_node_ports.specs.PgStep.Machines.Clocked.{Timed}
use Rattle.pg_node_ports.specs.PgNodeOpens.declared.opens.Opens.{Opens}
use Rattle.pg_node_ports.specs.PgNodeOpens.Opens.{Shows, lost_of, references_of, uses_of, opened_of, stages_of}
use Rattle.pg_node_ports.specs.PgStep.Nodes.{Node}
use Rattle.pg_node_ports.specs.PgStep.State.{State, new_state}
use Rattle.pg_node_state.specs.declared.state.NodeState.{NodeState}
use Rattle.pg_node_ports.specs.PgStep.declared.answer.Answer.{Answer}
use Rattle.pg_node_ports.specs.PgStep.Turns.{NodeTurn}
use Rattle.pg_node_ports.specs.PgStep.Step.{at_clock}
use Rattle.pg_node_sends.specs.declared.done.Done.{Done}
use Rattle.pg_node_sends.specs.declared.outgoing.Outgoing.{Ghosts as Listing}
use Rattle.pg_node_state.specs.States.{kept_by, Happens}

-- a state that has these open commands, and nothing else
abbrev pub shown : Opens → State
shown opens = record (new_state (λ name. None) 0) {
  lost = lost_of opens;
  references = references_of opens;
  uses = uses_of opens;
  opened = opened_of opens;
  stages = stages_of opens;
}

pub shows_it : (opens : Opens) → Shows opens (shown opens)
shows_it opens = record { references = refl; uses = refl; opened = refl; stages = refl; lost_peers = refl }

pub shows : {T : Type 0} {g : Ghosts T} (node : NodeState T g) → Shows node.opens (kept_by node)
shows node = record { references = refl; uses = refl; opened = refl; stages = refl; lost_peers = refl }

-- a state, by its parts and the open commands that show it
pub assembled : (clock : ℕ) (t : State) (opens : Opens) (table : Table) (ended : Pid → Bool) (locks : Locks) (merged : Node → Bool) (processes : ℕ) (counts : ℕ → ℕ)
    → Shows opens t → table ≡ t.table → ended ≡ t.ended → locks ≡ t.locks → merged ≡ t.merged → processes ≡ t.processes → counts ≡ t.counts
    → ◌≡◌ {A = Timed State} (record {
      clock = clock;
      state = record {
        table = table;
        ended = ended;
        locks = locks;
        merged = merged;
        lost = lost_of opens;
        references = references_of opens;
        uses = uses_of opens;
        processes = processes;
        opened = opened_of opens;
        stages = stages_of opens;
        counts = counts;
      };
    }) (record { clock = clock; state = t })
assembled clock t opens table ended locks merged processes counts h e1 e2 e3 e4 e5 e6 = λ i. record {
  clock = clock;
  state = record {
    table = e1 i;
    ended = e2 i;
    locks = e3 i;
    merged = e4 i;
    lost = sym h.lost_peers i;
    references = sym h.references i;
    uses = sym h.uses i;
    processes = e5 i;
    opened = sym h.opened i;
    stages = sym h.stages i;
    counts = e6 i;
  };
}

-- the same without the clock
pub assembled_state : (t : State) (opens : Opens) (table : Table) (ended : Pid → Bool) (locks : Locks) (merged : Node → Bool) (processes : ℕ) (counts : ℕ → ℕ)
    → Shows opens t → table ≡ t.table → ended ≡ t.ended → locks ≡ t.locks → merged ≡ t.merged → processes ≡ t.processes → counts ≡ t.counts
    → ◌≡◌ {A = State} (record {
      table = table;
      ended = ended;
      locks = locks;
      merged = merged;
      lost = lost_of opens;
      references = references_of opens;
      uses = uses_of opens;
      processes = processes;
      opened = opened_of opens;
      stages = stages_of opens;
      counts = counts;
    }) t
assembled_state t opens table ended locks merged processes counts h e1 e2 e3 e4 e5 e6 = ap (λ (x : Timed State). x.state) (assembled 0 t opens table ended locks merged processes counts h e1 e2 e3 e4 e5 e6)

-- a turn of the same nodes
pub happens_as : {S : Type 0} {h : Listing S} (names names1 : List Node) (clock : ℕ) (t t1 : NodeTurn) (done : Done S h) (s : Timed State) (before after : ℕ → List Answer) → names1 ≡ names → t1 ≡ t
    → Happens names1 (at_clock clock t1) done s before after → Happens names (at_clock clock t) done s before after
happens_as names names1 clock t t1 done s before after e f h =
    subst (λ (u : NodeTurn). Happens names (at_clock clock u) done s before after) f (subst (λ (ns : List Node). Happens ns (at_clock clock t1) done s before after) e h)
