-- Nodes whose parts are the same are the same, and the other way round.
use Rattle.std.proofs.Common.{◌≡◌, ◌<◌, ◌+◌, ◌∙◌, ℕ, Bool, false, List, get_or, length, sym, ap, arith}
use Rattle.std.specs.List.{IsDistinct}
use Rattle.std.proofs.lemmas.List.{same_lists, get_or_default}
use Rattle.pg_term.specs.Same.{same_atom}
use Rattle.pg_node_ports.specs.PgGroup.declared.table.GroupTable.{Ghosts}
use Rattle.pg_node_ports.specs.PgStep.Machines.Clocked.{Timed}
use Rattle.pg_node_ports.specs.PgNodeOpens.Places.{name_at}
use Rattle.pg_node_ports.specs.PgStep.Nodes.{Node}
use Rattle.pg_node_ports.specs.PgStep.State.{State}
use Rattle.pg_node_state.specs.declared.state.NodeState.{NodeState}
use Rattle.pg_node_state.specs.Ports.{merged_in}
use Rattle.pg_node_state.specs.Same.{AreSameNodes, AreAlike, AreSameBeside}
use Rattle.pg_node_state.specs.States.{names_of}
use Rattle.pg_node_state.proofs.Merged.{merged_at}

-- marks by which the same peers are merged are the same
pub marks_by_merged : (names : List Node) (marks others : List Bool) → IsDistinct same_atom names → length marks + 1 ≡ length names → length others + 1 ≡ length names
    → merged_in names marks ≡ merged_in names others → marks ≡ others
marks_by_merged names marks others apart mine theirs merged = same_lists marks others (omega (arith, mine, theirs)) (λ k d l. at k d l)
  where
    at : (k : ℕ) (d : Bool) → k < length marks → get_or marks k d ≡ get_or others k d
    at k d l = get_or_default marks k d false l ∙ (sym (merged_at names marks k apart mine (omega (arith, mine, l)))
        ∙ (ap (λ (f : Node → Bool). f (name_at names (k + 1))) merged ∙ (merged_at names others k apart theirs (omega (arith, mine, l)) ∙ get_or_default others k false d (omega (arith, mine, theirs, l)))))

module _ {T : Type 0} {g : Ghosts T} (one other : NodeState T g) where
  pub alike_forth : AreSameBeside one other → g.contents one.table ≡ g.contents other.table → AreAlike one other
  alike_forth beside table = record {
    names = beside.opens.names;
    kept = λ i. record {
      table = table i;
      ended = beside.ended i;
      locks = beside.locks i;
      merged = merged_in (beside.opens.names i) (beside.formation i);
      lost = beside.opens.lost_peers i;
      references = beside.opens.references i;
      uses = beside.opens.uses i;
      processes = beside.processes i;
      opened = beside.opens.opened i;
      stages = beside.opens.stages i;
      counts = beside.ports.counts i;
    };
    ports = beside.ports.count;
    answers = beside.ports.answers;
  }

  pub same_table : AreAlike one other → g.contents one.table ≡ g.contents other.table
  same_table h = ap (λ (s : State). s.table) h.kept

  pub alike_back : AreAlike one other → AreSameBeside one other
  alike_back h = record {
    processes = ap (λ (s : State). s.processes) h.kept;
    ended = ap (λ (s : State). s.ended) h.kept;
    locks = ap (λ (s : State). s.locks) h.kept;
    formation = marks_by_merged (names_of one) one.formation other.formation one.opens.apart one.peers
        (other.peers ∙ ap (λ (ns : List Node). length ns) (sym h.names))
        (ap (λ (s : State). s.merged) h.kept ∙ ap (λ (ns : List Node). merged_in ns other.formation) (sym h.names));
    opens = record {
      names = h.names;
      lost_peers = ap (λ (s : State). s.lost) h.kept;
      references = ap (λ (s : State). s.references) h.kept;
      uses = ap (λ (s : State). s.uses) h.kept;
      opened = ap (λ (s : State). s.opened) h.kept;
      stages = ap (λ (s : State). s.stages) h.kept;
    };
    ports = record {
      count = h.ports;
      counts = ap (λ (s : State). s.counts) h.kept;
      answers = h.answers;
    };
  }

  -- with the clock besides
  pub same_of_alike : one.clock ≡ other.clock → AreAlike one other → AreSameNodes one other
  same_of_alike clock h = record {
    names = h.names;
    state = λ i. record { clock = clock i; state = h.kept i };
    ports = h.ports;
    answers = h.answers;
  }

  pub alike_of_same : AreSameNodes one other → AreAlike one other
  alike_of_same h = record {
    names = h.names;
    kept = ap (λ (s : Timed State). s.state) h.state;
    ports = h.ports;
    answers = h.answers;
  }

  pub clock_of_same : AreSameNodes one other → one.clock ≡ other.clock
  clock_of_same h = ap (λ (s : Timed State). s.clock) h.state
