-- How the examples of losses among three nodes begin: all have exchanged their tables, and a asks c alone for the lock of a new group.
use Rattle.std.proofs.Common.{◌≡◌, true, List, [], ◌∷◌, ◌++◌, refl, ap}
use Rattle.pg_laws.specs.PgGroup.Functions.{upd}
use Rattle.pg_laws.specs.PgGroup.declared.update.Update.{Update}
use Rattle.pg_laws.specs.PgGroup.declared.update.Update.TheVariants as update
use Rattle.pg_term.specs.declared.term.Term.{Term}
use Rattle.pg_laws.specs.PgMessageTypes.Name.{is_name}
use Rattle.pg_laws.specs.PgStep.Machines.Machine.{Take, Do}
use Rattle.pg_laws.specs.PgStep.declared.command.Command.TheVariants as command
use Rattle.pg_laws.specs.PgStep.Config.{nodes_at, groups_at}
use Rattle.pg_laws.specs.PgStep.Nodes.{Nodes}
use Rattle.pg_laws.specs.PgStep.Peers.{exchange}
use Rattle.pg_laws.specs.PgStep.Step.{Issue}
use Rattle.pg_laws_examples.specs.Examples.{a, b, c, op_at, three_nodes}
use Rattle.pg_laws_examples.specs.LossExamples.{LosingFrameWorld, losing_start}
use Rattle.pg_laws_examples.proofs.Trace.{asks_peer, named_as, opens}
use Rattle.pg_laws_examples.proofs.LossTrace.{Move, Makes, AllMade, walked, and_more}

abbrev pub at_a : Nodes
at_a = nodes_at three_nodes 0

abbrev pub at_b : Nodes
at_b = nodes_at three_nodes 1

abbrev pub at_c : Nodes
at_c = nodes_at three_nodes 2

-- each takes the exchanges of both others
abbrev pub meetings : List Move
meetings =
    Makes (Take 1 0) (exchange a (groups_at three_nodes 0))
    ∷ Makes (Take 2 0) (exchange a (groups_at three_nodes 0))
    ∷ Makes (Take 0 1) (exchange b (groups_at three_nodes 1))
    ∷ Makes (Take 2 1) (exchange b (groups_at three_nodes 1))
    ∷ Makes (Take 0 2) (exchange c (groups_at three_nodes 2))
    ∷ Makes (Take 1 2) (exchange c (groups_at three_nodes 2))
    ∷ []

abbrev pub met : LosingFrameWorld
met = walked three_nodes (losing_start three_nodes) meetings

they_meet : AllMade three_nodes (losing_start three_nodes) meetings
unfolding upd
they_meet = (refl, (refl, (refl, (refl, (refl, (refl, tt))))))

module _ (g : Term) where
  abbrev pub creates : Update
  creates = update.Create g

  -- a create comes in at a, and asks the greatest
  abbrev asking : List Move
  asking = Makes (Do 0 (Issue 0 (command.Create g))) (opens (op_at 1) creates (asks_peer true at_a (op_at 1) creates 1)) ∷ []

  abbrev pub beginning : List Move
  beginning = meetings ++ asking

  abbrev pub begun : LosingFrameWorld
  begun = walked three_nodes (losing_start three_nodes) beginning

  pub they_begin : is_name g ≡ true → AllMade three_nodes (losing_start three_nodes) beginning
  unfolding upd
  they_begin named = and_more three_nodes meetings asking (losing_start three_nodes) they_meet
      (ap (λ yes. named_as yes at_a (op_at 1) (command.Create g) (met.world.node 0)) named, tt)
