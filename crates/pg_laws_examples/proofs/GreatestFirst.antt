-- The greatest of three is asked alone.
use Rattle.std.proofs.Common.{◌≡◌, true, Some, refl, ap, sym, subst, ℕ, List, [], ◌∷◌, take, drop}
use Rattle.pg_laws.specs.PgGroup.Functions.{upd}
use Rattle.pg_term.specs.declared.term.Term.{Term}
use Rattle.pg_term.specs.Same.{same_term}
use Rattle.pg_laws.specs.PgMessageTypes.Name.{is_name}
use Rattle.pg_laws.specs.PgGroup.declared.update.Update.{Update}
use Rattle.pg_laws.specs.PgGroup.declared.update.Update.TheVariants as update
use Rattle.pg_laws.specs.PgStep.Machines.Machine.{Take, Do}
use Rattle.pg_laws.specs.PgStep.Machines.Runs.{Leads}
use Rattle.pg_laws.specs.PgStep.declared.command.Command.TheVariants as command
use Rattle.pg_laws.specs.PgStep.FrameMachine.{machine_of, FrameWorld}
use Rattle.pg_laws.specs.PgStep.Config.{nodes_at, groups_at}
use Rattle.pg_laws.specs.PgStep.Nodes.{Nodes}
use Rattle.pg_laws.specs.PgStep.Step.{Issue}
use Rattle.pg_laws.specs.PgStep.Turns.{NodeTurn}
use Rattle.pg_laws.specs.PgStep.Peers.{exchange}
use Rattle.pg_laws_examples.specs.Examples.{start, behind, AllHappen, a, b, c, op_at, three_nodes, first_request}
use Rattle.pg_laws.proofs.PgStep.Machines.Sequences.{run_there}
use Rattle.pg_laws_examples.proofs.Trace.{Move, AllMake, walked, walk, part, asks_peer, named_as, opens}
use Rattle.pg_laws_examples.specs.Outcomes.{GreatestFirst}

module _ (g : Term) (named : is_name g ≡ true) (same : same_term g g ≡ true) where
  abbrev at_a : Nodes
  at_a = nodes_at three_nodes 0

  abbrev at_b : Nodes
  at_b = nodes_at three_nodes 1

  abbrev at_c : Nodes
  at_c = nodes_at three_nodes 2

  abbrev creates : Update
  creates = update.Create g

  abbrev moves : List Move
  moves =
      -- b takes the exchange of a
      (Take 1 0, exchange a (groups_at three_nodes 0))
      -- c takes the exchange of a
      ∷ (Take 2 0, exchange a (groups_at three_nodes 0))
      -- a takes the exchange of b
      ∷ (Take 0 1, exchange b (groups_at three_nodes 1))
      -- c takes the exchange of b
      ∷ (Take 2 1, exchange b (groups_at three_nodes 1))
      -- a takes the exchange of c
      ∷ (Take 0 2, exchange c (groups_at three_nodes 2))
      -- b takes the exchange of c
      ∷ (Take 1 2, exchange c (groups_at three_nodes 2))
      -- a create comes in at a
      ∷ (Do 0 (Issue 0 (command.Create g)), opens (op_at 1) creates (asks_peer true at_a (op_at 1) creates 1))
      ∷ []

  -- the world after so many of them
  abbrev at : ℕ → FrameWorld
  at n = walked three_nodes (start three_nodes) (take n moves)

  made : AllMake three_nodes (start three_nodes) moves
  unfolding upd
  made = ((
    refl,
    (
      refl,
      (
        refl,
        (
          refl,
          (
            refl,
            (
              refl,
              ((ap (λ yes. named_as yes at_a (op_at 1) (command.Create g) ((at 6).node 0)) named), tt),
            ),
          ),
        ),
      ),
    ),
  ))

  leads0 : Leads (machine_of three_nodes) (at 0) (first_request g) (at 7)
  leads0 = walk three_nodes moves (start three_nodes) refl made

  there0 : behind three_nodes (at 0) (first_request g) ≡ (at 7)
  unfolding behind
  there0 = run_there (machine_of three_nodes) (first_request g) (at 0) (at 7) leads0

  pub happen : AllHappen three_nodes (start three_nodes) (first_request g)
  unfolding AllHappen
  happen = subst (Leads (machine_of three_nodes) (at 0) (first_request g)) (sym there0) leads0

  pub outcome : GreatestFirst g (behind three_nodes (start three_nodes) (first_request g))
  unfolding upd
  outcome = (subst (λ x. GreatestFirst g x) (sym there0) (record {
    none_to_b = refl;
    one_to_c = refl;
  }))
