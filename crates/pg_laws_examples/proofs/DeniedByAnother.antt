-- A node is denied the lock that it has granted itself.
use Rattle.std.proofs.Common.{◌≡◌, Bool, true, false, ◌++◌, Some, None, Ok, refl}
use Rattle.std.proofs.Common.{ap, sym, subst, ℕ, List, [], ◌∷◌, take, drop}
use Rattle.pg_laws.specs.PgGroup.Functions.{upd}
use Rattle.pg_term.specs.declared.term.Term.{Term}
use Rattle.pg_term.specs.Same.{same_term, same_atom}
use Rattle.pg_laws.specs.PgMessageTypes.Name.{is_name}
use Rattle.pg_laws.specs.PgGroup.declared.update.Update.{Update}
use Rattle.pg_laws.specs.PgGroup.declared.update.Update.TheVariants as update
use Rattle.pg_laws.specs.PgRefs.Numbered.{numbered}
use Rattle.pg_laws.specs.PgLock.Locks.{is_holder}
use Rattle.pg_laws.specs.PgStep.Machines.Machine.{Take, Do}
use Rattle.pg_laws.specs.PgStep.Machines.Runs.{Leads}
use Rattle.pg_laws.specs.PgStep.declared.command.Command.TheVariants as command
use Rattle.pg_laws.specs.PgStep.FrameMachine.{machine_of, FrameWorld}
use Rattle.pg_laws.specs.PgStep.Config.{nodes_at, groups_at}
use Rattle.pg_laws.specs.PgStep.Nodes.{Node, Nodes, greatest}
use Rattle.pg_laws.specs.PgStep.State.{State, Status}
use Rattle.pg_laws.specs.PgStep.State.Status.{Yes, No}
use Rattle.pg_laws.specs.PgStep.Step.{Issue}
use Rattle.pg_laws.specs.PgStep.Turns.{NodeTurn, and_then, becomes}
use Rattle.pg_laws.specs.PgStep.Peers.{exchange}
use Rattle.pg_laws.specs.PgStep.Attempts.{count_answer}
use Rattle.pg_laws_examples.specs.Examples.{start, behind, AllHappen, a, b, c, op_at}
use Rattle.pg_laws_examples.specs.Examples.{three_nodes, granted_at_home, denied_by_b}
use Rattle.pg_laws.proofs.PgStep.Machines.Sequences.{run_there}
use Rattle.pg_laws_examples.proofs.Trace.{Move, AllMake, walked, walk, part, held_at, answers_lock, asked, give_up_as}
use Rattle.pg_laws_examples.proofs.Trace.{frees, freed, asks_peer, asks_rest, round_one, round_two, named_as, opens}
use Rattle.pg_laws_examples.specs.Outcomes.{DeniedByAnother}

module _ (g : Term) (named : is_name g ≡ true) (same : same_term g g ≡ true) where
  abbrev at_a : Nodes
  at_a = nodes_at three_nodes 0

  abbrev at_b : Nodes
  at_b = nodes_at three_nodes 1

  abbrev at_c : Nodes
  at_c = nodes_at three_nodes 2

  abbrev creates : Update
  creates = update.Create g

  -- c and a have granted, and b was asked
  abbrev waits_for_b : Node → Status
  waits_for_b = round_two true at_a (upd same_atom (round_one true at_a) c Yes)

  -- a counts that b denies, and gives the attempt up
  abbrev gives_up : Bool → State → NodeTurn
  gives_up holds s = and_then (count_answer 1 (op_at 1) creates (greatest at_a) waits_for_b b No s) (give_up_as holds at_a 1 (op_at 1) creates (upd same_atom waits_for_b b No))

  abbrev moves : List Move
  moves =
      -- a takes the exchanges of b and c
      (Take 0 1, exchange b (groups_at three_nodes 1))
      ∷ (Take 0 2, exchange c (groups_at three_nodes 2))
      -- c takes the exchanges of a and b
      ∷ (Take 2 0, exchange a (groups_at three_nodes 0))
      ∷ (Take 2 1, exchange b (groups_at three_nodes 1))
      -- a create comes in at a
      ∷ (Do 0 (Issue 0 (command.Create g)), opens (op_at 1) creates (asks_peer true at_a (op_at 1) creates 1))
      -- c grants a
      ∷ (Take 2 0, answers_lock true a (numbered a 1) g)
      -- a asks the rest, and grants itself
      ∷ (Take 0 2, asks_rest true becomes at_a (op_at 1) creates 1 (round_one true at_a) c)
      -- b takes the exchange of a
      ∷ (Take 1 0, exchange a (groups_at three_nodes 0))
      -- b denies a
      ∷ (Take 1 0, answers_lock false a (numbered a 1) g)
      -- a gives the attempt up
      ∷ (Take 0 1, gives_up true)
      -- c frees the lock of a
      ∷ (Take 2 0, frees true g)
      ∷ []

  -- the world after so many of them
  abbrev at : ℕ → FrameWorld
  at n = walked three_nodes (start three_nodes) (take n moves)

  made : AllMake three_nodes (start three_nodes) moves
  unfolding upd
  made = (
    refl,
    (
      refl,
      (
        refl,
        (
          refl,
          (
            ap (λ yes. named_as yes at_a (op_at 1) (command.Create g) ((at 4).node 0)) named,
            (
              asked at_c a (numbered a 1) g ((at 5).node 2) true refl,
              (
                refl,
                (
                  refl,
                  (
                    asked at_b a (numbered a 1) g ((at 8).node 1) false refl,
                    (
                      ap (λ holds. Ok (gives_up holds ((at 9).node 0))) (ap (λ x. is_holder x (numbered a 1)) (held_at _ g (Some (numbered a 1)) same)),
                      (freed at_c a (numbered a 1) g ((at 10).node 2) true (ap (λ x. is_holder x (numbered a 1)) (held_at _ g (Some (numbered a 1)) same)), tt),
                    ),
                  ),
                ),
              ),
            ),
          ),
        ),
      ),
    ),
  )

  leads0 : Leads (machine_of three_nodes) (at 0) (granted_at_home g) (at 7)
  leads0 = walk three_nodes (take 7 (drop 0 moves)) (at 0) refl (part three_nodes 0 7 moves (start three_nodes) made)

  there0 : behind three_nodes (at 0) (granted_at_home g) ≡ (at 7)
  unfolding behind
  there0 = run_there (machine_of three_nodes) (granted_at_home g) (at 0) (at 7) leads0

  leads1 : Leads (machine_of three_nodes) (at 0) (granted_at_home g ++ denied_by_b) (at 11)
  leads1 = walk three_nodes moves (start three_nodes) refl made

  there1 : behind three_nodes (at 0) (granted_at_home g ++ denied_by_b) ≡ (at 11)
  unfolding behind
  there1 = run_there (machine_of three_nodes) (granted_at_home g ++ denied_by_b) (at 0) (at 11) leads1

  pub happen : AllHappen three_nodes (start three_nodes) (granted_at_home g ++ denied_by_b)
  unfolding AllHappen
  happen = subst (Leads (machine_of three_nodes) (at 0) (granted_at_home g ++ denied_by_b)) (sym there1) leads1

  pub outcome : DeniedByAnother g (behind three_nodes (start three_nodes) (granted_at_home g)) (behind three_nodes (start three_nodes) (granted_at_home g ++ denied_by_b))
  unfolding upd
  outcome = (subst (λ x. DeniedByAnother g x (behind three_nodes (start three_nodes) (granted_at_home g ++ denied_by_b))) (sym there0) (subst (λ x. DeniedByAnother g (at 7) x) (sym there1) (record {
    held_a = held_at _ g (Some (numbered a 1)) same;
    held_c = held_at _ g (Some (numbered a 1)) same;
    unformed_b = refl;
    waits = refl;
    unanswered = refl;
    history = refl;
    free_a = held_at _ g None same;
    free_b = refl;
    free_c = held_at _ g None same;
  })))
