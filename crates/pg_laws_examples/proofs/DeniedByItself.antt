-- A node denies itself.
use Rattle.std.proofs.Common.{◌≡◌, true, false, ◌++◌, Some, None, refl, ap, sym, subst, ℕ, List, [], ◌∷◌, take, drop}
use Rattle.pg_laws.specs.PgGroup.Functions.{upd}
use Rattle.pg_term.specs.declared.term.Term.{Term}
use Rattle.pg_term.specs.Same.{same_term, same_atom}
use Rattle.pg_laws.specs.PgMessageTypes.Name.{is_name}
use Rattle.pg_laws.specs.PgGroup.declared.update.Update.{Update}
use Rattle.pg_laws.specs.PgGroup.declared.update.Update.TheVariants as update
use Rattle.pg_laws.specs.PgRefs.Numbered.{numbered}
use Rattle.pg_laws.specs.PgLock.Locks.{is_holder}
use Rattle.pg_laws.specs.PgStep.Machines.Machine.{Take, Do}
use Rattle.pg_laws.specs.PgStep.Machines.Runs.{Leads}
use Rattle.pg_laws.specs.PgStep.declared.command.Command.TheVariants as command
use Rattle.pg_laws.specs.PgStep.FrameMachine.{machine_of, FrameWorld}
use Rattle.pg_laws.specs.PgStep.Config.{nodes_at, groups_at}
use Rattle.pg_laws.specs.PgStep.Nodes.{Node, Nodes, greatest}
use Rattle.pg_laws.specs.PgStep.State.{Status}
use Rattle.pg_laws.specs.PgStep.State.Status.{Yes}
use Rattle.pg_laws.specs.PgStep.Step.{Issue}
use Rattle.pg_laws.specs.PgStep.Turns.{NodeTurn, and_then, becomes}
use Rattle.pg_laws.specs.PgStep.Peers.{exchange}
use Rattle.pg_laws.specs.PgStep.Attempts.{count_answer, give_up}
use Rattle.pg_laws_examples.specs.Examples.{start, behind, AllHappen, a, b, c, op_at}
use Rattle.pg_laws_examples.specs.Examples.{three_nodes, asked_unformed, given_back}
use Rattle.pg_laws.proofs.PgStep.Machines.Sequences.{run_there}
use Rattle.pg_laws_examples.proofs.Trace.{Move, AllMake, walked, walk, part, held_at, answers_lock, asked, frees}
use Rattle.pg_laws_examples.proofs.Trace.{freed, asks_peer, asks_rest, round_one, round_two, named_as, opens}
use Rattle.pg_laws_examples.specs.Outcomes.{DeniedByItself}

module _ (g : Term) (named : is_name g ≡ true) (same : same_term g g ≡ true) where
  abbrev at_a : Nodes
  at_a = nodes_at three_nodes 0

  abbrev at_b : Nodes
  at_b = nodes_at three_nodes 1

  abbrev at_c : Nodes
  at_c = nodes_at three_nodes 2

  abbrev creates : Update
  creates = update.Create g

  -- c has granted, a has not, and b was asked
  abbrev waits_for_b : Node → Status
  waits_for_b = round_two false at_a (upd same_atom (round_one false at_a) c Yes)

  abbrev moves : List Move
  moves =
      -- b takes the exchange of a
      (Take 1 0, exchange a (groups_at three_nodes 0))
      -- c takes the exchange of a
      ∷ (Take 2 0, exchange a (groups_at three_nodes 0))
      -- c takes the exchange of b
      ∷ (Take 2 1, exchange b (groups_at three_nodes 1))
      -- b takes the exchange of c
      ∷ (Take 1 2, exchange c (groups_at three_nodes 2))
      -- a create comes in at a
      ∷ (Do 0 (Issue 0 (command.Create g)), opens (op_at 1) creates (asks_peer false at_a (op_at 1) creates 1))
      -- c grants a
      ∷ (Take 2 0, answers_lock true a (numbered a 1) g)
      -- a takes the exchange of c
      ∷ (Take 0 2, exchange c (groups_at three_nodes 2))
      -- a asks the rest, and denies itself
      ∷ (Take 0 2, asks_rest false becomes at_a (op_at 1) creates 1 (round_one false at_a) c)
      -- b grants a
      ∷ (Take 1 0, answers_lock true a (numbered a 1) g)
      -- a takes the exchange of b
      ∷ (Take 0 1, exchange b (groups_at three_nodes 1))
      -- a gives the attempt up
      ∷ (Take 0 1, (λ s. and_then (count_answer 1 (op_at 1) creates (greatest at_a) waits_for_b b Yes s) (give_up at_a 1 (op_at 1) creates (upd same_atom waits_for_b b Yes))))
      -- b frees the lock of a
      ∷ (Take 1 0, frees true g)
      -- c frees the lock of a
      ∷ (Take 2 0, frees true g)
      ∷ []

  -- the world after so many of them
  abbrev at : ℕ → FrameWorld
  at n = walked three_nodes (start three_nodes) (take n moves)

  made : AllMake three_nodes (start three_nodes) moves
  unfolding upd
  made = ((
    refl,
    (
      refl,
      (
        refl,
        (
          refl,
          (
            (ap (λ yes. named_as yes at_a (op_at 1) (command.Create g) ((at 4).node 0)) named),
            (
              (asked at_c a (numbered a 1) g ((at 5).node 2) true refl),
              (
                refl,
                (
                  refl,
                  (
                    (asked at_b a (numbered a 1) g ((at 8).node 1) true refl),
                    (
                      refl,
                      (
                        refl,
                        (
                          (freed at_b a (numbered a 1) g ((at 11).node 1) true (ap (λ x. is_holder x (numbered a 1)) (held_at _ g (Some (numbered a 1)) same))),
                          ((freed at_c a (numbered a 1) g ((at 12).node 2) true (ap (λ x. is_holder x (numbered a 1)) (held_at _ g (Some (numbered a 1)) same))), tt),
                        ),
                      ),
                    ),
                  ),
                ),
              ),
            ),
          ),
        ),
      ),
    ),
  ))

  leads0 : Leads (machine_of three_nodes) (at 0) (asked_unformed g) (at 11)
  leads0 = walk three_nodes (take 11 (drop 0 moves)) (at 0) refl (part three_nodes 0 11 moves (start three_nodes) made)

  there0 : behind three_nodes (at 0) (asked_unformed g) ≡ (at 11)
  unfolding behind
  there0 = run_there (machine_of three_nodes) (asked_unformed g) (at 0) (at 11) leads0

  leads1 : Leads (machine_of three_nodes) (at 0) (asked_unformed g ++ given_back) (at 13)
  leads1 = walk three_nodes moves (start three_nodes) refl made

  there1 : behind three_nodes (at 0) (asked_unformed g ++ given_back) ≡ (at 13)
  unfolding behind
  there1 = run_there (machine_of three_nodes) (asked_unformed g ++ given_back) (at 0) (at 13) leads1

  pub happen : AllHappen three_nodes (start three_nodes) (asked_unformed g ++ given_back)
  unfolding AllHappen
  happen = subst (Leads (machine_of three_nodes) (at 0) (asked_unformed g ++ given_back)) (sym there1) leads1

  pub outcome : DeniedByItself g (behind three_nodes (start three_nodes) (asked_unformed g)) (behind three_nodes (start three_nodes) (asked_unformed g ++ given_back))
  unfolding upd
  outcome = (subst (λ x. DeniedByItself g x (behind three_nodes (start three_nodes) (asked_unformed g ++ given_back))) (sym there0) (subst (λ x. DeniedByItself g (at 11) x) (sym there1) (record {
    formed_a = refl;
    held_b = held_at _ g (Some (numbered a 1)) same;
    held_c = held_at _ g (Some (numbered a 1)) same;
    free_a = refl;
    waits = refl;
    unanswered = refl;
    history = refl;
    freed_b = held_at _ g None same;
    freed_c = held_at _ g None same;
  })))
