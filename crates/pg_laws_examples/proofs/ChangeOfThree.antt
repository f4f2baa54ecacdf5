-- One of three nodes creates a group.
use Rattle.std.proofs.Common.{◌≡◌, ℕ, true, false, List, [], ◌∷◌, Some, None, Ok, refl, ap, sym, subst, take, drop}
use Rattle.std.specs.Prelude.{is_some}
use Rattle.pg_laws.specs.PgGroup.Functions.{upd}
use Rattle.pg_laws.specs.PgGroup.Table.{applied}
use Rattle.pg_laws.specs.PgGroup.Value.{nobody}
use Rattle.pg_laws.specs.PgLock.Locks.{is_free, is_holder}
use Rattle.pg_term.specs.declared.term.Term.{Term}
use Rattle.pg_term.specs.Same.{same_term, same_atom}
use Rattle.pg_laws.specs.PgMessageTypes.Name.{is_name}
use Rattle.pg_laws.specs.PgGroup.declared.update.Update.{Update}
use Rattle.pg_laws.specs.PgGroup.declared.update.Update.TheVariants as update
use Rattle.pg_laws.specs.PgRefs.Numbered.{numbered}
use Rattle.pg_laws.specs.PgStep.Machines.Machine.{Take, Do}
use Rattle.pg_laws.specs.PgStep.Machines.Runs.{Leads}
use Rattle.pg_laws.proofs.PgStep.Machines.Sequences.{run_there}
use Rattle.pg_laws.specs.PgStep.declared.command.Command.TheVariants as command
use Rattle.pg_laws.specs.PgStep.Attempts.{count_ok}
use Rattle.pg_laws.specs.PgStep.Config.{nodes_at, groups_at}
use Rattle.pg_laws.specs.PgStep.FrameMachine.{FrameWorld, machine_of}
use Rattle.pg_laws.specs.PgStep.Nodes.{Node, Nodes}
use Rattle.pg_laws.specs.PgStep.State.{Status}
use Rattle.pg_laws.specs.PgStep.State.Status.{Yes}
use Rattle.pg_laws.specs.PgStep.Step.{Issue}
use Rattle.pg_laws.specs.PgStep.Turns.{becomes, and_then}
use Rattle.pg_laws.specs.PgStep.Peers.{exchange, update_request}
use Rattle.pg_laws_examples.specs.Examples.{start, behind, AllHappen, a, b, c, op_at}
use Rattle.pg_laws_examples.specs.Examples.{stands, three_nodes, lock_ref, created_by_three}
use Rattle.pg_laws_examples.specs.Outcomes.{ChangeOfThree}
use Rattle.pg_laws_examples.proofs.Trace.{Move, AllMake, walked, walk, held_at, changed_at, all_of_group}
use Rattle.pg_laws_examples.proofs.Trace.{answers_lock, asked, frees, freed, asks_peer, asks_rest, asks_rest_as}
use Rattle.pg_laws_examples.proofs.Trace.{round_one, round_two, named_as, begins, finishes, opens}

module _ (g : Term) (named : is_name g ≡ true) (same : same_term g g ≡ true) where
  abbrev creates : Update
  creates = update.Create g

  abbrev at_a : Nodes
  at_a = nodes_at three_nodes 0

  abbrev at_b : Nodes
  at_b = nodes_at three_nodes 1

  abbrev at_c : Nodes
  at_c = nodes_at three_nodes 2

  abbrev waits_for_b : Node → Status
  waits_for_b = round_two true at_a (upd same_atom (round_one true at_a) c Yes)

  abbrev moves : List Move
  moves =
      -- each takes the exchanges of the others
      (Take 1 0, exchange a (groups_at three_nodes 0))
      ∷ (Take 2 0, exchange a (groups_at three_nodes 0))
      ∷ (Take 0 1, exchange b (groups_at three_nodes 1))
      ∷ (Take 2 1, exchange b (groups_at three_nodes 1))
      ∷ (Take 0 2, exchange c (groups_at three_nodes 2))
      ∷ (Take 1 2, exchange c (groups_at three_nodes 2))
      -- a create comes in at a, and asks the greatest
      ∷ (Do 0 (Issue 0 (command.Create g)), opens (op_at 1) creates (asks_peer true at_a (op_at 1) creates 1))
      -- c grants
      ∷ (Take 2 0, answers_lock true a lock_ref g)
      -- a asks the rest, and grants itself
      ∷ (Take 0 2, asks_rest true becomes at_a (op_at 1) creates 1 (round_one true at_a) c)
      -- b grants
      ∷ (Take 1 0, answers_lock true a lock_ref g)
      -- a begins its update
      ∷ (Take 0 1, asks_rest false (begins at_a (op_at 1) creates 1) at_a (op_at 1) creates 1 waits_for_b b)
      -- b and c apply it
      ∷ (Take 1 0, update_request a (numbered a 2) creates)
      ∷ (Take 2 0, update_request a (numbered a 2) creates)
      -- the ok of b is counted, and with that of c the command ends
      ∷ (Take 0 1, λ s. and_then (count_ok 2 (op_at 1) creates 1 (same_atom a) b s) becomes)
      ∷ (Take 0 2, finishes true at_a (op_at 1) creates 1 2 (upd same_atom (same_atom a) b true) c)
      -- both locks are freed
      ∷ (Take 1 0, frees true g)
      ∷ (Take 2 0, frees true g)
      ∷ []

  abbrev at : ℕ → FrameWorld
  at n = walked three_nodes (start three_nodes) (take n moves)

  made : AllMake three_nodes (start three_nodes) moves
  unfolding upd
  made = ((
    refl,
    (
      refl,
      (
        refl,
        (
          refl,
          (
            refl,
            (
              refl,
              (
                ap (λ yes. named_as yes at_a (op_at 1) (command.Create g) ((at 6).node 0)) named,
                (
                  asked at_c a lock_ref g ((at 7).node 2) true refl,
                  (
                    refl,
                    (
                      asked at_b a lock_ref g ((at 9).node 1) true refl,
                      (
                        ap (λ yes. asks_rest_as yes at_a (op_at 1) creates 1 waits_for_b b ((at 10).node 0)) (ap is_free (held_at _ g (Some lock_ref) same)),
                        (
                          refl,
                          (
                            refl,
                            (
                              refl,
                              (
                                ap (λ yes. Ok (finishes yes at_a (op_at 1) creates 1 2 (upd same_atom (same_atom a) b true) c ((at 14).node 0))) (ap (λ x. is_holder x lock_ref) (held_at _ g (Some lock_ref) same)),
                                (
                                  freed at_b a lock_ref g ((at 15).node 1) true (ap (λ x. is_holder x lock_ref) (held_at _ g (Some lock_ref) same)),
                                  (freed at_c a lock_ref g ((at 16).node 2) true (ap (λ x. is_holder x lock_ref) (held_at _ g (Some lock_ref) same)), tt),
                                ),
                              ),
                            ),
                          ),
                        ),
                      ),
                    ),
                  ),
                ),
              ),
            ),
          ),
        ),
      ),
    ),
  ))

  applied_a : ((at 11).node 0).table g ≡ Some nobody
  unfolding upd
  applied_a = changed_at ((at 10).node 0).table creates ((at 10).node 0).ended None same refl

  applied_b : ((at 12).node 1).table g ≡ Some nobody
  unfolding upd
  applied_b = changed_at ((at 11).node 1).table creates ((at 11).node 1).ended None same refl

  applied_c : ((at 13).node 2).table g ≡ Some nobody
  unfolding upd
  applied_c = changed_at ((at 12).node 2).table creates ((at 12).node 2).ended None same refl

  leads : Leads (machine_of three_nodes) (start three_nodes) (created_by_three g) (at 17)
  leads = walk three_nodes moves (start three_nodes) refl made

  there : behind three_nodes (start three_nodes) (created_by_three g) ≡ at 17
  unfolding behind
  there = run_there (machine_of three_nodes) (created_by_three g) (start three_nodes) (at 17) leads

  pub happen : AllHappen three_nodes (start three_nodes) (created_by_three g)
  unfolding AllHappen
  happen = subst (Leads (machine_of three_nodes) (start three_nodes) (created_by_three g)) (sym there) leads

  pub outcome : ChangeOfThree g (behind three_nodes (start three_nodes) (created_by_three g))
  unfolding upd
  outcome = subst (λ w. ChangeOfThree g w) (sym there) (record {
    answers_a = refl;
    group_a = ap is_some applied_a;
    group_b = ap is_some applied_b;
    group_c = ap is_some applied_c;
    free_a = held_at _ g None same;
    free_b = held_at _ g None same;
    free_c = held_at _ g None same;
    history = all_of_group g (stands 0 1 (update.Create g) ∷ []) (same, tt);
    none_to_b = refl;
    none_to_c = refl;
  })
