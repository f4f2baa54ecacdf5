-- Two nodes create one group at once.
use Rattle.std.proofs.Common.{◌≡◌, true, false, [], ◌∷◌, Some, None, Ok, refl, ap, sym, subst, ◌∙◌, ℕ, List, take, drop}
use Rattle.pg_laws.specs.PgGroup.Functions.{upd}
use Rattle.pg_laws.specs.PgGroup.Value.{nobody}
use Rattle.pg_term.specs.declared.term.Term.{Term}
use Rattle.pg_term.specs.Same.{same_term, same_atom}
use Rattle.pg_laws.specs.PgMessageTypes.Name.{is_name}
use Rattle.pg_laws.specs.PgGroup.declared.update.Update.{Update}
use Rattle.pg_laws.specs.PgGroup.declared.update.Update.TheVariants as update
use Rattle.pg_laws.specs.PgRefs.Numbered.{numbered}
use Rattle.pg_laws.specs.PgLock.Locks.{is_free, is_holder}
use Rattle.pg_laws.specs.PgStep.Machines.Machine.{Take, Do}
use Rattle.pg_laws.specs.PgStep.Machines.Runs.{Leads}
use Rattle.pg_laws.specs.PgStep.declared.command.Command.TheVariants as command
use Rattle.pg_laws.specs.PgStep.FrameMachine.{machine_of, FrameWorld}
use Rattle.pg_laws.specs.PgStep.Config.{nodes_at, groups_at}
use Rattle.pg_laws.specs.PgStep.Nodes.{Nodes, greatest}
use Rattle.pg_laws.specs.PgStep.State.Status.{No}
use Rattle.pg_laws.specs.PgStep.State.Response.{Read}
use Rattle.pg_laws.specs.PgStep.Step.{Issue, Retry}
use Rattle.pg_laws.specs.PgStep.Turns.{NodeTurn, and_then}
use Rattle.pg_laws.specs.PgStep.Peers.{update_request, exchange}
use Rattle.pg_laws_examples.specs.Examples.{start, behind, AllHappen, a, b, op_at, stands, two_nodes, created_by_two}
use Rattle.pg_laws.specs.PgStep.Attempts.{count_answer, give_up}
use Rattle.pg_laws.specs.PgStep.Commands.{answer}
use Rattle.std.specs.Prelude.{is_some}
use Rattle.pg_laws.proofs.PgStep.Machines.Sequences.{run_there}
use Rattle.pg_laws_examples.proofs.Trace.{Move, AllMake, walked, walk, part, held_at, changed_at, unchanged_at}
use Rattle.pg_laws_examples.proofs.Trace.{all_of_group, answers_lock, asked, frees, freed, asks_peer}
use Rattle.pg_laws_examples.proofs.Trace.{attempt_as, asks_own, attempt_own, asks_rest, asks_rest_as}
use Rattle.pg_laws_examples.proofs.Trace.{round_one, round_two, named_as, begins, finishes, comes_in, opens}
use Rattle.pg_laws_examples.proofs.Listed.{read_names}
use Rattle.pg_laws_examples.specs.Outcomes.{TwoCreators}

module _ (g : Term) (named : is_name g ≡ true) (same : same_term g g ≡ true) where
  abbrev at_a : Nodes
  at_a = nodes_at two_nodes 0

  abbrev at_b : Nodes
  at_b = nodes_at two_nodes 1

  abbrev creates : Update
  creates = update.Create g

  abbrev moves : List Move
  moves =
      -- b takes the exchange of a
      (Take 1 0, exchange a (groups_at two_nodes 0))
      -- a takes the exchange of b
      ∷ (Take 0 1, exchange b (groups_at two_nodes 1))
      -- a create comes in at a
      ∷ (Do 0 (Issue 0 (command.Create g)), opens (op_at 1) creates (asks_peer true at_a (op_at 1) creates 1))
      -- a create comes in at b
      ∷ (Do 1 (Issue 0 (command.Create g)), opens (op_at 1) creates (asks_own false at_b (op_at 1) creates 1))
      -- b denies a
      ∷ (Take 1 0, answers_lock false a (numbered a 1) g)
      -- a grants b
      ∷ (Take 0 1, answers_lock true b (numbered b 1) g)
      -- a grants: b begins its update
      ∷ (Take 1 0, asks_rest false (begins at_b (op_at 1) creates 1) at_b (op_at 1) creates 1 (round_two false at_b (round_one true at_b)) a)
      -- b denies: the command waits
      ∷ (Take 0 1, (λ s. and_then (count_answer 1 (op_at 1) creates (greatest at_a) (round_one true at_a) b No s) (give_up at_a 1 (op_at 1) creates (upd same_atom (round_one true at_a) b No))))
      -- a applies the update of b
      ∷ (Take 0 1, update_request b (numbered b 2) creates)
      -- a has applied it too: the command ends
      ∷ (Take 1 0, finishes true at_b (op_at 1) creates 1 2 (same_atom b) a)
      -- a frees the lock of b
      ∷ (Take 0 1, frees true g)
      -- a tries its command 1 again
      ∷ (Do 0 (Retry (op_at 1)), asks_peer true at_a (op_at 1) creates 2)
      -- b grants a
      ∷ (Take 1 0, answers_lock true a (numbered a 2) g)
      -- b grants: a begins its update
      ∷ (Take 0 1, asks_rest true (begins at_a (op_at 1) creates 2) at_a (op_at 1) creates 2 (round_one true at_a) b)
      -- b applies the update of a
      ∷ (Take 1 0, update_request a (numbered a 3) creates)
      -- b has applied it too: the command ends
      ∷ (Take 0 1, finishes true at_a (op_at 1) creates 2 3 (same_atom a) b)
      -- b frees the lock of a
      ∷ (Take 1 0, frees true g)
      -- a query comes in at a
      ∷ (Do 0 (Issue 0 (command.WhichGroups)), (λ s. comes_in (answer (op_at 2) (Read command.WhichGroups s.table)) s))
      ∷ []

  -- the world after so many of them
  abbrev at : ℕ → FrameWorld
  at n = walked two_nodes (start two_nodes) (take n moves)

  at7_1_g : ((at 7).node 1).table g ≡ Some nobody
  unfolding upd
  at7_1_g = changed_at ((at 6).node 1).table creates ((at 6).node 1).ended None same refl

  at9_0_g : ((at 9).node 0).table g ≡ Some nobody
  unfolding upd
  at9_0_g = changed_at ((at 8).node 0).table creates ((at 8).node 0).ended None same refl

  at14_0_g : ((at 14).node 0).table g ≡ Some nobody
  unfolding upd
  at14_0_g = changed_at ((at 13).node 0).table creates ((at 13).node 0).ended (Some nobody) same (at9_0_g)

  at15_1_g : ((at 15).node 1).table g ≡ Some nobody
  unfolding upd
  at15_1_g = changed_at ((at 14).node 1).table creates ((at 14).node 1).ended (Some nobody) same (at7_1_g)

  made : AllMake two_nodes (start two_nodes) moves
  unfolding upd
  made = ((
    refl,
    (
      refl,
      (
        (ap (λ yes. named_as yes at_a (op_at 1) (command.Create g) ((at 2).node 0)) named),
        (
          (ap (λ yes. named_as yes at_b (op_at 1) (command.Create g) ((at 3).node 1)) named ∙ ap (λ yes. Ok (opens (op_at 1) creates (attempt_own yes at_b (op_at 1) creates 1) ((at 3).node 1))) (ap is_free (held_at _ g (Some (numbered b 1)) same))),
          (
            (asked at_b a (numbered a 1) g ((at 4).node 1) false (ap is_free (held_at _ g (Some (numbered b 1)) same))),
            (
              (asked at_a b (numbered b 1) g ((at 5).node 0) true refl),
              (
                (ap (λ yes. asks_rest_as yes at_b (op_at 1) creates 1 (round_two false at_b (round_one true at_b)) a ((at 6).node 1)) (ap is_free (held_at _ g (Some (numbered b 1)) same))),
                (
                  refl,
                  (
                    refl,
                    (
                      (ap (λ yes. Ok (finishes yes at_b (op_at 1) creates 1 2 (same_atom b) a ((at 9).node 1))) (ap (λ x. is_holder x (numbered b 1)) (held_at _ g (Some (numbered b 1)) same))),
                      (
                        (freed at_a b (numbered b 1) g ((at 10).node 0) true (ap (λ x. is_holder x (numbered b 1)) (held_at _ g (Some (numbered b 1)) same))),
                        (
                          (ap (λ yes. Ok (attempt_as yes at_a (op_at 1) creates 2 ((at 11).node 0))) (ap is_free (held_at _ g None same))),
                          (
                            (asked at_b a (numbered a 2) g ((at 12).node 1) true (ap is_free (held_at _ g None same))),
                            (
                              (ap (λ yes. asks_rest_as yes at_a (op_at 1) creates 2 (round_one true at_a) b ((at 13).node 0)) (ap is_free (held_at _ g None same))),
                              (
                                refl,
                                (
                                  (ap (λ yes. Ok (finishes yes at_a (op_at 1) creates 2 3 (same_atom a) b ((at 15).node 0))) (ap (λ x. is_holder x (numbered a 2)) (held_at _ g (Some (numbered a 2)) same))),
                                  (
                                    (freed at_b a (numbered a 2) g ((at 16).node 1) true (ap (λ x. is_holder x (numbered a 2)) (held_at _ g (Some (numbered a 2)) same))),
                                    (refl, tt),
                                  ),
                                ),
                              ),
                            ),
                          ),
                        ),
                      ),
                    ),
                  ),
                ),
              ),
            ),
          ),
        ),
      ),
    ),
  ))

  leads0 : Leads (machine_of two_nodes) (at 0) (created_by_two g) (at 18)
  leads0 = walk two_nodes moves (start two_nodes) refl made

  there0 : behind two_nodes (at 0) (created_by_two g) ≡ (at 18)
  unfolding behind
  there0 = run_there (machine_of two_nodes) (created_by_two g) (at 0) (at 18) leads0

  pub happen : AllHappen two_nodes (start two_nodes) (created_by_two g)
  unfolding AllHappen
  happen = subst (Leads (machine_of two_nodes) (at 0) (created_by_two g)) (sym there0) leads0

  pub outcome : TwoCreators g (behind two_nodes (start two_nodes) (created_by_two g))
  unfolding upd
  outcome = (subst (λ x. TwoCreators g x) (sym there0) (record {
    answers_a = refl;
    answers_b = refl;
    names_a = read_names _ g (ap is_some (at14_0_g)) (λ name differ. unchanged_at ((at 13).node 0).table creates ((at 13).node 0).ended name None differ (unchanged_at ((at 8).node 0).table creates ((at 8).node 0).ended name None differ refl));
    group_b = ap is_some (at15_1_g);
    free_a = held_at _ g None same;
    free_b = held_at _ g None same;
    history = all_of_group g (stands 1 1 (update.Create g) ∷ stands 0 1 (update.Create g) ∷ []) (same, (same, tt));
  }))
