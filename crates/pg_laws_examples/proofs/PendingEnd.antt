-- An end is pending until the other node has taken it.
use Rattle.std.proofs.Common.{◌≡◌, true, false, ◌&&◌, nat_eq, [], ◌∷◌, ◌++◌, Some}
use Rattle.std.proofs.Common.{None, Ok, refl, ap, sym, subst, ◌∙◌, ℕ, List, take, drop}
use Rattle.pg_laws.specs.PgGroup.Functions.{upd}
use Rattle.pg_laws.specs.PgGroup.Value.{less, count_in}
use Rattle.pg_laws.specs.PgGroup.Table.{exchanged}
use Rattle.pg_term.specs.declared.term.Term.{Term}
use Rattle.pg_term.specs.Same.{same_term, same_atom, same_pid}
use Rattle.pg_laws.specs.PgMessageTypes.Name.{is_name}
use Rattle.pg_laws.specs.PgGroup.declared.update.Update.{Update}
use Rattle.pg_laws.specs.PgGroup.declared.update.Update.TheVariants as update
use Rattle.pg_laws.specs.PgRefs.Numbered.{numbered}
use Rattle.pg_laws.specs.PgLock.Locks.{is_free, is_holder}
use Rattle.pg_laws.specs.PgStep.Machines.Machine.{Take, Do}
use Rattle.pg_laws.specs.PgStep.Machines.Runs.{Leads}
use Rattle.pg_laws.specs.PgStep.declared.command.Command.TheVariants as command
use Rattle.pg_laws.specs.PgStep.FrameMachine.{machine_of, FrameWorld}
use Rattle.pg_laws.specs.PgStep.Config.{nodes_at, groups_at}
use Rattle.pg_laws.specs.PgStep.Nodes.{Nodes}
use Rattle.pg_laws.specs.PgStep.Step.{Issue}
use Rattle.pg_laws.specs.PgStep.Turns.{NodeTurn}
use Rattle.pg_laws.specs.PgStep.Peers.{update_request, exchange, process_end}
use Rattle.pg_laws_examples.specs.Examples.{start, behind, AllHappen, a, b, a1, op_at}
use Rattle.pg_laws_examples.specs.Examples.{two_and_member, ended_at_home, joined_after}
use Rattle.pg_laws.specs.PgStep.Commands.{end_process, look}
use Rattle.std.specs.Prelude.{is_some}
use Rattle.pg_laws.proofs.PgStep.Machines.Sequences.{run_there}
use Rattle.pg_laws_examples.proofs.Trace.{Move, AllMake, walked, walk, part, none_ended, held_at, changed_at, merged_at}
use Rattle.pg_laws_examples.proofs.Trace.{answers_lock, asked, frees, freed, asks_own, attempt_own, asks_rest, asks_rest_as}
use Rattle.pg_laws_examples.proofs.Trace.{round_one, round_two, named_as, looked, begins, finishes, comes_in, opens}
use Rattle.pg_laws_examples.specs.Outcomes.{PendingEnd}

module _ (g : Term) (named : is_name g ≡ true) (same : same_term g g ≡ true) where
  abbrev at_a : Nodes
  at_a = nodes_at (two_and_member g) 0

  abbrev at_b : Nodes
  at_b = nodes_at (two_and_member g) 1

  abbrev joins : Update
  joins = update.Join g a1

  abbrev moves : List Move
  moves =
      -- b takes the exchange of a
      (Take 1 0, exchange a (groups_at (two_and_member g) 0))
      -- a takes the exchange of b
      ∷ (Take 0 1, exchange b (groups_at (two_and_member g) 1))
      -- an ending comes in at a
      ∷ (Do 0 (Issue 0 (command.Finish a1)), comes_in (end_process at_a (op_at 1) a1))
      -- b takes the end
      ∷ (Take 1 0, process_end a1)
      -- a join comes in at b
      ∷ (Do 1 (Issue 0 (command.Join g a1)), opens (op_at 1) joins (asks_own false at_b (op_at 1) joins 1))
      -- a grants b
      ∷ (Take 0 1, answers_lock true b (numbered b 1) g)
      -- a grants: b begins its update
      ∷ (Take 1 0, asks_rest false (begins at_b (op_at 1) joins 1) at_b (op_at 1) joins 1 (round_two false at_b (round_one true at_b)) a)
      -- a applies the update of b
      ∷ (Take 0 1, update_request b (numbered b 2) joins)
      -- a has applied it too: the command ends
      ∷ (Take 1 0, finishes true at_b (op_at 1) joins 1 2 (same_atom b) a)
      -- a frees the lock of b
      ∷ (Take 0 1, frees true g)
      ∷ []

  -- the world after so many of them
  abbrev at : ℕ → FrameWorld
  at n = walked (two_and_member g) (start (two_and_member g)) (take n moves)

  at0_0_g : ((at 0).node 0).table g ≡ exchanged None (a1 ∷ []) none_ended
  unfolding upd
  at0_0_g = merged_at (λ name. None) g (a1 ∷ []) none_ended None same refl

  at1_1_g : ((at 1).node 1).table g ≡ exchanged None (a1 ∷ []) none_ended
  unfolding upd
  at1_1_g = merged_at ((at 0).node 1).table g (a1 ∷ []) ((at 0).node 1).ended None same refl

  at3_0_g : ((at 3).node 0).table g ≡ less (exchanged None (a1 ∷ []) none_ended) (same_pid a1)
  unfolding upd
  at3_0_g = ap (λ v. less v (same_pid a1)) (at0_0_g)

  at4_1_g : ((at 4).node 1).table g ≡ less (exchanged None (a1 ∷ []) none_ended) (same_pid a1)
  unfolding upd
  at4_1_g = ap (λ v. less v (same_pid a1)) (at1_1_g)

  at7_1_g : ((at 7).node 1).table g ≡ less (exchanged None (a1 ∷ []) none_ended) (same_pid a1)
  unfolding upd
  at7_1_g = changed_at ((at 6).node 1).table joins ((at 6).node 1).ended (less (exchanged None (a1 ∷ []) none_ended) (same_pid a1)) same (at4_1_g)

  at8_0_g : ((at 8).node 0).table g ≡ less (exchanged None (a1 ∷ []) none_ended) (same_pid a1)
  unfolding upd
  at8_0_g = changed_at ((at 7).node 0).table joins ((at 7).node 0).ended (less (exchanged None (a1 ∷ []) none_ended) (same_pid a1)) same (at3_0_g)

  made : AllMake (two_and_member g) (start (two_and_member g)) moves
  unfolding upd
  made = ((
    refl,
    (
      refl,
      (
        refl,
        (
          refl,
          (
            (ap (λ yes. named_as yes at_b (op_at 1) (command.Join g a1) ((at 4).node 1)) named ∙ ap (λ r. looked r at_b (op_at 1) joins ((at 4).node 1)) (ap (λ v. look v joins) (at4_1_g)) ∙ ap (λ yes. Ok (opens (op_at 1) joins (attempt_own yes at_b (op_at 1) joins 1) ((at 4).node 1))) (ap is_free (held_at _ g (Some (numbered b 1)) same))),
            (
              (asked at_a b (numbered b 1) g ((at 5).node 0) true refl),
              (
                (ap (λ yes. asks_rest_as yes at_b (op_at 1) joins 1 (round_two false at_b (round_one true at_b)) a ((at 6).node 1)) (ap is_free (held_at _ g (Some (numbered b 1)) same))),
                (
                  refl,
                  (
                    (ap (λ yes. Ok (finishes yes at_b (op_at 1) joins 1 2 (same_atom b) a ((at 8).node 1))) (ap (λ x. is_holder x (numbered b 1)) (held_at _ g (Some (numbered b 1)) same))),
                    ((freed at_a b (numbered b 1) g ((at 9).node 0) true (ap (λ x. is_holder x (numbered b 1)) (held_at _ g (Some (numbered b 1)) same))), tt),
                  ),
                ),
              ),
            ),
          ),
        ),
      ),
    ),
  ))

  leads0 : Leads (machine_of (two_and_member g)) (at 0) (ended_at_home) (at 3)
  leads0 = walk (two_and_member g) (take 3 (drop 0 moves)) (at 0) refl (part (two_and_member g) 0 3 moves (start (two_and_member g)) made)

  there0 : behind (two_and_member g) (at 0) (ended_at_home) ≡ (at 3)
  unfolding behind
  there0 = run_there (machine_of (two_and_member g)) (ended_at_home) (at 0) (at 3) leads0

  leads1 : Leads (machine_of (two_and_member g)) (at 0) (ended_at_home ++ joined_after g) (at 10)
  leads1 = walk (two_and_member g) moves (start (two_and_member g)) refl made

  there1 : behind (two_and_member g) (at 0) (ended_at_home ++ joined_after g) ≡ (at 10)
  unfolding behind
  there1 = run_there (machine_of (two_and_member g)) (ended_at_home ++ joined_after g) (at 0) (at 10) leads1

  pub happen : AllHappen (two_and_member g) (start (two_and_member g)) (ended_at_home ++ joined_after g)
  unfolding AllHappen
  happen = subst (Leads (machine_of (two_and_member g)) (at 0) (ended_at_home ++ joined_after g)) (sym there1) leads1

  pub outcome : PendingEnd g (behind (two_and_member g) (start (two_and_member g)) (ended_at_home)) (behind (two_and_member g) (start (two_and_member g)) (ended_at_home ++ joined_after g))
  unfolding upd
  outcome = (subst (λ x. PendingEnd g x (behind (two_and_member g) (start (two_and_member g)) (ended_at_home ++ joined_after g))) (sym there0) (subst (λ x. PendingEnd g (at 3) x) (sym there1) (record {
    ended_a = refl;
    pending_b = refl;
    counts_b = ap (λ v. is_some v && nat_eq (count_in v a1) 1) (at1_1_g);
    ended_b = refl;
    answers_a = refl;
    answers_b = refl;
    empty_a = ap (λ v. is_some v && nat_eq (count_in v a1) 0) (at8_0_g);
    empty_b = ap (λ v. is_some v && nat_eq (count_in v a1) 0) (at7_1_g);
    free_a = held_at _ g None same;
    free_b = held_at _ g None same;
  })))
