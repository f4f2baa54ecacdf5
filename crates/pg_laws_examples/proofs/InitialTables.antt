-- Two nodes begin with different tables.
use Rattle.std.proofs.Common.{◌≡◌, true, false, [], ◌∷◌, ◌++◌, Some, None, Ok}
use Rattle.std.proofs.Common.{refl, ap, sym, subst, ◌∙◌, ℕ, List, take, drop}
use Rattle.pg_laws.specs.PgGroup.Functions.{upd}
use Rattle.pg_laws.specs.PgGroup.Value.{nobody}
use Rattle.pg_laws.specs.PgGroup.Table.{exchanged}
use Rattle.pg_term.specs.declared.term.Term.{Term}
use Rattle.pg_term.specs.Same.{same_term, same_atom}
use Rattle.pg_laws.specs.PgMessageTypes.Name.{is_name}
use Rattle.pg_laws.specs.PgGroup.declared.update.Update.{Update}
use Rattle.pg_laws.specs.PgGroup.declared.update.Update.TheVariants as update
use Rattle.pg_laws.specs.PgRefs.Numbered.{numbered}
use Rattle.pg_laws.specs.PgLock.Locks.{is_free, is_holder}
use Rattle.pg_laws.specs.PgStep.Machines.Machine.{Take, Do}
use Rattle.pg_laws.specs.PgStep.Machines.Runs.{Leads}
use Rattle.pg_laws.specs.PgStep.declared.command.Command.TheVariants as command
use Rattle.pg_laws.specs.PgStep.FrameMachine.{machine_of, FrameWorld}
use Rattle.pg_laws.specs.PgStep.Config.{nodes_at, groups_at}
use Rattle.pg_laws.specs.PgStep.Nodes.{Nodes}
use Rattle.pg_laws.specs.PgStep.State.Response.{Read}
use Rattle.pg_laws.specs.PgStep.Step.{Issue, Retry}
use Rattle.pg_laws.specs.PgStep.Turns.{NodeTurn}
use Rattle.pg_laws.specs.PgStep.Peers.{update_request, exchange}
use Rattle.pg_laws_examples.specs.Examples.{start, behind, AllHappen, a, b, a1, b1}
use Rattle.pg_laws_examples.specs.Examples.{op_at, two_tables, tables_met, created_later}
use Rattle.pg_laws.specs.PgStep.Commands.{answer, look}
use Rattle.std.specs.Prelude.{is_some}
use Rattle.pg_laws.proofs.PgStep.Machines.Sequences.{run_there}
use Rattle.pg_laws_examples.proofs.Trace.{Move, AllMake, walked, walk, part, none_ended, held_at, changed_at}
use Rattle.pg_laws_examples.proofs.Trace.{unchanged_at, merged_at, not_merged_at, answers_lock, asked, frees, freed}
use Rattle.pg_laws_examples.proofs.Trace.{asks_own, attempt_own, asks_nobody, asks_rest, asks_rest_as, round_one}
use Rattle.pg_laws_examples.proofs.Trace.{round_two, named_as, looked, begins, finishes, comes_in, opens}
use Rattle.pg_laws_examples.proofs.Listed.{read_list, first_listed, met_listed, met_too_listed}
use Rattle.pg_laws_examples.specs.Outcomes.{InitialTables}

module _ (g h : Term) (named : is_name g ≡ true) (named_h : is_name h ≡ true) (same : same_term g g ≡ true) (same_h : same_term h h ≡ true) (apart_g_h : same_term g h ≡ false) (apart_h_g : same_term h g ≡ false) where
  abbrev at_a : Nodes
  at_a = nodes_at (two_tables g) 0

  abbrev at_b : Nodes
  at_b = nodes_at (two_tables g) 1

  abbrev creates_h : Update
  creates_h = update.Create h

  abbrev moves : List Move
  moves =
      -- a query comes in at a
      (Do 0 (Issue 0 (command.Members g)), (λ s. comes_in (answer (op_at 1) (Read (command.Members g) s.table)) s))
      -- a create comes in at b
      ∷ (Do 1 (Issue 0 (command.Create h)), opens (op_at 1) creates_h (asks_nobody at_b (op_at 1) creates_h 1))
      -- b takes the exchange of a
      ∷ (Take 1 0, exchange a (groups_at (two_tables g) 0))
      -- a takes the exchange of b
      ∷ (Take 0 1, exchange b (groups_at (two_tables g) 1))
      -- a query comes in at a
      ∷ (Do 0 (Issue 0 (command.Members g)), (λ s. comes_in (answer (op_at 2) (Read (command.Members g) s.table)) s))
      -- a query comes in at b
      ∷ (Do 1 (Issue 0 (command.Members g)), (λ s. comes_in (answer (op_at 2) (Read (command.Members g) s.table)) s))
      -- b tries its command 1 again
      ∷ (Do 1 (Retry (op_at 1)), asks_own false at_b (op_at 1) creates_h 2)
      -- a grants b
      ∷ (Take 0 1, answers_lock true b (numbered b 2) h)
      -- a grants: b begins its update
      ∷ (Take 1 0, asks_rest false (begins at_b (op_at 1) creates_h 2) at_b (op_at 1) creates_h 2 (round_two false at_b (round_one true at_b)) a)
      -- a applies the update of b
      ∷ (Take 0 1, update_request b (numbered b 3) creates_h)
      -- a has applied it too: the command ends
      ∷ (Take 1 0, finishes true at_b (op_at 1) creates_h 2 3 (same_atom b) a)
      -- a frees the lock of b
      ∷ (Take 0 1, frees true h)
      ∷ []

  -- the world after so many of them
  abbrev at : ℕ → FrameWorld
  at n = walked (two_tables g) (start (two_tables g)) (take n moves)

  at0_0_g : ((at 0).node 0).table g ≡ exchanged None (a1 ∷ a1 ∷ []) none_ended
  unfolding upd
  at0_0_g = merged_at (λ name. None) g (a1 ∷ a1 ∷ []) none_ended None same refl

  at0_0_h : ((at 0).node 0).table h ≡ None
  unfolding upd
  at0_0_h = not_merged_at (λ name. None) g (a1 ∷ a1 ∷ []) none_ended h None apart_g_h refl

  at0_1_g : ((at 0).node 1).table g ≡ exchanged None (a1 ∷ b1 ∷ []) none_ended
  unfolding upd
  at0_1_g = merged_at (λ name. None) g (a1 ∷ b1 ∷ []) none_ended None same refl

  at0_1_h : ((at 0).node 1).table h ≡ None
  unfolding upd
  at0_1_h = not_merged_at (λ name. None) g (a1 ∷ b1 ∷ []) none_ended h None apart_g_h refl

  at3_1_h : ((at 3).node 1).table h ≡ None
  unfolding upd
  at3_1_h = not_merged_at ((at 2).node 1).table g (a1 ∷ a1 ∷ []) ((at 2).node 1).ended h None apart_g_h (at0_1_h)

  at3_1_g : ((at 3).node 1).table g ≡ exchanged (exchanged None (a1 ∷ b1 ∷ []) none_ended) (a1 ∷ a1 ∷ []) none_ended
  unfolding upd
  at3_1_g = merged_at ((at 2).node 1).table g (a1 ∷ a1 ∷ []) ((at 2).node 1).ended (exchanged None (a1 ∷ b1 ∷ []) none_ended) same (at0_1_g)

  at4_0_h : ((at 4).node 0).table h ≡ None
  unfolding upd
  at4_0_h = not_merged_at ((at 3).node 0).table g (a1 ∷ b1 ∷ []) ((at 3).node 0).ended h None apart_g_h (at0_0_h)

  at4_0_g : ((at 4).node 0).table g ≡ exchanged (exchanged None (a1 ∷ a1 ∷ []) none_ended) (a1 ∷ b1 ∷ []) none_ended
  unfolding upd
  at4_0_g = merged_at ((at 3).node 0).table g (a1 ∷ b1 ∷ []) ((at 3).node 0).ended (exchanged None (a1 ∷ a1 ∷ []) none_ended) same (at0_0_g)

  at9_1_g : ((at 9).node 1).table g ≡ exchanged (exchanged None (a1 ∷ b1 ∷ []) none_ended) (a1 ∷ a1 ∷ []) none_ended
  unfolding upd
  at9_1_g = unchanged_at ((at 8).node 1).table creates_h ((at 8).node 1).ended g (exchanged (exchanged None (a1 ∷ b1 ∷ []) none_ended) (a1 ∷ a1 ∷ []) none_ended) apart_h_g (at3_1_g)

  at9_1_h : ((at 9).node 1).table h ≡ Some nobody
  unfolding upd
  at9_1_h = changed_at ((at 8).node 1).table creates_h ((at 8).node 1).ended None same_h (at3_1_h)

  at10_0_g : ((at 10).node 0).table g ≡ exchanged (exchanged None (a1 ∷ a1 ∷ []) none_ended) (a1 ∷ b1 ∷ []) none_ended
  unfolding upd
  at10_0_g = unchanged_at ((at 9).node 0).table creates_h ((at 9).node 0).ended g (exchanged (exchanged None (a1 ∷ a1 ∷ []) none_ended) (a1 ∷ b1 ∷ []) none_ended) apart_h_g (at4_0_g)

  at10_0_h : ((at 10).node 0).table h ≡ Some nobody
  unfolding upd
  at10_0_h = changed_at ((at 9).node 0).table creates_h ((at 9).node 0).ended None same_h (at4_0_h)

  made : AllMake (two_tables g) (start (two_tables g)) moves
  unfolding upd
  made = ((
    (ap (λ yes. named_as yes at_a (op_at 1) (command.Members g) ((at 0).node 0)) named),
    (
      (ap (λ yes. named_as yes at_b (op_at 1) (command.Create h) ((at 1).node 1)) named_h ∙ ap (λ r. looked r at_b (op_at 1) creates_h ((at 1).node 1)) (ap (λ v. look v creates_h) (at0_1_h))),
      (
        refl,
        (
          refl,
          (
            (ap (λ yes. named_as yes at_a (op_at 2) (command.Members g) ((at 4).node 0)) named),
            (
              (ap (λ yes. named_as yes at_b (op_at 2) (command.Members g) ((at 5).node 1)) named),
              (
                (ap (λ yes. Ok (attempt_own yes at_b (op_at 1) creates_h 2 ((at 6).node 1))) (ap is_free (held_at _ h (Some (numbered b 2)) same_h))),
                (
                  (asked at_a b (numbered b 2) h ((at 7).node 0) true refl),
                  (
                    (ap (λ yes. asks_rest_as yes at_b (op_at 1) creates_h 2 (round_two false at_b (round_one true at_b)) a ((at 8).node 1)) (ap is_free (held_at _ h (Some (numbered b 2)) same_h))),
                    (
                      refl,
                      (
                        (ap (λ yes. Ok (finishes yes at_b (op_at 1) creates_h 2 3 (same_atom b) a ((at 10).node 1))) (ap (λ x. is_holder x (numbered b 2)) (held_at _ h (Some (numbered b 2)) same_h))),
                        ((freed at_a b (numbered b 2) h ((at 11).node 0) true (ap (λ x. is_holder x (numbered b 2)) (held_at _ h (Some (numbered b 2)) same_h))), tt),
                      ),
                    ),
                  ),
                ),
              ),
            ),
          ),
        ),
      ),
    ),
  ))

  leads0 : Leads (machine_of (two_tables g)) (at 0) (tables_met g h) (at 6)
  leads0 = walk (two_tables g) (take 6 (drop 0 moves)) (at 0) refl (part (two_tables g) 0 6 moves (start (two_tables g)) made)

  there0 : behind (two_tables g) (at 0) (tables_met g h) ≡ (at 6)
  unfolding behind
  there0 = run_there (machine_of (two_tables g)) (tables_met g h) (at 0) (at 6) leads0

  leads1 : Leads (machine_of (two_tables g)) (at 0) (tables_met g h ++ created_later) (at 12)
  leads1 = walk (two_tables g) moves (start (two_tables g)) refl made

  there1 : behind (two_tables g) (at 0) (tables_met g h ++ created_later) ≡ (at 12)
  unfolding behind
  there1 = run_there (machine_of (two_tables g)) (tables_met g h ++ created_later) (at 0) (at 12) leads1

  pub happen : AllHappen (two_tables g) (start (two_tables g)) (tables_met g h ++ created_later)
  unfolding AllHappen
  happen = subst (Leads (machine_of (two_tables g)) (at 0) (tables_met g h ++ created_later)) (sym there1) leads1

  pub outcome : InitialTables g h (behind (two_tables g) (start (two_tables g)) (tables_met g h)) (behind (two_tables g) (start (two_tables g)) (tables_met g h ++ created_later))
  unfolding upd
  outcome = (subst (λ x. InitialTables g h x (behind (two_tables g) (start (two_tables g)) (tables_met g h ++ created_later))) (sym there0) (subst (λ x. InitialTables g h (at 6) x) (sym there1) (record {
    first_a = read_list _ (exchanged None (a1 ∷ a1 ∷ []) none_ended) g _ (at0_0_g) refl first_listed;
    answers_a = refl;
    met_a = read_list _ (exchanged (exchanged None (a1 ∷ a1 ∷ []) none_ended) (a1 ∷ b1 ∷ []) none_ended) g _ (at4_0_g) refl met_listed;
    met_b = read_list _ (exchanged (exchanged None (a1 ∷ b1 ∷ []) none_ended) (a1 ∷ a1 ∷ []) none_ended) g _ (at3_1_g) refl met_too_listed;
    unanswered = refl;
    free_met = refl;
    answers_b = refl;
    group_a = ap is_some (at10_0_h);
    group_b = ap is_some (at9_1_h);
  })))
