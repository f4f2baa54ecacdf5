-- A process joins twice and leaves once.
use Rattle.std.specs.Prelude.{◌+◌}
use Rattle.std.proofs.Common.{◌≡◌, ℕ, take, true, false, List, [], ◌∷◌, ◌++◌, Some, None, Ok, refl, ap, sym, subst, ◌∙◌}
use Rattle.pg_laws.specs.PgGroup.Functions.{upd}
use Rattle.pg_laws.specs.PgGroup.Value.{nobody, with_one_more, with_one_less}
use Rattle.pg_term.specs.declared.term.Term.{Term}
use Rattle.pg_term.specs.Same.{same_term, same_atom}
use Rattle.pg_laws.specs.PgMessageTypes.Name.{is_name}
use Rattle.pg_laws.specs.PgGroup.declared.update.Update.{Update}
use Rattle.pg_laws.specs.PgGroup.declared.update.Update.TheVariants as update
use Rattle.pg_laws.specs.PgRefs.Numbered.{numbered}
use Rattle.pg_laws.specs.PgLock.Locks.{is_free, is_holder}
use Rattle.pg_laws.specs.PgStep.Machines.Machine.{Take, Do}
use Rattle.pg_laws.specs.PgStep.Machines.Runs.{Leads}
use Rattle.pg_laws.specs.PgStep.declared.command.Command.{Command}
use Rattle.pg_laws.specs.PgStep.declared.command.Command.TheVariants as command
use Rattle.pg_laws.specs.PgStep.FrameMachine.{machine_of, FrameWorld}
use Rattle.pg_laws.specs.PgStep.Config.{nodes_at, groups_at}
use Rattle.pg_laws.specs.PgStep.Nodes.{Nodes}
use Rattle.pg_laws.specs.PgStep.State.Response.{Read}
use Rattle.pg_laws.specs.PgStep.Step.{Issue}
use Rattle.pg_laws.specs.PgStep.Peers.{update_request, exchange}
use Rattle.pg_laws_examples.specs.Examples.{start, behind, AllHappen, a, b, a1, op_at, two_nodes, joined_twice, left_once}
use Rattle.pg_laws.specs.PgStep.Commands.{answer, make, look}
use Rattle.pg_laws.proofs.PgStep.Machines.Sequences.{run_there}
use Rattle.pg_laws_examples.proofs.Trace.{Move, AllMake, walked, walk, and_more, held_at, changed_at}
use Rattle.pg_laws_examples.proofs.Trace.{answers_lock, asked, frees, freed, asks_peer, attempt_as}
use Rattle.pg_laws_examples.proofs.Trace.{asks_own, attempt_own, asks_rest, asks_rest_as, round_one}
use Rattle.pg_laws_examples.proofs.Trace.{round_two, named_as, looked, begins, finishes, comes_in, opens}
use Rattle.pg_laws_examples.proofs.Listed.{read_list, twice_listed, once_listed}
use Rattle.pg_laws_examples.specs.Outcomes.{JoinTwiceLeaveOnce}

module _ (g : Term) (named : is_name g ≡ true) (same : same_term g g ≡ true) where
  abbrev at_a : Nodes
  at_a = nodes_at two_nodes 0

  abbrev at_b : Nodes
  at_b = nodes_at two_nodes 1

  abbrev creates : Update
  creates = update.Create g

  abbrev joins : Update
  joins = update.Join g a1

  abbrev leaves : Update
  leaves = update.Leave g a1

  -- the nodes meet, a creates the group and makes a process
  abbrev meeting : List Move
  meeting =
      -- b takes the exchange of a
      (Take 1 0, exchange a (groups_at two_nodes 0))
      -- a takes the exchange of b
      ∷ (Take 0 1, exchange b (groups_at two_nodes 1))
      -- a create comes in at a
      ∷ (Do 0 (Issue 0 (command.Create g)), opens (op_at 1) creates (asks_peer true at_a (op_at 1) creates 1))
      -- b grants a
      ∷ (Take 1 0, answers_lock true a (numbered a 1) g)
      -- b grants: a begins its update
      ∷ (Take 0 1, asks_rest true (begins at_a (op_at 1) creates 1) at_a (op_at 1) creates 1 (round_one true at_a) b)
      -- b applies the update of a
      ∷ (Take 1 0, update_request a (numbered a 2) creates)
      -- b has applied it too: the command ends
      ∷ (Take 0 1, finishes true at_a (op_at 1) creates 1 2 (same_atom a) b)
      -- b frees the lock of a
      ∷ (Take 1 0, frees true g)
      -- a making comes in at a
      ∷ (Do 0 (Issue 0 (command.Make)), comes_in (make at_a (op_at 2)))
      ∷ []

  -- a change by b, its command of this number, which uses two references from this counter on
  abbrev change : Command → Update → (number counter : ℕ) → List Move
  change c u n k =
      -- the change comes in at b, which grants itself
      (Do 1 (Issue 0 c), opens (op_at n) u (asks_own false at_b (op_at n) u k))
      -- a grants b
      ∷ (Take 0 1, answers_lock true b (numbered b k) g)
      -- a grants: b begins its update
      ∷ (Take 1 0, asks_rest false (begins at_b (op_at n) u k) at_b (op_at n) u k (round_two false at_b (round_one true at_b)) a)
      -- a applies the update of b
      ∷ (Take 0 1, update_request b (numbered b (k + 1)) u)
      -- a has applied it too: the command ends
      ∷ (Take 1 0, finishes true at_b (op_at n) u k (k + 1) (same_atom b) a)
      -- a frees the lock of b
      ∷ (Take 0 1, frees true g)
      ∷ []

  -- a node is asked for the members
  abbrev reads_at : (place number : ℕ) → Move
  reads_at i n = (Do i (Issue 0 (command.Members g)), (λ s. comes_in (answer (op_at n) (Read (command.Members g) s.table)) s))

  -- it joins twice, and both are asked; then it leaves once, and both are asked
  abbrev once : List Move
  once = change (command.Join g a1) joins 1 1

  abbrev twice : List Move
  twice = change (command.Join g a1) joins 2 3 ++ reads_at 0 3 ∷ reads_at 1 3 ∷ []

  abbrev less : List Move
  less = change (command.Leave g a1) leaves 4 5 ++ reads_at 0 4 ∷ reads_at 1 5 ∷ []

  abbrev moves : List Move
  moves = meeting ++ once ++ twice ++ less

  -- the world after so many of them
  abbrev at : ℕ → FrameWorld
  at n = walked two_nodes (start two_nodes) (take n moves)

  at5_0_g : ((at 5).node 0).table g ≡ Some nobody
  unfolding upd
  at5_0_g = changed_at ((at 4).node 0).table creates ((at 4).node 0).ended None same refl

  at6_1_g : ((at 6).node 1).table g ≡ Some nobody
  unfolding upd
  at6_1_g = changed_at ((at 5).node 1).table creates ((at 5).node 1).ended None same refl

  at12_1_g : ((at 12).node 1).table g ≡ Some (with_one_more nobody a1)
  unfolding upd
  at12_1_g = changed_at ((at 11).node 1).table joins ((at 11).node 1).ended (Some nobody) same (at6_1_g)

  at13_0_g : ((at 13).node 0).table g ≡ Some (with_one_more nobody a1)
  unfolding upd
  at13_0_g = changed_at ((at 12).node 0).table joins ((at 12).node 0).ended (Some nobody) same (at5_0_g)

  at18_1_g : ((at 18).node 1).table g ≡ Some (with_one_more (with_one_more nobody a1) a1)
  unfolding upd
  at18_1_g = changed_at ((at 17).node 1).table joins ((at 17).node 1).ended (Some (with_one_more nobody a1)) same (at12_1_g)

  at19_0_g : ((at 19).node 0).table g ≡ Some (with_one_more (with_one_more nobody a1) a1)
  unfolding upd
  at19_0_g = changed_at ((at 18).node 0).table joins ((at 18).node 0).ended (Some (with_one_more nobody a1)) same (at13_0_g)

  at26_1_g : ((at 26).node 1).table g ≡ Some (with_one_less (with_one_more (with_one_more nobody a1) a1) a1)
  unfolding upd
  at26_1_g = changed_at ((at 25).node 1).table leaves ((at 25).node 1).ended (Some (with_one_more (with_one_more nobody a1) a1)) same (at18_1_g)

  at27_0_g : ((at 27).node 0).table g ≡ Some (with_one_less (with_one_more (with_one_more nobody a1) a1) a1)
  unfolding upd
  at27_0_g = changed_at ((at 26).node 0).table leaves ((at 26).node 0).ended (Some (with_one_more (with_one_more nobody a1) a1)) same (at19_0_g)

  meeting_made : AllMake two_nodes (at 0) meeting
  unfolding upd
  meeting_made = (
    refl,
    (
      refl,
      (
        (ap (λ yes. named_as yes at_a (op_at 1) (command.Create g) ((at 2).node 0)) named),
        (
          (asked at_b a (numbered a 1) g ((at 3).node 1) true refl),
          (
            refl,
            (
              refl,
              (
                (ap (λ yes. Ok (finishes yes at_a (op_at 1) creates 1 2 (same_atom a) b ((at 6).node 0))) (ap (λ x. is_holder x (numbered a 1)) (held_at _ g (Some (numbered a 1)) same))),
                (
                  (freed at_b a (numbered a 1) g ((at 7).node 1) true (ap (λ x. is_holder x (numbered a 1)) (held_at _ g (Some (numbered a 1)) same))),
                  (
                    refl,
                    tt,
                  ),
                ),
              ),
            ),
          ),
        ),
      ),
    ),
  )

  once_made : AllMake two_nodes (at 9) once
  unfolding upd
  once_made = (
    (ap (λ yes. named_as yes at_b (op_at 1) (command.Join g a1) ((at 9).node 1)) named ∙ ap (λ r. looked r at_b (op_at 1) joins ((at 9).node 1)) (ap (λ v. look v joins) (at6_1_g)) ∙ ap (λ yes. Ok (opens (op_at 1) joins (attempt_as yes at_b (op_at 1) joins 1) ((at 9).node 1))) (ap is_free (held_at _ g None same)) ∙ ap (λ yes. Ok (opens (op_at 1) joins (attempt_own yes at_b (op_at 1) joins 1) ((at 9).node 1))) (ap is_free (held_at _ g (Some (numbered b 1)) same))),
    (
      (asked at_a b (numbered b 1) g ((at 10).node 0) true (ap is_free (held_at _ g None same))),
      (
        (ap (λ yes. asks_rest_as yes at_b (op_at 1) joins 1 (round_two false at_b (round_one true at_b)) a ((at 11).node 1)) (ap is_free (held_at _ g (Some (numbered b 1)) same))),
        (
          refl,
          (
            (ap (λ yes. Ok (finishes yes at_b (op_at 1) joins 1 2 (same_atom b) a ((at 13).node 1))) (ap (λ x. is_holder x (numbered b 1)) (held_at _ g (Some (numbered b 1)) same))),
            (
              (freed at_a b (numbered b 1) g ((at 14).node 0) true (ap (λ x. is_holder x (numbered b 1)) (held_at _ g (Some (numbered b 1)) same))),
              tt,
            ),
          ),
        ),
      ),
    ),
  )

  twice_made : AllMake two_nodes (at 15) twice
  unfolding upd
  twice_made = (
    (ap (λ yes. named_as yes at_b (op_at 2) (command.Join g a1) ((at 15).node 1)) named ∙ ap (λ r. looked r at_b (op_at 2) joins ((at 15).node 1)) (ap (λ v. look v joins) (at12_1_g)) ∙ ap (λ yes. Ok (opens (op_at 2) joins (attempt_as yes at_b (op_at 2) joins 3) ((at 15).node 1))) (ap is_free (held_at (((at 13).node 1).locks) g None same)) ∙ ap (λ yes. Ok (opens (op_at 2) joins (attempt_own yes at_b (op_at 2) joins 3) ((at 15).node 1))) (ap is_free (held_at (((at 15).node 1).locks) g (Some (numbered b 3)) same))),
    (
      (asked at_a b (numbered b 3) g ((at 16).node 0) true (ap is_free (held_at (((at 14).node 0).locks) g None same))),
      (
        (ap (λ yes. asks_rest_as yes at_b (op_at 2) joins 3 (round_two false at_b (round_one true at_b)) a ((at 17).node 1)) (ap is_free (held_at (((at 15).node 1).locks) g (Some (numbered b 3)) same))),
        (
          refl,
          (
            (ap (λ yes. Ok (finishes yes at_b (op_at 2) joins 3 4 (same_atom b) a ((at 19).node 1))) (ap (λ x. is_holder x (numbered b 3)) (held_at (((at 15).node 1).locks) g (Some (numbered b 3)) same))),
            (
              (freed at_a b (numbered b 3) g ((at 20).node 0) true (ap (λ x. is_holder x (numbered b 3)) (held_at (((at 16).node 0).locks) g (Some (numbered b 3)) same))),
              (
                (ap (λ yes. named_as yes at_a (op_at 3) (command.Members g) ((at 21).node 0)) named),
                (
                  (ap (λ yes. named_as yes at_b (op_at 3) (command.Members g) ((at 22).node 1)) named),
                  tt,
                ),
              ),
            ),
          ),
        ),
      ),
    ),
  )

  less_made : AllMake two_nodes (at 23) less
  unfolding upd
  less_made = (
    (ap (λ yes. named_as yes at_b (op_at 4) (command.Leave g a1) ((at 23).node 1)) named ∙ ap (λ r. looked r at_b (op_at 4) leaves ((at 23).node 1)) (ap (λ v. look v leaves) (at18_1_g)) ∙ ap (λ yes. Ok (opens (op_at 4) leaves (attempt_as yes at_b (op_at 4) leaves 5) ((at 23).node 1))) (ap is_free (held_at (((at 19).node 1).locks) g None same)) ∙ ap (λ yes. Ok (opens (op_at 4) leaves (attempt_own yes at_b (op_at 4) leaves 5) ((at 23).node 1))) (ap is_free (held_at (((at 23).node 1).locks) g (Some (numbered b 5)) same))),
    (
      (asked at_a b (numbered b 5) g ((at 24).node 0) true (ap is_free (held_at (((at 20).node 0).locks) g None same))),
      (
        (ap (λ yes. asks_rest_as yes at_b (op_at 4) leaves 5 (round_two false at_b (round_one true at_b)) a ((at 25).node 1)) (ap is_free (held_at (((at 23).node 1).locks) g (Some (numbered b 5)) same))),
        (
          refl,
          (
            (ap (λ yes. Ok (finishes yes at_b (op_at 4) leaves 5 6 (same_atom b) a ((at 27).node 1))) (ap (λ x. is_holder x (numbered b 5)) (held_at (((at 23).node 1).locks) g (Some (numbered b 5)) same))),
            (
              (freed at_a b (numbered b 5) g ((at 28).node 0) true (ap (λ x. is_holder x (numbered b 5)) (held_at (((at 24).node 0).locks) g (Some (numbered b 5)) same))),
              (
                (ap (λ yes. named_as yes at_a (op_at 4) (command.Members g) ((at 29).node 0)) named),
                (
                  (ap (λ yes. named_as yes at_b (op_at 5) (command.Members g) ((at 30).node 1)) named),
                  tt,
                ),
              ),
            ),
          ),
        ),
      ),
    ),
  )

  twice_made_all : AllMake two_nodes (at 0) (meeting ++ once ++ twice)
  twice_made_all = and_more two_nodes meeting (once ++ twice) (at 0) meeting_made (and_more two_nodes once twice (at 9) once_made twice_made)

  made : AllMake two_nodes (at 0) moves
  made = and_more two_nodes meeting (once ++ twice ++ less) (at 0) meeting_made (
      and_more two_nodes once (twice ++ less) (at 9) once_made (and_more two_nodes twice less (at 15) twice_made less_made))

  leads0 : Leads (machine_of two_nodes) (at 0) (joined_twice g) (at 23)
  leads0 = walk two_nodes (meeting ++ once ++ twice) (at 0) refl twice_made_all

  there0 : behind two_nodes (at 0) (joined_twice g) ≡ (at 23)
  unfolding behind
  there0 = run_there (machine_of two_nodes) (joined_twice g) (at 0) (at 23) leads0

  leads1 : Leads (machine_of two_nodes) (at 0) (joined_twice g ++ left_once g) (at 31)
  leads1 = walk two_nodes moves (at 0) refl made

  there1 : behind two_nodes (at 0) (joined_twice g ++ left_once g) ≡ (at 31)
  unfolding behind
  there1 = run_there (machine_of two_nodes) (joined_twice g ++ left_once g) (at 0) (at 31) leads1

  pub happen : AllHappen two_nodes (start two_nodes) (joined_twice g ++ left_once g)
  unfolding AllHappen
  happen = subst (Leads (machine_of two_nodes) (at 0) (joined_twice g ++ left_once g)) (sym there1) leads1

  pub outcome : JoinTwiceLeaveOnce g (behind two_nodes (start two_nodes) (joined_twice g)) (behind two_nodes (start two_nodes) (joined_twice g ++ left_once g))
  unfolding upd
  outcome = (subst (λ x. JoinTwiceLeaveOnce g x (behind two_nodes (start two_nodes) (joined_twice g ++ left_once g))) (sym there0) (subst (λ x. JoinTwiceLeaveOnce g (at 23) x) (sym there1) (record {
    joined_a = read_list _ (Some (with_one_more (with_one_more nobody a1) a1)) g _ (at19_0_g) refl twice_listed;
    joined_b = read_list _ (Some (with_one_more (with_one_more nobody a1) a1)) g _ (at18_1_g) refl twice_listed;
    left_a = read_list _ (Some (with_one_less (with_one_more (with_one_more nobody a1) a1) a1)) g _ (at27_0_g) refl once_listed;
    left_b = read_list _ (Some (with_one_less (with_one_more (with_one_more nobody a1) a1) a1)) g _ (at26_1_g) refl once_listed;
    answers_a = refl;
    answers_b = refl;
  })))
