-- A client at one node begins after a client at another was answered.
use Rattle.std.proofs.Common.{◌≡◌, ℕ, take, true, false, List, [], ◌∷◌, Some, None, Ok, refl, ap, ◌∙◌}
use Rattle.std.specs.Prelude.{is_some}
use Rattle.pg_laws.specs.PgGroup.Functions.{upd}
use Rattle.pg_laws.specs.PgGroup.Value.{nobody}
use Rattle.pg_term.specs.declared.term.Term.{Term}
use Rattle.pg_term.specs.Same.{same_term, same_atom}
use Rattle.pg_laws.specs.PgMessageTypes.Name.{is_name}
use Rattle.pg_laws.specs.PgGroup.declared.update.Update.{Update}
use Rattle.pg_laws.specs.PgGroup.declared.update.Update.TheVariants as update
use Rattle.pg_laws.specs.PgRefs.Numbered.{numbered}
use Rattle.pg_laws.specs.PgLock.Locks.{is_free, is_holder}
use Rattle.pg_laws.specs.PgStep.Machines.Machine.{Take, Do}
use Rattle.pg_laws.specs.PgStep.declared.command.Command.TheVariants as command
use Rattle.pg_laws.specs.PgStep.Commands.{answer}
use Rattle.pg_laws.specs.PgStep.Config.{nodes_at, groups_at}
use Rattle.pg_laws.specs.PgStep.FrameMachine.{FrameWorld}
use Rattle.pg_laws.specs.PgStep.Nodes.{Nodes}
use Rattle.pg_laws.specs.PgStep.Peers.{exchange, update_request}
use Rattle.pg_laws.specs.PgStep.State.Response.{Read}
use Rattle.pg_laws.specs.PgStep.Step.{Issue}
use Rattle.pg_laws_examples.specs.Examples.{a, b, op_at, stands, start, two_nodes}
use Rattle.pg_laws_examples.specs.Outcomes.{OneAfterAnother}
use Rattle.pg_laws_examples.proofs.Trace.{Move, AllMake, walked, walk, held_at, changed_at, all_of_group, look_delete}
use Rattle.pg_laws_examples.proofs.Trace.{answers_lock, asked, frees, freed, asks_peer, attempt_as, asks_own, attempt_own}
use Rattle.pg_laws_examples.proofs.Trace.{asks_rest, asks_rest_as, round_one, round_two, named_as, looked, begins}
use Rattle.pg_laws_examples.proofs.Trace.{finishes, comes_in, opens}

module _ (g : Term) (named : is_name g ≡ true) (same : same_term g g ≡ true) where
  abbrev at_a : Nodes
  at_a = nodes_at two_nodes 0

  abbrev at_b : Nodes
  at_b = nodes_at two_nodes 1

  abbrev creates : Update
  creates = update.Create g

  abbrev deletes : Update
  deletes = update.Delete g

  abbrev first_moves : List Move
  first_moves =
      -- each takes the exchange of the other
      (Take 1 0, exchange a (groups_at two_nodes 0))
      ∷ (Take 0 1, exchange b (groups_at two_nodes 1))
      -- a create comes in at a
      ∷ (Do 0 (Issue 0 (command.Create g)), opens (op_at 1) creates (asks_peer true at_a (op_at 1) creates 1))
      -- b grants a
      ∷ (Take 1 0, answers_lock true a (numbered a 1) g)
      -- b grants: a begins its update
      ∷ (Take 0 1, asks_rest true (begins at_a (op_at 1) creates 1) at_a (op_at 1) creates 1 (round_one true at_a) b)
      -- b applies the update of a
      ∷ (Take 1 0, update_request a (numbered a 2) creates)
      -- b has applied it: the command ends
      ∷ (Take 0 1, finishes true at_a (op_at 1) creates 1 2 (same_atom a) b)
      ∷ []

  abbrev answered : FrameWorld
  answered = walked two_nodes (start two_nodes) first_moves

  abbrev later_moves : List Move
  later_moves =
      -- b is asked for the members
      (Do 1 (Issue 0 (command.Members g)), (λ s. comes_in (answer (op_at 1) (Read (command.Members g) s.table)) s))
      -- b frees the lock of a
      ∷ (Take 1 0, frees true g)
      -- a delete comes in at b, which grants itself
      ∷ (Do 1 (Issue 0 (command.Delete g)), opens (op_at 2) deletes (asks_own false at_b (op_at 2) deletes 1))
      -- a grants b
      ∷ (Take 0 1, answers_lock true b (numbered b 1) g)
      -- a grants: b begins its update
      ∷ (Take 1 0, asks_rest false (begins at_b (op_at 2) deletes 1) at_b (op_at 2) deletes 1 (round_two false at_b (round_one true at_b)) a)
      -- a applies the update of b
      ∷ (Take 0 1, update_request b (numbered b 2) deletes)
      -- a has applied it: the command ends
      ∷ (Take 1 0, finishes true at_b (op_at 2) deletes 1 2 (same_atom b) a)
      -- a frees the lock of b
      ∷ (Take 0 1, frees true g)
      ∷ []

  -- the worlds after so many of them
  abbrev at : ℕ → FrameWorld
  at n = walked two_nodes (start two_nodes) (take n first_moves)

  abbrev behind_it : ℕ → FrameWorld
  behind_it n = walked two_nodes answered (take n later_moves)

  first_made : AllMake two_nodes (start two_nodes) first_moves
  unfolding upd
  first_made = (
    refl,
    (
      refl,
      (
        ap (λ yes. named_as yes at_a (op_at 1) (command.Create g) ((at 2).node 0)) named,
        (
          asked at_b a (numbered a 1) g ((at 3).node 1) true refl,
          (
            refl,
            (
              refl,
              (ap (λ yes. Ok (finishes yes at_a (op_at 1) creates 1 2 (same_atom a) b ((at 6).node 0))) (ap (λ x. is_holder x (numbered a 1)) (held_at _ g (Some (numbered a 1)) same)), tt),
            ),
          ),
        ),
      ),
    ),
  )

  later_made : AllMake two_nodes answered later_moves
  unfolding upd
  later_made = (
    ap (λ yes. named_as yes at_b (op_at 1) (command.Members g) (answered.node 1)) named,
    (
      freed at_b a (numbered a 1) g ((behind_it 1).node 1) true (ap (λ x. is_holder x (numbered a 1)) (held_at _ g (Some (numbered a 1)) same)),
      (
        ap (λ yes. named_as yes at_b (op_at 2) (command.Delete g) ((behind_it 2).node 1)) named
            ∙ ap (λ r. looked r at_b (op_at 2) deletes ((behind_it 2).node 1)) (look_delete (((behind_it 2).node 1).table g) g)
            ∙ ap (λ yes. Ok (opens (op_at 2) deletes (attempt_as yes at_b (op_at 2) deletes 1) ((behind_it 2).node 1))) (ap is_free (held_at _ g None same))
            ∙ ap (λ yes. Ok (opens (op_at 2) deletes (attempt_own yes at_b (op_at 2) deletes 1) ((behind_it 2).node 1))) (ap is_free (held_at _ g (Some (numbered b 1)) same)),
        (
          asked at_a b (numbered b 1) g ((behind_it 3).node 0) true (ap is_free (held_at _ g None same)),
          (
            ap (λ yes. asks_rest_as yes at_b (op_at 2) deletes 1 (round_two false at_b (round_one true at_b)) a ((behind_it 4).node 1)) (ap is_free (held_at _ g (Some (numbered b 1)) same)),
            (
              refl,
              (
                ap (λ yes. Ok (finishes yes at_b (op_at 2) deletes 1 2 (same_atom b) a ((behind_it 6).node 1))) (ap (λ x. is_holder x (numbered b 1)) (held_at _ g (Some (numbered b 1)) same)),
                (freed at_a b (numbered b 1) g ((behind_it 7).node 0) true (ap (λ x. is_holder x (numbered b 1)) (held_at _ g (Some (numbered b 1)) same)), tt),
              ),
            ),
          ),
        ),
      ),
    ),
  )

  created_a : (answered.node 0).table g ≡ Some nobody
  unfolding upd
  created_a = changed_at ((at 4).node 0).table creates ((at 4).node 0).ended None same refl

  created_b : (answered.node 1).table g ≡ Some nobody
  unfolding upd
  created_b = changed_at ((at 5).node 1).table creates ((at 5).node 1).ended None same refl

  deleted_a : ((behind_it 8).node 0).table g ≡ None
  unfolding upd
  deleted_a = changed_at ((behind_it 5).node 0).table deletes ((behind_it 5).node 0).ended (Some nobody) same created_a

  deleted_b : ((behind_it 8).node 1).table g ≡ None
  unfolding upd
  deleted_b = changed_at ((behind_it 4).node 1).table deletes ((behind_it 4).node 1).ended (Some nobody) same created_b

  pub outcome : OneAfterAnother g
  unfolding upd
  outcome = record {
    answered = answered;
    done = behind_it 8;
    first = walk two_nodes first_moves (start two_nodes) refl first_made;
    answers_a = refl;
    group_b = ap is_some created_b;
    second = walk two_nodes later_moves answered refl later_made;
    answers_b = refl;
    none_a = deleted_a;
    none_b = deleted_b;
    history = all_of_group g (stands 0 1 (update.Create g) ∷ stands 1 2 (update.Delete g) ∷ []) (same, (same, tt));
  }
