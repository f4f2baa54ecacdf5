-- A retry goes on once the greatest, which was asked alone, is lost.
use Rattle.std.proofs.Common.{◌≡◌, ℕ, take, true, false, List, [], ◌∷◌, ◌++◌, Some, None, Ok, refl, ap}
use Rattle.std.specs.Prelude.{is_some}
use Rattle.pg_laws.specs.PgGroup.Functions.{upd}
use Rattle.pg_laws.specs.PgLock.Locks.{is_holder, is_free}
use Rattle.pg_term.specs.declared.term.Term.{Term}
use Rattle.pg_term.specs.Same.{same_term, same_atom}
use Rattle.pg_laws.specs.PgMessageTypes.Name.{is_name}
use Rattle.pg_laws.specs.PgRefs.Numbered.{numbered}
use Rattle.pg_laws.specs.PgStep.Machines.Machine.{Take, Do}
use Rattle.pg_laws.specs.PgStep.Nodes.{Node, Nodes}
use Rattle.pg_laws.specs.PgStep.State.{Status, live_nodes}
use Rattle.pg_laws.specs.PgStep.State.Status.{Unasked, Yes}
use Rattle.pg_laws.specs.PgStep.Step.{Retry}
use Rattle.pg_laws.specs.PgStep.Turns.{becomes, and_then}
use Rattle.pg_laws.specs.PgStep.Attempts.{count_answer, locks_in}
use Rattle.pg_laws.specs.PgStep.Peers.{update_request}
use Rattle.pg_laws_examples.specs.Examples.{a, b, c, op_at, three_nodes, lock_ref}
use Rattle.pg_laws_examples.specs.LossExamples.{LosingFrameWorld, losing_start, ReadyByLoss}
use Rattle.pg_laws_examples.proofs.Trace.{held_at, changed_at, answers_lock, asked, ask_as, frees}
use Rattle.pg_laws_examples.proofs.Trace.{freed, round_one, round_two, begins, finishes, all}
use Rattle.pg_laws_examples.proofs.LossTrace.{Move, Makes, Sees, Loses, AllMade, walked, and_more, walk}
use Rattle.pg_laws_examples.proofs.ThreeMeet.{at_a, at_b, creates, beginning, begun, they_begin}

module _ (g : Term) (named : is_name g ≡ true) (same : same_term g g ≡ true) where
  -- c is lost, and a sees it
  abbrev lost : List Move
  lost = Loses 2 (λ y. 0) ∷ Sees 0 2 ∷ []

  abbrev seen : LosingFrameWorld
  seen = walked three_nodes (losing_start three_nodes) (beginning g ++ lost)

  abbrev left_a : Nodes
  left_a = live_nodes at_a (seen.world.node 0)

  abbrev forgotten : Node → Status
  forgotten = upd same_atom (round_one true at_a) c Unasked

  abbrev waits_for_b : Node → Status
  waits_for_b = round_two true left_a forgotten

  -- the retry goes on: a asks the rest, itself among them
  abbrev retried : List Move
  retried = Makes (Do 0 (Retry (op_at 1))) (λ s. and_then (ask_as true left_a all 1 (op_at 1) (creates g) c forgotten s) becomes) ∷ []

  abbrev tried : LosingFrameWorld
  tried = walked three_nodes seen retried

  abbrev left_b : Nodes
  left_b = live_nodes at_b ((walked three_nodes tried (Sees 1 2 ∷ [])).world.node 1)

  abbrev rest : List Move
  rest =
      -- b sees the loss of c
      Sees 1 2
      -- b grants a
      ∷ Makes (Take 1 0) (answers_lock true a lock_ref g)
      -- b grants: a begins its update
      ∷ Makes (Take 0 1) (λ s. and_then (count_answer 1 (op_at 1) (creates g) c waits_for_b b Yes s) (λ t.
      and_then (ask_as false left_a all 1 (op_at 1) (creates g) c (upd same_atom waits_for_b b Yes) t) (begins left_a (op_at 1) (creates g) 1)))
      -- b applies the update
      ∷ Makes (Take 1 0) (update_request a (numbered a 2) (creates g))
      -- b has applied it: the create ends
      ∷ Makes (Take 0 1) (finishes true left_a (op_at 1) (creates g) 1 2 (same_atom a) b)
      -- b frees the lock
      ∷ Makes (Take 1 0) (frees true g)
      ∷ []

  -- the world after so many of them
  abbrev at : ℕ → LosingFrameWorld
  at n = walked three_nodes tried (take n rest)

  first_made : AllMade three_nodes (losing_start three_nodes) (beginning g ++ lost)
  first_made = and_more three_nodes (beginning g) lost (losing_start three_nodes) (they_begin g named) (tt, (tt, tt))

  retry_made : AllMade three_nodes seen retried
  unfolding upd
  retry_made = (refl, tt)

  rest_made : AllMade three_nodes tried rest
  unfolding upd
  rest_made = (
    tt,
    (
      asked left_b a lock_ref g ((at 1).world.node 1) true refl,
      (
        ap (λ yes. Ok (and_then (count_answer 1 (op_at 1) (creates g) c waits_for_b b Yes ((at 2).world.node 0)) (λ t. and_then (ask_as yes left_a all 1 (op_at 1) (creates g) c (upd same_atom waits_for_b b Yes) t) (λ v. locks_in left_a 1 (v.uses 1) v))))
            (ap is_free (held_at _ g (Some lock_ref) same)),
        (
          refl,
          (
            ap (λ yes. Ok (finishes yes left_a (op_at 1) (creates g) 1 2 (same_atom a) b ((at 4).world.node 0))) (ap (λ x. is_holder x lock_ref) (held_at _ g (Some lock_ref) same)),
            (freed left_b a lock_ref g ((at 5).world.node 1) true (ap (λ x. is_holder x lock_ref) (held_at _ g (Some lock_ref) same)), tt),
          ),
        ),
      ),
    ),
  )

  pub outcome : ReadyByLoss g
  unfolding upd
  outcome = record {
    seen = seen;
    tried = tried;
    done = at 6;
    first = walk three_nodes (beginning g ++ lost) (losing_start three_nodes) refl first_made;
    second = walk three_nodes retried seen refl retry_made;
    none_sent = refl;
    one_sent = refl;
    third = walk three_nodes rest tried refl rest_made;
    answers_a = refl;
    group_b = ap is_some (changed_at ((at 3).world.node 1).table (creates g) ((at 3).world.node 1).ended None same refl);
  }
