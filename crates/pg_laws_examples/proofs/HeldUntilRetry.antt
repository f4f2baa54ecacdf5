-- A ready command keeps its lock, and another is denied, until it is tried again.
use Rattle.std.proofs.Common.{◌≡◌, ℕ, take, true, false, List, [], ◌∷◌, ◌++◌, Some, None, Ok, refl, ap, ◌∙◌}
use Rattle.pg_laws.specs.PgGroup.Functions.{upd}
use Rattle.pg_laws.specs.PgLock.Locks.{is_holder, is_free, freed_of}
use Rattle.pg_term.specs.declared.term.Term.{Term}
use Rattle.pg_term.specs.Same.{same_term, same_atom}
use Rattle.pg_laws.specs.PgMessageTypes.Name.{is_name}
use Rattle.pg_laws.specs.PgRefs.Numbered.{numbered}
use Rattle.pg_laws.specs.PgGroup.declared.update.Update.TheVariants as update
use Rattle.pg_laws.specs.PgStep.Machines.Machine.{Take, Do}
use Rattle.pg_laws.specs.PgStep.declared.command.Command.TheVariants as command
use Rattle.pg_laws.specs.PgStep.Nodes.{Node, Nodes}
use Rattle.pg_laws.specs.PgStep.State.{Status, live_nodes}
use Rattle.pg_laws.specs.PgStep.State.Status.{Unasked, Yes}
use Rattle.pg_laws.specs.PgStep.Step.{Issue, Retry}
use Rattle.pg_laws.specs.PgStep.Turns.{becomes, and_then}
use Rattle.pg_laws.specs.PgStep.Attempts.{locks_in}
use Rattle.pg_laws.specs.PgStep.Peers.{update_request}
use Rattle.pg_laws_examples.specs.Examples.{a, b, c, op_at, stands, three_nodes, lock_ref}
use Rattle.pg_laws_examples.specs.LossExamples.{HeldUntilRetry, LosingFrameWorld, losing_start}
use Rattle.pg_laws_examples.proofs.Trace.{held_at, all_of_group, answers_lock, asked, ask_as, asks_rest, asks_nobody}
use Rattle.pg_laws_examples.proofs.Trace.{attempt_as, frees, freed, round_one, round_two, named_as, begins, finishes, opens, all}
use Rattle.pg_laws_examples.proofs.LossTrace.{Move, Makes, Sees, Loses, AllMade, walked, and_more, walk}
use Rattle.pg_laws_examples.proofs.ThreeMeet.{at_a, at_c, creates, beginning, begun, they_begin}

module _ (g : Term) (named : is_name g ≡ true) (same : same_term g g ≡ true) where
  -- c grants, a asks the rest and grants itself; then b is lost, and the others see it
  abbrev granted : List Move
  granted =
      Makes (Take 2 0) (answers_lock true a lock_ref g)
      ∷ Makes (Take 0 2) (asks_rest true becomes at_a (op_at 1) (creates g) 1 (round_one true at_a) c)
      ∷ Loses 1 (λ y. 0)
      ∷ Sees 0 1
      ∷ Sees 2 1
      ∷ []

  abbrev seen : LosingFrameWorld
  seen = walked three_nodes (losing_start three_nodes) (beginning g ++ granted)

  abbrev left_a : Nodes
  left_a = live_nodes at_a (seen.world.node 0)

  abbrev left_c : Nodes
  left_c = live_nodes at_c (seen.world.node 2)

  abbrev forgotten : Node → Status
  forgotten = upd same_atom (round_two true at_a (upd same_atom (round_one true at_a) c Yes)) b Unasked

  -- a create comes in at c, which is the greatest and denies itself
  abbrev second : List Move
  second = Makes (Do 2 (Issue 0 (command.Create g))) (opens (op_at 1) (creates g) (asks_nobody left_c (op_at 1) (creates g) 1)) ∷ []

  abbrev denied : LosingFrameWorld
  denied = walked three_nodes seen second

  abbrev rest : List Move
  rest =
      -- the retry goes on: a begins its update
      Makes (Do 0 (Retry (op_at 1))) (λ s. and_then (ask_as false left_a all 1 (op_at 1) (creates g) c forgotten s) (begins left_a (op_at 1) (creates g) 1))
      -- c applies it
      ∷ Makes (Take 2 0) (update_request a (numbered a 2) (creates g))
      -- c has applied it: the create of a ends
      ∷ Makes (Take 0 2) (finishes true left_a (op_at 1) (creates g) 1 2 (same_atom a) c)
      -- c frees the lock
      ∷ Makes (Take 2 0) (frees true g)
      ∷ []

  -- the world after so many of them
  abbrev at : ℕ → LosingFrameWorld
  at n = walked three_nodes denied (take n rest)

  first_made : AllMade three_nodes (losing_start three_nodes) (beginning g ++ granted)
  unfolding upd
  first_made = and_more three_nodes (beginning g) granted (losing_start three_nodes) (they_begin g named)
      (asked at_c a lock_ref g ((begun g).world.node 2) true refl, (refl, (tt, (tt, (tt, tt)))))

  second_made : AllMade three_nodes seen second
  unfolding upd
  second_made = (
    ap (λ yes. named_as yes left_c (op_at 1) (command.Create g) (seen.world.node 2)) named
        ∙ ap (λ yes. Ok (opens (op_at 1) (creates g) (attempt_as yes left_c (op_at 1) (creates g) 1) (seen.world.node 2))) (ap (λ h. is_free (freed_of b h)) (held_at _ g (Some lock_ref) same)),
    tt,
  )

  rest_made : AllMade three_nodes denied rest
  unfolding upd
  rest_made = (
    ap (λ yes. Ok (and_then (ask_as yes left_a all 1 (op_at 1) (creates g) c forgotten (denied.world.node 0)) (λ v. locks_in left_a 1 (v.uses 1) v)))
        (ap (λ h. is_free (freed_of b h)) (held_at _ g (Some lock_ref) same)),
    (
      refl,
      (
        ap (λ yes. Ok (finishes yes left_a (op_at 1) (creates g) 1 2 (same_atom a) c ((at 2).world.node 0))) (ap (λ h. is_holder (freed_of b h) lock_ref) (held_at _ g (Some lock_ref) same)),
        (freed left_c a lock_ref g ((at 3).world.node 2) true (ap (λ h. is_holder (freed_of b h) lock_ref) (held_at _ g (Some lock_ref) same)), tt),
      ),
    ),
  )

  pub outcome : HeldUntilRetry g
  unfolding upd
  outcome = record {
    seen = seen;
    denied = denied;
    done = at 4;
    first = walk three_nodes (beginning g ++ granted) (losing_start three_nodes) refl first_made;
    ready = refl;
    held_c = ap (freed_of b) (held_at _ g (Some lock_ref) same);
    second = walk three_nodes second seen refl second_made;
    waits_c = refl;
    third = walk three_nodes rest denied refl rest_made;
    answers_a = refl;
    free_a = held_at _ g None same;
    free_c = held_at _ g None same;
    history = all_of_group g (stands 0 1 (update.Create g) ∷ []) (same, tt);
  }
