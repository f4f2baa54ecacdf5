-- A lock that a lost node holds is freed, and the others go on.
use Rattle.std.proofs.Common.{◌≡◌, ℕ, take, true, List, [], ◌∷◌, ◌++◌, Some, None, Ok, refl, ap}
use Rattle.std.specs.Prelude.{is_some}
use Rattle.pg_laws.specs.PgGroup.Functions.{upd}
use Rattle.pg_laws.specs.PgLock.Locks.{is_holder, is_free, freed_of}
use Rattle.pg_term.specs.declared.term.Term.{Term}
use Rattle.pg_term.specs.RefParts.{RefParts}
use Rattle.pg_term.specs.Same.{same_term, same_atom}
use Rattle.pg_laws.specs.PgMessageTypes.Name.{is_name}
use Rattle.pg_laws.specs.PgRefs.Numbered.{numbered}
use Rattle.pg_laws.specs.PgStep.Machines.Machine.{Take, Do}
use Rattle.pg_laws.specs.PgStep.declared.command.Command.TheVariants as command
use Rattle.pg_laws.specs.PgStep.Nodes.{Nodes}
use Rattle.pg_laws.specs.PgStep.State.{live_nodes}
use Rattle.pg_laws.specs.PgStep.Step.{Issue}
use Rattle.pg_laws.specs.PgStep.Peers.{update_request}
use Rattle.pg_laws_examples.specs.Examples.{a, b, c, op_at, three_nodes, lock_ref}
use Rattle.pg_laws_examples.specs.LossExamples.{LosingFrameWorld, losing_start, LockOfTheLost}
use Rattle.pg_laws_examples.proofs.Trace.{held_at, changed_at, answers_lock, asked, frees, freed, asks_peer}
use Rattle.pg_laws_examples.proofs.Trace.{asks_rest, round_one, named_as, begins, finishes, opens}
use Rattle.pg_laws_examples.proofs.LossTrace.{Move, Makes, Sees, Loses, AllMade, walked, and_more, walk}
use Rattle.pg_laws_examples.proofs.ThreeMeet.{at_b, at_c, creates, beginning, begun, they_begin}

module _ (g : Term) (named : is_name g ≡ true) (same : same_term g g ≡ true) where
  abbrev own_ref : RefParts
  own_ref = numbered b 1

  -- c grants a
  abbrev granted : List Move
  granted = Makes (Take 2 0) (answers_lock true a lock_ref g) ∷ []

  abbrev held : LosingFrameWorld
  held = walked three_nodes (losing_start three_nodes) (beginning g ++ granted)

  first_made : AllMade three_nodes (losing_start three_nodes) (beginning g ++ granted)
  unfolding upd
  first_made = and_more three_nodes (beginning g) granted (losing_start three_nodes) (they_begin g named)
      (asked at_c a lock_ref g ((begun g).world.node 2) true refl, tt)

  -- a is lost, and c sees it
  abbrev lost : List Move
  lost = Loses 0 (λ y. 0) ∷ Sees 2 0 ∷ []

  abbrev seen : LosingFrameWorld
  seen = walked three_nodes held lost

  abbrev left_b : Nodes
  left_b = live_nodes at_b ((walked three_nodes seen (Sees 1 0 ∷ [])).world.node 1)

  abbrev left_c : Nodes
  left_c = live_nodes at_c (seen.world.node 2)

  abbrev rest : List Move
  rest =
      -- b sees the loss of a
      Sees 1 0
      -- a create comes in at b, and asks the greatest
      ∷ Makes (Do 1 (Issue 0 (command.Create g))) (opens (op_at 1) (creates g) (asks_peer true left_b (op_at 1) (creates g) 1))
      -- c grants b
      ∷ Makes (Take 2 1) (answers_lock true b own_ref g)
      -- c grants: b grants itself, and begins its update
      ∷ Makes (Take 1 2) (asks_rest true (begins left_b (op_at 1) (creates g) 1) left_b (op_at 1) (creates g) 1 (round_one true left_b) c)
      -- c applies the update
      ∷ Makes (Take 2 1) (update_request b (numbered b 2) (creates g))
      -- c has applied it: the create ends
      ∷ Makes (Take 1 2) (finishes true left_b (op_at 1) (creates g) 1 2 (same_atom b) c)
      -- c frees the lock
      ∷ Makes (Take 2 1) (frees true g)
      ∷ []

  -- the world after so many of them
  abbrev at : ℕ → LosingFrameWorld
  at n = walked three_nodes seen (take n rest)

  rest_made : AllMade three_nodes seen rest
  unfolding upd
  rest_made = (
    tt,
    (
      ap (λ yes. named_as yes left_b (op_at 1) (command.Create g) ((at 1).world.node 1)) named,
      (
        asked left_c b own_ref g ((at 2).world.node 2) true (ap (λ h. is_free (freed_of a h)) (held_at _ g (Some lock_ref) same)),
        (
          refl,
          (
            refl,
            (
              ap (λ yes. Ok (finishes yes left_b (op_at 1) (creates g) 1 2 (same_atom b) c ((at 5).world.node 1))) (ap (λ x. is_holder x own_ref) (held_at _ g (Some own_ref) same)),
              (freed left_c b own_ref g ((at 6).world.node 2) true (ap (λ x. is_holder x own_ref) (held_at _ g (Some own_ref) same)), tt),
            ),
          ),
        ),
      ),
    ),
  )

  pub outcome : LockOfTheLost g
  unfolding upd
  outcome = record {
    held = held;
    seen = seen;
    done = at 7;
    first = walk three_nodes (beginning g ++ granted) (losing_start three_nodes) refl first_made;
    held_c = held_at _ g (Some lock_ref) same;
    second = walk three_nodes lost held refl (tt, (tt, tt));
    free_c = ap (freed_of a) (held_at _ g (Some lock_ref) same);
    third = walk three_nodes rest seen refl rest_made;
    answers_b = refl;
    group_b = ap is_some (changed_at ((at 3).world.node 1).table (creates g) ((at 3).world.node 1).ended None same refl);
    group_c = ap is_some (changed_at ((at 4).world.node 2).table (creates g) ((at 4).world.node 2).ended None same refl);
    seen_already = refl;
  }
