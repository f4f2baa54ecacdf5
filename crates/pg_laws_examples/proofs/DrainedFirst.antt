-- An update of a lost node is taken before its loss is seen.
use Rattle.std.proofs.Common.{◌≡◌, ℕ, take, true, false, cond, nat_eq, List, [], ◌∷◌, ◌++◌, Some, None, refl, ap}
use Rattle.std.specs.Prelude.{is_some}
use Rattle.pg_laws.specs.PgGroup.Functions.{upd}
use Rattle.pg_laws.specs.PgGroup.Value.{less}
use Rattle.pg_laws.specs.PgLock.Locks.{is_free}
use Rattle.pg_term.specs.declared.term.Term.{Term}
use Rattle.pg_term.specs.Same.{same_term, same_atom}
use Rattle.pg_laws.specs.PgMessageTypes.Name.{is_name}
use Rattle.pg_laws.specs.PgRefs.Numbered.{numbered}
use Rattle.pg_laws.specs.PgStep.Machines.Machine.{Take}
use Rattle.pg_laws.specs.PgStep.Nodes.{Node}
use Rattle.pg_laws.specs.PgStep.State.{Status}
use Rattle.pg_laws.specs.PgStep.State.Status.{Yes}
use Rattle.pg_laws.specs.PgStep.Turns.{becomes}
use Rattle.pg_laws.specs.PgStep.Peers.{update_request}
use Rattle.pg_laws_examples.specs.Examples.{a, b, c, op_at, three_nodes, lock_ref}
use Rattle.pg_laws_examples.specs.LossExamples.{LosingFrameWorld, losing_start, Drained}
use Rattle.pg_laws_examples.proofs.Trace.{held_at, changed_at, answers_lock, asked, asks_rest}
use Rattle.pg_laws_examples.proofs.Trace.{asks_rest_as, all_of_group, round_one, round_two, begins}
use Rattle.pg_laws_examples.proofs.LossTrace.{Move, Makes, Sees, Loses, AllMade, walked, and_more, walk}
use Rattle.pg_laws_examples.proofs.ThreeMeet.{at_a, at_b, at_c, creates, beginning, begun, they_begin}

module _ (g : Term) (named : is_name g ≡ true) (same : same_term g g ≡ true) where
  abbrev waits_for_b : Node → Status
  waits_for_b = round_two true at_a (upd same_atom (round_one true at_a) c Yes)

  abbrev first_rest : List Move
  first_rest =
      -- c grants a
      Makes (Take 2 0) (answers_lock true a lock_ref g)
      -- c grants: a asks the rest, and grants itself
      ∷ Makes (Take 0 2) (asks_rest true becomes at_a (op_at 1) (creates g) 1 (round_one true at_a) c)
      -- b grants a
      ∷ Makes (Take 1 0) (answers_lock true a lock_ref g)
      -- b grants: a begins its update
      ∷ Makes (Take 0 1) (asks_rest false (begins at_a (op_at 1) (creates g) 1) at_a (op_at 1) (creates g) 1 waits_for_b b)
      -- a is lost
      ∷ Loses 0 (λ y. cond (nat_eq y 1) 1 0)
      ∷ []

  -- the world after so many of them
  abbrev at : ℕ → LosingFrameWorld
  at n = walked three_nodes (begun g) (take n first_rest)

  abbrev lost : LosingFrameWorld
  lost = walked three_nodes (losing_start three_nodes) (beginning g ++ first_rest)

  first_made : AllMade three_nodes (losing_start three_nodes) (beginning g ++ first_rest)
  unfolding upd
  first_made = and_more three_nodes (beginning g) first_rest (losing_start three_nodes) (they_begin g named) (
    asked at_c a lock_ref g ((at 0).world.node 2) true refl,
    (
      refl,
      (
        asked at_b a lock_ref g ((at 2).world.node 1) true refl,
        (ap (λ yes. asks_rest_as yes at_a (op_at 1) (creates g) 1 waits_for_b b ((at 3).world.node 0)) (ap is_free (held_at _ g (Some lock_ref) same)), (tt, tt)),
      ),
    ),
  )

  -- b applies the update, and both see the loss of a
  abbrev rest : List Move
  rest = Makes (Take 1 0) (update_request a (numbered a 2) (creates g)) ∷ Sees 1 0 ∷ Sees 2 0 ∷ []

  rest_made : AllMade three_nodes lost rest
  unfolding upd
  rest_made = (refl, (tt, (tt, tt)))

  pub outcome : Drained g
  unfolding upd
  outcome = record {
    lost = lost;
    done = walked three_nodes lost rest;
    first = walk three_nodes (beginning g ++ first_rest) (losing_start three_nodes) refl first_made;
    not_drained = refl;
    second = walk three_nodes rest lost refl rest_made;
    group_b = ap (λ v. is_some (less v (λ pid. same_atom a pid.node))) (changed_at (lost.world.node 1).table (creates g) (lost.world.node 1).ended None same refl);
    none_c = refl;
    history = all_of_group g _ (same, tt);
  }
