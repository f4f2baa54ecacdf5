-- The processes of a lost node are in no group, and come into none.
use Rattle.std.proofs.Common.{◌≡◌, ℕ, Bool, true, false, take, List, [], ◌∷◌, Some, None, Ok, refl, ap, ◌∙◌}
use Rattle.pg_laws.specs.PgGroup.Functions.{upd}
use Rattle.pg_laws.specs.PgGroup.Value.{Value, less, count_in}
use Rattle.pg_laws.specs.PgGroup.Table.{applied, exchanged}
use Rattle.pg_laws.specs.PgLock.Locks.{is_holder, is_free}
use Rattle.pg_term.specs.declared.term.Term.{Term}
use Rattle.pg_term.specs.Same.{same_term, same_atom}
use Rattle.pg_laws.specs.PgMessageTypes.Name.{is_name}
use Rattle.pg_laws.specs.PgGroup.declared.update.Update.{Update}
use Rattle.pg_laws.specs.PgGroup.declared.update.Update.TheVariants as update
use Rattle.pg_laws.specs.PgRefs.Numbered.{numbered}
use Rattle.pg_laws.specs.PgStep.Machines.Machine.{Take, Do}
use Rattle.pg_laws.specs.PgStep.declared.command.Command.TheVariants as command
use Rattle.pg_laws.specs.PgStep.Config.{nodes_at, groups_at}
use Rattle.pg_laws.specs.PgStep.Nodes.{Nodes, greatest}
use Rattle.pg_laws.specs.PgStep.State.{State, live_nodes}
use Rattle.pg_laws.specs.PgStep.Step.{Issue}
use Rattle.pg_laws.specs.PgStep.Turns.{NodeTurn, and_then}
use Rattle.pg_laws.specs.PgStep.Attempts.{new_attempt, begin}
use Rattle.pg_laws.specs.PgStep.Peers.{exchange}
use Rattle.pg_laws.specs.PgStep.Commands.{answer, look}
use Rattle.pg_laws.specs.PgStep.State.Response.{Read}
use Rattle.pg_laws_examples.specs.Examples.{a, b, op_at, a1, b1}
use Rattle.pg_laws_examples.specs.LossExamples.{LosingFrameWorld, losing_start, MembersOfTheLost, two_members}
use Rattle.pg_laws_examples.proofs.Listed.{both_listed, left_listed, read_list}
use Rattle.pg_laws_examples.proofs.Trace.{held_at, changed_at, ask_as, round_one, named_as, comes_in, opens}
use Rattle.pg_laws_examples.proofs.Trace.{all, looked, none_ended, merged_at, finish_as, first, unasked}
use Rattle.pg_laws_examples.proofs.LossTrace.{Move, Makes, Sees, Loses, AllMade, walked, walk}

module _ (g : Term) (named : is_name g ≡ true) (same : same_term g g ≡ true) where
  abbrev creates : Update
  creates = update.Create g

  abbrev at_a : Nodes
  at_a = nodes_at (two_members g) 0

  abbrev at_b : Nodes
  at_b = nodes_at (two_members g) 1

  abbrev joins : Update
  joins = update.Join g a1

  -- the one live node grants itself, begins and ends
  abbrev alone : Bool → Bool → Nodes → ℕ → ℕ → State → NodeTurn
  alone granted holds m k n s = and_then (new_attempt (greatest m) (op_at 3) joins s) (λ t. and_then (ask_as true m (first m) k (op_at 3) joins (greatest m) unasked t) (λ r.
      and_then (ask_as granted m all k (op_at 3) joins (greatest m) (round_one true m) r) (λ v. and_then (begin m k (op_at 3) joins v) (finish_as holds m n (op_at 3) joins k))))

  -- the members are asked for at b
  abbrev asked : ℕ → Move
  asked n = Makes (Do 1 (Issue 0 (command.Members g))) (λ s. comes_in (answer (op_at n) (Read (command.Members g) s.table)) s)

  abbrev start : LosingFrameWorld
  start = losing_start (two_members g)

  -- b takes the exchange of a, a that of b; then a is lost, and b does not know it yet
  abbrev first_moves : List Move
  first_moves =
      Makes (Take 1 0) (exchange a (groups_at (two_members g) 0))
      ∷ Makes (Take 0 1) (exchange b (groups_at (two_members g) 1))
      ∷ Loses 0 (λ y. 0)
      ∷ asked 1
      ∷ []

  abbrev lost : LosingFrameWorld
  lost = walked (two_members g) start first_moves

  abbrev both_there : Value
  both_there = exchanged (exchanged None (b1 ∷ []) none_ended) (a1 ∷ []) none_ended

  lost_g : (lost.world.node 1).table g ≡ both_there
  unfolding upd
  lost_g = merged_at (start.world.node 1).table g (a1 ∷ []) (start.world.node 1).ended (exchanged None (b1 ∷ []) none_ended) same
      (merged_at (λ name. None) g (b1 ∷ []) none_ended None same refl)

  first_made : AllMade (two_members g) start first_moves
  unfolding upd
  first_made = (refl, (refl, (tt, (ap (λ yes. named_as yes at_b (op_at 1) (command.Members g) ((walked (two_members g) start (take 3 first_moves)).world.node 1)) named, tt))))

  -- b sees the loss
  abbrev seen_moves : List Move
  seen_moves = Sees 1 0 ∷ asked 2 ∷ []

  abbrev seen : LosingFrameWorld
  seen = walked (two_members g) lost seen_moves

  abbrev left_b : Nodes
  left_b = live_nodes at_b (seen.world.node 1)

  abbrev gone_a : Value
  gone_a = less both_there (λ pid. same_atom a pid.node)

  seen_g : (seen.world.node 1).table g ≡ gone_a
  unfolding upd
  seen_g = ap (λ v. less v (λ pid. same_atom a pid.node)) lost_g

  seen_made : AllMade (two_members g) lost seen_moves
  unfolding upd
  seen_made = (tt, (ap (λ yes. named_as yes left_b (op_at 2) (command.Members g) ((walked (two_members g) lost (take 1 seen_moves)).world.node 1)) named, tt))

  -- a join comes in at b, which is alone
  abbrev last_moves : List Move
  last_moves = Makes (Do 1 (Issue 0 (command.Join g a1))) (opens (op_at 3) joins (alone false true left_b 1 2)) ∷ asked 4 ∷ []

  abbrev done : LosingFrameWorld
  done = walked (two_members g) seen last_moves

  done_g : (done.world.node 1).table g ≡ applied gone_a joins (seen.world.node 1).ended
  unfolding upd
  done_g = changed_at (seen.world.node 1).table joins (seen.world.node 1).ended gone_a same seen_g

  last_made : AllMade (two_members g) seen last_moves
  unfolding upd
  last_made = (
    ap (λ yes. named_as yes left_b (op_at 3) (command.Join g a1) (seen.world.node 1)) named
        ∙ ap (λ r. looked r left_b (op_at 3) joins (seen.world.node 1)) (ap (λ v. look v joins) seen_g)
        ∙ ap (λ h. Ok (opens (op_at 3) joins (alone (is_free h) (is_holder h (numbered b 1)) left_b 1 2) (seen.world.node 1))) (held_at _ g (Some (numbered b 1)) same),
    (ap (λ yes. named_as yes left_b (op_at 4) (command.Members g) ((walked (two_members g) seen (take 1 last_moves)).world.node 1)) named, tt),
  )

  pub outcome : MembersOfTheLost g
  unfolding upd
  outcome = record {
    lost = lost;
    seen = seen;
    done = done;
    first = walk (two_members g) first_moves start refl first_made;
    counts_a1 = ap (λ v. count_in v a1) lost_g;
    counts_b1 = ap (λ v. count_in v b1) lost_g;
    read_lost = read_list _ _ g _ lost_g refl both_listed;
    second = walk (two_members g) seen_moves lost refl seen_made;
    gone_a1 = ap (λ v. count_in v a1) seen_g;
    stays_b1 = ap (λ v. count_in v b1) seen_g;
    read_seen = read_list _ _ g _ seen_g refl left_listed;
    third = walk (two_members g) last_moves seen refl last_made;
    still_gone = ap (λ v. count_in v a1) done_g;
    still_there = ap (λ v. count_in v b1) done_g;
    read_done = read_list _ gone_a g _ done_g refl left_listed;
    answers_b = refl;
  }
