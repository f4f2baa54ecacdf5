-- A single node creates a group.
use Rattle.std.proofs.Common.{◌≡◌, true, false, List, [], ◌∷◌, Some, None, Ok, refl, ap, sym, subst, ◌∙◌, ℕ}
use Rattle.std.specs.Prelude.{is_some, Bool}
use Rattle.pg_laws.specs.PgGroup.Functions.{upd}
use Rattle.pg_laws.specs.PgLock.Locks.{is_free, is_holder}
use Rattle.pg_term.specs.declared.term.Term.{Term}
use Rattle.pg_term.specs.Same.{same_term}
use Rattle.pg_laws.specs.PgMessageTypes.Name.{is_name}
use Rattle.pg_laws.specs.PgGroup.declared.update.Update.{Update}
use Rattle.pg_laws.specs.PgGroup.declared.update.Update.TheVariants as update
use Rattle.pg_laws.specs.PgStep.Machines.Machine.{Do}
use Rattle.pg_laws.specs.PgStep.Machines.Runs.{Leads}
use Rattle.pg_laws.proofs.PgStep.Machines.Sequences.{run_there}
use Rattle.pg_laws.specs.PgStep.declared.command.Command.TheVariants as command
use Rattle.pg_laws.specs.PgStep.declared.command.OpId.{OpId}
use Rattle.pg_laws.specs.PgStep.Attempts.{begin, new_attempt}
use Rattle.pg_laws.specs.PgStep.Config.{nodes_at}
use Rattle.pg_laws.specs.PgStep.FrameMachine.{FrameWorld, machine_of}
use Rattle.pg_laws.specs.PgStep.Nodes.{Nodes, greatest}
use Rattle.pg_laws.specs.PgStep.State.{State}
use Rattle.pg_laws.specs.PgStep.Step.{Issue}
use Rattle.pg_laws.specs.PgStep.Turns.{NodeTurn, and_then}
use Rattle.pg_laws_examples.specs.Examples.{start, behind, AllHappen, op_at, stands, one_node, lock_ref, created_alone}
use Rattle.pg_laws_examples.specs.Outcomes.{SingleNode}
use Rattle.pg_laws_examples.proofs.Trace.{Move, AllMake, walked, walk, held_at, changed_at, all_of_group, ask_as}
use Rattle.pg_laws_examples.proofs.Trace.{attempt_own, finish_as, first, all, unasked, round_one, named_as, opens}

-- the node grants itself, has nobody else to ask, and begins and ends its update
abbrev done_alone : Bool → Nodes → OpId → Update → State → NodeTurn
done_alone holds m op u s = and_then (new_attempt (greatest m) op u s) (λ t. and_then (ask_as true m (first m) 1 op u (greatest m) unasked t) (λ r.
    and_then (ask_as false m all 1 op u (greatest m) (round_one true m) r) (λ v. and_then (begin m 1 op u v) (finish_as holds m 2 op u 1))))

module _ (g : Term) (named : is_name g ≡ true) (same : same_term g g ≡ true) where
  abbrev creates : Update
  creates = update.Create g

  abbrev at_a : Nodes
  at_a = nodes_at one_node 0

  abbrev before : State
  before = (start one_node).node 0

  abbrev moves : List Move
  moves = (Do 0 (Issue 0 (command.Create g)), opens (op_at 1) creates (done_alone true at_a (op_at 1) creates)) ∷ []

  abbrev after : FrameWorld
  after = walked one_node (start one_node) moves

  made : AllMake one_node (start one_node) moves
  unfolding upd
  made = (
    ap (λ yes. named_as yes at_a (op_at 1) (command.Create g) before) named
        ∙ ap (λ yes. Ok (opens (op_at 1) creates (attempt_own yes at_a (op_at 1) creates 1) before)) (ap is_free (held_at _ g (Some lock_ref) same))
        ∙ ap (λ yes. Ok (opens (op_at 1) creates (done_alone yes at_a (op_at 1) creates) before)) (ap (λ x. is_holder x lock_ref) (held_at _ g (Some lock_ref) same)),
    tt,
  )

  leads : Leads (machine_of one_node) (start one_node) (created_alone g) after
  leads = walk one_node moves (start one_node) refl made

  there : behind one_node (start one_node) (created_alone g) ≡ after
  unfolding behind
  there = run_there (machine_of one_node) (created_alone g) (start one_node) after leads

  pub happen : AllHappen one_node (start one_node) (created_alone g)
  unfolding AllHappen
  happen = subst (Leads (machine_of one_node) (start one_node) (created_alone g)) (sym there) leads

  pub outcome : SingleNode g (behind one_node (start one_node) (created_alone g))
  unfolding upd
  outcome = subst (λ w. SingleNode g w) (sym there) (record {
    answers = refl;
    group = ap is_some (changed_at before.table creates before.ended None same refl);
    free = held_at _ g None same;
    history = all_of_group g (stands 0 1 (update.Create g) ∷ []) (same, tt);
  })
