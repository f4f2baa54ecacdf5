-- One node gathers replies.
use Rattle.std.proofs.Common.{◌≡◌, true, false, [], ◌∷◌, ◌++◌, Some, None}
use Rattle.std.proofs.Common.{Ok, refl, ap, sym, subst, ℕ, List, take, drop}
use Rattle.pg_laws.specs.PgGroup.Functions.{upd}
use Rattle.pg_laws.specs.PgGroup.Value.{nobody}
use Rattle.pg_term.specs.declared.term.Term.{Term}
use Rattle.pg_term.specs.Same.{same_term, same_atom}
use Rattle.pg_laws.specs.PgMessageTypes.Name.{is_name}
use Rattle.pg_laws.specs.PgGroup.declared.update.Update.{Update}
use Rattle.pg_laws.specs.PgGroup.declared.update.Update.TheVariants as update
use Rattle.pg_laws.specs.PgRefs.Numbered.{numbered}
use Rattle.pg_laws.specs.PgLock.Locks.{is_free, is_holder}
use Rattle.pg_laws.specs.PgStep.Machines.Machine.{Take, Do}
use Rattle.pg_laws.specs.PgStep.Machines.Runs.{Leads}
use Rattle.pg_laws.specs.PgStep.declared.command.Command.TheVariants as command
use Rattle.pg_laws.specs.PgStep.FrameMachine.{machine_of, FrameWorld}
use Rattle.pg_laws.specs.PgStep.Config.{nodes_at, groups_at}
use Rattle.pg_laws.specs.PgStep.Nodes.{Nodes}
use Rattle.pg_laws.specs.PgStep.State.Status.{Yes}
use Rattle.pg_laws.specs.PgStep.Step.{Issue}
use Rattle.pg_laws.specs.PgStep.Turns.{NodeTurn, and_then, becomes}
use Rattle.pg_laws.specs.PgStep.Peers.{exchange}
use Rattle.pg_laws.specs.PgStep.declared.answer.Odd.TheVariants.{Stranger, Double}
use Rattle.pg_laws_examples.specs.Examples.{behind, AllHappen, a, b, c, op_at, stands, three_nodes}
use Rattle.pg_laws_examples.specs.Examples.{with_replies, asked_greatest, gathering_events, completed}
use Rattle.pg_laws.specs.PgStep.Attempts.{strange, count_ok}
use Rattle.pg_laws.proofs.PgStep.Machines.Sequences.{run_there}
use Rattle.pg_laws_examples.proofs.Trace.{Move, AllMake, walked, walk, part, held_at, changed_at, all_of_group, asks_peer}
use Rattle.pg_laws_examples.proofs.Trace.{asks_rest, asks_rest_as, round_one, round_two, named_as, begins, finishes, opens}
use Rattle.pg_laws_examples.specs.Outcomes.{GatheredReplies}

module _ (g : Term) (named : is_name g ≡ true) (same : same_term g g ≡ true) where
  abbrev at_a : Nodes
  at_a = nodes_at three_nodes 0

  abbrev at_b : Nodes
  at_b = nodes_at three_nodes 1

  abbrev at_c : Nodes
  at_c = nodes_at three_nodes 2

  abbrev creates : Update
  creates = update.Create g

  abbrev moves : List Move
  moves =
      -- a takes the exchange of b
      (Take 0 1, exchange b (groups_at three_nodes 1))
      -- a takes the exchange of c
      ∷ (Take 0 2, exchange c (groups_at three_nodes 2))
      -- a create comes in at a
      ∷ (Do 0 (Issue 0 (command.Create g)), opens (op_at 1) creates (asks_peer true at_a (op_at 1) creates 1))
      -- a reply of b completes nothing
      ∷ (Take 0 1, strange Stranger)
      -- c grants: a asks the rest
      ∷ (Take 0 2, asks_rest true becomes at_a (op_at 1) creates 1 (round_one true at_a) c)
      -- a reply of c completes nothing
      ∷ (Take 0 2, strange Stranger)
      -- b grants: a begins its update
      ∷ (Take 0 1, asks_rest false (begins at_a (op_at 1) creates 1) at_a (op_at 1) creates 1 (round_two true at_a (upd same_atom (round_one true at_a) c Yes)) b)
      -- b has applied it too
      ∷ (Take 0 1, (λ s. and_then (count_ok 2 (op_at 1) creates 1 (same_atom a) b s) becomes))
      -- a reply of b completes nothing
      ∷ (Take 0 1, strange Double)
      -- a reply of c completes nothing
      ∷ (Take 0 2, strange Stranger)
      -- c has applied it too: the command ends
      ∷ (Take 0 2, finishes true at_a (op_at 1) creates 1 2 (upd same_atom (same_atom a) b true) c)
      ∷ []

  -- the world after so many of them
  abbrev at : ℕ → FrameWorld
  at n = walked three_nodes (with_replies) (take n moves)

  at7_0_g : ((at 7).node 0).table g ≡ Some nobody
  unfolding upd
  at7_0_g = changed_at ((at 6).node 0).table creates ((at 6).node 0).ended None same refl

  made : AllMake three_nodes (with_replies) moves
  unfolding upd
  made = ((
    refl,
    (
      refl,
      (
        (ap (λ yes. named_as yes at_a (op_at 1) (command.Create g) ((at 2).node 0)) named),
        (
          refl,
          (
            refl,
            (
              refl,
              (
                (ap (λ yes. asks_rest_as yes at_a (op_at 1) creates 1 (round_two true at_a (upd same_atom (round_one true at_a) c Yes)) b ((at 6).node 0)) (ap is_free (held_at _ g (Some (numbered a 1)) same))),
                (
                  refl,
                  (
                    refl,
                    (
                      refl,
                      ((ap (λ yes. Ok (finishes yes at_a (op_at 1) creates 1 2 (upd same_atom (same_atom a) b true) c ((at 10).node 0))) (ap (λ x. is_holder x (numbered a 1)) (held_at _ g (Some (numbered a 1)) same))), tt),
                    ),
                  ),
                ),
              ),
            ),
          ),
        ),
      ),
    ),
  ))

  leads0 : Leads (machine_of three_nodes) (at 0) (asked_greatest g) (at 3)
  leads0 = walk three_nodes (take 3 (drop 0 moves)) (at 0) refl (part three_nodes 0 3 moves (with_replies) made)

  there0 : behind three_nodes (at 0) (asked_greatest g) ≡ (at 3)
  unfolding behind
  there0 = run_there (machine_of three_nodes) (asked_greatest g) (at 0) (at 3) leads0

  leads1 : Leads (machine_of three_nodes) (at 0) (asked_greatest g ++ gathering_events) (at 10)
  leads1 = walk three_nodes (take 10 (drop 0 moves)) (at 0) refl (part three_nodes 0 10 moves (with_replies) made)

  there1 : behind three_nodes (at 0) (asked_greatest g ++ gathering_events) ≡ (at 10)
  unfolding behind
  there1 = run_there (machine_of three_nodes) (asked_greatest g ++ gathering_events) (at 0) (at 10) leads1

  leads2 : Leads (machine_of three_nodes) (at 0) (asked_greatest g ++ gathering_events ++ completed) (at 11)
  leads2 = walk three_nodes moves (with_replies) refl made

  there2 : behind three_nodes (at 0) (asked_greatest g ++ gathering_events ++ completed) ≡ (at 11)
  unfolding behind
  there2 = run_there (machine_of three_nodes) (asked_greatest g ++ gathering_events ++ completed) (at 0) (at 11) leads2

  pub happen : AllHappen three_nodes (with_replies) (asked_greatest g ++ gathering_events ++ completed)
  unfolding AllHappen
  happen = subst (Leads (machine_of three_nodes) (at 0) (asked_greatest g ++ gathering_events ++ completed)) (sym there2) leads2

  pub outcome : GatheredReplies g (behind three_nodes (with_replies) (asked_greatest g)) (behind three_nodes (with_replies) (asked_greatest g ++ gathering_events)) (behind three_nodes (with_replies) (asked_greatest g ++ gathering_events ++ completed))
  unfolding upd
  outcome = (subst (λ x. GatheredReplies g x (behind three_nodes (with_replies) (asked_greatest g ++ gathering_events)) (behind three_nodes (with_replies) (asked_greatest g ++ gathering_events ++ completed))) (sym there0) (subst (λ x. GatheredReplies g (at 3) x (behind three_nodes (with_replies) (asked_greatest g ++ gathering_events ++ completed))) (sym there1) (subst (λ x. GatheredReplies g (at 3) (at 10) x) (sym there2) (record {
    wrong_kind = refl;
    not_asked = refl;
    odd = refl;
    wrong_kind_later = refl;
    still_open = refl;
    unanswered = refl;
    history = all_of_group g (stands 0 1 (update.Create g) ∷ []) (same, tt);
    answered = refl;
  }))))
