-- Three nodes take each other's groups.
use Rattle.std.proofs.Common.{◌≡◌, true, false, ◌&&◌, nat_eq, [], ◌∷◌, ◌++◌, Some}
use Rattle.std.proofs.Common.{None, refl, ap, sym, subst, ◌∙◌, ℕ, List, take, drop}
use Rattle.pg_laws.specs.PgGroup.Functions.{upd}
use Rattle.pg_laws.specs.PgGroup.Value.{count_in}
use Rattle.pg_laws.specs.PgGroup.Table.{exchanged}
use Rattle.pg_term.specs.declared.term.Term.{Term}
use Rattle.pg_term.specs.Same.{same_term}
use Rattle.pg_laws.specs.PgMessageTypes.Name.{is_name}
use Rattle.pg_laws.specs.PgGroup.declared.update.Update.{Update}
use Rattle.pg_laws.specs.PgGroup.declared.update.Update.TheVariants as update
use Rattle.pg_laws.specs.PgRefs.Numbered.{numbered}
use Rattle.pg_laws.specs.PgStep.Machines.Machine.{Take, Do}
use Rattle.pg_laws.specs.PgStep.Machines.Runs.{Leads}
use Rattle.pg_laws.specs.PgStep.declared.command.Command.TheVariants as command
use Rattle.pg_laws.specs.PgStep.FrameMachine.{machine_of, FrameWorld}
use Rattle.pg_laws.specs.PgStep.Config.{nodes_at, groups_at}
use Rattle.pg_laws.specs.PgStep.Nodes.{Nodes}
use Rattle.pg_laws.specs.PgStep.Step.{Issue}
use Rattle.pg_laws.specs.PgStep.Turns.{NodeTurn, becomes}
use Rattle.pg_laws.specs.PgStep.Peers.{exchange}
use Rattle.pg_laws_examples.specs.Examples.{start, behind, AllHappen, a, b, c, a1, op_at, three_tables, met_one, met_both}
use Rattle.std.specs.Prelude.{is_some}
use Rattle.pg_laws.proofs.PgStep.Machines.Sequences.{run_there}
use Rattle.pg_laws_examples.proofs.Trace.{Move, AllMake, walked, walk, part, none_ended, merged_at, look_delete}
use Rattle.pg_laws_examples.proofs.Trace.{answers_lock, asked, asks_peer, asks_rest, round_one, named_as, looked, opens}
use Rattle.pg_laws_examples.specs.Outcomes.{FormationOfThree}

module _ (g : Term) (named : is_name g ≡ true) (same : same_term g g ≡ true) where
  abbrev at_a : Nodes
  at_a = nodes_at (three_tables g) 0

  abbrev at_b : Nodes
  at_b = nodes_at (three_tables g) 1

  abbrev at_c : Nodes
  at_c = nodes_at (three_tables g) 2

  abbrev deletes : Update
  deletes = update.Delete g

  abbrev moves : List Move
  moves =
      -- c takes the exchange of a
      (Take 2 0, exchange a (groups_at (three_tables g) 0))
      -- c takes the exchange of b
      ∷ (Take 2 1, exchange b (groups_at (three_tables g) 1))
      -- a delete comes in at b
      ∷ (Do 1 (Issue 0 (command.Delete g)), opens (op_at 1) deletes (asks_peer false at_b (op_at 1) deletes 1))
      -- c grants b
      ∷ (Take 2 1, answers_lock true b (numbered b 1) g)
      -- b takes the exchange of c
      ∷ (Take 1 2, exchange c (groups_at (three_tables g) 2))
      -- c grants: b asks the rest
      ∷ (Take 1 2, asks_rest false becomes at_b (op_at 1) deletes 1 (round_one false at_b) c)
      -- a takes the exchange of b
      ∷ (Take 0 1, exchange b (groups_at (three_tables g) 1))
      -- a denies b
      ∷ (Take 0 1, answers_lock false b (numbered b 1) g)
      -- a takes the exchange of c
      ∷ (Take 0 2, exchange c (groups_at (three_tables g) 2))
      ∷ []

  -- the world after so many of them
  abbrev at : ℕ → FrameWorld
  at n = walked (three_tables g) (start (three_tables g)) (take n moves)

  at0_0_g : ((at 0).node 0).table g ≡ exchanged None (a1 ∷ a1 ∷ []) none_ended
  unfolding upd
  at0_0_g = merged_at (λ name. None) g (a1 ∷ a1 ∷ []) none_ended None same refl

  at0_1_g : ((at 0).node 1).table g ≡ exchanged None (a1 ∷ []) none_ended
  unfolding upd
  at0_1_g = merged_at (λ name. None) g (a1 ∷ []) none_ended None same refl

  at1_2_g : ((at 1).node 2).table g ≡ exchanged None (a1 ∷ a1 ∷ []) none_ended
  unfolding upd
  at1_2_g = merged_at ((at 0).node 2).table g (a1 ∷ a1 ∷ []) ((at 0).node 2).ended None same refl

  at2_2_g : ((at 2).node 2).table g ≡ exchanged (exchanged None (a1 ∷ a1 ∷ []) none_ended) (a1 ∷ []) none_ended
  unfolding upd
  at2_2_g = merged_at ((at 1).node 2).table g (a1 ∷ []) ((at 1).node 2).ended (exchanged None (a1 ∷ a1 ∷ []) none_ended) same (at1_2_g)

  at7_0_g : ((at 7).node 0).table g ≡ exchanged (exchanged None (a1 ∷ a1 ∷ []) none_ended) (a1 ∷ []) none_ended
  unfolding upd
  at7_0_g = merged_at ((at 6).node 0).table g (a1 ∷ []) ((at 6).node 0).ended (exchanged None (a1 ∷ a1 ∷ []) none_ended) same (at0_0_g)

  made : AllMake (three_tables g) (start (three_tables g)) moves
  unfolding upd
  made = ((
    refl,
    (
      refl,
      (
        (ap (λ yes. named_as yes at_b (op_at 1) (command.Delete g) ((at 2).node 1)) named ∙ ap (λ r. looked r at_b (op_at 1) deletes ((at 2).node 1)) (look_delete (((at 2).node 1).table g) g)),
        (
          (asked at_c b (numbered b 1) g ((at 3).node 2) true refl),
          (
            refl,
            (
              refl,
              (
                refl,
                (
                  (asked at_a b (numbered b 1) g ((at 7).node 0) false refl),
                  (refl, tt),
                ),
              ),
            ),
          ),
        ),
      ),
    ),
  ))

  leads0 : Leads (machine_of (three_tables g)) (at 0) (met_one g) (at 8)
  leads0 = walk (three_tables g) (take 8 (drop 0 moves)) (at 0) refl (part (three_tables g) 0 8 moves (start (three_tables g)) made)

  there0 : behind (three_tables g) (at 0) (met_one g) ≡ (at 8)
  unfolding behind
  there0 = run_there (machine_of (three_tables g)) (met_one g) (at 0) (at 8) leads0

  leads1 : Leads (machine_of (three_tables g)) (at 0) (met_one g ++ met_both) (at 9)
  leads1 = walk (three_tables g) moves (start (three_tables g)) refl made

  there1 : behind (three_tables g) (at 0) (met_one g ++ met_both) ≡ (at 9)
  unfolding behind
  there1 = run_there (machine_of (three_tables g)) (met_one g ++ met_both) (at 0) (at 9) leads1

  pub happen : AllHappen (three_tables g) (start (three_tables g)) (met_one g ++ met_both)
  unfolding AllHappen
  happen = subst (Leads (machine_of (three_tables g)) (at 0) (met_one g ++ met_both)) (sym there1) leads1

  pub outcome : FormationOfThree g (behind (three_tables g) (start (three_tables g)) (met_one g)) (behind (three_tables g) (start (three_tables g)) (met_one g ++ met_both))
  unfolding upd
  outcome = (subst (λ x. FormationOfThree g x (behind (three_tables g) (start (three_tables g)) (met_one g ++ met_both))) (sym there0) (subst (λ x. FormationOfThree g (at 8) x) (sym there1) (record {
    unformed_a = refl;
    counts_a = ap (λ v. is_some v && nat_eq (count_in v a1) 2) (at7_0_g);
    denied = refl;
    free_a = refl;
    formed_c = refl;
    counts_c = ap (λ v. is_some v && nat_eq (count_in v a1) 2) (at2_2_g);
    formed_a = refl;
    counts_kept = ap (λ v. is_some v && nat_eq (count_in v a1) 2) (at7_0_g);
  })))
