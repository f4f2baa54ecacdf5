-- How many commands are open, and that who has ended is in no group, where nodes are lost.
use Rattle.std.proofs.Common.{◌≡◌, ℕ, zero, suc, ◌+◌, length, List, [], ◌∷◌}
use Rattle.std.proofs.Common.{◌++◌, ◌⊎◌, inl, inr, refl, ap, sym, ◌∙◌, subst}
use Rattle.pg_term.specs.declared.term.Term.{Term}
use Rattle.pg_laws.specs.PgGroup.Value.{NoneEnded}
use Rattle.pg_laws.proofs.PgGroup.Thinned.{kept_without_node}
use Rattle.pg_laws.specs.PgStep.Machines.Losing.{LosingEvent}
use Rattle.pg_laws.proofs.PgStep.Machines.Places.{by_place}
use Rattle.pg_laws.specs.PgStep.Config.{Config, name_at, ports_at}
use Rattle.pg_laws.specs.PgStep.FrameMachine.{FrameWorld}
use Rattle.pg_laws.specs.PgStep.Losses.{see_loss}
use Rattle.pg_laws.specs.PgStep.LossLaws.{LosingFrameWorld}
use Rattle.pg_laws.specs.PgStep.Nodes.{Node}
use Rattle.pg_laws.specs.PgStep.State.{State}
use Rattle.pg_laws.specs.PgStep.Step.{Action}
use Rattle.pg_laws.specs.PgStep.Turns.{nothing}
use Rattle.std.proofs.lemmas.Bool.{cases_eq}
use Rattle.pg_laws.specs.Counted.{CountsCommands, open_at, open_in}
use Rattle.pg_laws.specs.History.{answers_by}
use Rattle.pg_laws.proofs.commands.CountRuns.{AllCounts, event_counts, start_counts}
use Rattle.pg_laws.proofs.commands.Counting.{Counts}
use Rattle.pg_laws.proofs.commands.StandRuns.{other_answers, own_answers}
use Rattle.pg_laws.proofs.tables.Living.{AllLive, Lives, event_lives}
use Rattle.pg_laws_losses.specs.Reached.{LosingReaches}
use Rattle.pg_laws_losses.proofs.Carried.{IsKept, carried_past}
use Rattle.pg_laws_losses.proofs.Lossy.{bare, heard}
use Rattle.pg_laws_losses.proofs.Standing.{loss_fits}

-- ---- open commands

same_open : (n : ℕ) (peer : Node) (s : State) → open_in n (see_loss peer s).state ≡ open_in n s
same_open zero peer s = refl
same_open (suc port) peer s = ap (λ n. open_at port s + n) (same_open port peer s)

loss_counts : (ports : ℕ) (peer : Node) (s : State) → Counts ports s → Counts ports (see_loss peer s).state
loss_counts ports peer s old = record { fitting = loss_fits peer s old.fitting; within = old.within; all = old.all ∙ sym (same_open ports peer s) }

AllCount : Config → FrameWorld → Type 0
AllCount config u = (i : ℕ) → AllCounts config u i

-- nobody is answered where a loss is seen
same_answers : (i j : ℕ) (u : FrameWorld) → answers_by j (u.reported ++ (i, nothing) ∷ []) ≡ answers_by j u.reported
same_answers i j u = go (cases_eq i j)
  where
    go : (i ≡ j) ⊎ (i ≡ j → ⊥) → answers_by j (u.reported ++ (i, nothing) ∷ []) ≡ answers_by j u.reported
    go (inl own) = own_answers j i u.reported nothing own
    go (inr other) = other_answers j i u.reported nothing other

counts_kept : (config : Config) → IsKept config (AllCount config)
unfolding AllCount
counts_kept config = record {
  same = λ u v node reported all i. record {
    counts = subst (λ (f : ℕ → State). Counts (ports_at config i) (f i)) (sym node) (all i).counts;
    answered = λ port. ap (λ (f : ℕ → State). (f i).counts port) node ∙ ((all i).answered port ∙ (λ k. length (answers_by i (sym reported k) port) + open_at port (sym node k i)));
  };
  step = event_counts config;
  loss = λ u i p all j. record {
    counts = by_place u.node i (see_loss (name_at config p) (u.node i)).state (Counts (ports_at config j)) j
        (λ own. loss_counts (ports_at config j) (name_at config p) (u.node i) (subst (λ k. Counts (ports_at config j) (u.node k)) own (all j).counts)) (λ other. (all j).counts);
    answered = λ port. by_place u.node i (see_loss (name_at config p) (u.node i)).state (λ (s : State). s.counts port ≡ length (answers_by j (u.reported ++ (i, nothing) ∷ []) port) + open_at port s) j
        (λ own. subst (λ k. (u.node k).counts port ≡ length (answers_by j (u.reported ++ (i, nothing) ∷ []) port) + open_at port (u.node k)) own
        ((all j).answered port ∙ ap (λ xs. length (xs port) + open_at port (u.node j)) (sym (same_answers i j u))))
        (λ other. (all j).answered port ∙ ap (λ xs. length (xs port) + open_at port (u.node j)) (sym (same_answers i j u)));
  };
}

pub all_count : (config : Config) (es : List (LosingEvent Action)) (w : LosingFrameWorld) (i : ℕ) → LosingReaches config es w → AllCounts config (heard (bare w)) i
unfolding AllCount
all_count config es w i l = carried_past config (AllCount config) (counts_kept config) es w l (start_counts config) i

pub commands_counted : (config : Config) (es : List (LosingEvent Action)) (w : LosingFrameWorld) (i : ℕ) → LosingReaches config es w → CountsCommands config (heard (bare w)) i
commands_counted config es w i l = let all = all_count config es w i l in record { answered = all.answered; open_ones = all.counts.all }

-- ---- who has ended

loss_lives : (peer : Node) (s : State) → Lives s → Lives (see_loss peer s).state
loss_lives peer s old name = kept_without_node s.ended (s.table name) peer (old name)

lives_kept : (config : Config) → IsKept config AllLive
lives_kept config = record {
  same = λ u v node reported all i. subst (λ (f : ℕ → State). Lives (f i)) (sym node) (all i);
  step = event_lives config;
  loss = λ u i p all j. by_place u.node i (see_loss (name_at config p) (u.node i)).state Lives j (λ own. loss_lives (name_at config p) (u.node i) (all i)) (λ other. all j);
}

pub ended_in_no_group : (config : Config) (es : List (LosingEvent Action)) (w : LosingFrameWorld) (i : ℕ) (name : Term) → LosingReaches config es w
    → NoneEnded ((w.world.node i).state.table name) (w.world.node i).state.ended
ended_in_no_group config es w i name l = carried_past config AllLive (lives_kept config) es w l (λ j other pid e. absurd (cc)) i name
