-- On which groups the live nodes agree, whoever was formed when.
use Rattle.std.specs.Prelude.{◌≡◌, ℕ, true, false, length, List, None}
use Rattle.pg_term.specs.declared.term.Term.{Term}
use Rattle.pg_laws.specs.PgStep.Machines.Losing.{LosingEvent}
use Rattle.pg_laws.specs.PgStep.Machines.Places.{is_place}
use Rattle.pg_laws.specs.PgStep.Config.{Config, nodes_at}
use Rattle.pg_laws.specs.PgStep.LossLaws.{LosingFrameWorld}
use Rattle.pg_laws.specs.PgStep.State.{formed}
use Rattle.pg_laws.specs.PgStep.Step.{Action}
use Rattle.pg_laws.specs.WithLosses.{NonePendingLive}
use Rattle.pg_laws_losses.specs.Agreeing.{SawAll}
use Rattle.pg_laws_losses.specs.Remains.Heard.{HeardTheLost, NoneOfLost}

-- Two formed live nodes that have seen each loss and took the exchange of each lost node have the same of a group of which no lost node
-- has an entry, where a live node x sees its lock free and no end is pending among the live.
abbrev pub AgreeOnUnchanged : Config → List (LosingEvent Action) → LosingFrameWorld → (i j x : ℕ) → Term → Type 0
AgreeOnUnchanged config events w i j x name = NonePendingLive config w
    → is_place (length config) i ≡ true → is_place (length config) j ≡ true → is_place (length config) x ≡ true
    → w.gone i ≡ false → w.gone j ≡ false → w.gone x ≡ false
    → formed (nodes_at config i) (w.world.node i).state ≡ true → formed (nodes_at config j) (w.world.node j).state ≡ true
    → SawAll config w i → SawAll config w j → HeardTheLost config events w i → HeardTheLost config events w j
    → (w.world.node x).state.locks name ≡ None → NoneOfLost w name
    → (w.world.node i).state.table name ≡ (w.world.node j).state.table name
