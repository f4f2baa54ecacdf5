-- An open command of a live node, where there is one.
use Rattle.std.proofs.Common.{◌≡◌, ◌⊎◌, inl, inr, ℕ, ◌+◌, ◌<◌, ◌≤◌, Bool, true, false, length, List}
use Rattle.std.proofs.Common.{refl, ap, sym, ◌∙◌, arith}
use Rattle.std.proofs.lemmas.Bool.{cases_lt}
use Rattle.std.proofs.lemmas.Bool.Decides.{Decides-ltb}
use Rattle.pg_laws.specs.PgStep.Machines.Losing.{LosingEvent}
use Rattle.pg_laws.specs.PgStep.Machines.Places.{is_place}
use Rattle.pg_laws.specs.PgStep.Config.{Config, ports_at}
use Rattle.pg_laws.specs.PgStep.LossLaws.{LosingFrameWorld}
use Rattle.pg_laws.specs.PgStep.Step.{Action}
use Rattle.pg_laws.specs.PgStep.declared.command.OpId.{OpId}
use Rattle.pg_laws.specs.Counted.{is_open}
use Rattle.pg_laws.proofs.commands.Counting.{Counts}
use Rattle.pg_laws.proofs.places.Shown.{IsHere}
use Rattle.pg_laws.proofs.quiet.Bounds.{some_open}
use Rattle.pg_laws.proofs.quiet.Sums.{find_place, total_term}
use Rattle.pg_laws_losses.specs.Quiet.{live_open}
use Rattle.pg_laws_losses.specs.Reached.{LosingReaches}
use Rattle.pg_laws_losses.proofs.Counting.{all_count}
use Rattle.pg_laws_losses.specs.Retrying.Retried.{NoneOpenLive}

pub record OpenOne (config : Config) (w : LosingFrameWorld) : Type 0 where
  pub place : ℕ
  pub here : IsHere config place
  pub lives : w.gone place ≡ false
  pub op : OpId
  pub is : is_open ((w.world.node place).state.stages op) ≡ true

module _ (config : Config) (w : LosingFrameWorld) where
  abbrev n : ℕ
  n = length config

  abbrev op_of : ℕ → ℕ → OpId
  op_of port number = record { port = port; number = number }

  abbrev NoneAtPort : ℕ → ℕ → Type 0
  NoneAtPort i port = (k : ℕ) → k < (w.world.node i).state.counts port + 1 → is_open ((w.world.node i).state.stages (op_of port k)) ≡ false

  abbrev NoneOfNode : ℕ → Type 0
  NoneOfNode i = (port : ℕ) → port < ports_at config i → NoneAtPort i port

  abbrev NoneAtNode : ℕ → Type 0
  NoneAtNode i = IsHere config i → w.gone i ≡ false → NoneOfNode i

  module _ (i : ℕ) (here : IsHere config i) (lives : w.gone i ≡ false) where
    at_number : (port k : ℕ) → OpenOne config w ⊎ (is_open ((w.world.node i).state.stages (op_of port k)) ≡ false)
    at_number port k = go (is_open ((w.world.node i).state.stages (op_of port k))) refl
      where
        go : (b : Bool) → is_open ((w.world.node i).state.stages (op_of port k)) ≡ b
            → OpenOne config w ⊎ (is_open ((w.world.node i).state.stages (op_of port k)) ≡ false)
        go true is = inl (record { place = i; here = here; lives = lives; op = op_of port k; is = is })
        go false is = inr is

    at_port : (port : ℕ) → OpenOne config w ⊎ NoneAtPort i port
    at_port port = go (find_place ((w.world.node i).state.counts port + 1) (λ k. OpenOne config w)
        (λ k. is_open ((w.world.node i).state.stages (op_of port k)) ≡ false) (at_number port))
      where
        go : ((k : ℕ) × OpenOne config w) ⊎ NoneAtPort i port → OpenOne config w ⊎ NoneAtPort i port
        go (inl found) = inl found.1
        go (inr none) = inr none

    of_node : OpenOne config w ⊎ NoneOfNode i
    of_node = go (find_place (ports_at config i) (λ port. OpenOne config w) (NoneAtPort i) at_port)
      where
        go : ((port : ℕ) × OpenOne config w) ⊎ NoneOfNode i → OpenOne config w ⊎ NoneOfNode i
        go (inl found) = inl found.1
        go (inr none) = inr none

  at_node : (i : ℕ) → OpenOne config w ⊎ NoneAtNode i
  at_node i = go (is_place n i) refl (w.gone i) refl
    where
      go : (there : Bool) → is_place n i ≡ there → (away : Bool) → w.gone i ≡ away → OpenOne config w ⊎ NoneAtNode i
      go false nowhere away _ = inr (λ here _. absurd (cc (sym here ∙ nowhere)))
      go true here true gone = inr (λ _ lives. absurd (cc (sym lives ∙ gone)))
      go true here false lives = found (of_node i here lives)
        where
          found : OpenOne config w ⊎ NoneOfNode i → OpenOne config w ⊎ NoneAtNode i
          found (inl one) = inl one
          found (inr none) = inr (λ _ _. none)

  module _ (es : List (LosingEvent Action)) (l : LosingReaches config es w) where
    pub open_or_none : OpenOne config w ⊎ NoneOpenLive config w
    open_or_none = go (find_place n (λ i. OpenOne config w) NoneAtNode at_node)
      where
        go : ((i : ℕ) × OpenOne config w) ⊎ ((i : ℕ) → i < n → NoneAtNode i) → OpenOne config w ⊎ NoneOpenLive config w
        go (inl found) = inl found.1
        go (inr none) = inr closed
          where
            closed : NoneOpenLive config w
            closed i op here lives = told (is_open ((w.world.node i).state.stages op)) refl
              where
                counts : Counts (ports_at config i) (w.world.node i).state
                counts = (all_count config es w i l).counts

                told : (b : Bool) → is_open ((w.world.node i).state.stages op) ≡ b → is_open ((w.world.node i).state.stages op) ≡ false
                told false is = is
                told true is = within (cases_lt ((w.world.node i).state.counts op.port) op.number)
                  where
                    within : ((w.world.node i).state.counts op.port < op.number) ⊎ (op.number ≤ (w.world.node i).state.counts op.port)
                        → is_open ((w.world.node i).state.stages op) ≡ false
                    within (inl above) = ap is_open (counts.fitting.closed op above)
                    within (inr low) = none i ((Decides-ltb i n).0 here) here lives op.port ((counts.within op is).1) op.number (omega (arith, low))

    -- where a command is open, one is counted as open
    pub some_opened : OpenOne config w → 1 ≤ live_open config w
    some_opened found =
        let one : 1 ≤ (w.world.node found.place).state.opened =
        some_open (ports_at config found.place) (w.world.node found.place).state ((all_count config es w found.place l).counts) found.op found.is in
        let all : (w.world.node found.place).state.opened ≤ live_open config w =
        total_term n found.place (λ i. (w.world.node i).state.opened) ((Decides-ltb found.place n).0 found.here) in
        omega (arith, one, all)
