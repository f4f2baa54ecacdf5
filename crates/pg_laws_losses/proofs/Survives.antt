-- What survives losses, together.
use Rattle.std.proofs.Common.{◌≡◌, ◌≢◌, ℕ, Bool, true, false, not, ◌&&◌, length, List, ◌∷◌, None, refl, sym, ◌∙◌}
use Rattle.std.specs.List.{AllByRecursion, IsDistinct}
use Rattle.pg_term.specs.declared.term.Term.{Term}
use Rattle.pg_term.specs.Same.{same_atom}
use Rattle.pg_laws.specs.PgGroup.Value.{less}
use Rattle.pg_laws.specs.PgMessageTypes.declared.message.Message.{Message}
use Rattle.pg_laws.specs.PgStep.Machines.Clocked.{plain}
use Rattle.pg_laws.specs.PgStep.Machines.Losing.{LosingEvent, Noticed}
use Rattle.pg_laws.specs.PgStep.Machines.Machine.{Taken}
use Rattle.pg_laws.specs.PgStep.Machines.Places.{is_pair, is_place}
use Rattle.pg_laws.specs.PgStep.Config.{Config, names_of, name_at}
use Rattle.pg_laws.specs.PgStep.FrameMachine.{losing_machine_of}
use Rattle.pg_laws.specs.PgStep.LossLaws.{LosingFrameWorld}
use Rattle.pg_laws.specs.PgStep.Step.{Action}
use Rattle.pg_laws.specs.PgStep.Turns.{Report}
use Rattle.pg_laws.specs.History.{base, replay}
use Rattle.pg_laws.specs.Exclusive.{ExclusiveLocks}
use Rattle.pg_laws.specs.WithLosses.{FormedAtLosses, HasThinned, HasTablesPastLosses}
use Rattle.pg_laws.proofs.places.Exclusive.{are_exclusive}
use Rattle.pg_laws.proofs.places.Shown.{IsHere}
use Rattle.pg_laws_losses.specs.Reached.{LosingReaches, lives_in, nodes_of}
use Rattle.pg_laws_losses.specs.Thinned.{AppliesThinned}
use Rattle.pg_laws_losses.proofs.Bridge.{live_at}
use Rattle.pg_laws_losses.proofs.Bridges.{Bridged, bridged}
use Rattle.pg_laws_losses.proofs.Lossy.{bare}
use Rattle.pg_laws_losses.proofs.Tabled.{all_ended, formed_past, table_of}
use Rattle.pg_laws_losses.proofs.Thinned.{applies}
use Rattle.pg_laws_losses.proofs.Unharmed.{not_refused, posted}

module _ (config : Config) (apart : IsDistinct same_atom (names_of config)) (es : List (LosingEvent Action)) (w : LosingFrameWorld) (l : LosingReaches config es w) where
  bridge : Bridged config apart (bare w)
  bridge = bridged config apart es w l

  pub applies_thinned : (i : ℕ) (name : Term) → IsHere config i → w.gone i ≡ false → AppliesThinned config w i name
  applies_thinned i name here lives = applies config apart w bridge i name here lives

  pub packets_heard : (i p : ℕ) (packet : Noticed Message) (rest : List (Noticed Message)) → is_pair (length config) i p ≡ true → w.gone i ≡ false → (w.world.node i).state.lost (name_at config p) ≡ false
      → (plain w.world).wire p i ≡ packet ∷ rest → (losing_machine_of config).step i ((plain w.world).node i) (Taken p packet) ≢ None
  packets_heard i p packet rest pair lives known first = not_refused config apart (bare w) bridge.has (posted config apart es w l) i p pair lives known packet rest first

  -- a node that is not lost
  is_left : (i : ℕ) → lives_in config w i ≡ true → IsHere config i × (w.gone i ≡ false)
  is_left i lives = go (is_place (length config) i) (w.gone i) refl refl lives
    where
      go : (here gone : Bool) → is_place (length config) i ≡ here → w.gone i ≡ gone → (here && not gone) ≡ true → IsHere config i × (w.gone i ≡ false)
      go true false h g e = (h, g)
      go true true h g e = absurd (cc)
      go false gone h g e = absurd (cc)

  pub exclusive : ExclusiveLocks config (lives_in config w) (nodes_of w).node
  exclusive = are_exclusive config apart (lives_in config w) (nodes_of w).node bridge.has.world (record {
    inv = bridge.has.inv;
    here = λ i lives. (is_left i lives).0;
    live = λ i lives. live_at config apart (bare w) bridge.has i (is_left i lives).0 (is_left i lives).1;
    same = λ i lives. bridge.has.shows.node i (is_left i lives).0;
  })

  pub no_odd_reply : AllByRecursion (λ (t : ℕ × Report). t.1.odd ≡ None) w.world.reported
  no_odd_reply = bridge.even

  module _ (at_losses : FormedAtLosses config es) where
    has_thinned : (i : ℕ) (name : Term) → IsHere config i → AppliesThinned config w i name → HasThinned config w i name
    has_thinned i name here a = record {
      before = a.before;
      whole = a.whole;
      thin = a.thin;
      thinned = a.thinned;
      table = λ full. table_of config apart es w l at_losses i name here full ∙ (λ k. less (replay (base config name) (sym a.applied k)) (all_ended config es w i l k));
      answered = a.answered;
    }

    pub survives : HasTablesPastLosses config es w
    survives = record {
      tables = λ i name here lives. has_thinned i name here (applies_thinned i name here lives);
      all_formed = λ i p here gone. formed_past config apart es w l at_losses i p here gone;
    }
