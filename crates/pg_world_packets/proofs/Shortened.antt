-- Ways of which the first packets stay.
use Rattle.std.proofs.Common.{◌≡◌, ◌≢◌, ◌<◌, ◌≤◌, ◌+◌, ◌∙◌, ℕ, map, take, List, []}
use Rattle.std.proofs.Common.{get_or, length, refl, sym, ap, arith, subst, inl, inr, ◌⊎◌}
use Rattle.std.specs.Prelude.{slice_set}
use Rattle.std.proofs.lemmas.Bool.{cases_eq}
use Rattle.std.proofs.lemmas.List.{get_or-set_same, get_or-set_other, length-map}
use Rattle.pg_node_state.specs.PgMessageTypes.declared.message.Message.{Message}
use Rattle.pg_node_state.specs.PgStep.Machines.Clocked.{Stamped}
use Rattle.pg_world_packets.specs.declared.way.Way.{Way}
use Rattle.pg_world_packets.specs.Views.{packets_of}
use Rattle.pg_world_packets.proofs.Sending.{one_way}

-- the ways below a place are short, and the others as they were
pub record AreShortened (bound : ℕ) (keep : List ℕ) (start : List (List (Stamped Message))) (ways : List Way) : Type 0 where
  pub short : (k : ℕ) → k < bound → get_or (map packets_of ways) k [] ≡ take (get_or keep k 0) (get_or start k [])
  pub rest : (k : ℕ) → bound ≤ k → get_or (map packets_of ways) k [] ≡ get_or start k []

pub none_shortened : (keep : List ℕ) (ways : List Way) → AreShortened 0 keep (map packets_of ways) ways
none_shortened keep ways = record { short = λ k below. absurd (omega arith); rest = λ k above. refl }

-- one more
pub one_shortened : (keep : List ℕ) (start : List (List (Stamped Message))) (ways : List Way) (k : ℕ) (old new : Way) → k < length ways → old ≡ get_or ways k old
    → packets_of new ≡ take (get_or keep k 0) (packets_of old) → AreShortened k keep start ways → AreShortened (k + 1) keep start (slice_set ways k new)
one_shortened keep start ways k old new within here is so = record {
  short = λ j below. below_so j below (cases_eq j k);
  rest = λ j above. elsewhere j (λ e. absurd (omega (arith, above, e))) ∙ so.rest j (omega (arith, above));
}
  where
    changed : map packets_of (slice_set ways k new) ≡ slice_set (map packets_of ways) k (take (get_or keep k 0) (get_or (map packets_of ways) k []))
    changed = one_way ways k old new (take (get_or keep k 0)) within here is

    inner : k < length (map packets_of ways)
    inner = omega (arith, within, length-map ways packets_of)

    elsewhere : (j : ℕ) → j ≢ k → get_or (map packets_of (slice_set ways k new)) j [] ≡ get_or (map packets_of ways) j []
    elsewhere j n = ap (λ (ws : List (List (Stamped Message))). get_or ws j []) changed ∙ get_or-set_other (map packets_of ways) k j (take (get_or keep k 0) (get_or (map packets_of ways) k [])) [] n

    at_it : get_or (map packets_of (slice_set ways k new)) k [] ≡ take (get_or keep k 0) (get_or start k [])
    at_it = ap (λ (ws : List (List (Stamped Message))). get_or ws k []) changed
        ∙ (get_or-set_same (map packets_of ways) k (take (get_or keep k 0) (get_or (map packets_of ways) k [])) [] inner
        ∙ ap (take (get_or keep k 0)) (so.rest k (omega arith)))

    below_so : (j : ℕ) → j < k + 1 → (j ≡ k) ⊎ (j ≢ k) → get_or (map packets_of (slice_set ways k new)) j [] ≡ take (get_or keep j 0) (get_or start j [])
    below_so j below (inl e) = subst (λ i. get_or (map packets_of (slice_set ways k new)) i [] ≡ take (get_or keep i 0) (get_or start i [])) (sym e) at_it
    below_so j below (inr n) = elsewhere j n ∙ so.short j (let ne : j ≢ k = n in omega (arith, below, ne))
