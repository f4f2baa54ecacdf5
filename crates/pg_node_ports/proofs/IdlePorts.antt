-- Ports at which no command came in.
use Rattle.std.proofs.Common.{◌≡◌, ℕ, zero, suc, List, [], ◌∷◌, ◌++◌, ◌+◌, ◌∙◌, length, refl, ap, arith}
use Rattle.pg_node_ports.specs.declared.port.Port.{Port}
use Rattle.pg_node_ports.specs.Ports.{port_commands, answers_in, forgotten_in}

pub record AreIdle (ports : List Port) : Type 0 where
  pub counts : (port : ℕ) → port_commands ports port ≡ 0
  pub answers : (port : ℕ) → answers_in ports port ≡ []
  pub forgotten : (port : ℕ) → forgotten_in ports port ≡ 0

pub one_longer : (ports : List Port) (p : Port) → length (ports ++ p ∷ []) ≡ length ports + 1
one_longer [] p = refl
one_longer (q ∷ ports) p = ap suc (one_longer ports p) ∙ later (length ports)
  where
    later : (n : ℕ) → suc (n + 1) ≡ suc n + 1
    later n = omega arith

-- one more of them
pub one_more : (ports : List Port) (p : Port) → p.count ≡ 0 → p.answers.items ≡ [] → p.forgotten ≡ 0 → AreIdle ports → AreIdle (ports ++ p ∷ [])
one_more ports p none nothing zero_gone idle = record {
  counts = counts ports idle.counts;
  answers = answers ports idle.answers;
  forgotten = forgotten ports idle.forgotten;
}
  where
    counts : (ports : List Port) → ((port : ℕ) → port_commands ports port ≡ 0) → (port : ℕ) → port_commands (ports ++ p ∷ []) port ≡ 0
    counts [] each zero = none
    counts [] each (suc n) = refl
    counts (q ∷ ports) each zero = each zero
    counts (q ∷ ports) each (suc n) = counts ports (λ k. each (suc k)) n

    answers : (ports : List Port) → ((port : ℕ) → answers_in ports port ≡ []) → (port : ℕ) → answers_in (ports ++ p ∷ []) port ≡ []
    answers [] each zero = nothing
    answers [] each (suc n) = refl
    answers (q ∷ ports) each zero = each zero
    answers (q ∷ ports) each (suc n) = answers ports (λ k. each (suc k)) n

    forgotten : (ports : List Port) → ((port : ℕ) → forgotten_in ports port ≡ 0) → (port : ℕ) → forgotten_in (ports ++ p ∷ []) port ≡ 0
    forgotten [] each zero = zero_gone
    forgotten [] each (suc n) = refl
    forgotten (q ∷ ports) each zero = each zero
    forgotten (q ∷ ports) each (suc n) = forgotten ports (λ k. each (suc k)) n
