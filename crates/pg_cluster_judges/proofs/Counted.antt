-- How many packets are taken by the first so many of some entries.
use Rattle.std.proofs.Common.{◌≡◌, ◌≤◌, ◌<◌, ◌+◌, ◌∙◌, ℕ, Bool, true, false, cond, take}
use Rattle.std.proofs.Common.{get_or, length, List, [], ◌∷◌, ap, arith, suc, zero}
use Rattle.pg_cluster_judges.specs.ApartWithLosses.{Logs, takes_in, takes_one}

takes_more : (logs : Logs) (p q : ℕ) (later : List (ℕ × ℕ)) (n : ℕ) → n < length later
    → takes_in logs p q (take (suc n) later) ≡ takes_in logs p q (take n later) + takes_one logs p q (get_or later n (0, 0))
takes_more logs p q [] n low = absurd (omega (arith, low))
takes_more logs p q (y ∷ later) zero low = omega arith
takes_more logs p q (y ∷ later) (suc n) low =
    let rest = takes_more logs p q later n (omega (arith, low)) in
    omega (arith, rest)

-- one more entry was looked at
pub counts_on : (logs : Logs) (p q : ℕ) (later : List (ℕ × ℕ)) (n count count2 : ℕ) (one : Bool) → n < length later → (count ≡ takes_in logs p q (take n later)) × (count ≤ n)
    → takes_one logs p q (get_or later n (0, 0)) ≡ cond one 1 0 → count2 ≡ cond one (count + 1) count
    → (count2 ≡ takes_in logs p q (take (n + 1) later)) × (count2 ≤ n + 1)
counts_on logs p q later n count count2 one low was here is = (go one here is, less one is)
  where
    next : suc n ≡ n + 1
    next = omega arith

    go : (b : Bool) → takes_one logs p q (get_or later n (0, 0)) ≡ cond b 1 0 → count2 ≡ cond b (count + 1) count → count2 ≡ takes_in logs p q (take (n + 1) later)
    go true here is = let more = takes_more logs p q later n low in let w = was.0 in omega (arith, more, w, here, is) ∙ ap (λ k. takes_in logs p q (take k later)) next
    go false here is = let more = takes_more logs p q later n low in let w = was.0 in omega (arith, more, w, here, is) ∙ ap (λ k. takes_in logs p q (take k later)) next

    less : (b : Bool) → count2 ≡ cond b (count + 1) count → count2 ≤ n + 1
    less true is = let w = was.1 in omega (arith, w, is)
    less false is = let w = was.1 in omega (arith, w, is)
