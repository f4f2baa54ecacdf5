-- How many terms a term is made of.
use Rattle.std.specs.Prelude.{ℕ, ◌+◌, List, [], ◌∷◌, map}
use Rattle.pg_term.specs.declared.term.Term.{Term, fold-Term}
use Rattle.pg_term.specs.declared.term.Term.TheOpen.{Term-F}

abbrev pub total : List ℕ → ℕ
total [] = 0
total (n ∷ ns) = n + total ns

-- one term, and with it its elements, each with its weight in its place
abbrev pub weight_step : Term-F ℕ → ℕ
weight_step (Term-F.Tuple ws) = 1 + total ws
weight_step (Term-F.List ws) = 1 + total ws
weight_step _ = 1

-- itself, its elements, their elements, and so on
abbrev pub weight : Term → ℕ
weight = fold-Term ℕ weight_step

abbrev pub total_weight : List Term → ℕ
total_weight ts = total (map weight ts)
