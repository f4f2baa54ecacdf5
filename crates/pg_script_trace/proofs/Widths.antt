-- The longest of some names.
use Rattle.std.proofs.Common.{◌≡◌, ℕ, ◌+◌, ◌<◌, max, [], ◌∷◌, ◌++◌, take, length}
use Rattle.std.proofs.Common.{get_or, String, Global, string_bytes, ap, sym, ◌∙◌, arith}
use Rattle.std.specs.Str.{chars}
use Rattle.std.proofs.lemmas.List.{take_more}
use Rattle.pg_script_trace.specs.Traces.{NodeNames, widest}

widest_more : (names : NodeNames) (name : String Global) → widest (names ++ name ∷ []) ≡ max (widest names) (length (chars (string_bytes name)))
widest_more [] name = omega arith
widest_more (first ∷ names) name = ap (λ n. max (length (chars (string_bytes first))) n) (widest_more names name) ∙ omega arith

pub widest_taken : (names : NodeNames) (k : ℕ) (name : String Global) → k < length names → name ≡ get_or names k name
    → widest (take (k + 1) names) ≡ max (widest (take k names)) (length (chars (string_bytes name)))
widest_taken names k name within here =
    ap widest (take_more names k name within ∙ ap (λ n. take k names ++ n ∷ []) (sym here)) ∙ widest_more (take k names) name
