-- What a sink has once bytes were written, one part after another.
use Rattle.std.proofs.Common.{◌≡◌, ◌-◌, ◌++◌, List, [], ℕ, length, take, drop, ap, sym, ◌∙◌, append_assoc, append-nil, length-drop, Option, Some, None}
use Rattle.std.proofs.lemmas.List.{take-append-drop}
use Rattle.std.proofs.Math.Seq.{take-length}
use Rattle.std.specs.Io.KnownBytes.{Appends, Keeps}
use Rattle.pg_node_process.specs.Passing.{WritesPart}

pub appends_then : (a b c : Option (List ℕ)) (xs ys : List ℕ) → Appends a b xs → Appends b c ys → Appends a c (xs ++ ys)
appends_then None b c xs ys p q = tt
appends_then (Some a) None c xs ys p q = absurd p
appends_then (Some a) (Some b) None xs ys p q = absurd q
appends_then (Some a) (Some b) (Some c) xs ys p q = q ∙ ap (λ (z : List ℕ). z ++ ys) p ∙ append_assoc a xs ys

pub appends_kept : (a b c : Option (List ℕ)) (xs : List ℕ) → Appends a b xs → Keeps b c → Appends a c xs
appends_kept None b c xs p q = tt
appends_kept (Some a) None c xs p q = absurd p
appends_kept (Some a) (Some b) None xs p q = absurd q
appends_kept (Some a) (Some b) (Some c) xs p q = q ∙ p

pub appends_none : (a : Option (List ℕ)) → Appends a a []
appends_none None = tt
appends_none (Some a) = sym (append-nil a)

-- all of what is behind n elements
whole : (n : ℕ) (rest : List ℕ) → take (length rest - n) (drop n rest) ≡ drop n rest
whole n rest = rw (← length-drop n rest) (take-length (drop n rest))

-- a prefix of the rest goes to what is done
pub onward : (done rest bytes : List ℕ) (n : ℕ) → done ++ rest ≡ bytes → (done ++ take n rest) ++ take (length rest - n) (drop n rest) ≡ bytes
onward done rest bytes n e = append_assoc done (take n rest) (take (length rest - n) (drop n rest)) ∙ ap (λ (b : List ℕ). done ++ (take n rest ++ b)) (whole n rest) ∙ ap (λ (b : List ℕ). done ++ b) (take-append-drop n rest) ∙ e

-- all was written, and a flush failed
pub all_kept : (a b c : Option (List ℕ)) (bytes : List ℕ) → Appends a b bytes → Keeps b c → WritesPart a c bytes
all_kept a b c bytes wrote kept = record { part = bytes; behind = []; whole = append-nil bytes; wrote = appends_kept a b c bytes wrote kept }
