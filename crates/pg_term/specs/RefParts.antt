-- What a reference is: a node, a creation and one to three words.
use Rattle.std.specs.Prelude.{ℕ, Bool, List, ◌++◌, length, nat_eq, nat_lt, ◌||◌, ◌==◌, Result, Ok, Err, if◌then◌else◌}
use Rattle.std.specs.declared.cmp.Ordering.{Ordering}
use Rattle.std.specs.Ordering.{nat_cmp, then_cmp, on, eq_of_both}
use Rattle.std.specs.Cmp.Lexicographic.{slice_cmp, pointwise}
use Rattle.std.specs.Hash as fed
use Rattle.std.specs.Str.{encode_utf8_all}
use Rattle.pg_term.specs.declared.fault.TermFault.{TermFault}
use Rattle.pg_term.specs.declared.fault.TermFault.TheVariants.{BadReference}

pub record RefParts : Type 0 where
  pub node : List ℕ
  pub creation : ℕ
  pub words : List ℕ

abbrev pub ref_eq : RefParts → RefParts → Bool
ref_eq = eq_of_both (on (λ r. r.node) (pointwise nat_eq)) (eq_of_both (on (λ r. r.creation) nat_eq) (on (λ r. r.words) (pointwise nat_eq)))

abbrev pub ref_cmp : RefParts → RefParts → Ordering
ref_cmp = then_cmp (on (λ r. r.node) (slice_cmp nat_cmp)) (then_cmp (on (λ r. r.creation) nat_cmp) (on (λ r. r.words) (slice_cmp nat_cmp)))

abbrev pub ref_hash : RefParts → fed.HashWrites
ref_hash r = fed.str (encode_utf8_all r.node) ++ (fed.u32 r.creation ++ fed.slice fed.u32 r.words)

-- one to three words make a reference
abbrev pub ref_of : List ℕ → ℕ → List ℕ → Result RefParts TermFault
ref_of node creation words = if (length words == 0) || nat_lt 3 (length words) then Err BadReference else Ok (record { node = node; creation = creation; words = words })
