-- The replies to one call (gen_server:multi_call/2 of the gen_server manual page): what a reply is to them, and what it changes.
use Rattle.std.specs.Prelude.{ℕ, Bool, true, false, cond, Option, Some, None, List}
use Rattle.pg_term.specs.Same.{same_atom}
use Rattle.pg_multicall.specs.declared.gather.Taken.{Taken}
use Rattle.pg_multicall.specs.declared.gather.Taken.TheVariants.{Counted, Stranger, Double}

-- of each node: None where it was not asked, Some None while it has not replied, and then Some of its reply
abbrev pub Gathered : Type 0 → Type 0
Gathered R = List ℕ → Option (Option R)

-- what becomes of a reply of a node with this entry, to the gathered call or to another
abbrev pub what_of : {R : Type 0} → Bool → Option (Option R) → Taken
what_of false entry = Stranger
what_of true None = Stranger
what_of true (Some None) = Counted
what_of true (Some (Some reply)) = Double

-- what is gathered after a reply of a node that is counted
unfoldable pub with_reply : {R : Type 0} → Gathered R → List ℕ → R → Gathered R
with_reply gathered node reply other = cond (same_atom node other) (Some (Some reply)) (gathered other)
