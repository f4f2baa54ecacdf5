-- Which values have a text that is read: those whose numbers and names have the sizes of the types that hold them.
use Rattle.std.specs.Prelude.{◌≡◌, ℕ, ◌<◌, ◌≤◌, ◌^◌, true, List, [], ◌∷◌, length, ℤ, FitsSigned}
use Rattle.std.specs.Int.{w64}
use Rattle.std.specs.List.{AllByRecursion}
use lib.Utf8.{scalars}
use Rattle.pg_term.specs.declared.pid.Pid.{Pid}
use Rattle.pg_term.specs.declared.term.Term.{Term, Tuple, List as Listed}
use Rattle.pg_term.specs.declared.term.Term.TheVariants.{Int, Atom as Name, Ref, Pid as Process, Binary}
use Rattle.pg_term.specs.RefParts.{RefParts}

-- at most 255 characters
pub record IsName (cs : List ℕ) : Type 0 where
  pub few : length cs ≤ 255
  pub characters : scalars cs ≡ true

-- numbers of 32 bits
pub record IsPid (p : Pid) : Type 0 where
  pub node : IsName p.node
  pub id : p.id < 2 ^ 32
  pub serial : p.serial < 2 ^ 32
  pub creation : p.creation < 2 ^ 32

-- one to three words of 32 bits
pub record IsReference (r : RefParts) : Type 0 where
  pub node : IsName r.node
  pub creation : r.creation < 2 ^ 32
  pub words : AllByRecursion (λ word. word < 2 ^ 32) r.words
  pub some : 1 ≤ length r.words
  pub few : length r.words ≤ 3

mutual
  pub data IsValue : Term → Type 0 where
    -- 64 bits with a sign
    int : (n : ℤ) → FitsSigned w64 n → IsValue (Int n)
    atom : (cs : List ℕ) → IsName cs → IsValue (Name cs)
    pid : (p : Pid) → IsPid p → IsValue (Process p)
    reference : (r : RefParts) → IsReference r → IsValue (Ref r)
    binary : (bytes : List ℕ) → AllByRecursion (λ byte. byte < 256) bytes → IsValue (Binary bytes)
    tuple : (ts : List Term) → AreValues ts → IsValue (Tuple ts)
    list : (ts : List Term) → AreValues ts → IsValue (Listed ts)

  pub data AreValues : List Term → Type 0 where
    none : AreValues []
    more : (t : Term) (ts : List Term) → IsValue t → AreValues ts → AreValues (t ∷ ts)
