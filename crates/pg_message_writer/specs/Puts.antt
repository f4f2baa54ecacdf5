-- What a writer appends.
use Rattle.std.specs.Prelude.{◌≡◌, ℕ, ◌+◌, List, [], ◌∷◌, ◌++◌, length}
use Rattle.bytes.specs.Filled.{Filled}
use Rattle.pg_term.specs.declared.term.Term.{Term}
use Rattle.pg_term.specs.declared.term.Term.TheVariants.{Atom}
use Rattle.pg_message_types.specs.PgTermIo.Writing.{item_bytes, all_bytes, IsSpelled, AreSpelled}

-- the bytes of a term, which spell it, are appended in room that was there
pub record Puts (old new : Filled) (t : Term) : Type 0 where
  pub items : new.items ≡ old.items ++ item_bytes t
  pub spare : new.spare + length (item_bytes t) ≡ old.spare
  pub spelled : IsSpelled t

-- the same of terms, one after the other
pub record PutsAll (old new : Filled) (ts : List Term) : Type 0 where
  pub items : new.items ≡ old.items ++ all_bytes ts
  pub spare : new.spare + length (all_bytes ts) ≡ old.spare
  pub spelled : AreSpelled ts

-- the head of a tuple of so many elements is appended, and its first, a word
pub record PutsOpening (old new : Filled) (arity : ℕ) (word : List ℕ) : Type 0 where
  pub mid : Filled
  pub head : mid.items ≡ old.items ++ 104 ∷ arity ∷ []
  pub head_spare : mid.spare + 2 ≡ old.spare
  pub word_first : Puts mid new (Atom word)
