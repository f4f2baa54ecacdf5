-- One level of reading.
use Rattle.std.proofs.Common.{◌≡◌, ℕ, zero, suc, ◌-◌, ◌<◌, ◌≤◌, List, [], ◌∷◌}
use Rattle.std.proofs.Common.{length, get_or, take, drop, Ok, Err, refl, arith}
use Rattle.std.specs.Int.{w32}
use Rattle.std.proofs.Math.Seq.{take-length}
use Rattle.pg_term.specs.declared.fault.TermFault.TheVariants.{Truncated, TooDeep}
use Rattle.pg_term_io.specs.declared.tag.TheConstants.{NEW_PID_EXT, SMALL_INTEGER_EXT}
use Rattle.pg_term_io.specs.declared.tag.TheConstants.{SMALL_TUPLE_EXT, SMALL_ATOM_UTF8_EXT}
use Rattle.pg_term_io.specs.declared.tag.Size.TheVariants.{Small}
use Rattle.pg_term_io.specs.declared.tag.Encoding.TheVariants.{Utf8}
use Rattle.pg_term_io.specs.Tags.{tag_of, list_tag}
use Rattle.pg_term_io.specs.Numbers.{int_of}
use Rattle.pg_term_io.specs.Reading.{readers, item_at, tail_at, item_behind, tail_behind}
use Rattle.pg_term_io.specs.Reading.{leaf_behind, items_at, as_term, atom_behind, pid_at}
use Rattle.pg_term.specs.declared.term.Term.{Tuple}
use Rattle.pg_term.specs.declared.term.Term.TheVariants.{Atom, Pid}

pub item_at-nothing : (room : ℕ) (bytes : List ℕ) → length bytes < 1 → item_at room bytes ≡ Err Truncated
unfolding readers
item_at-nothing zero [] h = refl
item_at-nothing (suc room) [] h = refl
item_at-nothing room (tag ∷ bytes) h = absurd (omega arith)

pub tail_at-nothing : (room : ℕ) (bytes : List ℕ) → length bytes < 1 → tail_at room bytes ≡ Err Truncated
unfolding readers
tail_at-nothing zero [] h = refl
tail_at-nothing (suc room) [] h = refl
tail_at-nothing room (tag ∷ bytes) h = absurd (omega arith)

pub item_at-deep : (room : ℕ) (bytes : List ℕ) → 1 ≤ length bytes → room ≡ 0 → item_at room bytes ≡ Err TooDeep
unfolding readers
item_at-deep room [] h e = absurd (omega arith)
item_at-deep room (tag ∷ bytes) h e = rw e refl

pub tail_at-deep : (room : ℕ) (bytes : List ℕ) → 1 ≤ length bytes → room ≡ 0 → tail_at room bytes ≡ Err TooDeep
unfolding readers
tail_at-deep room [] h e = absurd (omega arith)
tail_at-deep room (tag ∷ bytes) h e = rw e refl

pub item_at-more : (room : ℕ) (bytes : List ℕ) → 1 ≤ length bytes → (room ≡ 0 → ⊥) → item_at room bytes ≡ item_behind (room - 1) (readers (room - 1)) (tag_of (get_or bytes 0 0)) (take (length bytes - 1) (drop 1 bytes))
unfolding readers
item_at-more room [] h e = absurd (omega arith)
item_at-more zero (tag ∷ bytes) h e = absurd (e refl)
item_at-more (suc room) (tag ∷ bytes) h e = let k : suc room - 1 ≡ room = omega arith in let n : length (tag ∷ bytes) - 1 ≡ length bytes = omega arith in rw (k, n, take-length bytes) refl

pub tail_at-more : (room : ℕ) (bytes : List ℕ) → 1 ≤ length bytes → (room ≡ 0 → ⊥) → tail_at room bytes ≡ tail_behind (room - 1) (readers (room - 1)) (list_tag (tag_of (get_or bytes 0 0))) (take (length bytes - 1) (drop 1 bytes))
unfolding readers
tail_at-more room [] h e = absurd (omega arith)
tail_at-more zero (tag ∷ bytes) h e = absurd (e refl)
tail_at-more (suc room) (tag ∷ bytes) h e = let k : suc room - 1 ≡ room = omega arith in let n : length (tag ∷ bytes) - 1 ≡ length bytes = omega arith in rw (k, n, take-length bytes) refl

pub item_at-small : (room : ℕ) (bytes : List ℕ) → 2 ≤ length bytes → 0 < room → get_or bytes 0 0 ≡ SMALL_INTEGER_EXT
    → item_at room bytes ≡ Ok (int_of (get_or bytes 1 0), take (length bytes - 2) (drop 2 bytes))
unfolding readers item_behind leaf_behind
item_at-small room [] h e q = absurd (omega arith)
item_at-small room (tag ∷ []) h e q = absurd (omega arith)
item_at-small zero (tag ∷ n ∷ bytes) h e q = absurd (omega arith)
item_at-small (suc room) (tag ∷ n ∷ bytes) h e q = let k : length (tag ∷ n ∷ bytes) - 2 ≡ length bytes = omega arith in rw (k, take-length bytes, q) refl

pub item_at-tuple : (room : ℕ) (bytes : List ℕ) → 2 ≤ length bytes → 0 < room → get_or bytes 0 0 ≡ SMALL_TUPLE_EXT
    → item_at room bytes ≡ as_term Tuple (items_at (item_at (room - 1)) (get_or bytes 1 0) (take (length bytes - 2) (drop 2 bytes)))
unfolding readers item_behind
item_at-tuple room [] h e q = absurd (omega arith)
item_at-tuple room (tag ∷ []) h e q = absurd (omega arith)
item_at-tuple zero (tag ∷ n ∷ bytes) h e q = absurd (omega arith)
item_at-tuple (suc room) (tag ∷ n ∷ bytes) h e q = let r : suc room - 1 ≡ room = omega arith in let k : length (tag ∷ n ∷ bytes) - 2 ≡ length bytes = omega arith in rw (r, k, take-length bytes, q) refl

pub item_at-name : (room : ℕ) (bytes : List ℕ) → 0 < room → get_or bytes 0 0 ≡ SMALL_ATOM_UTF8_EXT
    → item_at room bytes ≡ as_term Atom (atom_behind Small Utf8 (take (length bytes - 1) (drop 1 bytes)))
unfolding readers item_behind leaf_behind
item_at-name room [] e q = absurd (omega (arith, q))
item_at-name zero (tag ∷ bytes) e q = absurd (omega arith)
item_at-name (suc room) (tag ∷ bytes) e q = let k : length (tag ∷ bytes) - 1 ≡ length bytes = omega arith in rw (k, take-length bytes, q) refl

pub item_at-pid : (room : ℕ) (bytes : List ℕ) → 0 < room → get_or bytes 0 0 ≡ NEW_PID_EXT
    → item_at room bytes ≡ as_term Pid (pid_at w32 (take (length bytes - 1) (drop 1 bytes)))
unfolding readers item_behind leaf_behind
item_at-pid room [] e q = absurd (omega (arith, q))
item_at-pid zero (tag ∷ bytes) e q = absurd (omega arith)
item_at-pid (suc room) (tag ∷ bytes) e q = let k : length (tag ∷ bytes) - 1 ≡ length bytes = omega arith in rw (k, take-length bytes, q) refl
