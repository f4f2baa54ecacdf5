-- What a reader answers where bytes are missing, and the faults of atoms, pids and references.
use Rattle.std.proofs.Common.{◌≡◌, ℕ, zero, suc, ◌+◌, ◌*◌, ◌<◌, ◌≤◌, ◌^◌, Bool, true, false, cond}
use Rattle.std.proofs.Common.{ltb, eqb, ◌||◌, ◌⊎◌, inl, inr, List, [], ◌∷◌, ◌++◌, length, length-drop}
use Rattle.std.proofs.Common.{take, drop, Result, Ok, Err, refl, sym, ap, subst, ◌∙◌, arith}
use Rattle.std.specs.Int.{Width, w16, w32, byte_len, to_be_bytes, from_be_bytes}
use Rattle.std.specs.Str.{chars, is_utf8, IsUtf8}
use Rattle.std.proofs.lemmas.Bool.{lt-ltb, ltb-false, le-ltb, ne_eqb}
use Rattle.std.proofs.lemmas.Str.{IsUtf8-from_is_utf8}
use Rattle.pg_term.specs.declared.fault.TermFault.{TermFault}
use Rattle.pg_term.specs.declared.fault.TermFault.TheVariants.{Truncated, BadAtom, BadReference}
use Rattle.pg_term.specs.RefParts.{RefParts}
use Rattle.pg_term.specs.declared.term.Term.TheVariants.{Atom as Name}
use Rattle.pg_term_io.specs.declared.tag.Size.{Size}
use Rattle.pg_term_io.specs.declared.tag.Size.TheVariants.{Small, Large}
use Rattle.pg_term_io.specs.declared.tag.Encoding.{Encoding}
use Rattle.pg_term_io.specs.declared.tag.Encoding.TheVariants.{Utf8, Latin}
use Rattle.pg_term_io.specs.declared.tag.LeafTag.TheVariants.{Atom}
use Rattle.pg_term_io.specs.declared.tag.Tag.TheVariants.{Leaf}
use Rattle.pg_term_io.specs.Tags.{tag_of}
use Rattle.pg_term_io.specs.Reading.{Read, ◌>>=◌, byte_at, number_at, bytes_at, named_at, utf8_atom, latin_atom}
use Rattle.pg_term_io.specs.Reading.{atom_behind, atom_at, pid_at, old_reference_at, words_at, new_reference_at}
use Rattle.pg_term_io.specs.Reading.{items_at, as_term, item_behind, leaf_behind, readers, item_at}
use Rattle.pg_term_io.specs.Spelling.{IsAtom}
use Rattle.pg_term_io.specs.Faults.{BreaksAtom, BreaksNode, BreaksPid, BreaksOldRef}
use Rattle.pg_term_io.specs.Faults.{BreaksRef, IsSmallAtomTag, IsLargeAtomTag}
use Rattle.pg_term_io.specs.Faults as f
use Rattle.pg_term_io.proofs.Tags.{byte_of, no_atom}
use Rattle.pg_term_io.proofs.Again.{bytes_again, half_again, atom_again}

pub number_cut : (w : Width) (b : List ℕ) → length b < byte_len w → number_at w b ≡ Err Truncated
number_cut w b h = rw (lt-ltb (length b) (byte_len w) h) refl

pub bytes_cut : (n : ℕ) (b : List ℕ) → length b < n → bytes_at n b ≡ Err Truncated
bytes_cut n b h = rw (lt-ltb (length b) n h) refl

-- a byte, a number and what stands behind them, where fewer bytes are there than they take
byte_short : {B : Type 0} (next : ℕ × List ℕ → Read B) (n : ℕ) (b : List ℕ) → length b < 1 + n → ((m : ℕ) (rest : List ℕ) → length rest < n → next (m, rest) ≡ Err Truncated) → (byte_at b >>= next) ≡ Err Truncated
byte_short next n [] h short = refl
byte_short next n (m ∷ rest) h short = short m rest (omega (arith, h))

number_short_by : {B : Type 0} (w : Width) (next : ℕ × List ℕ → Read B) (n : ℕ) (b : List ℕ) (c : Bool) → ltb (length b) (byte_len w) ≡ c → length b < byte_len w + n → ((m : ℕ) (rest : List ℕ) → length rest < n → next (m, rest) ≡ Err Truncated)
    → (number_at w b >>= next) ≡ Err Truncated
number_short_by w next n b true is h short = rw is refl
number_short_by w next n b false is h short =
    let le : byte_len w ≤ length b = ltb-false (length b) (byte_len w) is in
    rw is (short (from_be_bytes w (take (byte_len w) b)) (drop (byte_len w) b) (omega (arith, h, length-drop (byte_len w) b)))

number_short : {B : Type 0} (w : Width) (next : ℕ × List ℕ → Read B) (n : ℕ) (b : List ℕ) → length b < byte_len w + n → ((m : ℕ) (rest : List ℕ) → length rest < n → next (m, rest) ≡ Err Truncated) → (number_at w b >>= next) ≡ Err Truncated
number_short w next n b h short = number_short_by w next n b (ltb (length b) (byte_len w)) refl h short

word_short : {B : Type 0} (next : ℕ × List ℕ → Read B) (n : ℕ) (b : List ℕ) → length b < 4 + n → ((m : ℕ) (rest : List ℕ) → length rest < n → next (m, rest) ≡ Err Truncated) → (number_at w32 b >>= next) ≡ Err Truncated
word_short = number_short w32

words_short : (n : ℕ) (b : List ℕ) → length b < 4 * n → items_at (number_at w32) n b ≡ Err Truncated
unfolding items_at
words_short zero b h = absurd (omega (arith, h))
words_short (suc n) b h =
    word_short (λ first. items_at (number_at w32) n first.1 >>= λ others. Ok (first.0 ∷ others.0, others.1)) (4 * n) b (omega (arith, h))
    (λ m rest k. ap (λ (r : Read (List ℕ)). r >>= λ others. Ok (m ∷ others.0, others.1)) (words_short n rest k))

-- ---- atoms

pub utf8_refused : (text : List ℕ) (b : Bool) → is_utf8 text ≡ b → (IsUtf8 text → 255 < length (chars text)) → utf8_atom text ≡ Err BadAtom
utf8_refused text true is h = rw (is, lt-ltb 255 (length (chars text)) (h (IsUtf8-from_is_utf8 text is))) refl
utf8_refused text false is h = rw is refl

named_refused : (name : List ℕ → Result (List ℕ) TermFault) (text rest : List ℕ) → name text ≡ Err BadAtom → named_at name (length text) (text ++ rest) ≡ Err BadAtom
unfolding named_at
named_refused name text rest h = rw (bytes_again text rest) (ap (λ (r : Result (List ℕ) TermFault). r >>= λ atom. Ok (atom, rest)) h)

named_cut : (name : List ℕ → Result (List ℕ) TermFault) (n : ℕ) (b : List ℕ) → length b < n → named_at name n b ≡ Err Truncated
unfolding named_at
named_cut name n b h = rw (bytes_cut n b h) refl

pub behind_half : {B : Type 0} (n : ℕ) (b : List ℕ) (next : ℕ × List ℕ → Read B) → n < 2 ^ 16 → (number_at w16 (to_be_bytes w16 n ++ b) >>= next) ≡ next (n, b)
behind_half n b next h = ap (λ (r : Read ℕ). r >>= next) (half_again n b h)

pub half_missing : {B : Type 0} (b : List ℕ) (next : ℕ × List ℕ → Read B) → length b < 2 → (number_at w16 b >>= next) ≡ Err Truncated
half_missing b next h = ap (λ (r : Read ℕ). r >>= next) (number_cut w16 b h)

-- the fault of an atom in its place, and as an item
pub record AtomFails (e : TermFault) (b : List ℕ) : Type 0 where
  pub placed : atom_at b ≡ Err e
  pub item : (room : ℕ) → item_at (suc room) b ≡ Err e

-- by what stands behind the tag
fails_at : (size : Size) (encoding : Encoding) (e : TermFault) (b : List ℕ) → atom_behind size encoding b ≡ Err e → AtomFails e (byte_of (Leaf (Atom size encoding)) ∷ b)
unfolding atom_at item_behind leaf_behind readers
fails_at Small Utf8 e b h = record { placed = h; item = λ room. ap (as_term Name) h }
fails_at Large Utf8 e b h = record { placed = h; item = λ room. ap (as_term Name) h }
fails_at Small Latin e b h = record { placed = h; item = λ room. ap (as_term Name) h }
fails_at Large Latin e b h = record { placed = h; item = λ room. ap (as_term Name) h }

small_at : (tag : ℕ) (e : TermFault) (b : List ℕ) → IsSmallAtomTag tag → ((name : List ℕ → Result (List ℕ) TermFault) → (byte_at b >>= λ n. named_at name n.0 n.1) ≡ Err e) → AtomFails e (tag ∷ b)
unfolding atom_behind
small_at tag e b (inl t) h = subst (λ (k : ℕ). AtomFails e (k ∷ b)) (sym t) (fails_at Small Latin e b (h latin_atom))
small_at tag e b (inr t) h = subst (λ (k : ℕ). AtomFails e (k ∷ b)) (sym t) (fails_at Small Utf8 e b (h utf8_atom))

large_at : (tag : ℕ) (e : TermFault) (b : List ℕ) → IsLargeAtomTag tag → ((name : List ℕ → Result (List ℕ) TermFault) → (number_at w16 b >>= λ n. named_at name n.0 n.1) ≡ Err e) → AtomFails e (tag ∷ b)
unfolding atom_behind
large_at tag e b (inl t) h = subst (λ (k : ℕ). AtomFails e (k ∷ b)) (sym t) (fails_at Large Latin e b (h latin_atom))
large_at tag e b (inr t) h = subst (λ (k : ℕ). AtomFails e (k ∷ b)) (sym t) (fails_at Large Utf8 e b (h utf8_atom))

pub atom_fails : (e : TermFault) (b : List ℕ) → BreaksAtom e b → AtomFails e b
unfolding atom_behind
atom_fails _ _ (f.BreaksAtom.small_length_cut tag is) = small_at tag Truncated [] is (λ name. refl)
atom_fails _ _ (f.BreaksAtom.length_cut tag b is short) = large_at tag Truncated b is (λ name. half_missing b (λ n. named_at name n.0 n.1) short)
atom_fails _ _ (f.BreaksAtom.small_text_cut tag n b is short) = small_at tag Truncated (n ∷ b) is (λ name. named_cut name n b short)
atom_fails _ _ (f.BreaksAtom.text_cut tag n b is lt short) = large_at tag Truncated (to_be_bytes w16 n ++ b) is (λ name. behind_half n b (λ n. named_at name n.0 n.1) lt ∙ named_cut name n b short)
atom_fails _ _ (f.BreaksAtom.small_bad text rest lt bad) = fails_at Small Utf8 BadAtom (length text ∷ (text ++ rest)) (named_refused utf8_atom text rest (utf8_refused text (is_utf8 text) refl bad))
atom_fails _ _ (f.BreaksAtom.bad text rest lt bad) = fails_at Large Utf8 BadAtom (to_be_bytes w16 (length text) ++ (text ++ rest)) (behind_half (length text) (text ++ rest) (λ n. named_at utf8_atom n.0 n.1) lt ∙ named_refused utf8_atom text rest (utf8_refused text (is_utf8 text) refl bad))
atom_fails _ _ (f.BreaksAtom.latin_bad text rest lt long) = fails_at Large Latin BadAtom (to_be_bytes w16 (length text) ++ (text ++ rest)) (behind_half (length text) (text ++ rest) (λ n. named_at latin_atom n.0 n.1) lt ∙ named_refused latin_atom text rest (rw (lt-ltb 255 (length text) long) refl))

pub node_fails : (e : TermFault) (b : List ℕ) → BreaksNode e b → atom_at b ≡ Err e
unfolding atom_at
node_fails _ _ f.BreaksNode.missing = refl
node_fails _ _ (f.BreaksNode.no_atom tag b other) = no_atom (tag_of tag) other b
node_fails _ _ (f.BreaksNode.atom e b h) = (atom_fails e b h).placed

-- ---- pids and references

behind_atom : {B : Type 0} (a text b : List ℕ) (next : List ℕ × List ℕ → Read B) → IsAtom a text → (atom_at (text ++ b) >>= next) ≡ next (a, b)
behind_atom a text b next h = ap (λ (r : Read (List ℕ)). r >>= next) (atom_again a text b h)

no_node : {B : Type 0} (e : TermFault) (b : List ℕ) (next : List ℕ × List ℕ → Read B) → BreaksNode e b → (atom_at b >>= next) ≡ Err e
no_node e b next h = ap (λ (r : Read (List ℕ)). r >>= next) (node_fails e b h)

pub pid_fails : (w : Width) (e : TermFault) (b : List ℕ) → BreaksPid w e b → pid_at w b ≡ Err e
unfolding pid_at
pid_fails _ _ _ (f.BreaksPid.node w e b h) = no_node e b (λ node. number_at w32 node.1 >>= λ id. number_at w32 id.1 >>= λ serial. number_at w serial.1 >>= λ creation. Ok (record { node = node.0; serial = serial.0; id = id.0; creation = creation.0 }, creation.1)) h
pid_fails _ _ _ (f.BreaksPid.cut w a text b h short) =
    behind_atom a text b (λ node. number_at w32 node.1 >>= λ id. number_at w32 id.1 >>= λ serial. number_at w serial.1 >>= λ creation. Ok (record { node = node.0; serial = serial.0; id = id.0; creation = creation.0 }, creation.1)) h
    ∙ word_short (λ id. number_at w32 id.1 >>= λ serial. number_at w serial.1 >>= λ creation. Ok (record { node = a; serial = serial.0; id = id.0; creation = creation.0 }, creation.1)) (4 + byte_len w) b (omega (arith, short))
    (λ id rest k. word_short (λ serial. number_at w serial.1 >>= λ creation. Ok (record { node = a; serial = serial.0; id = id; creation = creation.0 }, creation.1)) (byte_len w) rest k
    (λ serial last l. number_short w (λ creation. Ok (record { node = a; serial = serial; id = id; creation = creation.0 }, creation.1)) 0 last (omega (arith, l)) (λ m none n. absurd (omega (arith, n)))))

pub old_ref_fails : (e : TermFault) (b : List ℕ) → BreaksOldRef e b → old_reference_at b ≡ Err e
unfolding old_reference_at
old_ref_fails _ _ (f.BreaksOldRef.node e b h) = no_node e b (λ node. number_at w32 node.1 >>= λ word. byte_at word.1 >>= λ creation. Ok (record { node = node.0; creation = creation.0; words = word.0 ∷ [] }, creation.1)) h
old_ref_fails _ _ (f.BreaksOldRef.cut a text b h short) =
    behind_atom a text b (λ node. number_at w32 node.1 >>= λ word. byte_at word.1 >>= λ creation. Ok (record { node = node.0; creation = creation.0; words = word.0 ∷ [] }, creation.1)) h
    ∙ word_short (λ word. byte_at word.1 >>= λ creation. Ok (record { node = a; creation = creation.0; words = word.0 ∷ [] }, creation.1)) 1 b short
    (λ word rest k. byte_short (λ creation. Ok (record { node = a; creation = creation.0; words = word ∷ [] }, creation.1)) 0 rest k (λ m none n. absurd (omega (arith, n))))

few : (n : ℕ) → 0 < n → n < 4 → (eqb n 0 || ltb 3 n) ≡ false
few n some less = rw (ne_eqb n 0 (λ e. absurd (omega (arith, e, some))), le-ltb 3 n (omega (arith, less))) refl

not_few : (n : ℕ) → (n ≡ 0) ⊎ (3 < n) → (eqb n 0 || ltb 3 n) ≡ true
not_few n (inl e) = rw e refl
not_few n (inr long) = rw (ne_eqb n 0 (λ e. absurd (omega (arith, e, long))), lt-ltb 3 n long) refl

module _ (w : Width) where
  abbrev words_after : ℕ → List ℕ → Read RefParts
  words_after n bytes = atom_at bytes >>= λ node. number_at w node.1 >>= λ creation. words_at node.0 creation.0 n creation.1

  abbrev counted : ℕ × List ℕ → Read RefParts
  counted n = cond (eqb n.0 0 || ltb 3 n.0) (Err BadReference) (words_after n.0 n.1)

words_of_short : (node : List ℕ) (creation n : ℕ) (b : List ℕ) → length b < 4 * n → words_at node creation n b ≡ Err Truncated
unfolding words_at
words_of_short node creation n b h = rw (words_short n b h) refl

pub ref_fails : (w : Width) (e : TermFault) (b : List ℕ) → BreaksRef w e b → new_reference_at w b ≡ Err e
unfolding new_reference_at
ref_fails _ _ _ (f.BreaksRef.length_cut w b short) = half_missing b (counted w) short
ref_fails _ _ _ (f.BreaksRef.bad_length w n b lt bad) = behind_half n b (counted w) lt ∙ rw (not_few n bad) refl
ref_fails _ _ _ (f.BreaksRef.node w n e b some less h) =
    behind_half n b (counted w) (omega (arith, less)) ∙ rw (few n some less) (no_node e b (λ node. number_at w node.1 >>= λ creation. words_at node.0 creation.0 n creation.1) h)
ref_fails _ _ _ (f.BreaksRef.cut w n a text b some less h short) =
    behind_half n (text ++ b) (counted w) (omega (arith, less))
    ∙ rw (few n some less) (behind_atom a text b (λ node. number_at w node.1 >>= λ creation. words_at node.0 creation.0 n creation.1) h
    ∙ number_short w (λ creation. words_at a creation.0 n creation.1) (4 * n) b short (λ creation rest k. words_of_short a creation n rest k))
