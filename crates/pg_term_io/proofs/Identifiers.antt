-- What the readers of pids and references answer.
use Rattle.std.proofs.Common.{◌≡◌, ℕ, zero, suc, ◌+◌, ◌*◌, ◌<◌, ◌^◌, true, false, cond, ltb, eqb, ◌||◌, ◌⊎◌}
use Rattle.std.proofs.Common.{inl, inr, List, [], ◌∷◌, ◌++◌, length, Ok, Err, refl, sym, ap, subst, ◌∙◌, arith}
use Rattle.std.specs.Int.{Width, byte_len, w16, w32, to_be_bytes}
use Rattle.std.specs.List.{flat_map, AllByRecursion}
use Rattle.std.proofs.lemmas.Bool.{ltb-false, ltb-true, ne_eqb}
use Rattle.std.proofs.lemmas.List.Concat.{flat_map-cons}
use Rattle.pg_term.specs.declared.fault.TermFault.{TermFault}
use Rattle.pg_term.specs.declared.fault.TermFault.TheVariants.{Truncated, BadReference}
use Rattle.pg_term.specs.declared.pid.Pid.{Pid}
use Rattle.pg_term.specs.RefParts.{RefParts}
use Rattle.pg_term_io.specs.Reading.{Read, ◌>>=◌, byte_at, number_at, items_at, atom_at}
use Rattle.pg_term_io.specs.Reading.{pid_at, old_reference_at, words_at, new_reference_at}
use Rattle.pg_term_io.specs.Spelling.{IsAtom, IsPid, IsOldRef, IsRef}
use Rattle.pg_term_io.specs.Spelling as s
use Rattle.pg_term_io.specs.Faults.{BreaksNode, BreaksPid, BreaksOldRef, BreaksRef}
use Rattle.pg_term_io.specs.Faults as f
use Rattle.pg_term_io.proofs.Outcomes.{EachByte, Right, Cut, cut_first, cut_behind, IsByte, IsHalf}
use Rattle.pg_term_io.proofs.Outcomes.{IsWord, right_if, right_then, right_map, IsNumber, NumberRight}
use Rattle.pg_term_io.proofs.Outcomes.{length_number, byte_right, half_right, word_right, length_word}
use Rattle.pg_term_io.proofs.Atoms.{atom_right}

-- a fault that is Truncated
truncated : (P : TermFault → Type 0) (e : TermFault) → e ≡ Truncated → P Truncated → P e
truncated P e h k = subst P (sym h) k

-- ---- pids, from the last part to the first, with a creation of so many bits

module _ (w : Width) (creations : NumberRight w) where
  abbrev IsCreation : List ℕ → ℕ → ℕ → Pid → List ℕ → Type 0
  IsCreation node id serial p b = (p.node ≡ node) × (p.id ≡ id) × (p.serial ≡ serial) × (p.creation < 256 ^ byte_len w) × (b ≡ to_be_bytes w p.creation)

  abbrev IsSerial : List ℕ → ℕ → Pid → List ℕ → Type 0
  IsSerial node id p b = (p.node ≡ node) × (p.id ≡ id) × (p.serial < 2 ^ 32) × (p.creation < 256 ^ byte_len w) × (b ≡ to_be_bytes w32 p.serial ++ to_be_bytes w p.creation)

  abbrev IsId : List ℕ → Pid → List ℕ → Type 0
  IsId node p b = (p.node ≡ node) × (p.id < 2 ^ 32) × (p.serial < 2 ^ 32) × (p.creation < 256 ^ byte_len w) × (b ≡ to_be_bytes w32 p.id ++ (to_be_bytes w32 p.serial ++ to_be_bytes w p.creation))

  abbrev creation_after : List ℕ → ℕ → ℕ → List ℕ → Read Pid
  creation_after node id serial bytes = number_at w bytes >>= λ creation. Ok (record { node = node; serial = serial; id = id; creation = creation.0 }, creation.1)

  abbrev serial_after : List ℕ → ℕ → List ℕ → Read Pid
  serial_after node id bytes = number_at w32 bytes >>= λ serial. creation_after node id serial.0 serial.1

  abbrev id_after : List ℕ → List ℕ → Read Pid
  id_after node bytes = number_at w32 bytes >>= λ id. serial_after node id.0 id.1

  creation_right : (node : List ℕ) (id serial : ℕ) (bytes : List ℕ) → EachByte bytes → Right (IsCreation node id serial) (Cut (byte_len w)) bytes (creation_after node id serial bytes)
  creation_right node id serial bytes fits =
      right_map (IsNumber w) (Cut (byte_len w)) (IsCreation node id serial) (Cut (byte_len w)) bytes (λ (creation : ℕ). record { node = node; serial = serial; id = id; creation = creation }) (number_at w bytes) (creations bytes fits)
      (λ c x h. (refl, refl, refl, h.0, h.1)) (λ e h. h)

  serial_right : (node : List ℕ) (id : ℕ) (bytes : List ℕ) → EachByte bytes → Right (IsSerial node id) (Cut (4 + byte_len w)) bytes (serial_after node id bytes)
  serial_right node id bytes fits =
      right_then IsWord (Cut 4) (IsCreation node id) (λ serial. Cut (byte_len w)) (IsSerial node id) (Cut (4 + byte_len w)) bytes (number_at w32 bytes) (λ serial. creation_after node id serial.0 serial.1)
      (word_right bytes fits) (λ serial rest fit. creation_right node id serial rest fit)
      (λ n p x y h k. (k.0, k.1, omega (arith, h.0, k.2), k.3, λ i. (h.1 ∙ ap (to_be_bytes w32) (sym k.2)) i ++ k.4 i))
      (λ n e x y h k. cut_behind (byte_len w) (4 + byte_len w) e x y (omega (arith, length_word n x h)) k)
      (λ e h. cut_first 4 (4 + byte_len w) e bytes (omega arith) h)

  id_right : (node : List ℕ) (bytes : List ℕ) → EachByte bytes → Right (IsId node) (Cut (8 + byte_len w)) bytes (id_after node bytes)
  id_right node bytes fits =
      right_then IsWord (Cut 4) (IsSerial node) (λ id. Cut (4 + byte_len w)) (IsId node) (Cut (8 + byte_len w)) bytes (number_at w32 bytes) (λ id. serial_after node id.0 id.1)
      (word_right bytes fits) (λ id rest fit. serial_right node id rest fit)
      (λ n p x y h k. (k.0, omega (arith, h.0, k.1), k.2, k.3, λ i. (h.1 ∙ ap (to_be_bytes w32) (sym k.1)) i ++ k.4 i))
      (λ n e x y h k. cut_behind (4 + byte_len w) (8 + byte_len w) e x y (omega (arith, length_word n x h)) k)
      (λ e h. cut_first 4 (8 + byte_len w) e bytes (omega arith) h)

  pub pid_right : (bytes : List ℕ) → EachByte bytes → Right (IsPid w) (BreaksPid w) bytes (pid_at w bytes)
  unfolding pid_at
  pid_right bytes fits =
      right_then IsAtom BreaksNode IsId (λ node. Cut (8 + byte_len w)) (IsPid w) (BreaksPid w) bytes (atom_at bytes) (λ node. id_after node.0 node.1)
      (atom_right bytes fits) (λ node rest fit. id_right node rest fit)
      (λ node p x y h k. subst (λ (z : List ℕ). IsPid w p (x ++ z)) (sym k.4) (s.IsPid.parts w p x (subst (λ (a : List ℕ). IsAtom a x) (sym k.0) h) k.1 k.2 k.3))
      (λ node e x y h k. truncated (λ (d : TermFault). BreaksPid w d (x ++ y)) e k.0 (f.BreaksPid.cut w node x y h k.1))
      (λ e h. f.BreaksPid.node w e bytes h)

-- ---- references of one word

abbrev IsLast : List ℕ → ℕ → RefParts → List ℕ → Type 0
IsLast node word r b = (creation : ℕ) × (r ≡ record { node = node; creation = creation; words = word ∷ [] }) × (creation < 256) × (b ≡ creation ∷ [])

abbrev IsOldWord : List ℕ → RefParts → List ℕ → Type 0
IsOldWord node r b = (word creation : ℕ) × (r ≡ record { node = node; creation = creation; words = word ∷ [] }) × (word < 2 ^ 32) × (creation < 256) × (b ≡ to_be_bytes w32 word ++ creation ∷ [])

abbrev last_after : List ℕ → ℕ → List ℕ → Read RefParts
last_after node word bytes = byte_at bytes >>= λ creation. Ok (record { node = node; creation = creation.0; words = word ∷ [] }, creation.1)

abbrev word_after : List ℕ → List ℕ → Read RefParts
word_after node bytes = number_at w32 bytes >>= λ word. last_after node word.0 word.1

last_right : (node : List ℕ) (word : ℕ) (bytes : List ℕ) → EachByte bytes → Right (IsLast node word) (Cut 1) bytes (last_after node word bytes)
last_right node word bytes fits =
    right_map IsByte (Cut 1) (IsLast node word) (Cut 1) bytes (λ (creation : ℕ). record { node = node; creation = creation; words = word ∷ [] }) (byte_at bytes) (byte_right bytes fits)
    (λ c x h. (c, refl, h.0, h.1)) (λ e h. h)

old_word_right : (node : List ℕ) (bytes : List ℕ) → EachByte bytes → Right (IsOldWord node) (Cut 5) bytes (word_after node bytes)
old_word_right node bytes fits =
    right_then IsWord (Cut 4) (IsLast node) (λ word. Cut 1) (IsOldWord node) (Cut 5) bytes (number_at w32 bytes) (λ word. last_after node word.0 word.1)
    (word_right bytes fits) (λ word rest fit. last_right node word rest fit)
    (λ word r x y h k. (word, k.0, k.1, h.0, k.2, λ i. h.1 i ++ k.3 i))
    (λ n e x y h k. cut_behind 1 5 e x y (omega (arith, length_word n x h)) k)
    (λ e h. cut_first 4 5 e bytes (omega arith) h)

pub old_reference_right : (bytes : List ℕ) → EachByte bytes → Right IsOldRef BreaksOldRef bytes (old_reference_at bytes)
unfolding old_reference_at
old_reference_right bytes fits =
    right_then IsAtom BreaksNode IsOldWord (λ node. Cut 5) IsOldRef BreaksOldRef bytes (atom_at bytes) (λ node. word_after node.0 node.1)
    (atom_right bytes fits) (λ node rest fit. old_word_right node rest fit)
    (λ node r x y h k. subst (λ (z : RefParts × List ℕ). IsOldRef z.0 (x ++ z.1)) (λ i. (sym k.2 i, sym k.5 i)) (s.IsOldRef.parts node x k.0 k.1 h k.3 k.4))
    (λ node e x y h k. truncated (λ (d : TermFault). BreaksOldRef d (x ++ y)) e k.0 (f.BreaksOldRef.cut node x y h k.1))
    (λ e h. f.BreaksOldRef.node e bytes h)

-- ---- references of one to three words

abbrev AreWords : ℕ → List ℕ → List ℕ → Type 0
AreWords n ws b = (length ws ≡ n) × AllByRecursion (λ w. w < 2 ^ 32) ws × (b ≡ flat_map (to_be_bytes w32) ws)

-- words behind the first
abbrev Others : ℕ → ℕ → List ℕ → List ℕ → Type 0
Others n w ws b = (others : List ℕ) × (ws ≡ w ∷ others) × AreWords n others b

words_right : (n : ℕ) (bytes : List ℕ) → EachByte bytes → Right (AreWords n) (Cut (4 * n)) bytes (items_at (number_at w32) n bytes)
unfolding items_at
words_right zero bytes fits = record { text = []; parts = refl; is = (refl, tt, refl); fits = fits }
words_right (suc n) bytes fits =
    right_then IsWord (Cut 4) (Others n) (λ w. Cut (4 * n)) (AreWords (suc n)) (Cut (4 * suc n)) bytes (number_at w32 bytes) (λ first. items_at (number_at w32) n first.1 >>= λ others. Ok (first.0 ∷ others.0, others.1))
    (word_right bytes fits)
    (λ w rest fit. right_map (AreWords n) (Cut (4 * n)) (Others n w) (Cut (4 * n)) rest (λ (ws : List ℕ). w ∷ ws) (items_at (number_at w32) n rest) (words_right n rest fit) (λ ws x h. (ws, refl, h)) (λ e h. h))
    (λ w ws x y h k. subst (λ (z : List ℕ). AreWords (suc n) z (x ++ y)) (sym k.1) (ap suc k.2.0, (h.0, k.2.1), (λ i. h.1 i ++ k.2.2 i) ∙ sym (flat_map-cons (to_be_bytes w32) w k.0)))
    (λ w e x y h k. cut_behind (4 * n) (4 * suc n) e x y (omega (arith, length_word w x h)) k)
    (λ e h. cut_first 4 (4 * suc n) e bytes (omega arith) h)

abbrev IsWords : List ℕ → ℕ → ℕ → RefParts → List ℕ → Type 0
IsWords node creation n r b = (r.node ≡ node) × (r.creation ≡ creation) × AreWords n r.words b

words_of_right : (node : List ℕ) (creation n : ℕ) (bytes : List ℕ) → EachByte bytes → Right (IsWords node creation n) (Cut (4 * n)) bytes (words_at node creation n bytes)
unfolding words_at
words_of_right node creation n bytes fits =
    right_map (AreWords n) (Cut (4 * n)) (IsWords node creation n) (Cut (4 * n)) bytes (λ (words : List ℕ). record { node = node; creation = creation; words = words }) (items_at (number_at w32) n bytes) (words_right n bytes fits)
    (λ ws x h. (refl, refl, h)) (λ e h. h)

-- the number of words is one to three
few : (n : ℕ) → (eqb n 0 || ltb 3 n) ≡ false → (0 < n) × (n < 4)
few zero e = absurd cc
few (suc n) e = (omega arith, few_more (suc n) (λ k. absurd (omega (arith, k))) e)
  where
    few_more : (n : ℕ) → (n ≡ 0 → ⊥) → (eqb n 0 || ltb 3 n) ≡ false → n < 4
    few_more n h e = let k : ltb 3 n ≡ false = rw (ne_eqb n 0 h) at e in omega (arith, ltb-false 3 n k)

not_few : (n : ℕ) → (eqb n 0 || ltb 3 n) ≡ true → (n ≡ 0) ⊎ (3 < n)
not_few zero e = inl refl
not_few (suc n) e = inr (not_few_more (suc n) (λ k. absurd (omega (arith, k))) e)
  where
    not_few_more : (n : ℕ) → (n ≡ 0 → ⊥) → (eqb n 0 || ltb 3 n) ≡ true → 3 < n
    not_few_more n h e = let k : ltb 3 n ≡ true = rw (ne_eqb n 0 h) at e in ltb-true 3 n k

module _ (w : Width) (creations : NumberRight w) where
  abbrev IsTail : List ℕ → ℕ → RefParts → List ℕ → Type 0
  IsTail node n r b = (r.node ≡ node) × (r.creation < 256 ^ byte_len w) × (length r.words ≡ n) × AllByRecursion (λ word. word < 2 ^ 32) r.words × (b ≡ to_be_bytes w r.creation ++ flat_map (to_be_bytes w32) r.words)

  record IsRest (n : ℕ) (r : RefParts) (b : List ℕ) : Type 0 where
    node : List ℕ
    atom : IsAtom r.node node
    creation : r.creation < 256 ^ byte_len w
    size : length r.words ≡ n
    fit : AllByRecursion (λ word. word < 2 ^ 32) r.words
    whole : b ≡ node ++ (to_be_bytes w r.creation ++ flat_map (to_be_bytes w32) r.words)

  record IsCut (n : ℕ) (b : List ℕ) : Type 0 where
    a : List ℕ
    node : List ℕ
    rest : List ℕ
    atom : IsAtom a node
    short : length rest < byte_len w + 4 * n
    whole : b ≡ node ++ rest

  abbrev NoRest : ℕ → TermFault → List ℕ → Type 0
  NoRest n e b = BreaksNode e b ⊎ ((e ≡ Truncated) × IsCut n b)

  abbrev creation_and_words : List ℕ → ℕ → List ℕ → Read RefParts
  creation_and_words node n bytes = number_at w bytes >>= λ creation. words_at node creation.0 n creation.1

  abbrev rest_after : ℕ → List ℕ → Read RefParts
  rest_after n bytes = atom_at bytes >>= λ node. creation_and_words node.0 n node.1

  tail_right : (node : List ℕ) (n : ℕ) (bytes : List ℕ) → EachByte bytes → Right (IsTail node n) (Cut (byte_len w + 4 * n)) bytes (creation_and_words node n bytes)
  tail_right node n bytes fits =
      right_then (IsNumber w) (Cut (byte_len w)) (λ creation. IsWords node creation n) (λ creation. Cut (4 * n)) (IsTail node n) (Cut (byte_len w + 4 * n)) bytes (number_at w bytes) (λ creation. words_at node creation.0 n creation.1)
      (creations bytes fits) (λ creation rest fit. words_of_right node creation n rest fit)
      (λ c r x y h k. (k.0, subst (λ (m : ℕ). m < 256 ^ byte_len w) (sym k.1) h.0, k.2.0, k.2.1, λ i. (h.1 ∙ ap (to_be_bytes w) (sym k.1)) i ++ k.2.2 i))
      (λ c e x y h k. cut_behind (4 * n) (byte_len w + 4 * n) e x y (omega (arith, length_number w c x h)) k)
      (λ e h. cut_first (byte_len w) (byte_len w + 4 * n) e bytes (omega arith) h)

  rest_right : (n : ℕ) (bytes : List ℕ) → EachByte bytes → Right (IsRest n) (NoRest n) bytes (rest_after n bytes)
  rest_right n bytes fits =
      right_then IsAtom BreaksNode (λ node. IsTail node n) (λ node. Cut (byte_len w + 4 * n)) (IsRest n) (NoRest n) bytes (atom_at bytes) (λ node. creation_and_words node.0 n node.1)
      (atom_right bytes fits) (λ node rest fit. tail_right node n rest fit)
      (λ node r x y h k. record { node = x; atom = subst (λ (a : List ℕ). IsAtom a x) (sym k.0) h; creation = k.1; size = k.2; fit = k.3; whole = ap (λ (z : List ℕ). x ++ z) k.4 })
      (λ node e x y h k. inr (k.0, record { a = node; node = x; rest = y; atom = h; short = k.1; whole = refl }))
      (λ e h. inl h)

  abbrev IsCounted : ℕ → RefParts → List ℕ → Type 0
  IsCounted n r b = (0 < n) × (n < 4) × IsRest n r b

  abbrev NotCounted : ℕ → TermFault → List ℕ → Type 0
  NotCounted n e b = (((n ≡ 0) ⊎ (3 < n)) × (e ≡ BadReference)) ⊎ ((0 < n) × (n < 4) × NoRest n e b)

  weaken : (n : ℕ) (bytes : List ℕ) (read : Read RefParts) → (0 < n) × (n < 4) → Right (IsRest n) (NoRest n) bytes read → Right (IsCounted n) (NotCounted n) bytes read
  weaken n bytes (Ok x) h t = record { text = t.text; parts = t.parts; is = (h.0, h.1, t.is); fits = t.fits }
  weaken n bytes (Err e) h q = inr (h.0, h.1, q)

  counted_right : (n : ℕ) (bytes : List ℕ) → EachByte bytes → Right (IsCounted n) (NotCounted n) bytes (cond (eqb n 0 || ltb 3 n) (Err BadReference) (rest_after n bytes))
  counted_right n bytes fits =
      right_if (IsCounted n) (NotCounted n) bytes (eqb n 0 || ltb 3 n) (Err BadReference) (rest_after n bytes)
      (λ h. inl (not_few n h, refl)) (λ h. weaken n bytes (rest_after n bytes) (few n h) (rest_right n bytes fits))

  spelled_so : (n : ℕ) (r : RefParts) (x y : List ℕ) → IsHalf n x → IsCounted n r y → IsRef w r (x ++ y)
  spelled_so n r x y h k =
      let k2 = k.2 in
      subst (λ (z : List ℕ × List ℕ). IsRef w r (z.0 ++ z.1)) (λ i. ((ap (to_be_bytes w16) k2.size ∙ sym h.1) i, sym k2.whole i))
      (s.IsRef.parts w r k2.node (omega (arith, k.0, k2.size)) (omega (arith, k.1, k2.size)) k2.fit k2.atom k2.creation)

  broken_so : (n : ℕ) (e : TermFault) (y : List ℕ) → n < 2 ^ 16 → NotCounted n e y → BreaksRef w e (to_be_bytes w16 n ++ y)
  broken_so n e y lt (inl h) = subst (λ (d : TermFault). BreaksRef w d (to_be_bytes w16 n ++ y)) (sym h.1) (f.BreaksRef.bad_length w n y lt h.0)
  broken_so n e y lt (inr (some, less, inl h)) = f.BreaksRef.node w n e y some less h
  broken_so n e y lt (inr (some, less, inr (is, c))) =
      subst (λ (z : TermFault × List ℕ). BreaksRef w z.0 (to_be_bytes w16 n ++ z.1)) (λ i. (sym is i, sym c.whole i)) (f.BreaksRef.cut w n c.a c.node c.rest some less c.atom c.short)

  pub new_reference_right : (bytes : List ℕ) → EachByte bytes → Right (IsRef w) (BreaksRef w) bytes (new_reference_at w bytes)
  unfolding new_reference_at
  new_reference_right bytes fits =
      right_then IsHalf (Cut 2) IsCounted NotCounted (IsRef w) (BreaksRef w) bytes (number_at w16 bytes) (λ n. cond (eqb n.0 0 || ltb 3 n.0) (Err BadReference) (rest_after n.0 n.1))
      (half_right bytes fits) (λ n rest fit. counted_right n rest fit)
      spelled_so
      (λ n e x y h k. subst (λ (z : List ℕ). BreaksRef w e (z ++ y)) (sym h.1) (broken_so n e y h.0 k))
      (λ e h. truncated (λ (d : TermFault). BreaksRef w d bytes) e h.0 (f.BreaksRef.length_cut w bytes h.1))
