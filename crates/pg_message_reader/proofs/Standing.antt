-- What stands at the front of bytes, part by part, up to a whole packet.
use Rattle.std.proofs.Common.{◌≡◌, ℕ, suc, ◌<◌, ◌≤◌, pos, ℤ, Bool, true, false, cond, eqb, ltb, List, [], ◌∷◌}
use Rattle.std.proofs.Common.{◌++◌, length, get_or, take, drop, Ok, Err, refl, sym, ap, subst, ◌∙◌, arith}
use Rattle.std.specs.Prelude.{nat_le}
use Rattle.std.specs.Int.{w32, from_be_bytes, cast_signed}
use Rattle.std.specs.Str.{chars, IsUtf8}
use Rattle.std.proofs.lemmas.Bool.{eqb-true, le-ltb, le-leb}
use Rattle.std.proofs.lemmas.Int.{to_z_pos}
use Rattle.pg_term.specs.declared.pid.Pid.{Pid}
use Rattle.pg_term.specs.declared.term.Term.{Term, Tuple}
use Rattle.pg_term.specs.declared.term.Term.TheVariants.{Int, Atom, Ref, Pid as Process}
use Rattle.pg_term.specs.RefParts.{RefParts}
use Rattle.pg_term_io.specs.Reading.{Read, ◌>>=◌, readers, item_behind, leaf_behind, items_at}
use Rattle.pg_term_io.specs.Reading.{item_at, as_term, pid_at, new_reference_at, term_of}
use Rattle.pg_term.specs.declared.fault.TermFault.TheVariants.{Truncated}
use Rattle.pg_term_io.specs.Spelling.{IsAtom}
use Rattle.pg_term_io.specs.Spelling as s
use Rattle.pg_term_io.proofs.Again.{item_again}
use Rattle.pg_term_io.proofs.Latin.{latin_chars}
use Rattle.pg_message_types.specs.declared.packet.Packet.{Packet}
use Rattle.pg_message_types.specs.Limits.{max_stamp}
use Rattle.pg_message_types.specs.declared.fault.MessageFault.TheVariants as faults
use Rattle.pg_message_types.specs.Reading.{spelled, packet_spelled}
use Rattle.pg_message_reader.specs.Standing.{Stands, IsTupleHead}
use Rattle.pg_message_types.specs.Writing.{pair, triple, message_term, term_of_packet, is_plain, is_sayable}
use Rattle.pg_message_types.proofs.ReadBack.{read_back}
use Rattle.pg_message_types.proofs.Words.{plain_text}

-- ---- items

pub more_items : (read : List ℕ → Read Term) (n : ℕ) (t : Term) (ts : List Term) (bytes mid rest : List ℕ) → read bytes ≡ Ok (t, mid) → items_at read n mid ≡ Ok (ts, rest) → items_at read (suc n) bytes ≡ Ok (t ∷ ts, rest)
unfolding items_at
more_items read n t ts bytes mid rest h k =
    ap (λ (r : Read Term). r >>= λ first. items_at read n first.1 >>= λ others. Ok (first.0 ∷ others.0, others.1)) h
    ∙ ap (λ (r : Read (List Term)). r >>= λ others. Ok (t ∷ others.0, others.1)) k

pub no_items : (read : List ℕ → Read Term) (bytes : List ℕ) → items_at read 0 bytes ≡ Ok ([], bytes)
unfolding items_at
no_items read bytes = refl

tuple_stands : (room n : ℕ) (ts : List Term) (bytes rest : List ℕ) → items_at (item_at (suc room)) n bytes ≡ Ok (ts, rest) → Stands (suc room) (Tuple ts) (104 ∷ n ∷ bytes) rest
unfolding readers item_behind
tuple_stands room n ts bytes rest h = ap (λ (r : Read (List Term)). r >>= λ x. Ok (Tuple x.0, x.1)) h

module _ (room : ℕ) where
  two_stand : (a b : Term) (bytes mid rest : List ℕ) → Stands room a bytes mid → Stands room b mid rest → Stands (suc room) (pair a b) (104 ∷ 2 ∷ bytes) rest
  two_stand a b bytes mid rest h k =
      let read = item_at (suc room) in
      tuple_stands room 2 (a ∷ b ∷ []) bytes rest (more_items read 1 a (b ∷ []) bytes mid rest h (more_items read 0 b [] mid rest rest k (no_items read rest)))

  three_stand : (a b c : Term) (bytes mid then rest : List ℕ) → Stands room a bytes mid → Stands room b mid then → Stands room c then rest → Stands (suc room) (triple a b c) (104 ∷ 3 ∷ bytes) rest
  three_stand a b c bytes mid then rest h k l =
      let read = item_at (suc room) in
      tuple_stands room 3 (a ∷ b ∷ c ∷ []) bytes rest
      (more_items read 2 a (b ∷ c ∷ []) bytes mid rest h (more_items read 1 b (c ∷ []) mid then rest k (more_items read 0 c [] then rest rest l (no_items read rest))))

  module _ (w bytes mid : List ℕ) where
    -- {Word, A}
    pub pair_stands : (a : Term) (rest : List ℕ) → IsTupleHead 2 w bytes mid → Stands room a mid rest → Stands (suc room) (pair (Atom w) a) bytes rest
    pair_stands a rest o h = ap (item_at (suc (suc room))) o.head ∙ two_stand (Atom w) a o.behind mid rest (o.word_first room) h

    -- {Word, A, B}
    pub triple_stands : (a b : Term) (then rest : List ℕ) → IsTupleHead 3 w bytes mid → Stands room a mid then → Stands room b then rest → Stands (suc room) (triple (Atom w) a b) bytes rest
    triple_stands a b then rest o h k = ap (item_at (suc (suc room))) o.head ∙ three_stand (Atom w) a b o.behind mid then rest (o.word_first room) h k

  module _ (bytes mid : List ℕ) where
    -- what holds no terms
    pub reference_stands : (r : RefParts) (rest : List ℕ) → bytes ≡ 90 ∷ mid → new_reference_at w32 mid ≡ Ok (r, rest) → Stands room (Ref r) bytes rest
    unfolding readers item_behind leaf_behind
    reference_stands r rest e h = ap (item_at (suc room)) e ∙ ap (λ (x : Read RefParts). x >>= λ x. Ok (Ref x.0, x.1)) h

    pub pid_stands : (p : Pid) (rest : List ℕ) → bytes ≡ 88 ∷ mid → pid_at w32 mid ≡ Ok (p, rest) → Stands room (Process p) bytes rest
    unfolding readers item_behind leaf_behind
    pid_stands p rest e h = ap (item_at (suc room)) e ∙ ap (λ (x : Read Pid). x >>= λ x. Ok (Process x.0, x.1)) h

    -- a stamp of one byte, and of four
    pub byte_stands : (n : ℕ) (rest : List ℕ) → bytes ≡ 97 ∷ mid → mid ≡ n ∷ rest → Stands room (Int (pos n)) bytes rest
    unfolding readers item_behind leaf_behind
    byte_stands n rest e h = ap (item_at (suc room)) (e ∙ ap (λ (x : List ℕ). 97 ∷ x) h)

    pub four_stand : (n : ℕ) (digits rest : List ℕ) → bytes ≡ 98 ∷ mid → 4 ≤ length mid → digits ≡ take 4 mid → rest ≡ drop 4 mid → n ≡ from_be_bytes w32 digits → n ≤ max_stamp → Stands room (Int (pos n)) bytes rest
    unfolding readers item_behind leaf_behind
    four_stand n digits rest e long front behind value in_time =
        let m = from_be_bytes w32 (take 4 mid) in
        let same : n ≡ m = value ∙ ap (from_be_bytes w32) front in
        let there : ltb (length mid) 4 ≡ false = le-ltb _ _ long in
        let answer : Term → List ℕ → Read Term = λ t x. Ok (t, x) in
        let number : Bool → Read ℕ = λ b. cond b (Err Truncated) (Ok (m, drop 4 mid)) in
        ap (item_at (suc room)) e
        ∙ ap (λ (b : Bool). as_term (λ n. Int (cast_signed w32 n)) (number b)) there
        ∙ ap (λ (z : ℤ). answer (Int z) (drop 4 mid)) (to_z_pos w32 m (omega (arith, same, in_time)))
        ∙ sym (λ i. answer (Int (pos (same i))) (behind i))

    -- a word
    pub word_stands : (w rest : List ℕ) → is_plain w ≡ true → length w ≤ 255 → IsUtf8 w → ((i : ℕ) → get_or w i 0 < 256) → bytes ≡ 119 ∷ length w ∷ mid → mid ≡ w ++ rest → Stands room (Atom w) bytes rest
    word_stands w rest plain few utf8 fits e h =
        let characters : chars w ≡ w = ap chars (sym (plain_text w plain)) ∙ latin_chars w fits in
        let a : IsAtom (chars w) (119 ∷ length w ∷ w) = s.IsAtom.small w (omega arith) utf8 (omega (arith, ap length characters)) in
        ap (item_at (suc room)) (e ∙ ap (λ (x : List ℕ). 119 ∷ length w ∷ x) h)
        ∙ item_again (suc room) (Atom w) (119 ∷ length w ∷ w) rest (s.Item.atom room w (119 ∷ length w ∷ w) (subst (λ (c : List ℕ). IsAtom c (119 ∷ length w ∷ w)) characters a))

-- ---- packets

whole : (t : Term) (bytes : List ℕ) → Stands 63 t bytes [] → term_of (131 ∷ bytes) ≡ Ok t
unfolding term_of
whole t bytes h = rw h refl

pub packet_stands : (p : Packet) (bytes mid : List ℕ) → Stands 62 (Int (pos p.stamp)) bytes mid → Stands 62 (message_term p.message) mid [] → p.stamp ≤ max_stamp → is_sayable p.message ≡ true → packet_spelled (131 ∷ 104 ∷ 2 ∷ bytes) ≡ Ok p
packet_stands p bytes mid h k in_time sayable =
    ap spelled (whole (term_of_packet p) (104 ∷ 2 ∷ bytes) (two_stand 62 (Int (pos p.stamp)) (message_term p.message) bytes mid [] h k))
    ∙ read_back p
    ∙ ap (λ (b : Bool). cond b (cond (nat_le p.stamp max_stamp) (Ok p) (Err faults.StampTooLarge)) (Err faults.NotAMessage)) sayable
    ∙ ap (λ (b : Bool). cond b (Ok p) (Err faults.StampTooLarge)) (le-leb p.stamp max_stamp in_time)

-- all of the bytes
pub nothing_left : (rest : List ℕ) → eqb (length rest) 0 ≡ true → rest ≡ []
nothing_left [] e = refl
nothing_left (x ∷ rest) e = absurd (omega (arith, eqb-true (length (x ∷ rest)) 0 e))
