-- What stands at the front of the bytes of a reply to the node itself.
use Rattle.std.proofs.Common.{◌≡◌, ℕ, ℤ, pos, codes, ◌<◌, ◌≤◌, ◌^◌, ◌⊎◌, inl, inr, Bool, true, false, cond, eqb, ltb, ◌||◌}
use Rattle.std.proofs.Common.{List, [], ◌∷◌, ◌++◌, Ok, Err, refl, sym, ap, ◌∙◌, arith, rules, append_assoc}
use Rattle.std.specs.Prelude.{nat_lt}
use Rattle.std.specs.Int.{w16, w32, to_be_bytes}
use Rattle.std.specs.List.{flat_map}
use Rattle.std.proofs.lemmas.Bool.{lt-ltb}
use Rattle.std.proofs.lemmas.List.{append-nil, append_cancel_left, take_at, drop_at}
use Rattle.std.proofs.lemmas.Nat.{from_be_bytes-to_be_bytes_4}
use Rattle.pg_term.specs.declared.fault.TermFault.TheVariants.{BadReference}
use Rattle.pg_term.specs.declared.term.Term.{Term, the_lemmas}
use Rattle.pg_term.specs.declared.term.Term.TheVariants.{Int, Atom, Ref}
use Rattle.pg_term.specs.RefParts.{RefParts}
use Rattle.pg_term_io.specs.Reading.{Read, ◌>>=◌, item_at, items_at, number_at, atom_at, words_at, new_reference_at}
use Rattle.pg_term_io.specs.Spelling.{IsAtom}
use Rattle.pg_term_io.specs.Writing.{int_bytes, big_bytes, tagged_text, atom_bytes, reference_bytes, item_bytes, written}
use Rattle.pg_term_io.proofs.Again.{word_again, half_again, atom_again}
use Rattle.pg_term_io.proofs.Written.{tuple_is}
use Rattle.pg_message_types.specs.declared.message.Said.{Said}
use Rattle.pg_message_types.specs.declared.message.Said.TheVariants.{Granted, Denied, Applied}
use Rattle.pg_message_types.specs.Limits.{max_stamp}
use Rattle.pg_message_types.specs.Writing.{pair, triple, said_term, term_of_packet, is_plain}
use Rattle.pg_message_types.proofs.Words.{plain_text}
use Rattle.pg_refs.specs.Numbered.{numbered, words_in}
use Rattle.pg_message_reader.specs.declared.own.OwnReply.{OwnReply}
use Rattle.pg_message_reader.specs.Own.{own_reply}
use Rattle.pg_message_reader.specs.Standing.{Stands, word_bytes, said_bytes}
use Rattle.pg_message_reader.proofs.Standing.{reference_stands, byte_stands, four_stand}

-- what was read is read but once
pub read_once : {A : Type 0} (read : Read A) (x y : A × List ℕ) → read ≡ Ok x → read ≡ Ok y → x ≡ y
read_once {A} read x y h k = ap value (sym h ∙ k)
  where
    value : Read A → A × List ℕ
    value (Ok z) = z
    value (Err e) = x

pub word_once : (bytes rest more : List ℕ) (n a : ℕ) → number_at w32 bytes ≡ Ok (n, rest) → a < 2 ^ 32 → bytes ≡ to_be_bytes w32 a ++ more → (n ≡ a) × (rest ≡ more)
word_once bytes rest more n a h l e =
    let same : (n, rest) ≡ (a, more) = read_once (number_at w32 bytes) (n, rest) (a, more) h (ap (number_at w32) e ∙ word_again a more l) in
    (ap (λ (x : ℕ × List ℕ). x.0) same, ap (λ (x : ℕ × List ℕ). x.1) same)

-- the bytes before the words of a reference with creation 1
abbrev pub before_words : List ℕ → List ℕ → List ℕ
before_words own rest = 90 ∷ to_be_bytes w16 3 ++ (atom_bytes own ++ (to_be_bytes w32 1 ++ rest))

pub words_once : (own rest more : List ℕ) → before_words own rest ≡ before_words own more → rest ≡ more
words_once own rest more e =
    let behind : atom_bytes own ++ (to_be_bytes w32 1 ++ rest) ≡ atom_bytes own ++ (to_be_bytes w32 1 ++ more) = cc in
    let last : to_be_bytes w32 1 ++ rest ≡ to_be_bytes w32 1 ++ more = append_cancel_left (atom_bytes own) (to_be_bytes w32 1 ++ rest) (to_be_bytes w32 1 ++ more) behind in
    append_cancel_left (to_be_bytes w32 1) rest more last

in_turn : (a b c d rest : List ℕ) → (((a ++ b) ++ c) ++ d) ++ rest ≡ a ++ (b ++ (c ++ (d ++ rest)))
in_turn a b c d rest = simp append_assoc

-- how such a reference is written
pub reference_laid : (own : List ℕ) (n : ℕ) (rest : List ℕ) → reference_bytes (numbered own n) ++ rest ≡ before_words own (flat_map (to_be_bytes w32) (words_in n) ++ rest)
unfolding reference_bytes
reference_laid own n rest = ap (λ (x : List ℕ). 90 ∷ x) (in_turn (to_be_bytes w16 3) (atom_bytes own) (to_be_bytes w32 1) (flat_map (to_be_bytes w32) (words_in n)) rest)

-- it is read as this reference
pub own_stands : (room : ℕ) (own : List ℕ) (n : ℕ) (bytes words rest : List ℕ) → IsAtom own (atom_bytes own) → bytes ≡ before_words own words → items_at (number_at w32) 3 words ≡ Ok (words_in n, rest)
    → Stands room (Ref (numbered own n)) bytes rest
unfolding new_reference_at words_at
own_stands room own n bytes words rest spelled e h =
    let creation = to_be_bytes w32 1 ++ words in
    let node = atom_bytes own ++ creation in
    reference_stands room bytes (to_be_bytes w16 3 ++ node) (numbered own n) rest e (
    ap (λ (r : Read ℕ). r >>= λ n. cond (eqb n.0 0 || ltb 3 n.0) (Err BadReference) (atom_at n.1 >>= λ node. number_at w32 node.1 >>= λ creation. words_at node.0 creation.0 n.0 creation.1)) (half_again 3 node (omega arith))
    ∙ (ap (λ (r : Read (List ℕ)). r >>= λ node. number_at w32 node.1 >>= λ creation. words_at node.0 creation.0 3 creation.1) (atom_again own (atom_bytes own) creation spelled)
    ∙ (ap (λ (r : Read ℕ). r >>= λ creation. words_at own creation.0 3 creation.1) (word_again 1 words (omega arith))
    ∙ ap (λ (r : Read (List ℕ)). r >>= λ words. Ok (record { node = own; creation = 1; words = words.0 }, words.1)) h)))

-- ---- the whole body

-- the bytes of a stamp are one or four, behind their tag
stamp_cases : (m : ℕ) (bytes more : List ℕ) → m ≤ max_stamp → (small word : Bool) → nat_lt m 2147483648 ≡ word → bytes ≡ cond small (97 ∷ m ∷ []) (cond word (98 ∷ to_be_bytes w32 m) (big_bytes 0 m)) ++ more
    → (bytes ≡ 97 ∷ m ∷ more) ⊎ (bytes ≡ 98 ∷ to_be_bytes w32 m ++ more)
stamp_cases m bytes more l true word is e = inl e
stamp_cases m bytes more l false true is e = inr e
stamp_cases m bytes more l false false is e = absurd (let no : true ≡ false = sym (lt-ltb m 2147483648 (omega arith)) ∙ is in cc)

pub stamp_laid : (m : ℕ) (bytes more : List ℕ) → m ≤ max_stamp → bytes ≡ int_bytes (pos m) ++ more → (bytes ≡ 97 ∷ m ∷ more) ⊎ (bytes ≡ 98 ∷ to_be_bytes w32 m ++ more)
stamp_laid m bytes more l e = stamp_cases m bytes more l (nat_lt m 256) (nat_lt m 2147483648) refl e

stamp_stands : (room m : ℕ) (bytes more : List ℕ) → m ≤ max_stamp → (bytes ≡ 97 ∷ m ∷ more) ⊎ (bytes ≡ 98 ∷ to_be_bytes w32 m ++ more) → Stands room (Int (pos m)) bytes more
stamp_stands room m bytes more l (inl e) = byte_stands room bytes (m ∷ more) m more e refl
stamp_stands room m bytes more l (inr e) =
    let digits = to_be_bytes w32 m in
    four_stand room bytes (digits ++ more) m digits more e (omega arith) (sym (take_at digits more 4 refl)) (sym (drop_at digits more 4 refl)) (sym (from_be_bytes-to_be_bytes_4 m (omega arith))) l

pub stamp_once : (n m : ℕ) (bytes rest more : List ℕ) → Stands 62 (Int (pos n)) bytes rest → m ≤ max_stamp → bytes ≡ int_bytes (pos m) ++ more → rest ≡ more
stamp_once n m bytes rest more h l e = ap (λ (x : Term × List ℕ). x.1) (read_once (item_at 63 bytes) (Int (pos n), rest) (Int (pos m), more) h (stamp_stands 62 m bytes more l (stamp_laid m bytes more l e)))

-- a stamp as it is written is read
pub stamp_found : (P : Type 0) (m : ℕ) (bytes more : List ℕ) → m ≤ max_stamp → ((n : ℕ) (rest : List ℕ) → bytes ≡ 97 ∷ n ∷ rest → P) → ((n : ℕ) (rest : List ℕ) → n ≤ max_stamp → bytes ≡ 98 ∷ to_be_bytes w32 n ++ rest → P)
    → bytes ≡ int_bytes (pos m) ++ more → P
stamp_found P m bytes more l small large e = go (stamp_laid m bytes more l e)
  where
    go : (bytes ≡ 97 ∷ m ∷ more) ⊎ (bytes ≡ 98 ∷ to_be_bytes w32 m ++ more) → P
    go (inl is) = small m more is
    go (inr is) = large m more l is

-- the rest is nothing where the bytes are what a reply says
pub said_end : (s t : Said) (rest : List ℕ) → said_bytes s ++ rest ≡ said_bytes t → rest ≡ []
said_end Granted Granted rest e = cc
said_end Granted Denied rest e = absurd (cc)
said_end Granted Applied rest e = absurd (cc)
said_end Denied Granted rest e = absurd (cc)
said_end Denied Denied rest e = cc
said_end Denied Applied rest e = absurd (cc)
said_end Applied Granted rest e = absurd (cc)
said_end Applied Denied rest e = absurd (cc)
said_end Applied Applied rest e = cc

pub said_found : (P : Type 0) (s : Said) (bytes : List ℕ) → ((rest : List ℕ) → bytes ≡ word_bytes (codes "ok") ++ rest → P) → ((rest : List ℕ) → bytes ≡ word_bytes (codes "true") ++ rest → P) → ((rest : List ℕ) → bytes ≡ word_bytes (codes "false") ++ rest → P)
    → bytes ≡ said_bytes s → P
said_found P Applied bytes ok true_ false_ e = ok [] e
said_found P Granted bytes ok true_ false_ e = true_ [] e
said_found P Denied bytes ok true_ false_ e = false_ [] e

-- the parts of a reply, one behind the other
abbrev pub behind_opening : List ℕ → OwnReply → List ℕ
behind_opening own reply = reference_bytes (numbered own reply.number) ++ said_bytes reply.said

abbrev pub behind_stamp : List ℕ → OwnReply → List ℕ
behind_stamp own reply = 104 ∷ 3 ∷ word_bytes (codes "reply") ++ behind_opening own reply

abbrev pub behind_head : List ℕ → OwnReply → List ℕ
behind_head own reply = int_bytes (pos reply.stamp) ++ behind_stamp own reply

pair_bytes : (a b : Term) → item_bytes (pair a b) ≡ 104 ∷ 2 ∷ (item_bytes a ++ item_bytes b)
pair_bytes a b = tuple_is (a ∷ b ∷ []) ∙ ap (λ (x : List ℕ). 104 ∷ 2 ∷ (item_bytes a ++ x)) (append-nil (item_bytes b))

triple_bytes : (a b c : Term) → item_bytes (triple a b c) ≡ 104 ∷ 3 ∷ (item_bytes a ++ (item_bytes b ++ item_bytes c))
triple_bytes a b c = tuple_is (a ∷ b ∷ c ∷ []) ∙ ap (λ (x : List ℕ). 104 ∷ 3 ∷ (item_bytes a ++ (item_bytes b ++ x))) (append-nil (item_bytes c))

int_written : (z : ℤ) → item_bytes (Int z) ≡ int_bytes z
int_written z = search (rules, the_lemmas)

reference_written : (r : RefParts) → item_bytes (Ref r) ≡ reference_bytes r
reference_written r = search (rules, the_lemmas)

name_written : (a : List ℕ) → item_bytes (Atom a) ≡ atom_bytes a
name_written a = search (rules, the_lemmas)

word_written : (w : List ℕ) → is_plain w ≡ true → item_bytes (Atom w) ≡ tagged_text w
unfolding atom_bytes
word_written w plain = name_written w ∙ ap tagged_text (plain_text w plain)

reply_written : item_bytes (Atom (codes "reply")) ≡ word_bytes (codes "reply")
reply_written = word_written (codes "reply") refl

said_written : (s : Said) → item_bytes (said_term s) ≡ said_bytes s
said_written Granted = word_written (codes "true") refl
said_written Denied = word_written (codes "false") refl
said_written Applied = word_written (codes "ok") refl

pub reply_laid : (own : List ℕ) (reply : OwnReply) → written (term_of_packet (own_reply own reply)) ≡ 131 ∷ 104 ∷ 2 ∷ behind_head own reply
reply_laid own reply =
    let stamp = Int (pos reply.stamp) in
    let reference = Ref (numbered own reply.number) in
    let word = Atom (codes "reply") in
    let said = said_term reply.said in
    ap (λ (x : List ℕ). 131 ∷ x) (pair_bytes stamp (triple word reference said))
    ∙ (λ i. 131 ∷ 104 ∷ 2 ∷ (int_written (pos reply.stamp) i ++ triple_bytes word reference said i))
    ∙ (λ i. 131 ∷ 104 ∷ 2 ∷ (int_bytes (pos reply.stamp) ++ 104 ∷ 3 ∷ (reply_written i ++ (reference_written (numbered own reply.number) i ++ said_written reply.said i))))
