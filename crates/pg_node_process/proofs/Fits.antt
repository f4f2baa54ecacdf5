-- What a frame always holds: that a request was refused, and the head of a log.
use Rattle.std.proofs.Common.{◌≡◌, ℕ, ℤ, pos, ◌+◌, ◌*◌, ◌-◌, ◌^◌, ◌<◌, ◌≤◌, min, Bool, true, false, cond, List, [], ◌∷◌, ◌++◌, codes, length, length-append, map, ap, arith, rules}
use Rattle.std.specs.Prelude.{nat_lt, ◌==◌}
use Rattle.std.specs.List.{AllByRecursion}
use Rattle.std.specs.Int.{w16, w32, to_be_bytes}
use Rattle.std.specs.Str.{chars, encode_utf8_all}
use Rattle.pg_term.specs.declared.term.Term.{Term, Tuple, List as Listed, the_lemmas}
use Rattle.pg_term.specs.declared.term.Term.TheVariants.{Int, Atom, Binary}
use Rattle.pg_term.specs.Depth.{depth, greatest_depth}
use Rattle.pg_term.proofs.Texts.{length_encodes}
use Rattle.pg_step.specs.PgTermIo.Writing.{IsWritable, all_bytes, item_bytes, list_head, int_bytes, atom_bytes, big_bytes, tagged_text}
use Rattle.pg_step.proofs.PgTermIo.WrittenDigits.{few_digits}
use Rattle.pg_step.proofs.PgTermIo.Written.{list_is, tuple_is}
use Rattle.pg_node_requests.specs.Replies.{numbered_term, refused_term}
use Rattle.pg_node_process.specs.Logs.{HeadsFit}

-- how long
int_is : (z : ℤ) → item_bytes (Int z) ≡ int_bytes z
int_is z = search (rules, the_lemmas)

atom_is : (a : List ℕ) → item_bytes (Atom a) ≡ atom_bytes a
atom_is a = search (rules, the_lemmas)

int_few : (n : ℕ) → n < 2 ^ 64 → length (int_bytes (pos n)) ≤ 11
unfolding big_bytes
int_few n few = at (nat_lt n 256) (nat_lt n 2147483648)
  where
    at : (a b : Bool) → length (cond a (97 ∷ n ∷ []) (cond b (98 ∷ to_be_bytes w32 n) (big_bytes 0 n))) ≤ 11
    at true b = omega arith
    at false true = omega arith
    at false false = omega (arith, few_digits n few)

text_few : (text : List ℕ) → length (tagged_text text) ≤ 3 + length text
text_few text = at (nat_lt (length text) 256)
  where
    at : (b : Bool) → length (cond b (119 ∷ length text ∷ text) (118 ∷ to_be_bytes w16 (length text) ++ text)) ≤ 3 + length text
    at true = omega arith
    at false = omega (arith, length-append (to_be_bytes w16 (length text)) text)

atom_few : (a : List ℕ) → length a ≤ 255 → length (item_bytes (Atom a)) ≤ 1023
unfolding atom_bytes
atom_few a few = omega (arith, ap length (atom_is a), text_few (encode_utf8_all a), length_encodes a, few)

number_few : (n : ℕ) → n < 2 ^ 64 → length (item_bytes (Int (pos n))) ≤ 11
number_few n few = omega (arith, ap length (int_is (pos n)), int_few n few)

two_bytes : (a b : Term) → item_bytes (Tuple (a ∷ b ∷ [])) ≡ 104 ∷ 2 ∷ (item_bytes a ++ (item_bytes b ++ []))
two_bytes a b = search (rules, the_lemmas)

two_few : (a b : Term) → length (item_bytes (Tuple (a ∷ b ∷ []))) ≡ 2 + length (item_bytes a) + length (item_bytes b)
two_few a b = omega (arith, ap length (two_bytes a b), length-append (item_bytes a) (item_bytes b ++ []), length-append (item_bytes b) [])

four_bytes : (a b c d : Term) → item_bytes (Tuple (a ∷ b ∷ c ∷ d ∷ [])) ≡ 104 ∷ 4 ∷ (item_bytes a ++ (item_bytes b ++ (item_bytes c ++ (item_bytes d ++ []))))
four_bytes a b c d = search (rules, the_lemmas)

four_few : (a b c d : Term) → length (item_bytes (Tuple (a ∷ b ∷ c ∷ d ∷ []))) ≡ 2 + length (item_bytes a) + length (item_bytes b) + length (item_bytes c) + length (item_bytes d)
four_few a b c d =
    omega (
      arith,
      ap length (four_bytes a b c d),
      length-append (item_bytes a) (item_bytes b ++ (item_bytes c ++ (item_bytes d ++ []))),
      length-append (item_bytes b) (item_bytes c ++ (item_bytes d ++ [])),
      length-append (item_bytes c) (item_bytes d ++ []),
      length-append (item_bytes d) [],
    )

-- how deep
int_deep : (z : ℤ) → depth (Int z) ≡ 1
int_deep z = search (rules, the_lemmas)

atom_deep : (a : List ℕ) → depth (Atom a) ≡ 1
atom_deep a = search (rules, the_lemmas)

tuple_deep : (ts : List Term) → depth (Tuple ts) ≡ 1 + greatest_depth ts
tuple_deep ts = search (rules, the_lemmas)

-- {refused, N}
word : List ℕ
word = chars (codes "refused")

word_short : length word ≤ 255
unfolding word chars
word_short = omega arith

refused_few : (fault : ℕ) → fault < 256 → length (item_bytes (refused_term fault)) ≤ 1036
unfolding word
refused_few fault low = omega (arith, two_few (Atom word) (Int (pos fault)), atom_few word word_short, number_few fault (omega (arith, low)))

refused_deep : (fault : ℕ) → depth (refused_term fault) ≡ 2
unfolding word
refused_deep fault = omega (arith, tuple_deep (Atom word ∷ Int (pos fault) ∷ []), atom_deep word, int_deep (pos fault))

-- {Node, Port, Number, {refused, N}}
pub refusal_fits : (node : List ℕ) (port number fault : ℕ) → length node ≤ 255 → port < 2 ^ 16 → fault < 256 → IsWritable (numbered_term node port number (refused_term fault))
refusal_fits node port number fault few small low =
    let count : ℕ = min number (2 ^ 63 - 1) in
    record {
      shallow = omega (arith, tuple_deep (Atom node ∷ Int (pos port) ∷ Int (pos count) ∷ refused_term fault ∷ []), atom_deep node, int_deep (pos port), int_deep (pos count), refused_deep fault);
      short = omega (arith, four_few (Atom node) (Int (pos port)) (Int (pos count)) (refused_term fault), atom_few node few, number_few port (omega (arith, small)), number_few count (omega arith), refused_few fault low);
    }

-- ---- heads

binary_bytes_are : (bytes : List ℕ) → item_bytes (Binary bytes) ≡ 109 ∷ (to_be_bytes w32 (length bytes) ++ bytes)
binary_bytes_are bytes = search (rules, the_lemmas)

binary_few : (bytes : List ℕ) → length bytes ≤ 255 → length (item_bytes (Binary bytes)) ≤ 260
binary_few bytes few = omega (arith, ap length (binary_bytes_are bytes), length-append (to_be_bytes w32 (length bytes)) bytes, few)

binary_deep : (bytes : List ℕ) → depth (Binary bytes) ≡ 1
binary_deep bytes = search (rules, the_lemmas)

-- one term more
more_bytes : (t : Term) (ts : List Term) → length (all_bytes (t ∷ ts)) ≡ length (item_bytes t) + length (all_bytes ts)
more_bytes t ts = length-append (item_bytes t) (all_bytes ts)

names_few : (names : List (List ℕ)) → AllByRecursion (λ name. length name ≤ 255) names → length (all_bytes (map Atom names)) ≤ 1023 * length names
names_few [] few = omega arith
names_few (name ∷ names) few = omega (arith, more_bytes (Atom name) (map Atom names), atom_few name few.0, names_few names few.1)

names_deep : (names : List (List ℕ)) → greatest_depth (map Atom names) ≤ 1
names_deep [] = omega arith
names_deep (name ∷ names) = omega (arith, atom_deep name, names_deep names)

list_deep : (ts : List Term) → depth (Listed ts) ≡ 1 + greatest_depth ts
list_deep ts = search (rules, the_lemmas)

head_few : (n : ℕ) → length (list_head n) ≤ 5
head_few n = at (n == 0)
  where
    at : (b : Bool) → length (cond b [] (108 ∷ to_be_bytes w32 n)) ≤ 5
    at true = omega arith
    at false = omega arith

list_few : (ts : List Term) → length (item_bytes (Listed ts)) ≤ 6 + length (all_bytes ts)
list_few ts = omega (arith, ap length (list_is ts), head_few (length ts), length-append (list_head (length ts) ++ all_bytes ts) (106 ∷ []), length-append (list_head (length ts)) (all_bytes ts))

seven_few : (a b c d e f g : Term) → length (item_bytes (Tuple (a ∷ b ∷ c ∷ d ∷ e ∷ f ∷ g ∷ [])))
    ≡ 2 + length (item_bytes a) + length (item_bytes b) + length (item_bytes c) + length (item_bytes d) + length (item_bytes e) + length (item_bytes f) + length (item_bytes g)
seven_few a b c d e f g =
    omega (
      arith,
      ap length (tuple_is (a ∷ b ∷ c ∷ d ∷ e ∷ f ∷ g ∷ [])),
      more_bytes a (b ∷ c ∷ d ∷ e ∷ f ∷ g ∷ []),
      more_bytes b (c ∷ d ∷ e ∷ f ∷ g ∷ []),
      more_bytes c (d ∷ e ∷ f ∷ g ∷ []),
      more_bytes d (e ∷ f ∷ g ∷ []),
      more_bytes e (f ∷ g ∷ []),
      more_bytes f (g ∷ []),
      more_bytes g [],
    )

-- {1, Version, Own, [Peer, ..], Ports, Made, Label}
pub heads_fit : HeadsFit
heads_fit head is =
    let version : Term = Binary head.version in
    let own : Term = Atom head.own in
    let peers : Term = Listed (map Atom head.peers) in
    let label : Term = Binary head.label in
    record {
      shallow = omega (
        arith,
        tuple_deep (Int (pos 1) ∷ version ∷ own ∷ peers ∷ Int (pos head.ports) ∷ Int (pos head.made) ∷ label ∷ []),
        int_deep (pos 1),
        binary_deep head.version,
        atom_deep head.own,
        list_deep (map Atom head.peers),
        names_deep head.peers,
        int_deep (pos head.ports),
        int_deep (pos head.made),
        binary_deep head.label,
      );
      short = omega (
        arith,
        seven_few (Int (pos 1)) version own peers (Int (pos head.ports)) (Int (pos head.made)) label,
        number_few 1 (omega arith),
        binary_few head.version is.version,
        atom_few head.own is.own,
        list_few (map Atom head.peers),
        names_few head.peers is.peers,
        is.few,
        number_few head.ports (omega (arith, is.ports)),
        number_few head.made (omega (arith, is.made)),
        binary_few head.label is.label,
      );
    }
