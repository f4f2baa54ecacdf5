-- What is written for a term spells it.
use Rattle.std.proofs.Common.{◌≡◌, ℕ, ℤ, pos, negsuc, zero, suc, ◌+◌, ◌<◌, ◌≤◌, ◌^◌, Bool, true, false}
use Rattle.std.proofs.Common.{cond, ltb, max, List, [], ◌∷◌, ◌++◌, length, length-append, get_or, take}
use Rattle.std.proofs.Common.{refl, sym, ap, subst, ◌∙◌, append_assoc, arith, FitsSigned, neg_ℤ, rules}
use Rattle.std.specs.Int.{w16, w32, w64, to_be_bytes, cast_unsigned}
use Rattle.std.specs.List.{flat_map, AllByRecursion}
use Rattle.std.specs.Str.{chars, IsUtf8, encode_utf8_all}
use Rattle.std.proofs.lemmas.Bool.{ltb-true, ltb-false, ne_eqb}
use Rattle.std.proofs.lemmas.Int.{to_z_pos, ints}
use Rattle.std.proofs.Math.Facts.{to_z-neg}
use Rattle.std.proofs.lemmas.List.{append-nil, take_more}
use Rattle.pg_term.specs.declared.pid.Pid.{Pid}
use Rattle.pg_term.specs.declared.term.Term.{Term, Tuple, List as Listed, fold-Term}
use Rattle.pg_term.specs.declared.term.Term.{map-Term, out-Term, fold_out-Term, the_lemmas}
use Rattle.pg_term.specs.declared.term.Term.TheOpen.{Term-F}
use Rattle.pg_term.specs.declared.term.Term.TheVariants.{Int, Atom as Name, Ref, Pid as Process, Binary}
use Rattle.pg_term.specs.RefParts.{RefParts}
use Rattle.pg_term.specs.Depth.{depth, greatest_depth, depth_step}
use Rattle.pg_term_io.specs.Numbers.{big_value}
use Rattle.pg_term_io.specs.Spelling.{IsAtom, IsPid, IsRef, Item, Items, Elements, Tail, Spells}
use Rattle.pg_term_io.specs.Spelling as s
use Rattle.pg_term_io.specs.Writing.{digits, big_bytes, int_bytes, tagged_text, atom_bytes, pid_bytes}
use Rattle.pg_term_io.specs.Writing.{reference_bytes, binary_bytes, tuple_head, item_bytes, all_bytes}
use Rattle.pg_term_io.specs.Writing.{tuple_bytes, list_bytes, written, IsSpelled, AreSpelled}
use Rattle.pg_term_io.proofs.Deep.{greatest_push, depth_more}
use Rattle.pg_term_io.proofs.WrittenDigits.{few_digits}
use Rattle.pg_term_io.proofs.WrittenValue.{little_endian-digits, digits_below}
use Rattle.pg_term_io.proofs.Written.{tuple_is, list_is, binary_is, count_le, all_push, bytes_more}

tested_at : (P : List ℕ → Type 0) (b : Bool) (x y : List ℕ) → (b ≡ true → P x) → (b ≡ false → P y) → P (cond b x y)
tested_at P true x y p q = p refl
tested_at P false x y p q = q refl

-- what is written depends on a test
tested : (P : List ℕ → Type 0) (m n : ℕ) (x y : List ℕ) → (m < n → P x) → (n ≤ m → P y) → P (cond (ltb m n) x y)
tested P m n x y p q = tested_at P (ltb m n) x y (λ e. p (ltb-true m n e)) (λ e. q (ltb-false m n e))

big_spelled : (room sign n : ℕ) (z : ℤ) → sign < 256 → n < 2 ^ 64 → FitsSigned w64 z → big_value sign (digits n) ≡ z → Item (suc room) (Int z) (big_bytes sign n)
unfolding big_bytes
big_spelled room sign n z one small fits e =
    subst (λ (z : ℤ). Item (suc room) (Int z) (110 ∷ length (digits n) ∷ sign ∷ digits n)) e
    (s.Item.small_big room sign (digits n) one (omega (arith, few_digits n small)) (digits_below n) (subst (FitsSigned w64) (sym e) fits))

below : (n : ℕ) → FitsSigned w64 (pos n) → n < 2 ^ 64
below n fits = omega (arith, ints)

below_minus : (n : ℕ) → FitsSigned w64 (negsuc n) → suc n < 2 ^ 64
below_minus n fits = omega (arith, ints)

pub int_spelled : (room : ℕ) (z : ℤ) → FitsSigned w64 z → Item (suc room) (Int z) (int_bytes z)
int_spelled room (pos n) fits =
    let P : List ℕ → Type 0 = Item (suc room) (Int (pos n)) in
    tested P n 256 (97 ∷ n ∷ []) _
    (λ small. s.Item.small_integer room n small)
    (λ _. tested P n 2147483648 (98 ∷ to_be_bytes w32 n) (big_bytes 0 n)
    (λ word. subst (λ (z : ℤ). Item (suc room) (Int z) (98 ∷ to_be_bytes w32 n)) (to_z_pos w32 n word) (s.Item.integer room n (omega arith)))
    (λ _. big_spelled room 0 n (pos n) (omega arith) (below n fits) fits (ap pos (little_endian-digits n))))
int_spelled room (negsuc n) fits =
    let P : List ℕ → Type 0 = Item (suc room) (Int (negsuc n)) in
    let m = cast_unsigned w32 (negsuc n) in
    tested P n 2147483648 (98 ∷ to_be_bytes w32 m) (big_bytes 1 (suc n))
    (λ word. subst (λ (z : ℤ). Item (suc room) (Int z) (98 ∷ to_be_bytes w32 m)) (to_z-neg w32 n word) (s.Item.integer room m (omega arith)))
    (λ _. big_spelled room 1 (suc n) (negsuc n) (omega arith) (below_minus n fits) fits (ap (λ (k : ℕ). neg_ℤ (pos k)) (little_endian-digits (suc n))))

pub text_spelled : (text : List ℕ) → IsUtf8 text → length text < 2 ^ 16 → length (chars text) ≤ 255 → IsAtom (chars text) (tagged_text text)
text_spelled text utf8 few limit =
    tested (IsAtom (chars text)) (length text) 256 (119 ∷ length text ∷ text) (118 ∷ to_be_bytes w16 (length text) ++ text)
    (λ small. s.IsAtom.small text small utf8 limit) (λ _. s.IsAtom.large text few utf8 limit)

pub atom_spelled : (a text : List ℕ) → IsUtf8 text → length text ≤ 1020 → length a ≤ 255 → chars text ≡ a → text ≡ encode_utf8_all a → IsAtom a (atom_bytes a)
unfolding atom_bytes
atom_spelled a text utf8 few limit same bytes =
    let e : length (chars text) ≤ 255 = omega (arith, ap length same) in
    subst (λ (t : List ℕ). IsAtom a (tagged_text t)) bytes (subst (λ (b : List ℕ). IsAtom b (tagged_text text)) same (text_spelled text utf8 (omega arith) e))

-- a term of one level is spelled in any room
shallow : (t : Term) (b : List ℕ) → depth t ≡ 1 → item_bytes t ≡ b → ((room : ℕ) → Item (suc room) t b) → IsSpelled t
shallow t b one e spelled = record { item = at }
  where
    at : (room : ℕ) → depth t ≤ room → Item room t (item_bytes t)
    at zero h = absurd (omega arith)
    at (suc room) h = subst (Item (suc room) t) (sym e) (spelled room)

pub number_spelled : (z : ℤ) → FitsSigned w64 z → IsSpelled (Int z)
number_spelled z fits = shallow (Int z) (int_bytes z) (search (rules, the_lemmas)) (search (rules, the_lemmas)) (λ room. int_spelled room z fits)

pub name_spelled : (a : List ℕ) → IsAtom a (atom_bytes a) → IsSpelled (Name a)
name_spelled a h = shallow (Name a) (atom_bytes a) (search (rules, the_lemmas)) (search (rules, the_lemmas)) (λ room. s.Item.atom room a (atom_bytes a) h)

pid_deep : (p : Pid) → depth (Process p) ≡ 1
pid_deep p = search (rules, the_lemmas)

pid_is : (p : Pid) → item_bytes (Process p) ≡ pid_bytes p
pid_is p = search (rules, the_lemmas)

reference_deep : (r : RefParts) → depth (Ref r) ≡ 1
reference_deep r = search (rules, the_lemmas)

reference_is : (r : RefParts) → item_bytes (Ref r) ≡ reference_bytes r
reference_is r = search (rules, the_lemmas)

pub pid_spelled : (p : Pid) → IsAtom p.node (atom_bytes p.node) → p.id < 2 ^ 32 → p.serial < 2 ^ 32 → p.creation < 2 ^ 32 → IsSpelled (Process p)
unfolding pid_bytes
pid_spelled p node i sr cr =
    let a = atom_bytes p.node in
    let id = to_be_bytes w32 p.id in
    let serial = to_be_bytes w32 p.serial in
    let last = to_be_bytes w32 p.creation in
    let e : ((a ++ id) ++ serial) ++ last ≡ a ++ (id ++ (serial ++ last)) = simp append_assoc in
    shallow (Process p) (88 ∷ a ++ id ++ serial ++ last) (pid_deep p) (pid_is p)
    (λ room. s.Item.new_pid room p (((a ++ id) ++ serial) ++ last) (subst (IsPid w32 p) (sym e) (s.IsPid.parts w32 p a node i sr cr)))

pub reference_spelled : (r : RefParts) → IsAtom r.node (atom_bytes r.node) → 1 ≤ length r.words → length r.words ≤ 3 → AllByRecursion (λ w. w < 2 ^ 32) r.words → r.creation < 2 ^ 32 → IsSpelled (Ref r)
unfolding reference_bytes
reference_spelled r node some few words cr =
    let a = atom_bytes r.node in
    let count = to_be_bytes w16 (length r.words) in
    let creation = to_be_bytes w32 r.creation in
    let last = flat_map (to_be_bytes w32) r.words in
    let e : ((count ++ a) ++ creation) ++ last ≡ count ++ (a ++ (creation ++ last)) = simp append_assoc in
    shallow (Ref r) (90 ∷ count ++ a ++ creation ++ last) (reference_deep r) (reference_is r)
    (λ room. s.Item.newer_reference room r (((count ++ a) ++ creation) ++ last) (subst (IsRef w32 r) (sym e) (s.IsRef.parts w32 r a (omega arith) (omega arith) words node cr)))

binary_deep : (content : List ℕ) → depth (Binary content) ≡ 1
binary_deep content = search (rules, the_lemmas)

pub binary_spelled : (content : List ℕ) → length (binary_bytes content) ≤ 16777216 → AllByRecursion (λ b. b < 256) content → IsSpelled (Binary content)
binary_spelled content short fit =
    let few : length content < 2 ^ 32 = omega (arith, length-append (to_be_bytes w32 (length content)) content) in
    shallow (Binary content) (binary_bytes content) (binary_deep content) (binary_is content) (λ room. s.Item.binary room content few fit)

step_depth : (l : Term-F ℕ) → 1 ≤ depth_step l
step_depth (Term-F.Int z) = omega arith
step_depth (Term-F.Atom a) = omega arith
step_depth (Term-F.Ref r) = omega arith
step_depth (Term-F.Pid p) = omega arith
step_depth (Term-F.Tuple ds) = omega arith
step_depth (Term-F.List ds) = omega arith
step_depth (Term-F.Binary content) = omega arith

depth_some : (t : Term) → 1 ≤ depth t
depth_some t = rw (fold_out-Term ℕ depth_step t) (step_depth (map-Term Term ℕ (fold-Term ℕ depth_step) (out-Term t)))

tuple_deep : (ts : List Term) → depth (Tuple ts) ≡ 1 + greatest_depth ts
tuple_deep ts = search (rules, the_lemmas)

list_deep : (ts : List Term) → depth (Listed ts) ≡ 1 + greatest_depth ts
list_deep ts = search (rules, the_lemmas)

pub tuple_spelled : (ts : List Term) → length (tuple_bytes ts) ≤ 16777216 → AreSpelled ts → IsSpelled (Tuple ts)
tuple_spelled ts short parts = record { item = at }
  where
    at : (room : ℕ) → depth (Tuple ts) ≤ room → Item room (Tuple ts) (item_bytes (Tuple ts))
    at zero h = absurd (omega (arith, depth_some (Tuple ts)))
    at (suc room) h =
        let n = length ts in
        let b = all_bytes ts in
        let few : n < 2 ^ 32 = omega (arith, count_le ts, length-append (tuple_head n) b) in
        let spelled = parts.items room (omega (arith, tuple_deep ts)) in
        subst (Item (suc room) (Tuple ts)) (sym (tuple_is ts))
        (tested (λ (head : List ℕ). Item (suc room) (Tuple ts) (head ++ b)) n 256 (104 ∷ n ∷ []) (105 ∷ to_be_bytes w32 n)
        (λ small. s.Item.small_tuple room ts b small spelled)
        (λ _. s.Item.large_tuple room ts b few spelled))

-- the bytes of a list with elements
filled : (us : List Term) → 0 < length us → list_bytes us ≡ ((108 ∷ to_be_bytes w32 (length us)) ++ all_bytes us) ++ 106 ∷ []
filled us some = ap (λ (b : Bool). (cond b [] (108 ∷ to_be_bytes w32 (length us)) ++ all_bytes us) ++ 106 ∷ []) (ne_eqb (length us) 0 (λ e. omega arith))

listed : (room : ℕ) (ts : List Term) → length (list_bytes ts) ≤ 16777216 → greatest_depth ts ≤ room → Items room ts (all_bytes ts) → Elements room ts (list_bytes ts)
listed room [] short deep spelled = s.Elements.nil room
listed zero (t ∷ ts) short deep spelled = absurd (omega (arith, depth_some t))
listed (suc room) (t ∷ ts) short deep spelled =
    let us = t ∷ ts in
    let b = all_bytes us in
    let head = to_be_bytes w32 (length us) in
    let full = filled us (omega arith) in
    let few : length us < 2 ^ 32 = omega (arith, count_le us, length-append ((108 ∷ head) ++ b) (106 ∷ []), length-append (108 ∷ head) b, ap length full) in
    let parts : 108 ∷ (head ++ (b ++ 106 ∷ [])) ≡ ((108 ∷ head) ++ b) ++ 106 ∷ [] = simp append_assoc in
    let e : 108 ∷ (head ++ (b ++ 106 ∷ [])) ≡ list_bytes us = parts ∙ sym full in
    let whole : Elements (suc room) (us ++ []) (108 ∷ (head ++ (b ++ 106 ∷ []))) = s.Elements.cons (suc room) us [] b (106 ∷ []) few spelled (s.Tail.tail room [] (106 ∷ []) (s.Elements.nil room)) in
    subst (λ (x : List ℕ). Elements (suc room) us x) e (subst (λ (x : List Term). Elements (suc room) x (108 ∷ (head ++ (b ++ 106 ∷ [])))) (append-nil us) whole)

pub list_spelled : (ts : List Term) → length (list_bytes ts) ≤ 16777216 → AreSpelled ts → IsSpelled (Listed ts)
list_spelled ts short parts = record { item = at }
  where
    at : (room : ℕ) → depth (Listed ts) ≤ room → Item room (Listed ts) (item_bytes (Listed ts))
    at zero h = absurd (omega (arith, depth_some (Listed ts)))
    at (suc room) h =
        let deep : greatest_depth ts ≤ room = omega (arith, list_deep ts) in
        subst (Item (suc room) (Listed ts)) (sym (list_is ts)) (s.Item.list room ts (list_bytes ts) (listed room ts short deep (parts.items room deep)))

items_push : (room : ℕ) (ts : List Term) (b : List ℕ) (t : Term) (c : List ℕ) → Items room ts b → Item room t c → Items room (ts ++ t ∷ []) (b ++ c)
items_push room _ _ t c (s.Items.none _) i = subst (Items room (t ∷ [])) (append-nil c) (s.Items.more room t [] c [] i (s.Items.none room))
items_push room _ _ t c (s.Items.more _ u us a b h k) i =
    subst (Items room (u ∷ (us ++ t ∷ []))) (sym (append_assoc a b c)) (s.Items.more room u (us ++ t ∷ []) a (b ++ c) h (items_push room us b t c k i))

pub none_spelled : AreSpelled []
none_spelled = record { items = λ room h. s.Items.none room }

-- one element more is written
pub spelled_more : (ts : List Term) (i : ℕ) (t : Term) → i < length ts → t ≡ get_or ts i t → AreSpelled (take i ts) → IsSpelled t → AreSpelled (take (i + 1) ts)
spelled_more ts i t h e parts spelled = record { items = at }
  where
    at : (room : ℕ) → greatest_depth (take (i + 1) ts) ≤ room → Items room (take (i + 1) ts) (all_bytes (take (i + 1) ts))
    at room deep =
        let known : max (greatest_depth (take i ts)) (depth t) ≤ room = omega (arith, depth_more ts i t h e) in
        let more : take i ts ++ t ∷ [] ≡ take (i + 1) ts = sym (take_more ts i t h ∙ ap (λ (u : Term). take i ts ++ u ∷ []) (sym e)) in
        let whole = items_push room (take i ts) (all_bytes (take i ts)) t (item_bytes t) (parts.items room (omega arith)) (spelled.item room (omega arith)) in
        subst (λ (x : List Term). Items room x (all_bytes (take (i + 1) ts))) more
        (subst (Items room (take i ts ++ t ∷ [])) (sym (bytes_more ts i t h e)) whole)

pub spelled_last : (ts : List Term) (t : Term) → AreSpelled ts → IsSpelled t → AreSpelled (ts ++ t ∷ [])
spelled_last ts t parts spelled = record { items = at }
  where
    at : (room : ℕ) → greatest_depth (ts ++ t ∷ []) ≤ room → Items room (ts ++ t ∷ []) (all_bytes (ts ++ t ∷ []))
    at room deep =
        let known : max (greatest_depth ts) (depth t) ≤ room = omega (arith, greatest_push ts t) in
        subst (Items room (ts ++ t ∷ [])) (sym (all_push ts t)) (items_push room ts (all_bytes ts) t (item_bytes t) (parts.items room (omega arith)) (spelled.item room (omega arith)))

pub written_spelled : (t : Term) → IsSpelled t → depth t ≤ 64 → Spells t (written t)
written_spelled t spelled deep = s.Spells.version t (item_bytes t) (spelled.item 64 deep)
