-- What is read of atoms, pids, references and terms is what spells them.
use Rattle.std.proofs.Common.{◌≡◌, ℕ, zero, suc, ◌+◌, ◌≤◌, Bool, true, false, ◌&&◌, ◌==◌, cond, List, [], ◌∷◌, ◌++◌}
use Rattle.std.proofs.Common.{length, take, drop, refl, sym, ap, ◌∙◌, subst, append_assoc, arith, Some, None, Option}
use Rattle.std.proofs.lemmas.Bool.Decides.{nat_tests}
use Rattle.std.proofs.lemmas.List.{append-nil, take-append-drop}
use Rattle.std.specs.Prelude.{decimal, nat_lt}
use Rattle.std.specs.Char.{is_ascii_lowercase}
use Rattle.std.specs.Fmt.{signed_decimal}
use Rattle.std.specs.List.{prefix_len, list_all, flat_map}
use Rattle.pg_term.specs.declared.pid.Pid.{Pid}
use Rattle.pg_term.specs.declared.term.Term.{Term, Tuple, List as Listed}
use Rattle.pg_term.specs.declared.term.Term.TheVariants.{Int, Atom as Name, Ref, Pid as Process, Binary}
use Rattle.pg_term.specs.RefParts.{RefParts}
use Rattle.pg_text.proofs.JustThose.{read_inv, cond_inv, some_inv, begins_inv, behind_inv, numeral_just, integer_just}
use Rattle.pg_text.proofs.PartsBack.{regroup, regroup_three, regroup_four}
use Rattle.pg_text.proofs.QuotedJust.{within_quotes}
use Rattle.pg_text.specs.declared.reading.quoted.Place.TheVariants.{Plain}
use Rattle.pg_text.specs.Reading.{Read, then_read, with_front, begins, ended, number_at, numeral_at, integer_at}
use Rattle.pg_text.specs.Reading.{quoted_at, short, unless_bare, bare_at, atom_at, part_at, creation_at, told_creation}
use Rattle.pg_text.specs.Reading.{numbers_at, pid_at, words_at, some_words, reference_at, next_element, elements_from}
use Rattle.pg_text.specs.Reading.{elements_at, bytes_at, as_term, begins_number, angled_at, leaf_at, term_at, whole}
use Rattle.pg_text.specs.Spelling.{IsAtomText, IsText, AreTexts}
use Rattle.pg_text.specs.Spelling.IsAtomText.{bare, quoted}
use Rattle.pg_text.specs.Spelling as s
use Rattle.pg_text.specs.Writing.{is_word_byte, needs_no_quotes, begins_lower, part_text, creation_text, pid_with}
use Rattle.pg_text.specs.Writing.{reference_with, with_commas, more_text, binary_text, between_text}

unless_inv : {A : Type 0} (b : Bool) (x : Option A) (y : A) → cond b None x ≡ Some y → (b ≡ false) × (x ≡ Some y)
unless_inv true x y e = absurd (cc)
unless_inv false x y e = (refl, e)

-- ---- atoms

lower_word : (c : ℕ) → is_ascii_lowercase c ≡ true → is_word_byte c ≡ true
lower_word c e = grind (arith, nat_tests)

prefix_words : (text : List ℕ) → list_all is_word_byte (take (prefix_len is_word_byte text) text) ≡ true
prefix_words [] = refl
prefix_words (c ∷ text) = step (is_word_byte c) refl (prefix_words text)
  where
    step : (b : Bool) → is_word_byte c ≡ b → list_all is_word_byte (take (prefix_len is_word_byte text) text) ≡ true → list_all is_word_byte (take (cond b (1 + prefix_len is_word_byte text) 0) (c ∷ text)) ≡ true
    step true e h = let n : suc (prefix_len is_word_byte text) ≡ 1 + prefix_len is_word_byte text = omega arith in subst (λ k. list_all is_word_byte (take k (c ∷ text)) ≡ true) n (ap (λ b. b && list_all is_word_byte (take (prefix_len is_word_byte text) text)) e ∙ h)
    step false e h = refl

prefix_lower : (text : List ℕ) → begins_lower text ≡ true → begins_lower (take (prefix_len is_word_byte text) text) ≡ true
prefix_lower [] e = absurd (cc)
prefix_lower (c ∷ text) e =
    let n : suc (prefix_len is_word_byte text) ≡ prefix_len is_word_byte (c ∷ text) = (let m : suc (prefix_len is_word_byte text) ≡ 1 + prefix_len is_word_byte text = omega arith in m) ∙ ap (λ b. cond b (1 + prefix_len is_word_byte text) 0) (sym (lower_word c e)) in
    subst (λ k. begins_lower (take k (c ∷ text)) ≡ true) n e

short_inv : (cs rest : List ℕ) (y : List ℕ × List ℕ) → short cs rest ≡ Some y → (cs ≡ y.0) × (rest ≡ y.1)
short_inv cs rest y e = let x : List ℕ × List ℕ = (cs, rest) in let h = some_inv x y (unless_inv (nat_lt 255 (length cs)) (Some x) y e).1 in (ap (λ (z : List ℕ × List ℕ). z.0) h, ap (λ (z : List ℕ × List ℕ). z.1) h)

pub record AtomJust (text : List ℕ) (y : List ℕ × List ℕ) : Type 0 where
  pub front : List ℕ
  pub whole : text ≡ front ++ y.1
  pub spelled : IsAtomText y.0 front

pub atom_just : (text : List ℕ) (y : List ℕ × List ℕ) → atom_at text ≡ Some y → AtomJust text y
unfolding atom_at
atom_just text y e = step (begins 39 text) refl (begins_lower text) refl e
  where
    step : (a : Bool) → begins 39 text ≡ a → (b : Bool) → begins_lower text ≡ b → cond a (then_read (quoted_at (drop 1 text) Plain) unless_bare) (cond b (bare_at text) None) ≡ Some y → AtomJust text y
    step true ea b eb f =
        let h = read_inv (quoted_at (drop 1 text) Plain) unless_bare y f in
        let u = unless_inv (needs_no_quotes h.0.0) (short h.0.0 h.0.1) y h.2 in
        let t = short_inv h.0.0 h.0.1 y u.1 in
        let w = within_quotes (drop 1 text) h.0 h.1 in
        record {
          front = 39 ∷ (w.0 ++ 39 ∷ []);
          whole = begins_inv 39 text ea ∙ ap (λ x. 39 ∷ x) (w.1 ∙ sym (append_assoc w.0 (39 ∷ []) h.0.1)) ∙ ap (λ x. 39 ∷ ((w.0 ++ 39 ∷ []) ++ x)) t.1;
          spelled = subst (λ cs. IsAtomText cs (39 ∷ (w.0 ++ 39 ∷ []))) t.0 (quoted h.0.0 w.0 u.0 w.2);
        }
    step false ea true eb f =
        let k = prefix_len is_word_byte text in
        let t = short_inv (take k text) (drop k text) y f in
        let is : needs_no_quotes (take k text) ≡ true = ap (λ b. b && list_all is_word_byte (take k text)) (prefix_lower text eb) ∙ prefix_words text in
        record {
          front = take k text;
          whole = sym (take-append-drop k text) ∙ ap (λ x. take k text ++ x) t.1;
          spelled = subst (λ cs. IsAtomText cs (take k text)) t.0 (bare (take k text) is);
        }
    step false ea false eb f = absurd (cc)

-- ---- pids and references

pub part_just : (before : ℕ) (text : List ℕ) (y : ℕ × List ℕ) → part_at before text ≡ Some y → text ≡ part_text before y.0 ++ y.1
part_just before text y e = let h = behind_inv before text number_at y e in h.0 ∙ ap (λ x. before ∷ x) (numeral_just 4294967295 (drop 1 text) y (omega arith) h.1)

creation_just : (text : List ℕ) (y : ℕ × List ℕ) → creation_at text ≡ Some y → text ≡ creation_text y.0 ++ y.1
unfolding creation_at
creation_just text y e = step (begins 47 text) refl e
  where
    one : ℕ × List ℕ
    one = (1, text)

    step : (a : Bool) → begins 47 text ≡ a → cond a (then_read (number_at (drop 1 text)) told_creation) (Some (1, text)) ≡ Some y → text ≡ creation_text y.0 ++ y.1
    step true ea f =
        let h = read_inv (number_at (drop 1 text)) told_creation y f in
        let u = unless_inv (h.0.0 == 1) (Some h.0) y h.2 in
        let same = some_inv h.0 y u.1 in
        begins_inv 47 text ea ∙ ap (λ x. 47 ∷ x) (numeral_just 4294967295 (drop 1 text) h.0 (omega arith) h.1)
        ∙ ap (λ b. cond b [] (part_text 47 h.0.0) ++ h.0.1) (sym u.0) ∙ ap (λ (z : ℕ × List ℕ). creation_text z.0 ++ z.1) same
    step false ea f = let x : ℕ × List ℕ = (1, text) in ap (λ (z : ℕ × List ℕ). creation_text z.0 ++ z.1) (some_inv x y f)

pub ended_inv : {A : Type 0} (last : ℕ) (x : A) (text : List ℕ) (y : A × List ℕ) → ended last x text ≡ Some y → (text ≡ last ∷ y.1) × (x ≡ y.0)
ended_inv {A} last x text y e =
    let h = behind_inv last text (λ rest. Some (x, rest)) y e in
    let z : A × List ℕ = (x, drop 1 text) in
    let same = some_inv z y h.1 in
    (h.0 ∙ ap (λ (w : A × List ℕ). last ∷ w.1) same, ap (λ (w : A × List ℕ). w.0) same)

numbers_just : (text : List ℕ) (y : (ℕ × ℕ × ℕ) × List ℕ) → numbers_at text ≡ Some y → text ≡ part_text 46 y.0.0 ++ (part_text 46 y.0.1 ++ (creation_text y.0.2 ++ 62 ∷ y.1))
numbers_just text y e =
    let a = read_inv (part_at 46 text) (λ id r1. then_read (part_at 46 r1) (λ serial r2. then_read (creation_at r2) (λ creation r3. ended 62 (id, serial, creation) r3))) y e in
    let b = read_inv (part_at 46 a.0.1) (λ serial r2. then_read (creation_at r2) (λ creation r3. ended 62 (a.0.0, serial, creation) r3)) y a.2 in
    let c = read_inv (creation_at b.0.1) (λ creation r3. ended 62 (a.0.0, b.0.0, creation) r3) y b.2 in
    let n : ℕ × ℕ × ℕ = (a.0.0, b.0.0, c.0.0) in
    let d = ended_inv 62 n c.0.1 y c.2 in
    part_just 46 text a.0 a.1
    ∙ ap (λ x. part_text 46 a.0.0 ++ x) (part_just 46 a.0.1 b.0 b.1 ∙ ap (λ x. part_text 46 b.0.0 ++ x) (creation_just b.0.1 c.0 c.1 ∙ ap (λ x. creation_text c.0.0 ++ x) d.0))
    ∙ ap (λ (m : ℕ × ℕ × ℕ). part_text 46 m.0 ++ (part_text 46 m.1 ++ (creation_text m.2 ++ 62 ∷ y.1))) d.1

pub record PidJust (text : List ℕ) (y : Pid × List ℕ) : Type 0 where
  pub node : List ℕ
  pub whole : text ≡ pid_with node y.0 ++ y.1
  pub spelled : IsAtomText y.0.node node

pub pid_just : (text : List ℕ) (y : Pid × List ℕ) → pid_at text ≡ Some y → PidJust text y
unfolding pid_at
pid_just text y e =
    let f = behind_inv 60 text (λ r0. then_read (atom_at r0) (λ node r1. then_read (numbers_at r1) (λ n rest. Some (record { node = node; serial = n.1; id = n.0; creation = n.2 }, rest)))) y e in
    let a = read_inv (atom_at (drop 1 text)) (λ node r1. then_read (numbers_at r1) (λ n rest. Some (record { node = node; serial = n.1; id = n.0; creation = n.2 }, rest))) y f.1 in
    let b = read_inv (numbers_at a.0.1) (λ n rest. Some (record { node = a.0.0; serial = n.1; id = n.0; creation = n.2 }, rest)) y a.2 in
    let j = atom_just (drop 1 text) a.0 a.1 in
    let p : Pid = record { node = a.0.0; serial = b.0.0.1; id = b.0.0.0; creation = b.0.0.2 } in
    let z : Pid × List ℕ = (p, b.0.1) in
    let here : PidJust text z = record {
      node = j.front;
      whole = f.0 ∙ ap (λ x. 60 ∷ x) (j.whole ∙ ap (λ x. j.front ++ x) (numbers_just a.0.1 b.0 b.1)
          ∙ sym (regroup j.front (part_text 46 p.id) (part_text 46 p.serial) (creation_text p.creation) (62 ∷ []) b.0.1));
      spelled = j.spelled;
    } in
    subst (PidJust text) (some_inv z y b.2) here

words_just : (n : ℕ) (text : List ℕ) (y : List ℕ × List ℕ) → words_at n text ≡ Some y → text ≡ flat_map (part_text 46) y.0 ++ 62 ∷ y.1
unfolding words_at
words_just zero text y e = let none : List ℕ = [] in let h = ended_inv 62 none text y e in h.0 ∙ ap (λ ws. flat_map (part_text 46) ws ++ 62 ∷ y.1) h.1
words_just (suc n) text y e = step (begins 46 text) refl e (words_just n)
  where
    step : (a : Bool) → begins 46 text ≡ a → cond a (then_read (number_at (drop 1 text)) (λ word rest. with_front (word ∷ []) (words_at n rest))) (ended 62 [] text) ≡ Some y
        → ((rest : List ℕ) (x : List ℕ × List ℕ) → words_at n rest ≡ Some x → rest ≡ flat_map (part_text 46) x.0 ++ 62 ∷ x.1) → text ≡ flat_map (part_text 46) y.0 ++ 62 ∷ y.1
    step true ea f ih =
        let h = read_inv (number_at (drop 1 text)) (λ word rest. with_front (word ∷ []) (words_at n rest)) y f in
        let g = read_inv (words_at n h.0.1) (λ ws rest. Some ((h.0.0 ∷ []) ++ ws, rest)) y h.2 in
        let z : List ℕ × List ℕ = (h.0.0 ∷ g.0.0, g.0.1) in
        begins_inv 46 text ea ∙ ap (λ x. 46 ∷ x) (numeral_just 4294967295 (drop 1 text) h.0 (omega arith) h.1 ∙ ap (λ x. decimal h.0.0 ++ x) (ih h.0.1 g.0 g.1) ∙ sym (append_assoc (decimal h.0.0) (flat_map (part_text 46) g.0.0) (62 ∷ g.0.1)))
        ∙ ap (λ (w : List ℕ × List ℕ). flat_map (part_text 46) w.0 ++ 62 ∷ w.1) (some_inv z y g.2)
    step false ea f ih = let none : List ℕ = [] in let h = ended_inv 62 none text y f in h.0 ∙ ap (λ ws. flat_map (part_text 46) ws ++ 62 ∷ y.1) h.1

pub record ReferenceJust (text : List ℕ) (y : RefParts × List ℕ) : Type 0 where
  pub node : List ℕ
  pub whole : 35 ∷ text ≡ reference_with node y.0 ++ y.1
  pub spelled : IsAtomText y.0.node node

pub reference_just : (text : List ℕ) (y : RefParts × List ℕ) → reference_at text ≡ Some y → ReferenceJust text y
unfolding reference_at
reference_just text y e =
    let f = behind_inv 60 text (λ r0. then_read (atom_at r0) (λ node r1. then_read (part_at 47 r1) (λ creation r2. then_read (words_at 3 r2) (λ words rest. some_words node creation words rest)))) y e in
    let a = read_inv (atom_at (drop 1 text)) (λ node r1. then_read (part_at 47 r1) (λ creation r2. then_read (words_at 3 r2) (λ words rest. some_words node creation words rest))) y f.1 in
    let b = read_inv (part_at 47 a.0.1) (λ creation r2. then_read (words_at 3 r2) (λ words rest. some_words a.0.0 creation words rest)) y a.2 in
    let c = read_inv (words_at 3 b.0.1) (λ words rest. some_words a.0.0 b.0.0 words rest) y b.2 in
    let j = atom_just (drop 1 text) a.0 a.1 in
    let r : RefParts = record { node = a.0.0; creation = b.0.0; words = c.0.0 } in
    let z : RefParts × List ℕ = (r, c.0.1) in
    let u = unless_inv (length c.0.0 == 0) (Some z) y c.2 in
    let here : ReferenceJust text z = record {
      node = j.front;
      whole = ap (λ x. 35 ∷ x) f.0 ∙ ap (λ x. 35 ∷ 60 ∷ x) (j.whole ∙ ap (λ x. j.front ++ x) (part_just 47 a.0.1 b.0 b.1 ∙ ap (λ x. part_text 47 b.0.0 ++ x) (words_just 3 b.0.1 c.0 c.1))
          ∙ sym (regroup_four j.front (part_text 47 r.creation) (flat_map (part_text 46) r.words) (62 ∷ []) c.0.1));
      spelled = j.spelled;
    } in
    subst (ReferenceJust text) (some_inv z y u.1) here

-- ---- elements

-- a text for each element
abbrev pub Each : {A : Type 0} → (A → List ℕ → Type 0) → List A → List (List ℕ) → Type 0
Each R [] [] = Unit {0}
Each R [] (part ∷ parts) = ⊥
Each R (x ∷ xs) [] = ⊥
Each R (x ∷ xs) (part ∷ parts) = R x part × Each R xs parts

abbrev pub parts_text : List (List ℕ) → List ℕ
parts_text parts = with_commas (λ part. part) parts

parts_more : (part : List ℕ) (parts : List (List ℕ)) → 1 ≤ length parts → part ++ 44 ∷ parts_text parts ≡ parts_text (part ∷ parts)
parts_more part [] some = absurd (omega arith)
parts_more part (q ∷ ps) some = refl

pub record ElementJust {A : Type 0} (R : A → List ℕ → Type 0) (text : List ℕ) (y : A × List ℕ) : Type 0 where
  pub front : List ℕ
  pub whole : text ≡ front ++ y.1
  pub spelled : R y.0 front

record ElementsJust {A : Type 0} (R : A → List ℕ → Type 0) (last : ℕ) (text : List ℕ) (y : List A × List ℕ) : Type 0 where
  pub parts : List (List ℕ)
  pub whole : text ≡ parts_text parts ++ last ∷ y.1
  pub spelled : Each R y.0 parts

module _ {A : Type 0} (R : A → List ℕ → Type 0) (element : List ℕ → Read A) (last : ℕ) (just : (text : List ℕ) (x : A × List ℕ) → element text ≡ Some x → ElementJust R text x) where
  from_just : (n : ℕ) (text : List ℕ) (y : List A × List ℕ) → elements_from element last n text ≡ Some y → (j : ElementsJust R last text y) × (1 ≤ length j.parts)
  from_just zero text y e = absurd (cc)
  from_just (suc n) text y e = step (begins 44 h.0.1) refl h.2 (from_just n)
    where
      h : (x : A × List ℕ) × (element text ≡ Some x) × (next_element last x.0 x.1 (elements_from element last n) ≡ Some y)
      h = read_inv (element text) (λ x rest. next_element last x rest (elements_from element last n)) y e

      step : (b : Bool) → begins 44 h.0.1 ≡ b → cond b (with_front (h.0.0 ∷ []) (elements_from element last n (drop 1 h.0.1))) (ended last (h.0.0 ∷ []) h.0.1) ≡ Some y
          → ((rest : List ℕ) (z : List A × List ℕ) → elements_from element last n rest ≡ Some z → (j : ElementsJust R last rest z) × (1 ≤ length j.parts))
          → (j : ElementsJust R last text y) × (1 ≤ length j.parts)
      step true eb f ih =
          let g = read_inv (elements_from element last n (drop 1 h.0.1)) (λ xs rest. Some ((h.0.0 ∷ []) ++ xs, rest)) y f in
          let later = ih (drop 1 h.0.1) g.0 g.1 in
          let first = just text h.0 h.1 in
          let z : List A × List ℕ = (h.0.0 ∷ g.0.0, g.0.1) in
          let here : ElementsJust R last text z = record {
            parts = first.front ∷ later.0.parts;
            whole = first.whole ∙ ap (λ x. first.front ++ x) (begins_inv 44 h.0.1 eb ∙ ap (λ x. 44 ∷ x) later.0.whole) ∙ sym (append_assoc first.front (44 ∷ parts_text later.0.parts) (last ∷ g.0.1))
                ∙ ap (λ x. x ++ last ∷ g.0.1) (parts_more first.front later.0.parts later.1);
            spelled = (first.spelled, later.0.spelled);
          } in
          let there : (j : ElementsJust R last text z) × (1 ≤ length j.parts) = (here, omega arith) in
          subst (λ (w : List A × List ℕ). (j : ElementsJust R last text w) × (1 ≤ length j.parts)) (some_inv z y g.2) there
      step false eb f ih =
          let xs : List A = h.0.0 ∷ [] in
          let d = ended_inv last xs h.0.1 y f in
          let first = just text h.0 h.1 in
          let z : List A × List ℕ = (xs, y.1) in
          let here : ElementsJust R last text z = record {
            parts = first.front ∷ [];
            whole = first.whole ∙ ap (λ x. first.front ++ x) d.0 ∙ ap (λ x. x ++ last ∷ y.1) (sym (append-nil first.front));
            spelled = (first.spelled, tt);
          } in
          let there : (j : ElementsJust R last text z) × (1 ≤ length j.parts) = (here, omega arith) in
          subst (λ (us : List A). let w : List A × List ℕ = (us, y.1) in (j : ElementsJust R last text w) × (1 ≤ length j.parts)) d.1 there

  elements_just : (text : List ℕ) (y : List A × List ℕ) → elements_at element last text ≡ Some y → ElementsJust R last text y
  elements_just text y e = step (begins last text) refl e
    where
      step : (b : Bool) → begins last text ≡ b → cond b (Some ([], drop 1 text)) (elements_from element last (length text) text) ≡ Some y → ElementsJust R last text y
      step true eb f =
          let z : List A × List ℕ = ([], drop 1 text) in
          let here : ElementsJust R last text z = record { parts = []; whole = begins_inv last text eb; spelled = tt } in
          subst (ElementsJust R last text) (some_inv z y f) here
      step false eb f = (from_just (length text) text y f).0

-- ---- binaries

byte_just : (text : List ℕ) (x : ℕ × List ℕ) → numeral_at 255 text ≡ Some x → ElementJust (λ n part. part ≡ decimal n) text x
byte_just text x e = record { front = decimal x.0; whole = numeral_just 255 text x (omega arith) e; spelled = refl }

more_bytes : (bytes : List ℕ) (parts : List (List ℕ)) → Each (λ n part. part ≡ decimal n) bytes parts → more_text (λ part. part) parts ≡ more_text decimal bytes
more_bytes [] [] each = refl
more_bytes [] (part ∷ parts) each = absurd each
more_bytes (b ∷ bytes) [] each = absurd each
more_bytes (b ∷ bytes) (part ∷ parts) each = ap (λ x. 44 ∷ (x ++ more_text (λ part. part) parts)) each.0 ∙ ap (λ x. 44 ∷ (decimal b ++ x)) (more_bytes bytes parts each.1)

bytes_text : (bytes : List ℕ) (parts : List (List ℕ)) → Each (λ n part. part ≡ decimal n) bytes parts → parts_text parts ≡ with_commas decimal bytes
bytes_text [] [] each = refl
bytes_text [] (part ∷ parts) each = absurd each
bytes_text (b ∷ bytes) [] each = absurd each
bytes_text (b ∷ bytes) (part ∷ parts) each = ap (λ x. x ++ more_text (λ part. part) parts) each.0 ∙ ap (λ x. decimal b ++ x) (more_bytes bytes parts each.1)

bytes_just : (text : List ℕ) (y : List ℕ × List ℕ) → bytes_at text ≡ Some y → text ≡ with_commas decimal y.0 ++ 62 ∷ 62 ∷ y.1
unfolding bytes_at
bytes_just text y e =
    let h = read_inv (elements_at (numeral_at 255) 62 text) (λ bytes rest. ended 62 bytes rest) y e in
    let j = elements_just (λ n part. part ≡ decimal n) (numeral_at 255) 62 byte_just text h.0 h.1 in
    let d = ended_inv 62 h.0.0 h.0.1 y h.2 in
    j.whole ∙ ap (λ x. x ++ 62 ∷ h.0.1) (bytes_text h.0.0 j.parts j.spelled) ∙ ap (λ x. with_commas decimal h.0.0 ++ 62 ∷ x) d.0 ∙ ap (λ bs. with_commas decimal bs ++ 62 ∷ 62 ∷ y.1) d.1

-- ---- terms

as_inv : {A : Type 0} (make : A → Term) (r : Read A) (y : Term × List ℕ) → as_term make r ≡ Some y → (x : A × List ℕ) × (r ≡ Some x) × (make x.0 ≡ y.0) × (x.1 ≡ y.1)
as_inv {A} make r y e =
    let h = read_inv r (λ x rest. Some (make x, rest)) y e in
    let z : Term × List ℕ = (make h.0.0, h.0.1) in
    let same = some_inv z y h.2 in
    (h.0, h.1, ap (λ (w : Term × List ℕ). w.0) same, ap (λ (w : Term × List ℕ). w.1) same)

-- a term, and what spells it in front of what follows
spelled_by : (text front rest : List ℕ) (t : Term) (y : Term × List ℕ) → text ≡ front ++ rest → IsText t front → t ≡ y.0 → rest ≡ y.1 → ElementJust IsText text y
spelled_by text front rest t y whole is a b = record { front = front; whole = whole ∙ ap (λ x. front ++ x) b; spelled = subst (λ u. IsText u front) a is }

angled_just : (text : List ℕ) (y : Term × List ℕ) → begins 60 text ≡ true → angled_at text ≡ Some y → ElementJust IsText text y
angled_just text y first e = step (begins 60 (drop 1 text)) refl e
  where
    step : (b : Bool) → begins 60 (drop 1 text) ≡ b → cond b (as_term Binary (bytes_at (drop 1 (drop 1 text)))) (as_term Process (pid_at text)) ≡ Some y → ElementJust IsText text y
    step true eb f =
        let h = as_inv Binary (bytes_at (drop 1 (drop 1 text))) y f in
        spelled_by text (binary_text h.0.0) h.0.1 (Binary h.0.0) y
        (begins_inv 60 text first ∙ ap (λ x. 60 ∷ x) (begins_inv 60 (drop 1 text) eb ∙ ap (λ x. 60 ∷ x) (bytes_just (drop 1 (drop 1 text)) h.0 h.1 ∙ sym (regroup_three (with_commas decimal h.0.0) (62 ∷ []) (62 ∷ []) h.0.1))))
        (s.IsText.binary h.0.0) h.2 h.3
    step false eb f =
        let h = as_inv Process (pid_at text) y f in
        let j = pid_just text h.0 h.1 in
        spelled_by text (pid_with j.node h.0.0) h.0.1 (Process h.0.0) y j.whole (s.IsText.pid h.0.0 j.node j.spelled) h.2 h.3

leaf_just : (text : List ℕ) (y : Term × List ℕ) → leaf_at text ≡ Some y → ElementJust IsText text y
unfolding leaf_at
leaf_just text y e = step (begins 35 text) refl (begins 60 text) refl (begins_number text) e
  where
    step : (a : Bool) → begins 35 text ≡ a → (b : Bool) → begins 60 text ≡ b → (d : Bool)
        → cond a (as_term Ref (reference_at (drop 1 text))) (cond b (angled_at text) (cond d (as_term Int (integer_at text)) (as_term Name (atom_at text)))) ≡ Some y → ElementJust IsText text y
    step true ea b eb d f =
        let h = as_inv Ref (reference_at (drop 1 text)) y f in
        let j = reference_just (drop 1 text) h.0 h.1 in
        spelled_by text (reference_with j.node h.0.0) h.0.1 (Ref h.0.0) y (begins_inv 35 text ea ∙ j.whole) (s.IsText.reference h.0.0 j.node j.spelled) h.2 h.3
    step false ea true eb d f = angled_just text y eb f
    step false ea false eb true f =
        let h = as_inv Int (integer_at text) y f in
        spelled_by text (signed_decimal h.0.0) h.0.1 (Int h.0.0) y (integer_just text h.0 h.1) (s.IsText.int h.0.0) h.2 h.3
    step false ea false eb false f =
        let h = as_inv Name (atom_at text) y f in
        let j = atom_just text h.0 h.1 in
        spelled_by text j.front h.0.1 (Name h.0.0) y j.whole (s.IsText.atom h.0.0 j.front j.spelled) h.2 h.3

are_texts : (ts : List Term) (parts : List (List ℕ)) → Each IsText ts parts → AreTexts ts parts
are_texts [] [] each = s.AreTexts.none
are_texts [] (part ∷ parts) each = absurd each
are_texts (t ∷ ts) [] each = absurd each
are_texts (t ∷ ts) (part ∷ parts) each = s.AreTexts.more t ts part parts each.0 (are_texts ts parts each.1)

pub term_just : (room : ℕ) (text : List ℕ) (y : Term × List ℕ) → term_at room text ≡ Some y → ElementJust IsText text y
unfolding term_at
term_just zero text y e = absurd (cc)
term_just (suc room) text y e = step (begins 123 text) refl (begins 91 text) refl e (term_just room)
  where
    step : (a : Bool) → begins 123 text ≡ a → (b : Bool) → begins 91 text ≡ b
        → cond a (as_term Tuple (elements_at (term_at room) 125 (drop 1 text))) (cond b (as_term Listed (elements_at (term_at room) 93 (drop 1 text))) (leaf_at text)) ≡ Some y
        → ((rest : List ℕ) (x : Term × List ℕ) → term_at room rest ≡ Some x → ElementJust IsText rest x) → ElementJust IsText text y
    step true ea b eb f ih =
        let h = as_inv Tuple (elements_at (term_at room) 125 (drop 1 text)) y f in
        let j = elements_just IsText (term_at room) 125 ih (drop 1 text) h.0 h.1 in
        spelled_by text (between_text 123 (parts_text j.parts) 125) h.0.1 (Tuple h.0.0) y
        (begins_inv 123 text ea ∙ ap (λ x. 123 ∷ x) (j.whole ∙ sym (append_assoc (parts_text j.parts) (125 ∷ []) h.0.1))) (s.IsText.tuple h.0.0 j.parts (are_texts h.0.0 j.parts j.spelled)) h.2 h.3
    step false ea true eb f ih =
        let h = as_inv Listed (elements_at (term_at room) 93 (drop 1 text)) y f in
        let j = elements_just IsText (term_at room) 93 ih (drop 1 text) h.0 h.1 in
        spelled_by text (between_text 91 (parts_text j.parts) 93) h.0.1 (Listed h.0.0) y
        (begins_inv 91 text eb ∙ ap (λ x. 91 ∷ x) (j.whole ∙ sym (append_assoc (parts_text j.parts) (93 ∷ []) h.0.1))) (s.IsText.list h.0.0 j.parts (are_texts h.0.0 j.parts j.spelled)) h.2 h.3
    step false ea false eb f ih = leaf_just text y f

whole_inv : {A : Type 0} (r : Read A) (t : A) → whole r ≡ Some t → (x : A × List ℕ) × (r ≡ Some x) × (x.0 ≡ t) × (x.1 ≡ [])
whole_inv None t e = absurd (cc)
whole_inv (Some x) t e =
    let h = cond_inv (length x.1 == 0) (Some x.0) t e in
    (x, refl, some_inv x.0 t h.1, empty x.1 h.0)
  where
    empty : (xs : List ℕ) → (length xs == 0) ≡ true → xs ≡ []
    empty [] f = refl
    empty (y ∷ ys) f = let z : suc (length ys) ≡ 0 = grind (arith, nat_tests) in absurd (omega arith)

pub text_just : (text : List ℕ) (t : Term) → whole (term_at 64 text) ≡ Some t → IsText t text
text_just text t e =
    let h = whole_inv (term_at 64 text) t e in
    let j = term_just 64 text h.0 h.1 in
    subst (λ x. IsText t x) (sym (j.whole ∙ ap (λ x. j.front ++ x) h.3 ∙ append-nil j.front)) (subst (λ u. IsText u j.front) h.2 j.spelled)
