-- What is passed by in place of being read.
use Rattle.std.proofs.Common.{◌≡◌, ℕ, zero, suc, ◌+◌, ◌-◌, ◌<◌, ◌≤◌, ◌≢◌, Bool, true, false, not, ◌&&◌, ◌==◌, nat_lt, cond, List, [], ◌∷◌, ◌++◌}
use Rattle.std.proofs.Common.{length, drop, refl, sym, ap, ◌∙◌, subst, arith, Some, None, Option, length-append}
use Rattle.std.proofs.lemmas.Bool.Decides.{nat_tests}
use Rattle.std.proofs.lemmas.List.Folds.{list_all-append}
use Rattle.std.specs.Char.{is_ascii_lowercase}
use Rattle.std.specs.List.{list_all}
use Rattle.std.specs.Prelude.{is_some, IfSome}
use Rattle.std.specs.Str.{chars}
use denote.Ref.{Bor}
use Rattle.pg_term.specs.declared.pid.Pid.{Pid as Process}
use Rattle.pg_term.specs.RefParts.{RefParts}
use Rattle.pg_term.specs.declared.term.Term.{Term, Tuple, List as Listed}
use Rattle.pg_term.specs.declared.term.Term.TheVariants.{Binary, Pid, Ref, Int, Atom}
use Rattle.pg_text.specs.Ends.{past, words_past, IsSeen}
use Rattle.pg_text.specs.Reading.{Read, then_read, with_front, begins, ended, short, unless_bare, quoted_at, quoted_step, bare_at, atom_at}
use Rattle.pg_text.specs.Reading.{number_at, numbers_at, part_at, pid_at, words_at, some_words, reference_at, numeral_at, elements_at, elements_from, bytes_at}
use Rattle.pg_text.specs.Reading.{as_term, angled_at, leaf_at, term_at, begins_number, integer_at, whole}
use Rattle.pg_text.specs.Writing.{needs_no_quotes, is_word_byte}
use Rattle.pg_text.specs.declared.reading.ends.Seen.{Seen}
use Rattle.pg_text.specs.declared.reading.quoted.Place.TheVariants.{Plain}
use Rattle.pg_text.specs.declared.reading.quoted.Place.{Place}
use Rattle.pg_text.specs.declared.reading.quoted.Quoted.TheVariants.{Close, Character, Within, Bad}
use Rattle.pg_text.proofs.Quoting.{quoted_grows, quoted_goes, quoted_closes, quoted_spoilt, quoted_open}
use Rattle.pg_text.proofs.Fronts.{no_front, Goes, goes_begin, goes_on, goes_end, goes_nowhere, goes_bad, words_turn, words_bad, words_end, term_leaf}

-- ---- what a call tells of an end

pub some_same : (result : Option (Bor (List ℕ))) (e f : Option (List ℕ)) → e ≡ f → IfSome result (λ rest. f ≡ Some (chars rest.now)) → IfSome result (λ rest. e ≡ Some (chars rest.now))
some_same result e f same told = subst (λ x. IfSome result (λ rest. x ≡ Some (chars rest.now))) (sym same) told

-- behind this character, or nowhere
abbrev pub behind_past : ℕ → List ℕ → Option (List ℕ)
behind_past c text = cond (begins c text) (Some (drop 1 text)) None

pub after_some : (result : Option (Bor (List ℕ))) (c : ℕ) (text : List ℕ) (e : Option (List ℕ)) → e ≡ behind_past c text
    → IfSome result (λ rest. (begins c text ≡ true) × (chars rest.now ≡ drop 1 text)) → IfSome result (λ rest. e ≡ Some (chars rest.now))
after_some None c text e same told = tt
after_some (Some rest) c text e same told = same ∙ ap (λ b. cond b (Some (drop 1 text)) None) told.0 ∙ ap Some (sym told.1)

pub after_none : (result : Option (Bor (List ℕ))) (c : ℕ) (text : List ℕ) (e : Option (List ℕ)) → e ≡ behind_past c text → (result ≡ None → begins c text ≡ false) → result ≡ None → e ≡ None
after_none result c text e same told none = same ∙ ap (λ b. cond b (Some (drop 1 text)) None) (told none)

-- ---- one value behind another

abbrev pub then_past : Option (List ℕ) → (List ℕ → Option (List ℕ)) → Option (List ℕ)
then_past None next = None
then_past (Some rest) next = next rest

module _ {A : Type 0} where
  pub past_then : {B : Type 0} (read : Read A) (next : A → List ℕ → Read B) (end : List ℕ → Option (List ℕ)) → ((x : A) (rest : List ℕ) → past (next x rest) ≡ end rest)
      → past (then_read read next) ≡ then_past (past read) end
  past_then None next end e = refl
  past_then (Some x) next end e = e x.0 x.1

  -- what is made of the value is nothing to its end
  pub past_made : {B : Type 0} (make : A → B) (read : Read A) → past (then_read read (λ x rest. Some (make x, rest))) ≡ past read
  past_made make None = refl
  past_made make (Some x) = refl

  pub past_front : (front : List A) (read : Read (List A)) → past (with_front front read) ≡ past read
  past_front front None = refl
  past_front front (Some x) = refl

  pub past_none : (read : Read A) → past read ≡ None → read ≡ None
  past_none None e = refl
  past_none (Some x) e = absurd (cc)

  pub past_some : (read : Read A) (rest : List ℕ) → past read ≡ Some rest → (x : A) × (read ≡ Some (x, rest))
  past_some None rest e = absurd (cc)
  past_some (Some x) rest e = (x.0, ap (λ r. Some (x.0, r)) (cc))

-- ---- atoms

pub unless_past : (front rest : List ℕ) → past (unless_bare front rest) ≡ cond (needs_no_quotes front) None (cond (nat_lt 255 (length front)) None (Some rest))
unless_past front rest = step (needs_no_quotes front) (nat_lt 255 (length front))
  where
    step : (a b : Bool) → past (cond a None (cond b None (Some (front, rest)))) ≡ cond a None (cond b None (Some rest))
    step true b = refl
    step false true = refl
    step false false = refl

-- more characters than an atom has
pub quote_long : (front : List ℕ) (read : Read (List ℕ)) → 255 < length front → past (then_read (with_front front read) unless_bare) ≡ None
quote_long front None long = refl
quote_long front (Some x) long =
    unless_past (front ++ x.0) x.1 ∙ ap (λ b. cond (needs_no_quotes (front ++ x.0)) None (cond b None (Some x.1))) (larger (length (front ++ x.0)) (omega (arith, length-append front x.0)))
    ∙ step (needs_no_quotes (front ++ x.0))
  where
    larger : (n : ℕ) → 255 < n → nat_lt 255 n ≡ true
    larger n lt = grind (arith, nat_tests)

    nothing : Option (List ℕ)
    nothing = None

    step : (a : Bool) → cond a nothing nothing ≡ nothing
    step true = refl
    step false = refl

-- whether characters stand bare, one more of them
pub bare_one : (front : List ℕ) (c : ℕ) → needs_no_quotes (front ++ c ∷ []) ≡ (cond (length front == 0) (is_ascii_lowercase c) (needs_no_quotes front) && is_word_byte c)
bare_one [] c = ap (λ b. is_ascii_lowercase c && b) (true_and (is_word_byte c))
  where
    true_and : (b : Bool) → (b && true) ≡ b
    true_and true = refl
    true_and false = refl
bare_one (d ∷ ds) c =
    ap (λ b. is_ascii_lowercase d && b) (list_all-append is_word_byte (d ∷ ds) (c ∷ []) ∙ ap (λ b. list_all is_word_byte (d ∷ ds) && b) (true_and (is_word_byte c)))
    ∙ regroup (is_ascii_lowercase d) (list_all is_word_byte (d ∷ ds)) (is_word_byte c)
    ∙ ap (λ b. cond b (is_ascii_lowercase c) (needs_no_quotes (d ∷ ds)) && is_word_byte c) (sym (some (length ds)))
  where
    true_and : (b : Bool) → (b && true) ≡ b
    true_and true = refl
    true_and false = refl

    regroup : (a b c : Bool) → (a && (b && c)) ≡ ((a && b) && c)
    regroup true b c = refl
    regroup false b c = refl

    some : (n : ℕ) → (suc n == 0) ≡ false
    some n = grind (arith, nat_tests)

-- What is known while the characters of a name are counted and not kept.
pub record Counts (text rest : List ℕ) (place : Place) (seen : Seen) : Type 0 where
  pub front : List ℕ
  pub goes : quoted_at text Plain ≡ with_front front (quoted_at rest place)
  pub told : IsSeen front seen

pub counts_none : (text : List ℕ) (seen : Seen) → seen.count ≡ 0 → seen.bare ≡ false → Counts text text Plain seen
counts_none text seen e f = record { front = []; goes = no_front (quoted_at text Plain); told = record { count = e; bare = f } }

pub seen_one : (characters : List ℕ) (seen next : Seen) (c : ℕ) → next.count ≡ seen.count + 1 → next.bare ≡ (cond (seen.count == 0) (is_ascii_lowercase c) seen.bare && is_word_byte c)
    → IsSeen characters seen → IsSeen (characters ++ c ∷ []) next
seen_one characters seen next c e f g = record {
  count = omega (arith, e, g.count, length-append characters (c ∷ []));
  bare = f ∙ ap (λ n. cond (n == 0) (is_ascii_lowercase c) seen.bare && is_word_byte c) g.count ∙ ap (λ b. cond (length characters == 0) (is_ascii_lowercase c) b && is_word_byte c) g.bare
      ∙ sym (bare_one characters c);
}

pub counts_one : (text rest follows : List ℕ) (x : ℕ) (place : Place) (c : ℕ) (seen next : Seen) → rest ≡ x ∷ follows → quoted_step place x ≡ Character c
    → ((characters : List ℕ) → IsSeen characters seen → IsSeen (characters ++ c ∷ []) next) → Counts text rest place seen → Counts text follows Plain next
counts_one text rest follows x place c seen next e step one g = record {
  front = g.front ++ c ∷ [];
  goes = quoted_grows text g.front (g.front ++ c ∷ []) rest follows x place c e step refl g.goes;
  told = one g.front g.told;
}

pub counts_on : (text rest follows : List ℕ) (x : ℕ) (place next : Place) (seen : Seen) → rest ≡ x ∷ follows → quoted_step place x ≡ Within next → Counts text rest place seen → Counts text follows next seen
counts_on text rest follows x place next seen e step g = record { front = g.front; goes = quoted_goes text g.front rest follows x place next e step g.goes; told = g.told }

-- what may be read, up to its quote
abbrev pub quoted_past : List ℕ → Option (List ℕ)
quoted_past text = past (then_read (quoted_at text Plain) unless_bare)

-- the closing quote
pub counts_closed : (text rest follows : List ℕ) (x : ℕ) (place : Place) (seen : Seen) → rest ≡ x ∷ follows → quoted_step place x ≡ Close → Counts text rest place seen
    → quoted_past text ≡ cond (not seen.bare && not (nat_lt 255 seen.count)) (Some follows) None
counts_closed text rest follows x place seen e step g =
    ap (λ r. past (then_read r unless_bare)) (quoted_closes text g.front rest follows x place e step g.goes) ∙ unless_past g.front follows
    ∙ ap (λ b. cond b None (cond (nat_lt 255 (length g.front)) None (Some follows))) (sym g.told.bare) ∙ ap (λ n. cond seen.bare None (cond (nat_lt 255 n) None (Some follows))) (sym g.told.count)
    ∙ both seen.bare (nat_lt 255 seen.count)
  where
    both : (a b : Bool) → cond a None (cond b None (Some follows)) ≡ cond (not a && not b) (Some follows) None
    both true b = refl
    both false true = refl
    both false false = refl

-- a character too many
pub counts_full : (text rest follows : List ℕ) (x : ℕ) (place : Place) (c : ℕ) (seen : Seen) → rest ≡ x ∷ follows → quoted_step place x ≡ Character c → 255 ≤ seen.count → Counts text rest place seen
    → quoted_past text ≡ None
counts_full text rest follows x place c seen e step full g =
    ap (λ r. past (then_read r unless_bare)) (quoted_grows text g.front (g.front ++ c ∷ []) rest follows x place c e step refl g.goes)
    ∙ quote_long (g.front ++ c ∷ []) (quoted_at follows Plain) (omega (arith, full, g.told.count, length-append g.front (c ∷ [])))

pub counts_spoilt : (text rest follows : List ℕ) (x : ℕ) (place : Place) (seen : Seen) → rest ≡ x ∷ follows → quoted_step place x ≡ Bad → Counts text rest place seen → quoted_past text ≡ None
counts_spoilt text rest follows x place seen e step g = ap (λ r. past (then_read r unless_bare)) (quoted_spoilt text g.front rest follows x place e step g.goes)

pub counts_open : (text rest : List ℕ) (place : Place) (seen : Seen) → rest ≡ [] → Counts text rest place seen → quoted_past text ≡ None
counts_open text rest place seen e g = ap (λ r. past (then_read r unless_bare)) (quoted_open text g.front rest place e g.goes)

pub bare_past : (text : List ℕ) (cs rest : List ℕ) → bare_at text ≡ short cs rest → past (bare_at text) ≡ cond (nat_lt 255 (length cs)) None (Some rest)
bare_past text cs rest e = ap past e ∙ step (nat_lt 255 (length cs))
  where
    step : (b : Bool) → past (cond b None (Some (cs, rest))) ≡ cond b None (Some rest)
    step true = refl
    step false = refl

-- ---- pids and references

pub pid_past : (text : List ℕ) → begins 60 text ≡ true → past (pid_at text) ≡ then_past (past (atom_at (drop 1 text))) (λ rest. past (numbers_at rest))
unfolding pid_at
pid_past text e =
    ap (λ b. past {A = Process} (cond b (then_read (atom_at (drop 1 text)) (λ node r1. then_read (numbers_at r1) (λ n rest. Some (record { node = node; serial = n.1; id = n.0; creation = n.2 }, rest)))) None)) e
    ∙ past_then (atom_at (drop 1 text)) _ (λ rest. past (numbers_at rest)) (λ node rest. past_made {B = Process} (λ n. record { node = node; serial = n.1; id = n.0; creation = n.2 }) (numbers_at rest))

pub no_pid : (text : List ℕ) → begins 60 text ≡ false → past (pid_at text) ≡ None
unfolding pid_at
no_pid text e = ap (λ b. past {A = Process} (cond b (then_read (atom_at (drop 1 text)) (λ node r1. then_read (numbers_at r1) (λ n rest. Some (record { node = node; serial = n.1; id = n.0; creation = n.2 }, rest)))) None)) e

-- What is known of words that were passed by, while so many may still come.
abbrev pub WordsPast : ℕ → List ℕ → List ℕ → Type 0
WordsPast left text rest = past (words_at 3 text) ≡ past (words_at left rest)

pub words_past_on : (left less : ℕ) (text rest follows : List ℕ) (word : ℕ) → left ≡ suc less → begins 46 rest ≡ true → number_at (drop 1 rest) ≡ Some (word, follows)
    → WordsPast left text rest → WordsPast less text follows
words_past_on left less text rest follows word e dot r g =
    g ∙ ap (λ n. past (words_at n rest)) e ∙ ap past (words_turn less rest follows word dot r) ∙ past_front (word ∷ []) (words_at less follows)

pub words_past_stay : (left less : ℕ) (text rest : List ℕ) → begins 46 rest ≡ false → WordsPast left text rest → WordsPast less text rest
words_past_stay left less text rest dot g = g ∙ ap past (words_end left rest dot ∙ sym (words_end less rest dot))

pub words_past_bad : (left less : ℕ) (text rest : List ℕ) → left ≡ suc less → begins 46 rest ≡ true → number_at (drop 1 rest) ≡ None → WordsPast left text rest → past (words_at 3 text) ≡ None
words_past_bad left less text rest e dot r g = g ∙ ap (λ n. past (words_at n rest)) e ∙ ap past (words_bad less rest dot r)

pub words_past_end : (text rest : List ℕ) (b : Bool) → begins 62 rest ≡ b → WordsPast 0 text rest → past (words_at 3 text) ≡ cond b (Some (drop 1 rest)) None
unfolding words_at
words_past_end text rest b e g = g ∙ step (begins 62 rest) ∙ ap (λ c. cond c (Some (drop 1 rest)) None) e
  where
    step : (c : Bool) → past {A = List ℕ} (cond c (Some ([], drop 1 rest)) None) ≡ cond c (Some (drop 1 rest)) None
    step true = refl
    step false = refl

-- at least one word
some_past : (node : List ℕ) (creation : ℕ) (text : List ℕ) → past (then_read (words_at 3 text) (λ words rest. some_words node creation words rest)) ≡ cond (begins 46 text) (past (words_at 3 text)) None
unfolding words_at
some_past node creation text = step (begins 46 text) refl
  where
    nothing : Option (List ℕ)
    nothing = None

    zero_words : (b : Bool) → past (then_read {A = List ℕ} (cond b (Some ([], drop 1 text)) None) (λ words rest. some_words node creation words rest)) ≡ nothing
    zero_words true = refl
    zero_words false = refl

    not_zero : (n : ℕ) → (suc n == 0) ≡ false
    not_zero n = grind (arith, nat_tests)

    more : (word : ℕ) (read : Read (List ℕ)) → past (then_read (with_front (word ∷ []) read) (λ words rest. some_words node creation words rest)) ≡ past (with_front (word ∷ []) read)
    more word None = refl
    more word (Some x) = ap (λ b. past {A = RefParts} (cond b None (Some (record { node = node; creation = creation; words = word ∷ x.0 }, x.1)))) (not_zero (length x.0))

    word_first : (read : Read ℕ) → past (then_read (then_read read (λ w rest. with_front (w ∷ []) (words_at 2 rest))) (λ words rest. some_words node creation words rest)) ≡ past (then_read read (λ w rest. with_front (w ∷ []) (words_at 2 rest)))
    word_first None = refl
    word_first (Some x) = more x.0 (words_at 2 x.1)

    step : (b : Bool) → begins 46 text ≡ b
        → past (then_read (cond (begins 46 text) (then_read (number_at (drop 1 text)) (λ w rest. with_front (w ∷ []) (words_at 2 rest))) (ended 62 [] text)) (λ words rest. some_words node creation words rest))
        ≡ cond (begins 46 text) (past (cond (begins 46 text) (then_read (number_at (drop 1 text)) (λ w rest. with_front (w ∷ []) (words_at 2 rest))) (ended 62 [] text))) None
    step true e =
        ap (λ b. past (then_read (cond b (then_read (number_at (drop 1 text)) (λ w rest. with_front (w ∷ []) (words_at 2 rest))) (ended 62 [] text)) (λ words rest. some_words node creation words rest))) e
        ∙ word_first (number_at (drop 1 text))
        ∙ ap (λ b. cond b (past (cond b (then_read (number_at (drop 1 text)) (λ w rest. with_front (w ∷ []) (words_at 2 rest))) (ended 62 [] text))) None) (sym e)
    step false e =
        ap (λ b. past (then_read (cond b (then_read (number_at (drop 1 text)) (λ w rest. with_front (w ∷ []) (words_at 2 rest))) (ended 62 [] text)) (λ words rest. some_words node creation words rest))) e
        ∙ zero_words (begins 62 text)
        ∙ ap (λ b. cond b (past (cond b (then_read (number_at (drop 1 text)) (λ w rest. with_front (w ∷ []) (words_at 2 rest))) (ended 62 [] text))) None) (sym e)

-- what follows the node of a reference
abbrev pub creation_past : List ℕ → Option (List ℕ)
creation_past text = then_past (past (part_at 47 text)) words_past

pub reference_past : (text : List ℕ) → begins 60 text ≡ true → past (reference_at text) ≡ then_past (past (atom_at (drop 1 text))) creation_past
unfolding reference_at
reference_past text e =
    ap (λ b. past (cond b (then_read (atom_at (drop 1 text)) (λ node r1. then_read (part_at 47 r1) (λ creation r2. then_read (words_at 3 r2) (λ words rest. some_words node creation words rest)))) None)) e
    ∙ past_then (atom_at (drop 1 text)) _ creation_past (λ node r1. past_then (part_at 47 r1) _ words_past (λ creation r2. some_past node creation r2))

pub no_reference : (text : List ℕ) → begins 60 text ≡ false → past (reference_at text) ≡ None
unfolding reference_at
no_reference text e =
    ap (λ b. past (cond b (then_read (atom_at (drop 1 text)) (λ node r1. then_read (part_at 47 r1) (λ creation r2. then_read (words_at 3 r2) (λ words rest. some_words node creation words rest)))) None)) e

pub words_begun : (text : List ℕ) → begins 46 text ≡ true → words_past text ≡ past (words_at 3 text)
words_begun text e = ap (λ b. cond b (past (words_at 3 text)) None) e

-- behind its node, and behind its creation
pub reference_created : (text node creation : List ℕ) → begins 60 text ≡ true → node ≡ drop 1 text → past (atom_at node) ≡ Some creation → past (reference_at text) ≡ creation_past creation
reference_created text node creation e f g = reference_past text e ∙ ap (λ t. then_past (past (atom_at t)) creation_past) (sym f) ∙ ap (λ r. then_past r creation_past) g

pub reference_nowhere : (text node : List ℕ) → begins 60 text ≡ true → node ≡ drop 1 text → past (atom_at node) ≡ None → past (reference_at text) ≡ None
reference_nowhere text node e f g = reference_past text e ∙ ap (λ t. then_past (past (atom_at t)) creation_past) (sym f) ∙ ap (λ r. then_past r creation_past) g

-- ---- elements

-- What is known while elements are passed by.
pub record Passed {A : Type 0} (element : List ℕ → Read A) (last : ℕ) (text rest : List ℕ) : Type 0 where
  pub front : List A
  pub goes : Goes element last text front rest

module _ {A : Type 0} (element : List ℕ → Read A) (last : ℕ) (text : List ℕ) where
  pub passed_begin : begins last text ≡ false → Passed element last text text
  passed_begin e = record { front = []; goes = goes_begin element last text e }

  pub passed_on : (rest follows : List ℕ) → past (element rest) ≡ Some follows → length follows < length rest → begins 44 follows ≡ true → Passed element last text rest → Passed element last text (drop 1 follows)
  passed_on rest follows e shorter comma g =
      let h = past_some (element rest) follows e in
      record { front = g.front ++ h.0 ∷ []; goes = goes_on element last text g.front rest follows h.0 h.1 shorter comma g.goes }

  pub passed_end : (rest follows : List ℕ) → past (element rest) ≡ Some follows → length follows < length rest → begins 44 follows ≡ false → begins last follows ≡ true → Passed element last text rest
      → past (elements_at element last text) ≡ Some (drop 1 follows)
  passed_end rest follows e shorter comma end g =
      let h = past_some (element rest) follows e in
      ap past (goes_end element last text g.front rest follows h.0 h.1 shorter comma end g.goes)

  pub passed_nowhere : (rest follows : List ℕ) → past (element rest) ≡ Some follows → length follows < length rest → begins 44 follows ≡ false → begins last follows ≡ false → Passed element last text rest
      → past (elements_at element last text) ≡ None
  passed_nowhere rest follows e shorter comma end g =
      let h = past_some (element rest) follows e in
      ap past (goes_nowhere element last text g.front rest follows h.0 h.1 shorter comma end g.goes)

  pub passed_bad : (rest : List ℕ) → past (element rest) ≡ None → Passed element last text rest → past (elements_at element last text) ≡ None
  passed_bad rest e g = ap past (goes_bad element last text g.front rest (past_none (element rest) e) g.goes)

  pub none_passed : begins last text ≡ true → past (elements_at element last text) ≡ Some (drop 1 text)
  none_passed e = ap (λ b. past (cond b (Some ([], drop 1 text)) (elements_from element last (length text) text))) e

pub bytes_past : (text : List ℕ) → past (bytes_at text) ≡ then_past (past (elements_at (numeral_at 255) 62 text)) (behind_past 62)
unfolding bytes_at
bytes_past text = past_then (elements_at (numeral_at 255) 62 text) _ (behind_past 62) (λ bytes rest. step bytes rest (begins 62 rest))
  where
    step : (bytes rest : List ℕ) (b : Bool) → past (cond b (Some (bytes, drop 1 rest)) None) ≡ cond b (Some (drop 1 rest)) None
    step bytes rest true = refl
    step bytes rest false = refl

-- ---- terms

pub angled_binary : (text : List ℕ) → begins 60 (drop 1 text) ≡ true → past (angled_at text) ≡ past (bytes_at (drop 1 (drop 1 text)))
angled_binary text e =
    ap (λ b. past (cond b (as_term Binary (bytes_at (drop 1 (drop 1 text)))) (as_term Pid (pid_at text)))) e ∙ past_made Binary (bytes_at (drop 1 (drop 1 text)))

pub angled_pid : (text : List ℕ) → begins 60 (drop 1 text) ≡ false → past (angled_at text) ≡ past (pid_at text)
angled_pid text e = ap (λ b. past (cond b (as_term Binary (bytes_at (drop 1 (drop 1 text)))) (as_term Pid (pid_at text)))) e ∙ past_made Pid (pid_at text)

module _ (text : List ℕ) where
  -- a term that holds no terms, by what it begins with
  abbrev leaf_by : Bool → Bool → Bool → Read Term
  leaf_by sharp angle number =
      cond sharp (as_term Ref (reference_at (drop 1 text))) (cond angle (angled_at text) (cond number (as_term Int (integer_at text)) (as_term Atom (atom_at text))))

  leaf_is : (sharp angle number : Bool) → begins 35 text ≡ sharp → begins 60 text ≡ angle → begins_number text ≡ number → leaf_at text ≡ leaf_by sharp angle number
  unfolding leaf_at
  leaf_is sharp angle number e f g = ap (λ a. leaf_by a (begins 60 text) (begins_number text)) e ∙ ap (λ b. leaf_by sharp b (begins_number text)) f ∙ ap (λ c. leaf_by sharp angle c) g

  pub leaf_reference : begins 35 text ≡ true → past (leaf_at text) ≡ past (reference_at (drop 1 text))
  leaf_reference e = ap past (leaf_is true (begins 60 text) (begins_number text) e refl refl) ∙ past_made Ref (reference_at (drop 1 text))

  pub leaf_angled : begins 35 text ≡ false → begins 60 text ≡ true → past (leaf_at text) ≡ past (angled_at text)
  leaf_angled e f = ap past (leaf_is false true (begins_number text) e f refl)

  pub leaf_number : begins 35 text ≡ false → begins 60 text ≡ false → begins_number text ≡ true → past (leaf_at text) ≡ past (integer_at text)
  leaf_number e f g = ap past (leaf_is false false true e f g) ∙ past_made Int (integer_at text)

  pub leaf_atom : begins 35 text ≡ false → begins 60 text ≡ false → begins_number text ≡ false → past (leaf_at text) ≡ past (atom_at text)
  leaf_atom e f g = ap past (leaf_is false false false e f g) ∙ past_made Atom (atom_at text)

module _ (last : ℕ) (text : List ℕ) where
  -- the elements of a tuple or a list, at one level less
  level_less : (room : ℕ) → past (elements_at (term_at room) last (drop 1 text)) ≡ past (elements_at (term_at (suc room - 1)) last (drop 1 text))
  level_less room = let n : room ≡ suc room - 1 = omega arith in ap (λ r. past (elements_at (term_at r) last (drop 1 text))) n

pub term_tuple : (room : ℕ) (text : List ℕ) → room ≢ 0 → begins 123 text ≡ true → past (term_at room text) ≡ past (elements_at (term_at (room - 1)) 125 (drop 1 text))
unfolding term_at
term_tuple zero text some e = absurd (some refl)
term_tuple (suc room) text some e =
    ap (λ b. past (cond b (as_term Tuple (elements_at (term_at room) 125 (drop 1 text))) (cond (begins 91 text) (as_term Listed (elements_at (term_at room) 93 (drop 1 text))) (leaf_at text)))) e
    ∙ past_made Tuple (elements_at (term_at room) 125 (drop 1 text)) ∙ level_less 125 text room

pub term_list : (room : ℕ) (text : List ℕ) → room ≢ 0 → begins 123 text ≡ false → begins 91 text ≡ true → past (term_at room text) ≡ past (elements_at (term_at (room - 1)) 93 (drop 1 text))
unfolding term_at
term_list zero text some e f = absurd (some refl)
term_list (suc room) text some e f =
    ap (λ b. past (cond b (as_term Tuple (elements_at (term_at room) 125 (drop 1 text))) (cond (begins 91 text) (as_term Listed (elements_at (term_at room) 93 (drop 1 text))) (leaf_at text)))) e
    ∙ ap (λ b. past (cond b (as_term Listed (elements_at (term_at room) 93 (drop 1 text))) (leaf_at text))) f
    ∙ past_made Listed (elements_at (term_at room) 93 (drop 1 text)) ∙ level_less 93 text room

pub term_other : (room : ℕ) (text : List ℕ) → room ≢ 0 → begins 123 text ≡ false → begins 91 text ≡ false → past (term_at room text) ≡ past (leaf_at text)
term_other room text some e f = ap past (sym (term_leaf room text some e f))

pub no_term : (text : List ℕ) → past (term_at 0 text) ≡ None
unfolding term_at
no_term text = refl

-- ---- whole texts

-- nothing follows, where something was read
abbrev pub is_past : Option (List ℕ) → Bool
is_past None = false
is_past (Some rest) = length rest == 0

pub whole_past : {A : Type 0} (read : Read A) → is_some (whole read) ≡ is_past (past read)
whole_past None = refl
whole_past (Some x) = step (length x.1 == 0)
  where
    step : (b : Bool) → is_some (cond b (Some x.0) None) ≡ b
    step true = refl
    step false = refl

-- a whole text, by where its value ends
pub whole_told : {A : Type 0} (read : Read A) (result : Option (Bor (List ℕ))) (b : Bool) → IfSome result (λ rest. past read ≡ Some (chars rest.now)) → (result ≡ None → past read ≡ None)
    → IfSome result (λ rest. b ≡ (length (chars rest.now) == 0)) → (result ≡ None → b ≡ false) → b ≡ is_some (whole read)
whole_told read None b told none over false_then = false_then refl ∙ sym (ap is_past (none refl)) ∙ sym (whole_past read)
whole_told read (Some rest) b told none over false_then = over ∙ sym (ap is_past told) ∙ sym (whole_past read)
