-- Texts that are counted, and sections, one after another.
use Rattle.std.proofs.Common.{◌≡◌, ◌≢◌, ℕ, ◌+◌, ◌<◌, Bool, true, false, List, [], ◌∷◌, ◌++◌, length, get_or}
use Rattle.std.proofs.Common.{map, take, cond, refl, sym, ap, ◌∙◌, subst, arith, append_assoc, ◌⊎◌, inl, inr}
use Rattle.std.specs.List.{count_by, flat_map, range_with_len}
use Rattle.std.specs.Str.{bytes_eq}
use Rattle.std.proofs.lemmas.List.{append-nil, map-id, map_push, take_more}
use Rattle.std.proofs.lemmas.List.FromFn.{map-range_with_len_more}
use Rattle.std.proofs.lemmas.Grind.{flat_map-append, fold-append}
use Rattle.std.proofs.lemmas.Slice.Eq.{bytes_eq-Decides}
use Rattle.pg_explore_tally.specs.declared.counts.Counted.{Counted}
use Rattle.pg_explore_tally.specs.declared.report.Section.{Section}
use Rattle.pg_explore_tally.specs.Counts.{AreOnce, IsOneMore, times}
use Rattle.pg_explore.specs.declared.explored.Met.{Met}
use Rattle.pg_term.specs.declared.term.Term.{Term}
use Rattle.pg_explore_survey.specs.declared.scenario.Scenario.{Scenario}
use Rattle.pg_explore_survey.specs.Texts.{AddSections, AddTexts, AreCounted, AreSections, Counting}
use Rattle.pg_explore_survey.specs.Texts.{IsSection, answer_countings, countings_of, history_counting}

by_value : (b : Bool) → (b ≡ true) ⊎ (b ≡ false)
by_value true = inl refl
by_value false = inr refl

count_push : {X : Type 0} (p : X → Bool) (xs : List X) (x : X) → count_by p (xs ++ x ∷ []) ≡ count_by p xs + cond (p x) 1 0
count_push {X = X} p xs x = fold-append (λ (n : ℕ) (y : X). n + cond (p y) 1 0) 0 xs (x ∷ [])

push_yes : {X : Type 0} (p : X → Bool) (xs : List X) (x : X) → p x ≡ true → count_by p (xs ++ x ∷ []) ≡ count_by p xs + 1
push_yes p xs x e = count_push p xs x ∙ ap (λ (b : Bool). count_by p xs + cond b 1 0) e

push_no : {X : Type 0} (p : X → Bool) (xs : List X) (x : X) → p x ≡ false → count_by p (xs ++ x ∷ []) ≡ count_by p xs
push_no p xs x e = count_push p xs x ∙ ap (λ (b : Bool). count_by p xs + cond b 1 0) e ∙ zero_behind (count_by p xs)
  where
    zero_behind : (n : ℕ) → n + 0 ≡ n
    zero_behind n = omega arith

-- one more text
pub counted_more : (text : List ℕ) (old new : List Counted) → IsOneMore text old new → AddTexts (text ∷ []) old new
counted_more text old new h texts k = record {
  times = λ other. elim (by_value (bytes_eq text other)) as (λ _. times new other ≡ count_by (λ (t : List ℕ). bytes_eq t other) (texts ++ text ∷ [])) [
    | inl t ↦
        let e : text ≡ other = (bytes_eq-Decides text other).0 t in
        subst (λ (o : List ℕ). times new o ≡ times old o + 1) e h.this ∙ ap (λ (n : ℕ). n + 1) (k.times other) ∙ sym (push_yes (λ (s : List ℕ). bytes_eq s other) texts text t)
    | inr f ↦
        let not : other ≢ text = λ e. clash (sym ((bytes_eq-Decides text other).1 (sym e)) ∙ f) in
        h.others other not ∙ k.times other ∙ sym (push_no (λ (s : List ℕ). bytes_eq s other) texts text f)
  ];
  once = h.once k.once;
}
  where
    clash : true ≡ false → ⊥
    clash e = absurd (cc)

pub no_texts : (rows : List Counted) → AddTexts [] rows rows
no_texts rows texts k = subst (λ (ts : List (List ℕ)). AreCounted ts rows) (sym (append-nil texts)) k

pub none_counted : AreCounted [] []
none_counted = record { times = λ text. refl; once = λ i j one other at. absurd (cc) }

-- those of one more end
pub texts_more : {X : Type 0} (f : X → List (List ℕ)) (xs : List X) (i : ℕ) (d : X) (old new : List Counted) → i < length xs
    → AreCounted (flat_map f (take i xs)) old → AddTexts (f (get_or xs i d)) old new → AreCounted (flat_map f (take (i + 1) xs)) new
texts_more f xs i d old new l h k =
    let is = ap (flat_map f) (take_more xs i d l) ∙ flat_map-append f (take i xs) (get_or xs i d ∷ []) ∙ ap (λ (ys : List (List ℕ)). flat_map f (take i xs) ++ ys) (append-nil (f (get_or xs i d))) in
    subst (λ (ts : List (List ℕ)). AreCounted ts new) (sym is) (k (flat_map f (take i xs)) h)

-- ---- sections

pub sections_push : (counting : Counting) (section : Section) (old : List Section) → IsSection counting section → AddSections (counting ∷ []) old (old ++ section ∷ [])
sections_push counting section [] h [] k = (h, tt)
sections_push counting section [] h (c ∷ cs) k = absurd k
sections_push counting section (s ∷ old) h [] k = absurd k
sections_push counting section (s ∷ old) h (c ∷ cs) k = (k.0, sections_push counting section old h cs k.1)

pub no_sections : (old : List Section) → AddSections [] old old
no_sections old countings k = subst (λ (cs : List Counting). AreSections cs old) (sym (append-nil countings)) k

pub sections_then : (a b : List Counting) (old mid new : List Section) → AddSections a old mid → AddSections b mid new → AddSections (a ++ b) old new
sections_then a b old mid new h k countings w = subst (λ (cs : List Counting). AreSections cs new) (append_assoc countings a b) (k (countings ++ a) (h countings w))

pub sections_more : (a : List Counting) (counting : Counting) (section : Section) (old mid new : List Section) → AddSections a old mid → IsSection counting section → new ≡ mid ++ section ∷ []
    → AddSections (a ++ counting ∷ []) old new
sections_more a counting section old mid new h s e = subst (λ (ss : List Section). AddSections (a ++ counting ∷ []) old ss) (sym e) (sections_then a (counting ∷ []) old mid (mid ++ section ∷ []) h (sections_push counting section mid s))

-- of one more of a list
pub sections_mapped : {X : Type 0} (f : X → Counting) (xs : List X) (i : ℕ) (x : X) (section : Section) (old mid new : List Section) → i < length xs → x ≡ get_or xs i x
    → AddSections (map f (take i xs)) old mid → IsSection (f x) section → new ≡ mid ++ section ∷ [] → AddSections (map f (take (i + 1) xs)) old new
sections_mapped f xs i x section old mid new l is h s e =
    let more = ap (map f) (take_more xs i x l) ∙ map_push f (take i xs) (get_or xs i x) ∙ ap (λ y. map f (take i xs) ++ f y ∷ []) (sym is) in
    subst (λ (cs : List Counting). AddSections cs old new) (sym more) (sections_more (map f (take i xs)) (f x) section old mid new h s e)

-- of one more number
pub sections_ranged : (f : ℕ → Counting) (n : ℕ) (section : Section) (old mid new : List Section) → AddSections (map f (range_with_len 0 n)) old mid → IsSection (f n) section → new ≡ mid ++ section ∷ []
    → AddSections (map f (range_with_len 0 (n + 1))) old new
sections_ranged f n section old mid new h s e =
    subst (λ (cs : List Counting). AddSections cs old new) (sym (map-range_with_len_more f 0 n n (omega arith))) (sections_more (map f (range_with_len 0 n)) (f n) section old mid new h s e)

range_more : (n : ℕ) → range_with_len 0 (n + 1) ≡ range_with_len 0 n ++ n ∷ []
range_more n = sym (map-id (range_with_len 0 (n + 1))) ∙ map-range_with_len_more (λ (k : ℕ). k) 0 n n (omega arith) ∙ ap (λ (ks : List ℕ). ks ++ n ∷ []) (map-id (range_with_len 0 n))

pub sections_rows : (f : ℕ → List Counting) (n : ℕ) (old mid new : List Section) → AddSections (flat_map f (range_with_len 0 n)) old mid → AddSections (f n) mid new → AddSections (flat_map f (range_with_len 0 (n + 1))) old new
sections_rows f n old mid new h k =
    let more = ap (flat_map f) (range_more n) ∙ flat_map-append f (range_with_len 0 n) (n ∷ []) ∙ ap (λ (cs : List Counting). flat_map f (range_with_len 0 n) ++ cs) (append-nil (f n)) in
    subst (λ (cs : List Counting). AddSections cs old new) (sym more) (sections_then (flat_map f (range_with_len 0 n)) (f n) old mid new h k)

-- the sections of histories, and then those of answers
pub all_sections : (scenario : Scenario) (mets : List Met) (ends : List ℕ) (groups : List Term) (all_mets : List Met) (all_ends : List ℕ) (all_groups : List Term) (none mid new : List Section)
    → mets ≡ all_mets → ends ≡ all_ends → groups ≡ all_groups → none ≡ [] → AddSections (map (history_counting scenario mets ends) groups) none mid
    → AddSections (flat_map (answer_countings scenario mets ends) (range_with_len 0 (length scenario.commands.items))) mid new → AreSections (countings_of scenario all_mets all_ends all_groups) new
all_sections scenario mets ends groups all_mets all_ends all_groups none mid new m e g begins histories answers =
    let first : AreSections (map (history_counting scenario mets ends) groups) mid = histories [] (subst (λ (xs : List Section). AreSections [] xs) (sym begins) tt) in
    let both : AreSections (countings_of scenario mets ends groups) new = answers (map (history_counting scenario mets ends) groups) first in
    let same : countings_of scenario mets ends groups ≡ countings_of scenario all_mets all_ends all_groups =
    ap (λ (x : List Met). countings_of scenario x ends groups) m ∙ ap (λ (x : List ℕ). countings_of scenario all_mets x groups) e ∙ ap (λ (x : List Term). countings_of scenario all_mets all_ends x) g in
    subst (λ (countings : List Counting). AreSections countings new) same both
