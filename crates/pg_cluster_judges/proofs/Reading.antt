-- Which log comes first, and how far each has been read.
use Rattle.std.proofs.Common.{◌≡◌, ℕ, ◌+◌, ◌-◌, ◌<◌, ◌≤◌, Bool, true, false, not, map, drop, length}
use Rattle.std.proofs.Common.{get_or, set, slice_index, List, [], ◌∷◌, ◌++◌, Option, Some, None}
use Rattle.std.proofs.Common.{MatchOption, refl, ap, sym, ◌∙◌, subst, inl, inr, ◌⊎◌, arith, zero, suc}
use Rattle.std.specs.Option.{is_some}
use Rattle.std.proofs.Math.Path.{fun_ext}
use Rattle.std.proofs.lemmas.Bool.{cases_eq}
use Rattle.std.proofs.lemmas.List.{append_assoc, append-nil, get_or-map, get_or-set_same}
use Rattle.std.proofs.lemmas.List.{get_or-set_other, get_or_read, length-set, length-map, length-drop}
use Rattle.pg_world.specs.PgStep.Machines.Places.{set_at}
use Rattle.pg_world.proofs.PgStep.Machines.Places.{set_at_here, set_at_other}
use Rattle.pg_cluster_judges.specs.Merge.{ComesFirst, IsNext, rest_of, MergesRest, Merges, clocks_of, log_at, clocks_in}

-- the entry that comes first among the logs before log i, and its clock
abbrev pub FirstBefore : (ℕ → List ℕ) → ℕ → Option ℕ → ℕ → Type 0
FirstBefore rest i next least = MatchOption next ((j : ℕ) → j < i → rest j ≡ []) (λ k. (f : IsNext i rest k) × (f.clock ≡ least))

module _ (rest : ℕ → List ℕ) (i least : ℕ) where
  -- log i has none
  pub past_empty : (next : Option ℕ) → FirstBefore rest i next least → rest i ≡ [] → FirstBefore rest (i + 1) next least
  past_empty None h e = λ j low. go j low (cases_eq j i)
    where
      go : (j : ℕ) → j < i + 1 → (j ≡ i) ⊎ (j ≡ i → ⊥) → rest j ≡ []
      go j low (inl same) = ap rest same ∙ e
      go j low (inr apart) = h j (omega arith)
  past_empty (Some k) h e = let f : IsNext i rest k = h.0 in (
    record {
      there = omega (arith, f.there);
      clock = f.clock;
      later = f.later;
      next = f.next;
      first = λ j other others low is. go f j other others low is (cases_eq j i);
    },
    h.1,
  )
    where
      go : (f : IsNext i rest k) (j other : ℕ) (others : List ℕ) → j < i + 1 → rest j ≡ other ∷ others → (j ≡ i) ⊎ (j ≡ i → ⊥) → ComesFirst f.clock k other j
      go f j other others low is (inl same) = let no : other ∷ others ≡ [] = sym is ∙ (ap rest same ∙ e) in absurd (cc)
      go f j other others low is (inr apart) = f.first j other others (omega arith) is

  -- that of log i comes no earlier
  pub past_later : (k : ℕ) (clock : ℕ) (later : List ℕ) → FirstBefore rest i (Some k) least → rest i ≡ clock ∷ later → least ≤ clock → FirstBefore rest (i + 1) (Some k) least
  past_later k clock later h e low_clock = let f : IsNext i rest k = h.0 in (
    record {
      there = omega (arith, f.there);
      clock = f.clock;
      later = f.later;
      next = f.next;
      first = λ j other others low is. go f h.1 j other others low is (cases_eq j i);
    },
    h.1,
  )
    where
      go : (f : IsNext i rest k) → f.clock ≡ least → (j other : ℕ) (others : List ℕ) → j < i + 1 → rest j ≡ other ∷ others → (j ≡ i) ⊎ (j ≡ i → ⊥) → ComesFirst f.clock k other j
      go f is_least j other others low is (inl same) =
          let both : other ∷ others ≡ clock ∷ later = sym is ∙ (ap rest same ∙ e) in
          let there : k < i = f.there in
          let same_clock : other ≡ clock = cc in
          record { clocks = omega (arith, is_least); places = λ _. omega (arith, there, same) }
      go f is_least j other others low is (inr apart) = f.first j other others (omega arith) is

  -- it comes earlier, or is alone
  pub past_earlier : (next : Option ℕ) (clock : ℕ) (later : List ℕ) → FirstBefore rest i next least → rest i ≡ clock ∷ later → (next ≡ None) ⊎ (clock < least) → FirstBefore rest (i + 1) (Some i) clock
  past_earlier next clock later h e better = (
    record {
      there = omega arith;
      clock = clock;
      later = later;
      next = e;
      first = λ j other others low is. go j other others low is (cases_eq j i);
    },
    refl,
  )
    where
      before : (next : Option ℕ) → FirstBefore rest i next least → (next ≡ None) ⊎ (clock < least) → (j other : ℕ) (others : List ℕ) → j < i → rest j ≡ other ∷ others → ComesFirst clock i other j
      before None h b j other others low is = let no : other ∷ others ≡ [] = sym is ∙ h j low in absurd (cc)
      before (Some k) h (inl none) j other others low is = absurd (cc)
      before (Some k) h (inr less) j other others low is =
          let o : ComesFirst h.0.clock k other j = h.0.first j other others low is in
          record { clocks = omega (arith, o.clocks, h.1); places = λ same. absurd (omega (arith, o.clocks, h.1)) }

      go : (j other : ℕ) (others : List ℕ) → j < i + 1 → rest j ≡ other ∷ others → (j ≡ i) ⊎ (j ≡ i → ⊥) → ComesFirst clock i other j
      go j other others low is (inl same) =
          let both : other ∷ others ≡ clock ∷ later = sym is ∙ (ap rest same ∙ e) in
          let same_clock : other ≡ clock = cc in
          record { clocks = omega arith; places = λ _. omega (arith, same) }
      go j other others low is (inr apart) = before next h better j other others (omega arith) is

  -- the same, as the code asks it
  pub past_if : (next : Option ℕ) (none : Bool) (clock : ℕ) (later : List ℕ) → FirstBefore rest i next least → rest i ≡ clock ∷ later → is_some next ≡ not none
      → (none ≡ true) ⊎ ((none ≡ false) × (clock < least)) → FirstBefore rest (i + 1) (Some i) clock
  past_if next none clock later h e asked (inr less) = past_earlier next clock later h e (inr less.1)
  past_if next none clock later h e asked (inl is) = past_earlier next clock later h e (inl (empty next (asked ∙ ap not is)))
    where
      empty : (next : Option ℕ) → is_some next ≡ false → next ≡ None
      empty None d = refl
      empty (Some k) d = absurd (cc)

  pub past_else : (next : Option ℕ) (none : Bool) (clock : ℕ) (later : List ℕ) → FirstBefore rest i next least → rest i ≡ clock ∷ later → is_some next ≡ not none
      → none ≡ false → least ≤ clock → FirstBefore rest (i + 1) next least
  past_else None none clock later h e asked is low = let no : false ≡ true = asked ∙ ap not is in absurd (cc)
  past_else (Some k) none clock later h e asked is low = past_later k clock later h e low

pub log_there : {E V : Type 0} (items : V → List (ℕ × E)) (logs : List V) (v : V) (i : ℕ) → i < length logs → v ≡ get_or logs i v → log_at (map items logs) i ≡ items v
log_there items logs v i low is = get_or-map items logs i v [] low ∙ ap items (sym is)

-- So far each rest of the merge, after what was put, makes a whole merge.
pub record SoFar (size : ℕ) (clocks : ℕ → List ℕ) (read : List ℕ) (order : List (ℕ × ℕ)) : Type 0 where
  pub size_is : length read ≡ size
  pub whole : (more : List (ℕ × ℕ)) → MergesRest size clocks (λ j. slice_index read j) more → Merges size clocks (order ++ more)

pub nothing_read : (size : ℕ) (clocks : ℕ → List ℕ) (read : List ℕ) → length read ≡ size → ((j : ℕ) → slice_index read j ≡ 0) → SoFar size clocks read []
nothing_read size clocks read sizes zeros = record {
  size_is = sizes;
  whole = λ more merges. subst (λ f. MergesRest size clocks f more) (fun_ext zeros) merges;
}

read_on : (read : List ℕ) (i k : ℕ) → i < length read → (λ j. slice_index (set read i k) j) ≡ set_at (λ j. slice_index read j) i k
read_on read i k low = fun_ext (λ j. go j (cases_eq j i))
  where
    go : (j : ℕ) → (j ≡ i) ⊎ (j ≡ i → ⊥) → slice_index (set read i k) j ≡ set_at (λ j. slice_index read j) i k j
    go j (inl same) = ap (slice_index (set read i k)) same ∙ (get_or-set_same read i k 0 low ∙ sym (set_at_here (λ j. slice_index read j) i k j same))
    go j (inr apart) = get_or-set_other read i j k 0 apart ∙ sym (set_at_other (λ j. slice_index read j) i k j apart)

pub one_read : (size : ℕ) (clocks : ℕ → List ℕ) (read : List ℕ) (order : List (ℕ × ℕ)) (i place : ℕ) → SoFar size clocks read order
    → IsNext size (rest_of clocks (λ j. slice_index read j)) i → place ≡ slice_index read i → SoFar size clocks (set read i (place + 1)) (order ++ (i, place) ∷ [])
one_read size clocks read order i place far next is = record {
  size_is = length-set read i (place + 1) ∙ far.size_is;
  whole = λ more merges. subst (Merges size clocks) (sym (append_assoc order ((i, place) ∷ []) more))
      (far.whole ((i, place) ∷ more)
      (is, next, subst (λ f. MergesRest size clocks f more) (read_on read i (place + 1) (omega (arith, next.there, far.size_is))) merges));
}

pub all_read : (size : ℕ) (clocks : ℕ → List ℕ) (read : List ℕ) (order : List (ℕ × ℕ)) → SoFar size clocks read order
    → ((i : ℕ) → i < size → rest_of clocks (λ j. slice_index read j) i ≡ []) → Merges size clocks order
all_read size clocks read order far none = subst (Merges size clocks) (append-nil order) (far.whole [] none)

-- how many entries are still to be read
abbrev pub unread : {A : Type 0} → List (List A) → List ℕ → ℕ
unread [] read = 0
unread (log ∷ logs) [] = 0
unread (log ∷ logs) (n ∷ read) = length log - n + unread logs read

unread_less : {A : Type 0} (logs : List (List A)) (read : List ℕ) (i : ℕ) → length read ≡ length logs → i < length logs → get_or read i 0 < length (get_or logs i [])
    → unread logs (set read i (get_or read i 0 + 1)) < unread logs read
unread_less [] read i sizes low within = absurd (omega arith)
unread_less (log ∷ logs) [] i sizes low within = absurd (omega arith)
unread_less (log ∷ logs) (n ∷ read) zero sizes low within = omega arith
unread_less (log ∷ logs) (n ∷ read) (suc i) sizes low within =
    let s : length read ≡ length logs = omega arith in
    let l : i < length logs = omega arith in
    omega (arith, unread_less logs read i s l within)

-- where there is a next entry, its place is within the log
within_log : {E : Type 0} (n : ℕ) (log : List (ℕ × E)) (clock : ℕ) (later : List ℕ) → drop n (clocks_of log) ≡ clock ∷ later → n < length log
within_log n log clock later e =
    let long : length (drop n (clocks_of log)) ≡ length (clock ∷ later) = ap length e in
    omega (arith, long, length-drop n (clocks_of log), length-map log (λ x. x.0))

pub next_within : {E : Type 0} (logs : List (List (ℕ × E))) (read : List ℕ) (i : ℕ) → IsNext (length logs) (rest_of (clocks_in logs) (λ j. slice_index read j)) i
    → slice_index read i < length (log_at logs i)
next_within logs read i next = within_log (slice_index read i) (log_at logs i) next.clock next.later next.next

pub less_unread : {E : Type 0} (logs : List (List (ℕ × E))) (read : List ℕ) (i place : ℕ) → length read ≡ length logs
    → IsNext (length logs) (rest_of (clocks_in logs) (λ j. slice_index read j)) i → place ≡ slice_index read i
    → unread logs (set read i (place + 1)) < unread logs read
less_unread logs read i place sizes next is =
    subst (λ k. unread logs (set read i (k + 1)) < unread logs read) (sym is) (unread_less logs read i sizes next.there (next_within logs read i next))

-- one turn of the loop, as the code says it
module _ {E V : Type 0} (items : V → List (ℕ × E)) (logs : List V) (asked read : List ℕ) (i place after : ℕ)
    (given : IsNext (length logs) (rest_of (clocks_in (map items logs)) (λ j. slice_index asked j)) i) (same : asked ≡ read)
    (at : place ≡ get_or read i place) (is_after : after ≡ place + 1) (order : List (ℕ × ℕ)) (far : SoFar (length logs) (clocks_in (map items logs)) read order) where
  next_here : IsNext (length logs) (rest_of (clocks_in (map items logs)) (λ j. slice_index read j)) i
  next_here = subst (λ (r : List ℕ). IsNext (length logs) (rest_of (clocks_in (map items logs)) (λ j. slice_index r j)) i) same given

  place_is : place ≡ slice_index read i
  place_is = get_or_read read i place (omega (arith, far.size_is, given.there)) at 0

  pub turn_ends : unread (map items logs) (set read i after) < unread (map items logs) read
  turn_ends = subst (λ k. unread (map items logs) (set read i k) < unread (map items logs) read) (sym is_after)
      (less_unread (map items logs) read i place (far.size_is ∙ sym (length-map logs items))
      (subst (λ n. IsNext n (rest_of (clocks_in (map items logs)) (λ j. slice_index read j)) i) (sym (length-map logs items)) next_here) place_is)

  pub turn_keeps : SoFar (length logs) (clocks_in (map items logs)) (set read i after) (order ++ (i, place) ∷ [])
  turn_keeps = subst (λ k. SoFar (length logs) (clocks_in (map items logs)) (set read i k) (order ++ (i, place) ∷ [])) (sym is_after)
      (one_read (length logs) (clocks_in (map items logs)) read order i place far next_here place_is)

pub turns_done : {E V : Type 0} (items : V → List (ℕ × E)) (logs : List V) (asked read : List ℕ) (order : List (ℕ × ℕ)) → asked ≡ read
    → SoFar (length logs) (clocks_in (map items logs)) read order
    → ((i : ℕ) → i < length logs → rest_of (clocks_in (map items logs)) (λ j. slice_index asked j) i ≡ [])
    → Merges (length logs) (clocks_in (map items logs)) order
turns_done items logs asked read order same far none =
    all_read (length logs) (clocks_in (map items logs)) read order far
    (subst (λ (r : List ℕ). (i : ℕ) → i < length logs → rest_of (clocks_in (map items logs)) (λ j. slice_index r j) i ≡ []) same none)
