-- The marks that the gathered replies say.
use Rattle.std.proofs.Common.{◌≡◌, ℕ, ◌<◌, ◌≤◌, ◌==◌, List, Bool, true, false, cond, nat_eq, get_or, length, subst}
use Rattle.std.proofs.Common.{Option, Some, None, refl, ap, sym, ◌∙◌, arith, length-set, get_or-set_same, get_or-set_other}
use Rattle.std.specs.Prelude.{slice_set}
use Rattle.std.proofs.lemmas.Bool.{eqb-true, eq-eqb}
use Rattle.std.proofs.lemmas.Bool.Decides.{nat_tests}
use Rattle.std.proofs.lemmas.List.FromFn.{length-map-range_with_len, get_or-map-range_with_len, fill_by_all}
use Rattle.pg_step.specs.PgMulticall.declared.gather.Gather.{Gather}
use Rattle.pg_step.specs.PgMulticall.declared.places.Places.{Places}
use Rattle.pg_step.specs.PgMulticall.Gathered.{what_of}
use Rattle.pg_step.specs.PgMulticall.Places.{has_of}
use Rattle.pg_step.specs.PgMulticall.Replies.{replies_of, asked_of}
use Rattle.pg_node_opens.specs.declared.mark.Mark.{Mark}
use Rattle.pg_node_opens.specs.declared.mark.Mark.TheVariants as mark
use Rattle.pg_node_opens.specs.declared.marks.Marks.TheInside.{Inside}
use Rattle.pg_node_opens.specs.Marks.{mark_of, first_mark, heard_by, lock_heard}
use Rattle.pg_node_opens.specs.Kept.{mark_in, marks_in}

clash : true ≡ false → ⊥
clash e = cc

-- how many there are, and what each of them is
pub kept_len : (marks : Inside) → length (marks_in marks) ≡ marks.count
kept_len marks = length-map-range_with_len (mark_in marks) 0 marks.count

pub kept_at : (marks : Inside) (place : ℕ) → place < marks.count → get_or (marks_in marks) place mark.Unasked ≡ mark_in marks place
kept_at marks place within = get_or-map-range_with_len (mark_in marks) 0 marks.count place place mark.Unasked within (omega arith)

module _ (marks : Inside) (ms : List Mark) (place : ℕ) (is : marks_in marks ≡ ms) (within : place < length ms) where
  below : place < marks.count
  below = subst (λ n. place < n) (ap (λ (xs : List Mark). length xs) (sym is) ∙ kept_len marks) within

  pub place_within : marks.count ≤ 16 → (place < marks.count) × (place < 16)
  place_within few = (below, omega (arith, below, few))

  pub mark_is : mark_in marks place ≡ get_or ms place mark.Unasked
  mark_is = sym (kept_at marks place below) ∙ ap (λ (xs : List Mark). get_or xs place mark.Unasked) is

-- once the entry of one node was set
module _ (old new : Inside) (place : ℕ) (entry : Option (Option Bool)) (count : new.count ≡ old.count)
    (entries : (k : ℕ) → replies_of new.gather k ≡ cond (nat_eq place k) entry (replies_of old.gather k)) where
  one_set : (k : ℕ) → mark_in new k ≡ cond (nat_eq place k) (mark_of entry) (mark_in old k)
  one_set k = ap mark_of (entries k) ∙ go (nat_eq place k)
    where
      go : (b : Bool) → mark_of (cond b entry (replies_of old.gather k)) ≡ cond b (mark_of entry) (mark_in old k)
      go true = refl
      go false = refl

  pub kept_set : place < old.count → marks_in new ≡ slice_set (marks_in old) place (mark_of entry)
  kept_set within = sym (fill_by_all (mark_in new) (slice_set (marks_in old) place (mark_of entry)) new.count mark.Unasked
      (length-set (marks_in old) place (mark_of entry) ∙ (kept_len old ∙ sym count)) each)
    where
      each : (k : ℕ) → k < new.count → get_or (slice_set (marks_in old) place (mark_of entry)) k mark.Unasked ≡ mark_in new k
      each k l = go (nat_eq place k) refl ∙ sym (one_set k)
        where
          below : k < old.count
          below = omega (arith, count)

          go : (b : Bool) → nat_eq place k ≡ b → get_or (slice_set (marks_in old) place (mark_of entry)) k mark.Unasked ≡ cond b (mark_of entry) (mark_in old k)
          go true e = ap (λ j. get_or (slice_set (marks_in old) place (mark_of entry)) j mark.Unasked) (sym (eqb-true place k e)) ∙ get_or-set_same (marks_in old) place (mark_of entry) mark.Unasked (omega (arith, within, kept_len old))
          go false e = get_or-set_other (marks_in old) place k (mark_of entry) mark.Unasked (λ same. clash (sym (eq-eqb place k (sym same)) ∙ e)) ∙ kept_at old k below

  -- the same where the marks are seen as a list
  pub set_seen : (ms : List Mark) → marks_in old ≡ ms → place < length ms → marks_in new ≡ slice_set ms place (mark_of entry)
  set_seen ms is within = kept_set (subst (λ n. place < n) (ap (λ (xs : List Mark). length xs) (sym is) ∙ kept_len old) within) ∙ ap (λ (xs : List Mark). slice_set xs place (mark_of entry)) is

-- nobody was asked
pub nobody_asked : (asked : Places) (gather : Gather) → ((k : ℕ) → has_of asked k ≡ false) → ((k : ℕ) → replies_of gather k ≡ asked_of (has_of asked) k) → (k : ℕ) → replies_of gather k ≡ None
nobody_asked asked gather none each k = each k ∙ ap (λ (b : Bool). cond b (Some None) None) (none k)

pub kept_none : (marks : Inside) (asked : Places) → ((k : ℕ) → has_of asked k ≡ false) → ((k : ℕ) → replies_of marks.gather k ≡ asked_of (has_of asked) k)
    → (place : ℕ) → place < marks.count → get_or (marks_in marks) place mark.Unasked ≡ first_mark mark.Unasked place
kept_none marks asked none each place within = kept_at marks place within ∙ (ap mark_of (nobody_asked asked marks.gather none each place) ∙ go (place == 0))
  where
    go : (b : Bool) → mark.Unasked ≡ cond b mark.Unasked mark.Unasked
    go true = refl
    go false = refl

-- the own node alone was asked
pub kept_new : (marks : Inside) (entry : Option (Option Bool)) → ((k : ℕ) → replies_of marks.gather k ≡ cond (nat_eq 0 k) entry None)
    → (place : ℕ) → place < marks.count → get_or (marks_in marks) place mark.Unasked ≡ first_mark (mark_of entry) place
kept_new marks entry each place within = kept_at marks place within ∙ (ap mark_of (each place) ∙ (go (nat_eq 0 place) ∙ ap (λ b. cond b (mark_of entry) mark.Unasked) other_way))
  where
    go : (b : Bool) → mark_of (cond b entry None) ≡ cond b (mark_of entry) mark.Unasked
    go true = refl
    go false = refl

    other_way : nat_eq 0 place ≡ (place == 0)
    other_way = grind (arith, nat_tests)

-- what a reply is, by the mark
pub heard_so : (entry : Option (Option Bool)) (is_first : Bool) → heard_by (what_of true entry) is_first ≡ lock_heard (mark_of entry) is_first
heard_so None is_first = refl
heard_so (Some None) is_first = refl
heard_so (Some (Some true)) true = refl
heard_so (Some (Some true)) false = refl
heard_so (Some (Some false)) true = refl
heard_so (Some (Some false)) false = refl
