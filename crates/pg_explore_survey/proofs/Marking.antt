-- Marks of worlds, one after another.
use Rattle.std.proofs.Common.{◌≡◌, ℕ, ◌+◌, Bool, false, List, [], ◌∷◌, ◌++◌, Some}
use Rattle.std.proofs.Common.{length, get_or, refl, sym, ap, ◌∙◌, subst, arith, inl, inr}
use Rattle.std.proofs.lemmas.Bool.{cases_lt}
use Rattle.std.proofs.lemmas.List.{get_or_append_left, get_or_at, length_push}
use Rattle.std.proofs.lemmas.Option.{get_or_from_slice_get, slice_get-get_or, slice_get_within}
use Rattle.pg_explore.specs.declared.explored.Met.{Met}
use Rattle.pg_explore_survey.specs.Differing.{Decides}
use Rattle.pg_explore_survey.specs.Findings.{AreMarks}

pub no_marks : (P : Met → Type 0) → AreMarks P [] []
no_marks P = record { len = refl; tell = λ place met at. absurd (cc) }

pub marks_more : (P : Met → Type 0) (mets : List Met) (met : Met) (marks : List Bool) (mark : Bool) → AreMarks P mets marks → Decides (P met) mark → AreMarks P (mets ++ met ∷ []) (marks ++ mark ∷ [])
marks_more P mets met marks mark h t = record {
  len = length_push marks mark ∙ ap (λ (n : ℕ). n + 1) h.len ∙ sym (length_push mets met);
  tell = λ place other at.
      let l = slice_get_within (mets ++ met ∷ []) place other at in
      let is = get_or_from_slice_get (mets ++ met ∷ []) place other other at in
      elim (cases_lt place (length mets)) as (λ _. Decides (P other) (get_or (marks ++ mark ∷ []) place false)) [
        | inl m ↦ subst (λ (b : Bool). Decides (P other) b) (sym (get_or_append_left marks (mark ∷ []) false place (omega (arith, h.len))))
            (h.tell place other (slice_get-get_or mets place other m ∙ ap Some (sym (get_or_append_left mets (met ∷ []) other place m) ∙ is)))
        | inr m ↦
            let e : length mets ≡ place = omega (arith, length_push mets met) in
            subst (λ (b : Bool). Decides (P other) b) (sym (get_or_at marks mark [] false place (h.len ∙ e)))
            (subst (λ (m2 : Met). Decides (P m2) mark) (sym (get_or_at mets met [] other place e) ∙ is) t)
      ];
}
