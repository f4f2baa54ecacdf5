-- Logs that are seen as something else.
use Rattle.std.proofs.Common.{◌≡◌, ℕ, map, take, drop, List, [], ◌∷◌, ◌++◌, refl, ap, sym, ◌∙◌}
use Rattle.std.proofs.lemmas.List.{drop-map, map-append}
use Rattle.pg_cluster_judges.specs.Merge.{clocks_of, entry_at, merged_logs, seen_log}

module _ {E F : Type 0} (view : E → F) where
  pub same_clocks : (log : List (ℕ × E)) → clocks_of (seen_log view log) ≡ clocks_of log
  same_clocks [] = refl
  same_clocks (x ∷ log) = ap (λ clocks. x.0 ∷ clocks) (same_clocks log)

  first_seen : (log : List (ℕ × E)) → map (λ (x : ℕ × F). x.1) (take 1 (seen_log view log)) ≡ map view (map (λ (x : ℕ × E). x.1) (take 1 log))
  first_seen [] = refl
  first_seen (x ∷ log) = refl

  entry_seen : (log : List (ℕ × E)) (place : ℕ) → entry_at (seen_log view log) place ≡ map view (entry_at log place)
  entry_seen log place =
      ap (λ (xs : List (ℕ × F)). map (λ (x : ℕ × F). x.1) (take 1 xs)) (drop-map (λ (x : ℕ × E). (x.0, view x.1)) place log) ∙ first_seen (drop place log)

  pub same_merge : (logs : ℕ → List (ℕ × E)) (order : List (ℕ × ℕ)) → merged_logs (λ i. seen_log view (logs i)) order ≡ map view (merged_logs logs order)
  same_merge logs [] = refl
  same_merge logs (x ∷ order) =
      ap (λ xs. xs ++ merged_logs (λ i. seen_log view (logs i)) order) (entry_seen (logs x.0) x.1)
      ∙ (ap (λ xs. map view (entry_at (logs x.0) x.1) ++ xs) (same_merge logs order) ∙ sym (map-append view (entry_at (logs x.0) x.1) (merged_logs logs order)))
