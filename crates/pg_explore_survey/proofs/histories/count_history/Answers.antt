use Rattle.std.proofs.Common.{◌≡◌, ◌∙◌, [], ◌∷◌, List, ℕ, ap, subst, sym, string_bytes}
use Rattle.std.specs.Option.{option_copied, option_map_or}
use Rattle.std.proofs.lemmas.Result.{on_ok_weaker}
use Rattle.pg_explore.specs.declared.explored.Met.{Met}
use Rattle.pg_explore_survey.specs.Texts.{AddTexts, history_text, text_at}
use Rattle.pg_explore_survey.proofs.Sections.{counted_more, no_texts}
use Rattle.pg_explore_survey.proofs.histories.count_history.Goals as goal

pub returns-in_ok-text-in-Some : goal.returns-in_ok-text-in-Some
returns-in_ok-text-in-Some c =
    let text : Met → List ℕ = history_text c.args.scenario.now c.args.group.now in
    let is : text_at text c.args.mets.now c.args.end ≡ text c.in-Some.met.now ∷ [] = ap (λ o. option_map_or (λ met. text met ∷ []) o []) (sym c.met_at.ensures ∙ ap option_copied c.in-Some.is) in
    on_ok_weaker c.add.result (λ h. subst (λ (more : List (List ℕ)). AddTexts more c.args.counts.now.rows.items c.add.new.self.rows.items) (ap (λ (t : List ℕ). t ∷ []) c.in_ok-text-in-Some.ensures ∙ sym is)
    (counted_more (string_bytes c.in_ok-text-in-Some.text) c.args.counts.now.rows.items c.add.new.self.rows.items h)) c.add.ensures

pub returns-in-None : goal.returns-in-None
returns-in-None c =
    let text : Met → List ℕ = history_text c.args.scenario.now c.args.group.now in
    let is : text_at text c.args.mets.now c.args.end ≡ [] = ap (λ o. option_map_or (λ met. text met ∷ []) o []) (sym c.met_at.ensures ∙ ap option_copied c.in-None.is) in
    subst (λ (more : List (List ℕ)). AddTexts more c.args.counts.now.rows.items c.args.counts.now.rows.items) (sym is) (no_texts c.args.counts.now.rows.items)
