use Rattle.std.proofs.Common.{rules, ◌≡◌, Bool, true, false, List, [], ℕ, ◌↔◌, ◌∙◌, refl}
use Rattle.std.specs.Prelude.{Option, Some, None, IsTrue, not, is_some, option_map}
use Rattle.pg_script_lines.specs.declared.words.Stand.TheVariants.{Bare}
use Rattle.pg_script_lines.specs.Words.{words_of_rest}
use Rattle.pg_script_lines.proofs.Walks.{never_none}
use Rattle.pg_script_lines.proofs.words.Words.is_over.Goals as goal

over : (rest : Option (List ℕ)) (b : Bool) → is_some rest ≡ not b → IsTrue b ↔ (words_of_rest rest ≡ [])
over None true e = (λ h. refl, λ h. refl)
over None false e = absurd (cc)
over (Some t) true e = absurd (cc)
over (Some t) false e = (λ h. absurd (cc), λ h. absurd (never_none Bare t h))

mapped : {A B : Type 0} (f : A → B) (x : Option A) → is_some (option_map f x) ≡ is_some x
mapped f None = refl
mapped f (Some x) = refl

pub returns : goal.returns
returns c = over (option_map (λ s. s.now) c.args.self.now.rest) c.is_none.result (mapped (λ s. s.now) c.args.self.now.rest ∙ c.is_none.ensures)
