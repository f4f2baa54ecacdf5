-- How an exploration ends.
use Rattle.std.proofs.Common.{◌≡◌, ◌≢◌, ◌<◌, ◌≤◌, ℕ, Bool, true, false, List, [], length, max, nat_lt, Option, Some}
use Rattle.std.proofs.Common.{None, Result, Ok, Err, refl, sym, ap, ◌∙◌, subst, ◌⊎◌, inl, inr, ◌↔◌, arith}
use Rattle.std.specs.Prelude.{IsTrue, if◌then◌else◌}
use Rattle.std.specs.Str.{is_utf8}
use Rattle.std.proofs.lemmas.Bool.Decides.{nat_tests}
use Rattle.pg_cluster.specs.PgWorldConfig.declared.fault.WorldFault.{WorldFault}
use Rattle.pg_explore.specs.declared.fault.ExploreFault.{ExploreFault}
use Rattle.pg_explore.specs.declared.fault.ExploreFault.TheVariants as explore
use Rattle.pg_explore.specs.Explorations.{AreUnlike, AreFollowed, AreReached}
use Rattle.pg_explore.specs.Faults.{CantExplore}
use Rattle.pg_explore.specs.Ways.{AreWays}
use Rattle.pg_script.specs.Faults.{line_number_of}
use Rattle.pg_script.specs.Scripts.{Contents}
use Rattle.pg_script.specs.declared.fault.LineFault.{LineFault}
use Rattle.pg_script.specs.declared.fault.LineFault.TheVariants as lines
use Rattle.pg_script.specs.declared.fault.ScriptFault.{ScriptFault}
use Rattle.pg_cluster.specs.PgWorldPackets.Openings.{CantBegin}
use Rattle.pg_explore_survey.specs.declared.findings.Findings.{Findings}
use Rattle.pg_explore_survey.specs.declared.scenario.Scenario.{Scenario}
use Rattle.pg_explore_survey.specs.Findings.{IsCounted, led_in, met_in}
use Rattle.pg_explore_survey.specs.Scenarios.{IsScenario, IsScenarioOf, scenario_of}
use Rattle.pg_program.specs.declared.fault.Fault.{Fault}
use Rattle.pg_program.specs.declared.fault.Fault.TheVariants.{Run, Given, Line}
use Rattle.pg_program.specs.declared.words.Quest.{Quest}
use Rattle.pg_program.specs.Explorations.{AreFound, ExploreEnd, IsAnswer, NotPictured, PlannedEnd}
use Rattle.pg_program.specs.Explorations.{Shown, WasExplored, WhyNot, bytes_planned, input_planned}
use Rattle.pg_program.specs.Inputs.{NoInput, Said, told_fault}
use Rattle.pg_program.specs.Limits.{max_script_len}
use Rattle.pg_program.specs.Scripts.{script_fault_of}
use Rattle.pg_program.specs.Talks.{Printed}

-- ---- what is printed

pub shown_by : (quest : Quest) (found : Findings) (unchanged unwritten flushed : Type 0) (before after : Option (List ℕ)) (text : List ℕ) (good : Bool) (result : Result Bool Fault)
    → IsAnswer quest.show quest.is_differing found (Some text) → (IsTrue good ↔ (length (met_in found) ≤ found.explored.lent)) → Printed unchanged unwritten flushed before after text good result
    → Shown quest found unchanged unwritten flushed before after result
shown_by quest found unchanged unwritten flushed before after text good (Ok told) answer whole printed =
    record { text = text; answer = answer; appends = printed.1; end = printed.2; all = subst (λ (b : Bool). IsTrue b ↔ (length (met_in found) ≤ found.explored.lent)) (sym printed.0) whole }
shown_by quest found unchanged unwritten flushed before after text good (Err (Run number)) answer whole (inl none) = inl none.0
shown_by quest found unchanged unwritten flushed before after text good (Err (Run number)) answer whole (inr some) = inr (some.0, some.2)
shown_by quest found unchanged unwritten flushed before after text good (Err (Given number)) answer whole printed = absurd printed
shown_by quest found unchanged unwritten flushed before after text good (Err (Line line number)) answer whole printed = absurd printed

-- a write failed here or there
pub shown_weaker : (quest : Quest) (found : Findings) (unchanged here there flushed : Type 0) (before after : Option (List ℕ)) (result : Result Bool Fault)
    → Shown quest found unchanged here flushed before after result → Shown quest found unchanged (here ⊎ there) flushed before after result
shown_weaker quest found unchanged here there flushed before after (Ok whole) h = h
shown_weaker quest found unchanged here there flushed before after (Err (Run number)) (inl e) = inl e
shown_weaker quest found unchanged here there flushed before after (Err (Run number)) (inr e) = inr (e.0, inl e.1)
shown_weaker quest found unchanged here there flushed before after (Err (Given number)) h = h
shown_weaker quest found unchanged here there flushed before after (Err (Line line number)) h = h

pub not_drawn : (quest : Quest) (found : Findings) (unchanged here there flushed : Type 0) (before after : Option (List ℕ)) (fault : Fault) → unchanged → NotPictured there (length (met_in found)) fault
    → Shown quest found unchanged (here ⊎ there) flushed before after (Err fault)
not_drawn quest found unchanged here there flushed before after (Run number) u (inl e) = inl e
not_drawn quest found unchanged here there flushed before after (Run number) u (inr e) = inr (e.0, inr e.1)
not_drawn quest found unchanged here there flushed before after (Given number) u e = (inr e, u)
not_drawn quest found unchanged here there flushed before after (Line line number) u e = absurd e

-- ---- what is explored

pub found_of : (contents : Contents) (scenario : Scenario) (quest : Quest) (found : Findings) → IsScenarioOf contents scenario → found.scenario.now ≡ scenario
    → AreReached scenario.config.starts.items scenario.plans.items quest.retries (met_in found) → AreUnlike (met_in found) → 0 < length (met_in found)
    → length (met_in found) ≤ max 1 quest.limit → AreFollowed scenario.plans.items quest.retries (met_in found) found.explored.lent
    → (found.explored.lent < length (met_in found) → quest.limit ≤ length (met_in found))
    → AreWays scenario.plans.items quest.retries (met_in found) found.explored.lent (led_in found) → IsCounted found
    → AreFound contents quest found
found_of contents scenario quest found is same reached apart first few followed cut ways counted = record {
  scenario = subst (λ (s : Scenario). IsScenarioOf contents s) (sym same) is;
  first = first;
  few = few;
  reached = subst (λ (s : Scenario). AreReached contents.starts s.plans.items quest.retries (met_in found)) (sym same) (subst (λ starts. AreReached starts scenario.plans.items quest.retries (met_in found)) is.starts reached);
  distinct = apart;
  followed = subst (λ (s : Scenario). AreFollowed s.plans.items quest.retries (met_in found) found.explored.lent) (sym same) followed;
  cut = cut;
  ways = subst (λ (s : Scenario). AreWays s.plans.items quest.retries (met_in found) found.explored.lent (led_in found)) (sym same) ways;
  counted = counted;
}

pub was_explored : (contents : Contents) (quest : Quest) (unchanged unwritten flushed : Type 0) (before after : Option (List ℕ)) (end : Result Bool Fault) (found : Findings) → AreFound contents quest found
    → Shown quest found unchanged unwritten flushed before after end → PlannedEnd (Ok contents) quest unchanged unwritten flushed before after end
was_explored contents quest unchanged unwritten flushed before after end found are shown = inr (inl (record { found = found; are = are; shown = shown }))

-- a configuration is refused
pub was_refused : (contents : Contents) (scenario : Scenario) (quest : Quest) (unchanged unwritten flushed : Type 0) (before after : Option (List ℕ)) (why : ExploreFault) (fault : Fault) → IsScenarioOf contents scenario
    → CantExplore scenario.config why → WhyNot why fault → unchanged → PlannedEnd (Ok contents) quest unchanged unwritten flushed before after (Err fault)
was_refused contents scenario quest unchanged unwritten flushed before after (explore.World world) (Run number) is cant why u = inl (ap (λ (n : ℕ). Err (Run n)) why)
was_refused contents scenario quest unchanged unwritten flushed before after (explore.World world) (Given number) is cant why u =
    inr (inr (record { fault = world; cause = subst (λ (r : ℕ). CantBegin r contents.starts world) is.ring (subst (λ s. CantBegin scenario.config.ring s world) is.starts cant); other = why.0; is = why.1 }, u))
was_refused contents scenario quest unchanged unwritten flushed before after (explore.World world) (Line line number) is cant why u = absurd why
was_refused contents scenario quest unchanged unwritten flushed before after explore.OutOfMemory (Run number) is cant why u = inl (ap (λ (n : ℕ). Err (Run n)) why)
was_refused contents scenario quest unchanged unwritten flushed before after explore.OutOfMemory (Given number) is cant why u = absurd why
was_refused contents scenario quest unchanged unwritten flushed before after explore.OutOfMemory (Line line number) is cant why u = absurd why

-- ---- what bytes say

text_planned : (bytes : List ℕ) → is_utf8 bytes ≡ true → bytes_planned bytes ≡ told_fault (scenario_of bytes)
text_planned bytes e = ap (λ (b : Bool). if b then told_fault (scenario_of bytes) else Err (Given 40)) e

pub no_text : (bytes : List ℕ) (quest : Quest) (unchanged unwritten flushed : Type 0) (before after : Option (List ℕ)) (fault : Fault) → (fault ≡ Given 40) × (is_utf8 bytes ≡ false) → unchanged
    → PlannedEnd (bytes_planned bytes) quest unchanged unwritten flushed before after (Err fault)
no_text bytes quest unchanged unwritten flushed before after fault e u =
    subst (λ (s : Said). PlannedEnd s quest unchanged unwritten flushed before after (Err fault)) (sym (ap (λ (b : Bool). if b then told_fault (scenario_of bytes) else Err (Given 40)) e.1)) (inr (ap Err e.0, u))

-- the contents of a scenario
contents_in : (said : Result Contents ScriptFault) (scenario : Scenario) → IsScenario said scenario → (contents : Contents) × (said ≡ Ok contents) × IsScenarioOf contents scenario
contents_in (Ok contents) scenario h = (contents, refl, h)
contents_in (Err fault) scenario h = absurd h

pub text_explored : (bytes text : List ℕ) (scenario : Scenario) (quest : Quest) (unchanged unwritten flushed : Type 0) (before after : Option (List ℕ)) (end : Result Bool Fault) → (text ≡ bytes) × (is_utf8 bytes ≡ true)
    → IsScenario (scenario_of text) scenario → ((contents : Contents) → IsScenarioOf contents scenario → PlannedEnd (Ok contents) quest unchanged unwritten flushed before after end)
    → PlannedEnd (bytes_planned bytes) quest unchanged unwritten flushed before after end
text_explored bytes text scenario quest unchanged unwritten flushed before after end is said explored =
    let found = contents_in (scenario_of text) scenario said in
    let e : bytes_planned bytes ≡ Ok found.0 = text_planned bytes is.1 ∙ ap (λ (t : List ℕ). told_fault (scenario_of t)) (sym is.0) ∙ ap told_fault found.1 in
    subst (λ (s : Said). PlannedEnd s quest unchanged unwritten flushed before after end) (sym e) (explored found.0 found.2)

-- how the fault of a line is told
told_line : (line : ℕ) (fault : LineFault) → (script_fault_of (record { line = line; fault = fault }) ≡ Run 10)
    ⊎ ((fault ≢ lines.OutOfMemory) × (script_fault_of (record { line = line; fault = fault }) ≡ Line line (line_number_of fault)))
told_line line lines.OutOfMemory = inl refl
told_line line lines.BadConfig = inr (λ e. absurd (cc), refl)
told_line line lines.BadLine = inr (λ e. absurd (cc), refl)
told_line line lines.UnknownNode = inr (λ e. absurd (cc), refl)
told_line line lines.LateDeclaration = inr (λ e. absurd (cc), refl)

pub text_refused : (bytes text : List ℕ) (fault : ScriptFault) (quest : Quest) (unchanged unwritten flushed : Type 0) (before after : Option (List ℕ)) → (text ≡ bytes) × (is_utf8 bytes ≡ true)
    → (fault.fault ≢ lines.OutOfMemory → scenario_of text ≡ Err fault) → unchanged → PlannedEnd (bytes_planned bytes) quest unchanged unwritten flushed before after (Err (script_fault_of fault))
text_refused bytes text fault quest unchanged unwritten flushed before after is said u = elim (told_line fault.line fault.fault) as (λ _. PlannedEnd (bytes_planned bytes) quest unchanged unwritten flushed before after (Err (script_fault_of fault))) [
  | inl e ↦ inl (ap Err e)
  | inr e ↦
      let s : bytes_planned bytes ≡ Err (Line fault.line (line_number_of fault.fault)) = text_planned bytes is.1 ∙ ap (λ (t : List ℕ). told_fault (scenario_of t)) (sym is.0) ∙ ap told_fault (said e.0) in
      subst (λ (x : Said). PlannedEnd x quest unchanged unwritten flushed before after (Err (script_fault_of fault))) (sym s) (inr (ap Err e.1, u))
]

-- ---- what an input says

few : (input : List ℕ) → length input ≤ max_script_len → nat_lt max_script_len (length input) ≡ false
few input l = grind (arith, nat_tests)

many : (input : List ℕ) → max_script_len < length input → nat_lt max_script_len (length input) ≡ true
many input l = grind (arith, nat_tests)

pub input_explored : (is_input : List ℕ → Type 0) (unread unchanged unwritten flushed : Type 0) (quest : Quest) (before after : Option (List ℕ)) (end : Result Bool Fault) (input : List ℕ) → is_input input
    → length input ≤ max_script_len → PlannedEnd (bytes_planned input) quest unchanged unwritten flushed before after end
    → ExploreEnd is_input unread quest unchanged unwritten flushed before after end
input_explored is_input unread unchanged unwritten flushed quest before after end input is l h =
    inr (bytes_planned input, (input, is, ap (λ (b : Bool). if b then Err (Given 11) else bytes_planned input) (few input l)), h)

pub no_input : (is_input : List ℕ → Type 0) (unread unchanged unwritten flushed : Type 0) (quest : Quest) (before after : Option (List ℕ)) (fault : Fault) → NoInput is_input unread fault → unchanged
    → ExploreEnd is_input unread quest unchanged unwritten flushed before after (Err fault)
no_input is_input unread unchanged unwritten flushed quest before after (Run number) h u = inl (h, u)
no_input is_input unread unchanged unwritten flushed quest before after (Given number) h u =
    inr (Err (Given 11), (h.1.0, h.1.1, ap (λ (b : Bool). if b then Err (Given 11) else bytes_planned h.1.0) (many h.1.0 h.1.2)), inr (ap (λ (n : ℕ). Err (Given n)) h.0, u))
no_input is_input unread unchanged unwritten flushed quest before after (Line line number) h u = absurd h
