-- Steps that follow others.
use Rattle.std.proofs.Common.{◌≡◌, ◌∙◌, ◌<◌, ◌≤◌, ◌+◌, ℕ, zero, suc, Bool, List, [], ◌∷◌, ◌++◌, map, length, drop, take}
use Rattle.std.proofs.Common.{refl, sym, ap, subst, inl, inr, arith, get_or}
use Rattle.std.specs.Prelude.{OnOk, Result, Ok, Err, is_ok, if◌then◌else◌}
use Rattle.std.proofs.lemmas.List.{append-nil, append_assoc, drop_more, map-append}
use Rattle.pg_node_run.specs.declared.log.NodeEvent.{NodeEvent}
use Rattle.pg_world.specs.PgStep.Machines.Losing.{LosingEvent, nobody_gone}
use Rattle.pg_world.specs.PgStep.Machines.Machine.{start_of}
use Rattle.pg_world.specs.PgStep.Config.{Config}
use Rattle.pg_world.specs.PgStep.FrameMachine.{losing_frame_machine}
use Rattle.pg_world.specs.PgStep.LossLaws.{LosingFrameWorld}
use Rattle.pg_world.specs.PgStep.Step.{Action}
use Rattle.pg_world.specs.PgWorldPackets.declared.step.FrameStep.{FrameStep}
use Rattle.pg_world.specs.PgWorldPackets.FrameWorlds.{lost_of, view_of}
use Rattle.pg_world.specs.PgWorldPackets.Losing.{ShowsLosing}
use Rattle.pg_world.specs.PgWorldPackets.Past.{RanFrames}
use Rattle.pg_world.specs.PgWorldPackets.Runs.{GoesTo, RunsTo}
use Rattle.pg_world.proofs.PgWorldPackets.Leading.{Survive, past_of}
use Rattle.pg_world.proofs.PgWorldPackets.Running.{leads}
use Rattle.pg_cluster_judges.specs.declared.closed.replay.Replay.{Replay}
use Rattle.pg_cluster_judges.specs.Replay.{HasMade, HasMadeAll, MadeOn}
use Rattle.pg_cluster_judges.specs.Schedule.{SeenStep, losses_first, seen_step, steps_at, steps_behind}

-- ---- runs

runs_on : (config : Config) (steps others : List FrameStep) (numbers more : List ℕ) (w u v : LosingFrameWorld) (es fs : List (LosingEvent Action))
    → RunsTo config w steps numbers es u → RunsTo config u others more fs v → RunsTo config w (steps ++ others) (numbers ++ more) (es ++ fs) v
runs_on config [] others [] more w u v es fs (none, same) behind =
    subst (λ (x : LosingFrameWorld). RunsTo config x others more (es ++ fs) v) (sym same)
    (subst (λ (e : List (LosingEvent Action)). RunsTo config u others more (e ++ fs) v) (sym none) behind)
runs_on config [] others (n ∷ ns) more w u v es fs runs behind = absurd runs
runs_on config (s ∷ ss) others [] more w u v es fs runs behind = absurd runs
runs_on config (s ∷ ss) others (n ∷ ns) more w u v es fs (inl goes) behind = inl (record {
  listed = goes.listed;
  e = goes.e;
  is = goes.is;
  left = goes.left;
  happened = goes.happened;
  rest = record {
    later = goes.rest.later ++ fs;
    first = ap (λ (e : List (LosingEvent Action)). e ++ fs) goes.rest.first;
    rest = runs_on config ss others ns more goes.left u v goes.rest.later fs goes.rest.rest behind;
  };
})
runs_on config (s ∷ ss) others (n ∷ ns) more w u v es fs (inr passed) behind = inr (passed.0, runs_on config ss others ns more w u v es fs passed.1 behind)

-- ---- worlds that made steps

-- one that made steps has made those that follow, with their numbers behind
pub made_more : (before after : Replay) (steps : List FrameStep) (own : List ℕ) → Survive
    → ((config : Config) (u : LosingFrameWorld) → ShowsLosing config (view_of before.world) (lost_of before.world) u
    → GoesTo config u steps own (ShowsLosing config (view_of after.world) (lost_of after.world)))
    → after.numbers.items ≡ before.numbers.items ++ own
    → (given : Config) (made : List FrameStep) → HasMade given made before → HasMade given (made ++ steps) after
made_more before after steps own survive goes numbers given made has =
    let config = has.config in
    let start = nobody_gone (start_of (losing_frame_machine config)) in
    let on = goes config has.u has.past.shows in
    let runs = runs_on config made steps before.numbers.items own start has.u on.left has.events on.events has.runs on.runs in
    subst (λ ns. RanFrames given (made ++ steps) ns (λ c. ShowsLosing c (view_of after.world) (lost_of after.world))) (sym numbers)
    (record {
      config = config;
      events = has.events ++ on.events;
      u = on.left;
      runs = runs;
      past = past_of given (λ c u. ShowsLosing c (view_of after.world) (lost_of after.world) u) (λ c u shows. shows.shows.traffic.nodes.apart) survive config (has.events ++ on.events) on.left has.past.orders
          (leads config (made ++ steps) (before.numbers.items ++ own) start on.left (has.events ++ on.events) runs) on.shown;
    })

-- ---- entries, one after another

-- what an entry is goes behind what those before it are
behind_entry : (logs : List (List (ℕ × NodeEvent))) (lost : List Bool) (order : List (ℕ × ℕ)) (place : ℕ) (seen all : List SeenStep) → place < length order
    → seen ++ steps_behind logs lost (drop place order) ≡ all
    → (seen ++ steps_at logs lost (get_or order place (0, 0)) (drop (place + 1) order)) ++ steps_behind logs lost (drop (place + 1) order) ≡ all
behind_entry logs lost order place seen all low e =
    append_assoc seen (steps_at logs lost (get_or order place (0, 0)) (drop (place + 1) order)) (steps_behind logs lost (drop (place + 1) order))
    ∙ (ap (λ (xs : List (ℕ × ℕ)). seen ++ steps_behind logs lost xs) (sym (drop_more order place (0, 0) low)) ∙ e)

-- all of a list
pub take_whole : {A : Type 0} (n : ℕ) (xs : List A) → length xs ≤ n → take n xs ≡ xs
take_whole zero [] low = refl
take_whole zero (x ∷ xs) low = absurd (omega (arith, low))
take_whole (suc n) [] low = refl
take_whole (suc n) (x ∷ xs) low = ap (λ ys. x ∷ ys) (take_whole n xs (omega (arith, low)))

-- what was made behind steps so far, where these entries are left
abbrev pub MadeSoFar : List (List (ℕ × NodeEvent)) → List Bool → List SeenStep → List (ℕ × ℕ) → Config → List FrameStep → Replay → Type 0
MadeSoFar logs lost all left given made replay =
    (more : List FrameStep) × (map seen_step more ++ steps_behind logs lost left ≡ all) × HasMade given (made ++ more) replay

-- behind the last entry nothing is left
none_left : {A : Type 0} (n : ℕ) (xs : List A) → n ≡ length xs → drop n xs ≡ []
none_left zero [] e = refl
none_left zero (x ∷ xs) e = absurd (omega (arith, e))
none_left (suc n) [] e = absurd (omega (arith, e))
none_left (suc n) (x ∷ xs) e = none_left n xs (omega (arith, e))

-- at first nothing was made behind them, and at last all
pub none_more : (logs : List (List (ℕ × NodeEvent))) (lost : List Bool) (order : List (ℕ × ℕ)) (given : Config) (made : List FrameStep) (replay : Replay) → HasMade given made replay
    → MadeSoFar logs lost (steps_behind logs lost order) order given made replay
none_more logs lost order given made replay has = ([], refl, subst (λ steps. HasMade given steps replay) (sym (append-nil made)) has)

pub all_more : (logs : List (List (ℕ × NodeEvent))) (lost : List Bool) (all : List SeenStep) (order : List (ℕ × ℕ)) (place : ℕ) (given : Config) (made : List FrameStep) (replay : Replay) → place ≡ length order
    → MadeSoFar logs lost all (drop place order) given made replay → MadeOn given made all replay
all_more logs lost all order place given made replay last (more, e, has) = record {
  more = more;
  are = sym (append-nil (map seen_step more)) ∙ (ap (λ (xs : List (ℕ × ℕ)). map seen_step more ++ steps_behind logs lost xs) (sym (none_left place order last)) ∙ e);
  has = has;
}

pub one_entry_more : (logs : List (List (ℕ × NodeEvent))) (lost : List Bool) (all : List SeenStep) (order later : List (ℕ × ℕ)) (place : ℕ) (before after : Replay) → place < length order
    → ((given : Config) (made : List FrameStep) → HasMade given made before → MadeOn given made (steps_at logs lost (get_or order place (0, 0)) later) after)
    → later ≡ drop (place + 1) order
    → (given : Config) (made : List FrameStep) → MadeSoFar logs lost all (drop place order) given made before → MadeSoFar logs lost all (drop (place + 1) order) given made after
one_entry_more logs lost all order later place before after low goes rest given made (more, e, has) =
    let on = goes given (made ++ more) has in
    let seen : map seen_step (more ++ on.more) ≡ map seen_step more ++ steps_at logs lost (get_or order place (0, 0)) (drop (place + 1) order) =
    map-append seen_step more on.more ∙ ap (λ w. map seen_step more ++ w) (on.are ∙ ap (steps_at logs lost (get_or order place (0, 0))) rest) in (
      more ++ on.more,
      ap (λ w. w ++ steps_behind logs lost (drop (place + 1) order)) seen ∙ behind_entry logs lost order place (map seen_step more) all low e,
      subst (λ steps. HasMade given steps after) (append_assoc made more on.more) on.has,
    )

-- ---- what calls give

-- a world made these steps, and its numbers have room
pub made_if : {A E : Type 0} (r : Result A E) (before after : Replay) (steps : List FrameStep) (own slice : List ℕ) → Survive
    → ((config : Config) (u : LosingFrameWorld) → ShowsLosing config (view_of before.world) (lost_of before.world) u
    → GoesTo config u steps own (ShowsLosing config (view_of after.world) (lost_of after.world)))
    → slice ≡ own → after.numbers.items ≡ (if is_ok r then before.numbers.items ++ slice else before.numbers.items)
    → OnOk r ((given : Config) (made : List FrameStep) → HasMade given made before → HasMade given (made ++ steps) after)
made_if (Ok x) before after steps own slice survive goes same numbers = made_more before after steps own survive goes (numbers ∙ ap (λ w. before.numbers.items ++ w) same)
made_if (Err e) before after steps own slice survive goes same numbers = tt

-- the steps that were made are seen so
pub seen_if : {A E : Type 0} (r : Result A E) (before after : Replay) (steps : List FrameStep) (seen : List SeenStep) → map seen_step steps ≡ seen
    → OnOk r ((given : Config) (made : List FrameStep) → HasMade given made before → HasMade given (made ++ steps) after)
    → OnOk r ((given : Config) (made : List FrameStep) → HasMade given made before → MadeOn given made seen after)
seen_if (Ok x) before after steps seen are all = λ given made has. record { more = steps; are = are; has = all given made has }
seen_if (Err e) before after steps seen are all = tt

-- all steps were made
pub made_all : (given : Config) (logs : List (List (ℕ × NodeEvent))) (lost : List Bool) (order : List (ℕ × ℕ)) (count : ℕ) (first slice : List FrameStep) (replay : Replay)
    → count ≡ length logs → slice ≡ first → map seen_step first ≡ losses_first logs lost order count → MadeOn given slice (steps_behind logs lost order) replay → HasMadeAll given logs lost order replay
made_all given logs lost order count first slice replay all same are on = record {
  steps = slice ++ on.more;
  are = map-append seen_step slice on.more ∙ (λ j. (ap (map seen_step) same ∙ (are ∙ ap (losses_first logs lost order) all)) j ++ on.are j);
  has = on.has;
}
