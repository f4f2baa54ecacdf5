-- Takes, retries of ready commands and takes free every lock of the live nodes.
use Rattle.std.proofs.Common.{◌≡◌, ◌⊎◌, inl, inr, ℕ, zero, suc, ◌+◌, ◌*◌, ◌≤◌, true, false, length}
use Rattle.std.proofs.Common.{List, [], ◌∷◌, ◌++◌, refl, ap, ◌∙◌, arith}
use Rattle.std.specs.List.{IsDistinct}
use Rattle.std.proofs.Math.Nat.{add-mul, mul-le-mul_left}
use Rattle.pg_term.specs.Same.{same_atom}
use Rattle.pg_laws.specs.PgStep.Machines.Losing.{LosingEvent, Step, all_steps, nobody_gone}
use Rattle.pg_laws.specs.PgStep.Machines.Machine.{Do, Event, Take, start_of}
use Rattle.pg_laws.proofs.PgStep.Machines.Steps.{happened}
use Rattle.pg_laws.specs.PgStep.Config.{Config, names_of}
use Rattle.pg_laws.specs.PgStep.FrameMachine.{losing_frame_machine}
use Rattle.pg_laws.specs.PgStep.LossLaws.{LosingFrameWorld}
use Rattle.pg_laws.specs.PgStep.Step.{Action, CLOCK_LIMIT, Issue, Retry}
use Rattle.pg_laws.specs.PgStep.declared.command.OpId.{OpId}
use Rattle.pg_laws.specs.Quiet.{OnlyTakes, OnlyTakesAndRetries, peer_count}
use Rattle.pg_laws.proofs.places.Shown.{IsHere}
use Rattle.pg_laws.proofs.quiet.Answering.{takes_too}
use Rattle.pg_laws_losses.specs.Quiet.{IsQuietLive, live_open, most_takes_live}
use Rattle.pg_laws_losses.specs.Reached.{LosingReaches}
use Rattle.pg_laws_losses.proofs.Takes.{takes_end}
use Rattle.pg_laws_losses.proofs.Remains.Passing.{Leads, Leaves, leads_more}
use Rattle.pg_laws_losses.specs.Readiness.Ready.{AllHaveRoom, LossesSeen, NoneReadyLive, OnlyRetries, is_ready_at}
use Rattle.pg_laws_losses.proofs.Readiness.Resting.{Next, Rests, comes_to_rest, next_is_taken, next_or_quiet, on_time, room_left, went}
use Rattle.pg_laws_losses.proofs.Readiness.Retried.{no_lock, seen_later}
use Rattle.pg_laws_losses.proofs.Readiness.Rounds.{RetriedAll, retried_all}
use Rattle.pg_laws_losses.proofs.Readiness.Silence.{among_live}
use Rattle.pg_laws_losses.specs.Retrying.Retried.{FreesLocks, most_events_to_free}
use Rattle.pg_laws_losses.proofs.Retrying.Counted.{fewer_open}
use Rattle.pg_laws_losses.proofs.Retrying.Reaching.{leads_on, none_on, room_run}
use Rattle.pg_laws_losses.proofs.Retrying.Settling.{heavy, quiet_light, retry_less, takes_less}

pub retries_too : (ts : List (Event Action)) → OnlyRetries ts → OnlyTakesAndRetries ts
retries_too [] only = tt
retries_too (Take i p ∷ ts) only = absurd only
retries_too (Do i (Issue port c) ∷ ts) only = absurd only
retries_too (Do i (Retry op) ∷ ts) only = retries_too ts only

six : (p k : ℕ) → 6 * p * k ≡ 5 * p * k + p * k
six p k = let sum : 6 * p ≡ 5 * p + p = omega arith in ap (λ z. z * k) sum ∙ add-mul (5 * p) p k

module _ (config : Config) (apart : IsDistinct same_atom (names_of config)) where
  -- ---- takes, where each loss was seen

  record Settled (u : LosingFrameWorld) (room : ℕ) : Type 0 where
    takes : List (Event Action)
    world : LosingFrameWorld
    only : OnlyTakes takes
    leads : Leads config u (all_steps takes) world
    quiet : IsQuietLive config world
    left : AllHaveRoom config world room

  settled : (k room : ℕ) (es : List (LosingEvent Action)) (u : LosingFrameWorld) → LosingReaches config es u → LossesSeen config u → heavy config apart u ≤ k
      → AllHaveRoom config u (k + 1 + room) → Next config apart u ⊎ IsQuietLive config u → Settled u room
  settled k room es u l seen light free (inr quiet) = record {
    takes = [];
    world = u;
    only = tt;
    leads = refl;
    quiet = quiet;
    left = λ i here. let all : (u.world.node i).clock + (k + 1 + room) ≤ CLOCK_LIMIT = free i here in omega (arith, all);
  }
  settled zero room es u l seen light free (inl next) =
      let one = next_is_taken config apart es u l
      (λ i here. let all : (u.world.node i).clock + (0 + 1 + room) ≤ CLOCK_LIMIT = free i here in omega (arith, all))
      next.from next.to next.packet next.rest next.pair next.lives next.is in
      let less = takes_less config apart es u one.0 l seen next.to next.from one.1 in
      absurd (omega (arith, less, light))
  settled (suc k) room es u l seen light free (inl next) =
      let d : Event Action = Take next.to next.from in
      let one = next_is_taken config apart es u l
      (λ i here. let all : (u.world.node i).clock + (suc k + 1 + room) ≤ CLOCK_LIMIT = free i here in omega (arith, all))
      next.from next.to next.packet next.rest next.pair next.lives next.is in
      let less = takes_less config apart es u one.0 l seen next.to next.from one.1 in
      let left = room_left config u one.0 d (happened (losing_frame_machine config) u.world one.0.world d (went config u one.0 d one.1).0)
      (k + 1 + room) (on_time config es u l)
      (λ i here. let all : (u.world.node i).clock + (suc k + 1 + room) ≤ CLOCK_LIMIT = free i here in omega (arith, all)) in
      let rest = settled k room (es ++ Step d ∷ []) one.0
      (leads_more config es (nobody_gone (start_of (losing_frame_machine config))) u one.0 (Step d) l one.1)
      (seen_later config apart es u one.0 l seen d one.1) (omega (arith, less, light)) left (next_or_quiet config apart one.0) in
      record {
        takes = d ∷ rest.takes;
        world = rest.world;
        only = rest.only;
        leads = (one.0, one.1, rest.leads);
        quiet = rest.quiet;
        left = rest.left;
      }

  -- ---- from any world

  module _ (es : List (LosingEvent Action)) (w : LosingFrameWorld) (l : LosingReaches config es w) (room : ℕ)
      (free : AllHaveRoom config w (most_events_to_free config w + 1 + room)) where
    abbrev P : ℕ
    P = peer_count config

    abbrev open_ : ℕ
    open_ = live_open config w

    rest : Rests config apart w
    rest = comes_to_rest config apart es w l
        (λ i here. let all : (w.world.node i).clock + (most_events_to_free config w + 1 + room) ≤ CLOCK_LIMIT = free i here in omega (arith, all))

    abbrev u : LosingFrameWorld
    u = rest.world

    abbrev to_rest : List (LosingEvent Action)
    to_rest = es ++ all_steps rest.takes

    reached : LosingReaches config to_rest u
    reached = leads_on config es (all_steps rest.takes) (nobody_gone (start_of (losing_frame_machine config))) w u l rest.leads

    seen : LossesSeen config u
    seen = (among_live config apart to_rest u reached rest.quiet).seen

    few : live_open config u ≤ open_
    few = fewer_open config es w u l rest.takes (takes_too rest.takes rest.only) rest.leads

    abbrev later : ℕ
    later = 6 * P * open_ + 1 + room

    room_there : AllHaveRoom config u (live_open config u + later)
    room_there = room_run config rest.takes es w u (live_open config u + later) l rest.leads
        (λ i here.
        let all : (w.world.node i).clock + (most_events_to_free config w + 1 + room) ≤ CLOCK_LIMIT = free i here in
        let many : length rest.takes ≤ most_takes_live config w = takes_end config apart es w l rest.takes u rest.only rest.leads in
        omega (arith, all, many, few))

    -- what is taken behind the retries is bounded by what is open
    abbrev Light : LosingFrameWorld → Type 0
    Light z = LossesSeen config z × (heavy config apart z + P * live_open config z ≤ 6 * P * open_)

    light_there : heavy config apart u + P * live_open config u ≤ 6 * P * open_
    light_there =
        let five : heavy config apart u ≤ 5 * P * live_open config u = quiet_light config apart to_rest u reached rest.quiet in
        let most : 5 * P * live_open config u ≤ 5 * P * open_ = mul-le-mul_left (5 * P) few in
        let ones : P * live_open config u ≤ P * open_ = mul-le-mul_left P few in
        let all : 6 * P * open_ ≡ 5 * P * open_ + P * open_ = six P open_ in
        omega (arith, five, most, ones, all)

    keeps : (done : List (LosingEvent Action)) (a b : LosingFrameWorld) (i : ℕ) (op : OpId) → LosingReaches config done a → IsHere config i
        → a.gone i ≡ false → is_ready_at config a i op ≡ true → Leaves config a (Step (Do i (Retry op))) b → Light a → Light b
    keeps done a b i op r here alive ready leaves old =
        let less = retry_less config apart done a b r i op here ready leaves in
        let before : heavy config apart a + P * live_open config a ≤ 6 * P * open_ = old.1 in
        (seen_later config apart done a b r old.0 (Do i (Retry op)) leaves, omega (arith, less, before))

    tried : RetriedAll config apart to_rest u reached seen later Light
    tried = retried_all config apart to_rest u reached seen later Light keeps room_there (seen, light_there)

    abbrev z : LosingFrameWorld
    z = tried.world

    abbrev to_tried : List (LosingEvent Action)
    to_tried = to_rest ++ all_steps tried.retries

    reached_tried : LosingReaches config to_tried z
    reached_tried = leads_on config to_rest (all_steps tried.retries) (nobody_gone (start_of (losing_frame_machine config))) u z reached tried.leads

    last : Settled z room
    last = settled (6 * P * open_) room to_tried z reached_tried tried.kept.0
        (let light : heavy config apart z + P * live_open config z ≤ 6 * P * open_ = tried.kept.1 in omega (arith, light))
        tried.left (next_or_quiet config apart z)

    abbrev to_last : List (LosingEvent Action)
    to_last = to_tried ++ all_steps last.takes

    reached_last : LosingReaches config to_last last.world
    reached_last = leads_on config to_tried (all_steps last.takes) (nobody_gone (start_of (losing_frame_machine config))) z last.world reached_tried last.leads

    none : NoneReadyLive config last.world
    none = none_on config apart to_tried z reached_tried tried.kept.0 tried.none last.takes last.world last.leads

    pub frees : FreesLocks config w
    frees = record {
      first = rest.takes;
      rested = rest.world;
      only_first = rest.only;
      leads_first = rest.leads;
      rests = rest.quiet;
      retries = tried.retries;
      tried = tried.world;
      only_retries = tried.only;
      each = tried.each;
      ready = tried.were;
      leads_tried = tried.leads;
      last = last.takes;
      world = last.world;
      only_last = last.only;
      leads_last = last.leads;
      quiet = last.quiet;
      none = none;
      free = no_lock config apart to_last last.world reached_last last.quiet none;
    }

    pub room_after : AllHaveRoom config frees.world room
    unfolding frees
    room_after = last.left

    pub few_after : live_open config frees.world ≤ live_open config w
    unfolding frees
    few_after =
        let by_retries : live_open config z ≤ live_open config u = fewer_open config to_rest u z reached tried.retries (retries_too tried.retries tried.only) tried.leads in
        let by_takes : live_open config last.world ≤ live_open config z = fewer_open config to_tried z last.world reached_tried last.takes (takes_too last.takes last.only) last.leads in
        omega (arith, few, by_retries, by_takes)

pub frees_all : (config : Config) (apart : IsDistinct same_atom (names_of config)) (es : List (LosingEvent Action)) (w : LosingFrameWorld)
    → LosingReaches config es w → AllHaveRoom config w (most_events_to_free config w + 1) → FreesLocks config w
frees_all config apart es w l free = frees config apart es w l 0
    (λ i here. let all : (w.world.node i).clock + (most_events_to_free config w + 1) ≤ CLOCK_LIMIT = free i here in omega (arith, all))
