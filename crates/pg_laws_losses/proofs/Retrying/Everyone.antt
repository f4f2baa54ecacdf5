-- Every open command of a live node is answered: retries one behind another, each with its takes.
use Rattle.std.proofs.Common.{◌≡◌, ◌⊎◌, inl, inr, ℕ, zero, suc, ◌+◌, ◌-◌, ◌*◌, ◌<◌, ◌≤◌, Bool, true, false, cond, length}
use Rattle.std.proofs.Common.{List, [], ◌∷◌, ◌++◌, refl, ap, sym, ◌∙◌, subst, arith}
use Rattle.std.specs.List.{IsDistinct}
use Rattle.std.proofs.Math.Nat.{add-mul, mul-le-mul_right, mul-suc}
use Rattle.std.proofs.lemmas.List.{length-append}
use Rattle.pg_term.specs.Same.{same_atom}
use Rattle.pg_laws.specs.PgStep.Machines.Losing.{LosingEvent, all_steps, nobody_gone}
use Rattle.pg_laws.specs.PgStep.Machines.Machine.{Do, Event, Take, start_of}
use Rattle.pg_laws.specs.PgStep.Config.{Config, names_of}
use Rattle.pg_laws.specs.PgStep.FrameMachine.{losing_frame_machine}
use Rattle.pg_laws.specs.PgStep.LossLaws.{LosingFrameWorld}
use Rattle.pg_laws.specs.PgStep.Step.{Action, CLOCK_LIMIT, Retry}
use Rattle.pg_laws.specs.PgStep.declared.command.OpId.{OpId}
use Rattle.pg_laws.specs.Quiet.{OnlyTakes, OnlyTakesAndRetries, peer_count, total}
use Rattle.pg_laws.proofs.quiet.Answering.{both_too, takes_too}
use Rattle.pg_laws.proofs.quiet.Sums.{total_all, total_le}
use Rattle.pg_laws_losses.specs.Quiet.{IsQuietLive, live_open}
use Rattle.pg_laws_losses.specs.Reached.{LosingReaches}
use Rattle.pg_laws_losses.proofs.Remains.Passing.{Leads}
use Rattle.pg_laws_losses.specs.Readiness.Ready.{AllHaveRoom, NoneReadyLive}
use Rattle.pg_laws_losses.specs.Retrying.Retried.{FreesLocks, NoneOpenLive, RetryGoesPastLosses, live_count, live_peer_count}
use Rattle.pg_laws_losses.specs.Retrying.Retried.{most_events_live, most_events_to_free}
use Rattle.pg_laws_losses.proofs.Retrying.Counted.{less_open}
use Rattle.pg_laws_losses.proofs.Retrying.Finding.{OpenOne, open_or_none, some_opened}
use Rattle.pg_laws_losses.proofs.Retrying.Freeing.{few_after, frees, retries_too, room_after}
use Rattle.pg_laws_losses.proofs.Retrying.Reaching.{free_for, leads_on, none_later, open_waits, retry_goes, retry_happens, room_run}

-- two runs of steps, one behind the other
pub steps_on : (config : Config) (ts more : List (Event Action)) (w v u : LosingFrameWorld) → Leads config w (all_steps ts) v
    → Leads config v (all_steps more) u → Leads config w (all_steps (ts ++ more)) u
steps_on config [] more w v u l k = subst (λ z. Leads config z (all_steps more) u) (sym l) k
steps_on config (d ∷ ts) more w v u l k = (l.0, l.1, steps_on config ts more l.0 v u l.2 k)

one_more_take : (ts : List (Event Action)) (i p : ℕ) → OnlyTakes ts → OnlyTakes (ts ++ Take i p ∷ [])
one_more_take [] i p only = tt
one_more_take (Take j q ∷ ts) i p only = one_more_take ts i p only
one_more_take (Do j action ∷ ts) i p only = absurd only

-- no more peers are left than there are
few_left : (config : Config) (w : LosingFrameWorld) → live_peer_count config w ≤ peer_count config
few_left config w =
    let few : live_count config w ≤ total (length config) (λ i. 1) = total_le (length config) (λ i. cond (w.gone i) 0 1) (λ i. 1) (λ i _. one (w.gone i)) in
    let all : total (length config) (λ i. 1) ≡ 1 * length config = total_all (length config) 1 (λ i. 1) (λ i _. refl) in
    omega (arith, few, all)
  where
    one : (b : Bool) → cond {A = ℕ} b 0 1 ≤ 1
    one true = omega arith
    one false = omega arith

module _ (config : Config) (apart : IsDistinct same_atom (names_of config)) where
  -- ---- one command is answered

  module _ (es : List (LosingEvent Action)) (w : LosingFrameWorld) (l : LosingReaches config es w) (quiet : IsQuietLive config w)
      (none : NoneReadyLive config w) (found : OpenOne config w) (room : AllHaveRoom config w (1 + 5 * live_peer_count config w)) where
    abbrev i : ℕ
    i = found.place

    abbrev op : OpId
    op = found.op

    -- so many packets taken behind its retry
    record Driven (count : ℕ) : Type 0 where
      takes : List (Event Action)
      world : LosingFrameWorld
      only : OnlyTakes takes
      many : length takes ≡ count
      leads : Leads config w (all_steps (Do i (Retry op) ∷ takes)) world

    goes : (count : ℕ) (d : Driven count) → RetryGoesPastLosses config w i op (length d.takes) d.world
    goes count d =
        let waiting = open_waits config apart es w l quiet i found.here found.lives op none found.is in
        retry_goes config apart es w l quiet i found.here found.lives op waiting.0 waiting.1
        (free_for config apart es w l quiet i found.here found.lives op none waiting.0) d.takes d.only d.world d.leads
        (λ j here lives. room j here)

    one_more : (count : ℕ) → count < 5 * live_peer_count config w → Driven count → Driven (suc count)
    one_more count few d =
        let all = goes count d in
        let many : length d.takes ≡ count = d.many in
        let next = all.on_the_way (omega (arith, many, few)) in
        let u = all.is_taken next.0 next.1 next.2 next.3 next.4 next.6 next.7 in
        record {
          takes = d.takes ++ Take next.1 next.0 ∷ [];
          world = u.0;
          only = one_more_take d.takes next.1 next.0 d.only;
          many = let sum : length (d.takes ++ Take next.1 next.0 ∷ []) ≡ length d.takes + 1 = length-append d.takes (Take next.1 next.0 ∷ []) in omega (arith, sum, many);
          leads = steps_on config (Do i (Retry op) ∷ d.takes) (Take next.1 next.0 ∷ []) w d.world u.0 d.leads (u.0, u.1, refl {a = u.0});
        }

    drive : (count : ℕ) → count ≤ 5 * live_peer_count config w → Driven count
    drive zero low =
        let r = retry_happens config apart es w l quiet i found.here found.lives op found.is
        (let all : (w.world.node found.place).clock + (1 + 5 * live_peer_count config w) ≤ CLOCK_LIMIT = room found.place found.here in omega (arith, all)) in
        record { takes = []; world = r.0; only = tt; many = refl; leads = (r.0, r.1, refl) }
    drive (suc count) low = one_more count (omega (arith, low)) (drive count (omega (arith, low)))

    last : Driven (5 * live_peer_count config w)
    last = drive (5 * live_peer_count config w) (omega arith)

    -- nothing is on the way again, none is ready, and one command less is open
    pub record OneAnswered : Type 0 where
      pub more : List (Event Action)
      pub world : LosingFrameWorld
      pub only : OnlyTakesAndRetries more
      pub many : length more ≡ 1 + 5 * live_peer_count config w
      pub leads : Leads config w (all_steps more) world
      pub rests : IsQuietLive config world
      pub unready : NoneReadyLive config world
      pub same : live_peer_count config world ≡ live_peer_count config w
      pub fewer : live_open config world < live_open config w

    pub one_answered : OneAnswered
    one_answered =
        let all = goes (5 * live_peer_count config w) last in
        let many : length last.takes ≡ 5 * live_peer_count config w = last.many in
        let ok = all.answered (omega (arith, many)) in
        let only = takes_too last.takes last.only in
        record {
          more = Do i (Retry op) ∷ last.takes;
          world = last.world;
          only = only;
          many = omega (arith, many);
          leads = last.leads;
          rests = all.quiet many;
          unready = none_later config apart es w l quiet i found.here found.lives op none (Do i (Retry op) ∷ last.takes) last.world last.leads;
          same = ap (λ (f : ℕ → Bool). total (length config) (λ j. cond (f j) 0 1) - 1) all.gone;
          fewer = less_open config es w last.world l (Do i (Retry op) ∷ last.takes) only last.leads i found.here op found.is ok;
        }

  -- ---- all are answered

  pub record AllAnswered (w : LosingFrameWorld) : Type 0 where
    pub more : List (Event Action)
    pub world : LosingFrameWorld
    pub only : OnlyTakesAndRetries more
    pub leads : Leads config w (all_steps more) world
    pub none_open : NoneOpenLive config world
    pub quiet : IsQuietLive config world

  behind : (w v : LosingFrameWorld) (ts : List (Event Action)) → OnlyTakesAndRetries ts → Leads config w (all_steps ts) v → AllAnswered v → AllAnswered w
  behind w v ts only l all = record {
    more = ts ++ all.more;
    world = all.world;
    only = both_too ts all.more only all.only;
    leads = steps_on config ts all.more w v all.world l all.leads;
    none_open = all.none_open;
    quiet = all.quiet;
  }

  answered_within : (k peers : ℕ) (es : List (LosingEvent Action)) (w : LosingFrameWorld) → LosingReaches config es w → IsQuietLive config w
      → NoneReadyLive config w → live_peer_count config w ≡ peers → live_open config w ≤ k → AllHaveRoom config w ((1 + 5 * peers) * k)
      → OpenOne config w ⊎ NoneOpenLive config w → AllAnswered w
  answered_within k peers es w l quiet unready count few room (inr none) =
      record { more = []; world = w; only = tt; leads = refl; none_open = none; quiet = quiet }
  answered_within zero peers es w l quiet unready count few room (inl found) =
      let some : 1 ≤ live_open config w = some_opened config w es l found in absurd (omega (arith, some, few))
  answered_within (suc k) peers es w l quiet unready count few room (inl found) =
      let sum : (1 + 5 * peers) * suc k ≡ (1 + 5 * peers) * k + (1 + 5 * peers) = mul-suc (1 + 5 * peers) k in
      let free : AllHaveRoom config w (1 + 5 * live_peer_count config w) =
      λ i here. let all : (w.world.node i).clock + (1 + 5 * peers) * suc k ≤ CLOCK_LIMIT = room i here in omega (arith, all, sum, count) in
      let one = one_answered es w l quiet unready found free in
      let less : live_open config one.world < live_open config w = one.fewer in
      let many : length one.more ≡ 1 + 5 * live_peer_count config w = one.many in
      let reached = leads_on config es (all_steps one.more) (nobody_gone (start_of (losing_frame_machine config))) w one.world l one.leads in
      let left : AllHaveRoom config one.world ((1 + 5 * peers) * k) = room_run config one.more es w one.world ((1 + 5 * peers) * k) l one.leads
      (λ i here. let all : (w.world.node i).clock + (1 + 5 * peers) * suc k ≤ CLOCK_LIMIT = room i here in omega (arith, all, sum, many, count)) in
      behind w one.world one.more one.only one.leads
      (answered_within k peers (es ++ all_steps one.more) one.world reached one.rests one.unready (one.same ∙ count) (omega (arith, less, few)) left
      (open_or_none config one.world (es ++ all_steps one.more) reached))

  module _ (es : List (LosingEvent Action)) (w : LosingFrameWorld) (l : LosingReaches config es w)
      (free : AllHaveRoom config w (most_events_live config w + 1)) where
    abbrev room : ℕ
    room = (1 + 5 * peer_count config) * live_open config w

    first_room : AllHaveRoom config w (most_events_to_free config w + 1 + room)
    first_room i here = let all : (w.world.node i).clock + (most_events_live config w + 1) ≤ CLOCK_LIMIT = free i here in omega (arith, all)

    abbrev freed : FreesLocks config w
    freed = frees config apart es w l room first_room

    abbrev before : List (Event Action)
    before = (freed.first ++ freed.retries) ++ freed.last

    leads : Leads config w (all_steps before) freed.world
    leads = steps_on config (freed.first ++ freed.retries) freed.last w freed.tried freed.world
        (steps_on config freed.first freed.retries w freed.rested freed.tried freed.leads_first freed.leads_tried) freed.leads_last

    only : OnlyTakesAndRetries before
    only = both_too (freed.first ++ freed.retries) freed.last
        (both_too freed.first freed.retries (takes_too freed.first freed.only_first) (retries_too freed.retries freed.only_retries))
        (takes_too freed.last freed.only_last)

    reached : LosingReaches config (es ++ all_steps before) freed.world
    reached = leads_on config es (all_steps before) (nobody_gone (start_of (losing_frame_machine config))) w freed.world l leads

    abbrev peers : ℕ
    peers = live_peer_count config freed.world

    enough : AllHaveRoom config freed.world ((1 + 5 * peers) * live_open config w)
    enough i here =
        let all : (freed.world.world.node i).clock + room ≤ CLOCK_LIMIT = room_after config apart es w l room first_room i here in
        let few : live_peer_count config freed.world ≤ peer_count config = few_left config freed.world in
        let one : (1 + 5 * peers) * live_open config w ≡ 1 * live_open config w + 5 * peers * live_open config w = add-mul 1 (5 * peers) (live_open config w) in
        let two : room ≡ 1 * live_open config w + 5 * peer_count config * live_open config w = add-mul 1 (5 * peer_count config) (live_open config w) in
        let turn : 5 * peers * live_open config w ≤ 5 * peer_count config * live_open config w = scaled (5 * peers) (5 * peer_count config) (live_open config w) (omega (arith, few)) in
        omega (arith, all, one, two, turn)
      where
        scaled : (a b k : ℕ) → a ≤ b → a * k ≤ b * k
        scaled a b k few = mul-le-mul_right k few

    pub all_answered : AllAnswered w
    all_answered = behind w freed.world before only leads
        (answered_within (live_open config w) peers (es ++ all_steps before) freed.world reached freed.quiet freed.none refl
        (few_after config apart es w l room first_room) enough (open_or_none config freed.world (es ++ all_steps before) reached))
