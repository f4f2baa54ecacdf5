-- Clocks that are far enough from their limit let events happen, and each event takes one from what is left.
use Rattle.std.proofs.Common.{◌≡◌, ◌≢◌, ◌⊎◌, inl, inr, ℕ, suc, ◌+◌, ◌≤◌, true, cond, length, max, nat_le}
use Rattle.std.proofs.Common.{List, ◌∷◌, Option, Some, None, refl, ap, sym, ◌∙◌, subst, arith, []}
use Rattle.std.specs.List.{AllByRecursion}
use Rattle.std.specs.Option.{option_map_or}
use Rattle.std.proofs.lemmas.Bool.{cases_eq, le-leb}
use Rattle.pg_step.specs.PgMessageTypes.declared.message.Message.{Message}
use Rattle.pg_step.specs.Machines.Clocked.{Stamped, next_clock, packets_of, plain, clock_allows}
use Rattle.pg_step.specs.Machines.Happened.{Happened}
use Rattle.pg_step.specs.Machines.Machine.{Event, Input, Turn, Taken, Own, Take, Do, node_of}
use Rattle.pg_step.specs.Machines.Machine.{first_from, happens, perform, without_input}
use Rattle.pg_step.specs.Machines.Places.{is_pair}
use Rattle.pg_step.specs.Machines.Timely.{IsTimely}
use Rattle.pg_step.specs.Step.{CLOCK_LIMIT, Action}
use Rattle.pg_step.specs.State.{State}
use Rattle.pg_step.specs.Turns.{Report}
use Rattle.pg_step.specs.Config.{Config}
use Rattle.pg_step.specs.FrameMachine.{FrameWorld, frame_machine, machine_of, node_step}
use Rattle.pg_step.proofs.Machines.Options.{map_is_some}
use Rattle.pg_step.proofs.Machines.Plain.{plain_happens}
use Rattle.pg_step.proofs.Machines.Steps.{happened, happens_so}
use Rattle.pg_step.specs.Machines.Runs.{Leads}
use Rattle.pg_step.proofs.Machines.Timing.{ticks}
use Rattle.pg_step.proofs.Machines.Timing.{timely as on_time_after}
use Rattle.pg_laws.specs.Quiet.{HasClockRoom}
use Rattle.pg_laws.specs.Reached.{TimedFrameWorld}
use Rattle.pg_laws.proofs.ends.Apart.{pair_first, pair_second}
use Rattle.pg_laws.proofs.places.Shown.{IsHere}
use Rattle.pg_laws.proofs.steps.Ways.{packet_there, pair_there}

module _ (config : Config) where
  next_within : (w v : TimedFrameWorld) (e : Event Action) (happened : Happened (frame_machine config) w e v) (k : ℕ) → IsTimely CLOCK_LIMIT w → HasClockRoom config w (suc k) → IsHere config (node_of e)
      → (input : Input (Stamped Message) Action) → happened.input ≡ input → next_clock (w.node (node_of e)).clock input + k ≤ CLOCK_LIMIT
  next_within w v e happened k timely room here (Own action) is = let own : (w.node (node_of e)).clock + suc k ≤ CLOCK_LIMIT = room (node_of e) here in omega (arith, own)
  next_within w v e happened k timely room here (Taken p x) is =
      let first = packet_there (frame_machine config) w v e happened p x is in
      let there = pair_second (frame_machine config).size (node_of e) p (pair_there (frame_machine config) w v e happened p x is) in
      let stamp : x.stamp ≤ (w.node p).clock = (subst (AllByRecursion (λ (packet : Stamped Message). packet.stamp ≤ (w.node p).clock)) first.1 (timely.stamps p (node_of e))).0 in
      let own : (w.node (node_of e)).clock + suc k ≤ CLOCK_LIMIT = room (node_of e) here in
      let peer : (w.node p).clock + suc k ≤ CLOCK_LIMIT = room p there in
      omega (arith, stamp, own, peer)

  pub room_left : (w v : TimedFrameWorld) (e : Event Action) (happened : Happened (frame_machine config) w e v) (k : ℕ) → IsTimely CLOCK_LIMIT w → HasClockRoom config w (suc k) → HasClockRoom config v k
  room_left w v e happened k timely room i here = go (cases_eq i (node_of e))
    where
      go : (i ≡ node_of e) ⊎ (i ≡ node_of e → ⊥) → (v.node i).clock + k ≤ CLOCK_LIMIT
      go (inl own) =
          let clock : (v.node (node_of e)).clock ≡ next_clock (w.node (node_of e)).clock happened.input = (ticks (machine_of config) CLOCK_LIMIT w v e happened).clock in
          let within : next_clock (w.node (node_of e)).clock happened.input + k ≤ CLOCK_LIMIT = next_within w v e happened k timely room (subst (IsHere config) own here) happened.input refl in
          subst (λ j. (v.node j).clock + k ≤ CLOCK_LIMIT) (sym own) (subst (λ n. n + k ≤ CLOCK_LIMIT) (sym clock) within)
      go (inr other) =
          let same : (v.node i).clock ≡ (w.node i).clock = (ticks (machine_of config) CLOCK_LIMIT w v e happened).others i other in
          let before : (w.node i).clock + suc k ≤ CLOCK_LIMIT = room i here in
          omega (arith, same, before)

  pub room_run : (es : List (Event Action)) (x v : TimedFrameWorld) (k : ℕ) → Leads (frame_machine config) x es v → IsTimely CLOCK_LIMIT x → HasClockRoom config x (length es + k) → HasClockRoom config v k
  room_run [] x v k l on_time room = subst (λ z. HasClockRoom config z k) l (λ i there. let before : (x.node i).clock + (0 + k) ≤ CLOCK_LIMIT = room i there in omega (arith, before))
  room_run (e ∷ es) x v k l on_time room =
      let event = happened (frame_machine config) x l.0 e l.1 in
      room_run es l.0 v k l.2 (on_time_after (machine_of config) CLOCK_LIMIT x l.0 e event on_time) (room_left x l.0 e event (length es + k) on_time (λ i there. let before : (x.node i).clock + (suc (length es) + k) ≤ CLOCK_LIMIT = room i there in omega (arith, before)))

  -- ---- events that happen

  -- what happens without clocks happens with them, where these have room
  with_room : (v : TimedFrameWorld) (e : Event Action) (u : FrameWorld) → clock_allows CLOCK_LIMIT v e ≡ true → happens (machine_of config) (plain v) e ≡ Some u
      → (x : TimedFrameWorld) × (happens (frame_machine config) v e ≡ Some x)
  with_room v e u allows happened =
      let all = map_is_some plain (happens (frame_machine config) v e) u (plain_happens (machine_of config) CLOCK_LIMIT v e ∙ ap (λ b. cond b (happens (machine_of config) (plain v) e) None) allows ∙ happened) in
      (all.0, all.1)

  pub does : (v : TimedFrameWorld) (i : ℕ) (action : Action) → IsHere config i → HasClockRoom config v 1 → (turn : Turn State Message Report) → node_step config i (v.node i).state (Own action) ≡ Some turn
      → (x : TimedFrameWorld) × (happens (frame_machine config) v (Do i action) ≡ Some x)
  does v i action here room turn made =
      let own : (v.node i).clock + 1 ≤ CLOCK_LIMIT = room i here in
      with_room v (Do i action) (perform (plain v) i turn) (le-leb ((v.node i).clock + 1) CLOCK_LIMIT own)
      (happens_so (machine_of config) (plain v) (perform (plain v) i turn) (Do i action) (record { there = here; input = Own action; given = refl; turn = turn; made = made; leaves = refl }))

  some_turn : (o : Option (Turn State Message Report)) → o ≢ None → (turn : Turn State Message Report) × (o ≡ Some turn)
  some_turn None some = absurd (some refl)
  some_turn (Some turn) some = (turn, refl)

  pub takes_next : (v : TimedFrameWorld) (i p : ℕ) (packet : Stamped Message) (rest : List (Stamped Message)) → IsTimely CLOCK_LIMIT v → is_pair (length config) i p ≡ true → HasClockRoom config v 1
      → v.wire p i ≡ packet ∷ rest → node_step config i (v.node i).state (Taken p packet.packet) ≢ None → (x : TimedFrameWorld) × (happens (frame_machine config) v (Take i p) ≡ Some x)
  takes_next v i p packet rest timely pair room first some =
      let made = some_turn (node_step config i (v.node i).state (Taken p packet.packet)) some in
      let stamp : packet.stamp ≤ (v.node p).clock = (subst (AllByRecursion (λ (x : Stamped Message). x.stamp ≤ (v.node p).clock)) first (timely.stamps p i)).0 in
      let own : (v.node i).clock + 1 ≤ CLOCK_LIMIT = room i (pair_first (length config) i p pair) in
      let peer : (v.node p).clock + 1 ≤ CLOCK_LIMIT = room p (pair_second (length config) i p pair) in
      let within : max (v.node i).clock packet.stamp + 1 ≤ CLOCK_LIMIT = omega (arith, stamp, own, peer) in
      let after = perform (without_input {C = Action} (plain v) (Take i p)) i made.0 in
      with_room v (Take i p) after
      (ap (λ xs. option_map_or (λ (input : Input (Stamped Message) Action). nat_le (next_clock (v.node i).clock input) CLOCK_LIMIT) (first_from {C = Action} p xs) true) first ∙ le-leb (max (v.node i).clock packet.stamp + 1) CLOCK_LIMIT within)
      (happens_so (machine_of config) (plain v) after (Take i p)
      (record { there = pair; input = Taken p packet.packet; given = ap (λ xs. first_from p (packets_of xs)) first; turn = made.0; made = made.1; leaves = refl }))
