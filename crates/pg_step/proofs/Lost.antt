-- What seeing a loss leaves, and when a loss is seen or happens.
use Rattle.std.proofs.Common.{◌≡◌, ℕ, ◌+◌, Bool, true, false, not, ◌&&◌, ◌||◌, cond, max, nat_le}
use Rattle.std.proofs.Common.{length, List, [], ◌∷◌, Option, Some, None, refl, ap, sym, subst, ◌∙◌}
use Rattle.std.specs.Prelude.{option_map, option_and_then, is_some, ◌↔◌}
use Rattle.pg_term.specs.declared.pid.Pid.{Pid}
use Rattle.pg_term.specs.declared.term.Term.{Term}
use Rattle.pg_term.specs.RefParts.{RefParts}
use Rattle.pg_term.specs.Same.{same_atom}
use Rattle.pg_message_types.specs.PgGroup.Functions.{upd}
use Rattle.pg_message_types.specs.PgGroup.Value.{Value, count_in, less}
use Rattle.pg_lock.specs.Locks.{freed_of}
use Rattle.pg_message_types.specs.declared.message.Message.{Message}
use Rattle.pg_step.specs.Machines.Places.{is_place, is_pair, set_at}
use Rattle.pg_step.specs.Machines.Machine.{Turn, Input, Taken, Take, first_from, without_input, perform, happens}
use Rattle.pg_step.specs.Machines.Clocked.{Timed, Stamped, timed, timed_turn}
use Rattle.pg_step.specs.Machines.Losing.{Noticed, Sent, Last, LosingWorld, LosingEvent, Step, Lose}
use Rattle.pg_step.specs.Machines.Losing.{losing_happens, can_keep, stopped, mapped_turn, noticed_step}
use Rattle.pg_step.specs.Config.{Config, name_at}
use Rattle.pg_step.specs.FrameMachine.{machine_of, see_step, losing_frame_machine, last_notice, place_turn}
use Rattle.pg_step.specs.Losses.{forgets, see_loss}
use Rattle.pg_step.specs.declared.refusal.Refusal.{Refusal}
use Rattle.pg_step.specs.declared.refusal.Refusal.TheVariants.{NoSuchPlace, NodeLost, NotLost, NotDrained, ClockFull}
use Rattle.pg_step.specs.Faults.{first_that_holds}
use Rattle.pg_step.specs.LossLaws.{LosingFrameWorld, is_notice, way_is_drained, clock_after}
use Rattle.pg_step.specs.LossLaws.{see_refusal, lose_refusal, Forgotten, SeesLoss}
use Rattle.pg_step.specs.StepLaws.{is_full}
use Rattle.pg_step.specs.Nodes.{Node}
use Rattle.pg_step.specs.State.{State, Use}
use Rattle.pg_step.specs.State.Status.{Unasked}
use Rattle.pg_step.specs.State.Use.{Fresh, Locking, Owning, Updating, Spent}
use Rattle.pg_step.specs.Attempts.{lock_entry, gathered}
use Rattle.pg_message_types.specs.declared.message.Said.TheVariants.{Applied}
use Rattle.pg_step.specs.Step.{CLOCK_LIMIT, Action}
use Rattle.pg_step.specs.Turns.{Report}
use Rattle.pg_step.proofs.Once.{is_same}

-- ---- what seeing a loss leaves

freed_none : (peer : Node) (before : Option RefParts) (holder : RefParts) → freed_of peer before ≡ Some holder → same_atom peer holder.node ≡ false
freed_none peer None holder e = absurd (cc)
freed_none peer (Some other) holder e = go (same_atom peer other.node) refl e
  where
    go : (b : Bool) → same_atom peer other.node ≡ b → cond b None (Some other) ≡ Some holder → same_atom peer holder.node ≡ false
    go true is e = absurd (cc)
    go false is e = let one : other ≡ holder = cc in subst (λ (r : RefParts). same_atom peer r.node ≡ false) one is

freed_kept : (peer : Node) (before : Option RefParts) (holder : RefParts) → before ≡ Some holder → same_atom peer holder.node ≡ false → freed_of peer before ≡ Some holder
freed_kept peer before holder is other = ap (freed_of peer) is ∙ ap (λ b. cond b None (Some holder)) other

none_left : (v : Value) (gone : Pid → Bool) (pid : Pid) → gone pid ≡ true → count_in (less v gone) pid ≡ 0
none_left None gone pid is = refl
none_left (Some counts) gone pid is = ap (λ b. cond b 0 (counts pid)) is

all_left : (v : Value) (gone : Pid → Bool) (pid : Pid) → gone pid ≡ false → count_in (less v gone) pid ≡ count_in v pid
all_left None gone pid is = refl
all_left (Some counts) gone pid is = ap (λ b. cond b 0 (counts pid)) is

still_there : (v : Value) (gone : Pid → Bool) → is_some (less v gone) ≡ is_some v
still_there None gone = refl
still_there (Some counts) gone = refl

at_itself : (f : Node → Bool) (peer : Node) → upd same_atom f peer true peer ≡ true
unfolding upd
at_itself f peer = ap (λ b. cond b true (f peer)) (is_same peer)

forgotten_by : (peer : Node) (used : Use) → Forgotten peer (forgets peer used)
unfolding upd
forgotten_by peer Fresh = tt
forgotten_by peer (Locking op update first st) = ap (λ b. cond b Unasked (st peer)) (is_same peer)
forgotten_by peer (Owning name c) = tt
forgotten_by peer (Updating op update c replied) = ap (λ b. cond b false (replied peer)) (is_same peer)
forgotten_by peer Spent = tt

others_stay : (peer : Node) (used : Use) (q : Node) → same_atom peer q ≡ false → gathered (forgets peer used) q ≡ gathered used q
unfolding upd
others_stay peer Fresh q other = refl
others_stay peer (Locking op update first st) q other = ap (λ b. lock_entry (cond b Unasked (st q)) (same_atom first q)) other
others_stay peer (Owning name c) q other = refl
others_stay peer (Updating op update c replied) q other = ap (λ b. Some (cond (cond b false (replied q)) (Some Applied) None)) other
others_stay peer Spent q other = refl

pub sees : (peer : Node) (s : State) → SeesLoss peer s (see_loss peer s)
sees peer s = record {
  freed = λ name holder e. freed_none peer (s.locks name) holder e;
  held = λ name holder is other. freed_kept peer (s.locks name) holder is other;
  ended = λ pid is. ap (λ b. b || s.ended pid) is;
  living = λ pid is. ap (λ b. b || s.ended pid) is;
  members = λ name pid is. none_left (s.table name) (λ q. same_atom peer q.node) pid is;
  others = λ name pid is. all_left (s.table name) (λ q. same_atom peer q.node) pid is;
  groups = λ name. still_there (s.table name) (λ q. same_atom peer q.node);
  merged = at_itself s.merged peer;
  lost = at_itself s.lost peer;
  forgotten = λ c. forgotten_by peer (s.uses c);
  gathered = λ c q other. others_stay peer (s.uses c) q other;
  silent = λ q. refl;
  none = refl;
  stages = λ op. refl;
  counts = λ port. refl;
}

-- ---- when a loss is seen

abbrev Tests : Bool → Bool → Bool → Bool → Bool → Bool → Option Refusal
Tests pair gone seen lost drained full = first_that_holds (
    (not pair, NoSuchPlace) ∷ (gone || seen, NodeLost) ∷ (not lost, NotLost) ∷ (not drained, NotDrained) ∷ (full, ClockFull) ∷ [])

-- none of the tests holds
record Passes (pair gone seen lost drained full : Bool) : Type 0 where
  pub is_pair : pair ≡ true
  pub stays : gone ≡ false
  pub unseen : seen ≡ false
  pub is_lost : lost ≡ true
  pub all_taken : drained ≡ true
  pub not_full : full ≡ false

passes : (pair gone seen lost drained full : Bool) → Tests pair gone seen lost drained full ≡ None → Passes pair gone seen lost drained full
passes false gone seen lost drained full e = absurd (cc)
passes true true seen lost drained full e = absurd (cc)
passes true false true lost drained full e = absurd (cc)
passes true false false false drained full e = absurd (cc)
passes true false false true false full e = absurd (cc)
passes true false false true true true e = absurd (cc)
passes true false false true true false e = record { is_pair = refl; stays = refl; unseen = refl; is_lost = refl; all_taken = refl; not_full = refl }

none_holds : (pair gone seen lost drained full : Bool) → Passes pair gone seen lost drained full → Tests pair gone seen lost drained full ≡ None
none_holds pair gone seen lost drained full p =
    ap (λ b. Tests b gone seen lost drained full) p.is_pair ∙ ap (λ b. Tests true b seen lost drained full) p.stays ∙ ap (λ b. Tests true false b lost drained full) p.unseen
    ∙ ap (λ b. Tests true false false b drained full) p.is_lost ∙ ap (λ b. Tests true false false true b full) p.all_taken ∙ ap (λ b. Tests true false false true true b) p.not_full

-- it happens where these hold
record Goes (pair gone seen fits : Bool) : Type 0 where
  pub is_pair : pair ≡ true
  pub stays : gone ≡ false
  pub unseen : seen ≡ false
  pub within : fits ≡ true

goes : (gone pair seen fits : Bool) → (not gone && (pair && (not seen && fits))) ≡ true → Goes pair gone seen fits
goes true pair seen fits e = absurd (cc)
goes false false seen fits e = absurd (cc)
goes false true true fits e = absurd (cc)
goes false true false false e = absurd (cc)
goes false true false true e = record { is_pair = refl; stays = refl; unseen = refl; within = refl }

all_go : (gone pair seen fits : Bool) → Goes pair gone seen fits → (not gone && (pair && (not seen && fits))) ≡ true
all_go gone pair seen fits g =
    ap (λ b. not b && (pair && (not seen && fits))) g.stays ∙ ap (λ b. b && (not seen && fits)) g.is_pair ∙ ap (λ b. not b && fits) g.unseen ∙ g.within

no : false ≡ true → ⊥
no e = absurd (cc)

not_false : (b : Bool) → not b ≡ false → b ≡ true
not_false true e = refl
not_false false e = absurd (cc)

module _ (config : Config) (w : LosingFrameWorld) (i p : ℕ) where
  abbrev seen : Bool
  seen = (w.world.node i).state.lost (name_at config p)

  abbrev event : LosingEvent Action
  event = Step (Take i p)

  abbrev after : Option LosingFrameWorld
  after = losing_happens (losing_frame_machine config) last_notice w event

  abbrev Sight : Type 0
  Sight = (w.gone p ≡ true) × (way_is_drained (w.world.wire p i) ≡ true) × (is_some after ≡ true)

  -- taking the last notice
  notice_taken : (x : Stamped (Noticed Message)) (rest : List (Stamped (Noticed Message))) → w.world.wire p i ≡ x ∷ rest → x.packet ≡ Last
      → is_some after ≡ (not (w.gone i) && (is_pair (length config) i p && (not seen && nat_le (max (w.world.node i).clock x.stamp + 1) CLOCK_LIMIT)))
  unfolding losing_happens happens
  notice_taken x rest first last =
      ap (λ xs. is_some (result (w.gone i) (is_pair (length config) i p) (option_and_then (step_of) (first_from p xs)))) first
      ∙ ap (λ y. is_some (result (w.gone i) (is_pair (length config) i p) (timed CLOCK_LIMIT clock (option_map (mapped_turn Sent) (noticed_step (machine_of config) (see_step config) i (w.world.node i).state (Taken p y)))))) last
      ∙ go (w.gone i) (is_pair (length config) i p) seen (nat_le clock CLOCK_LIMIT)
    where
      clock : ℕ
      clock = max (w.world.node i).clock x.stamp + 1

      step_of : Input (Stamped (Noticed Message)) Action → Option (Turn (Timed State) (Stamped (Noticed Message)) Report)
      step_of = (losing_frame_machine config).step i (w.world.node i)

      result : Bool → Bool → Option (Turn (Timed State) (Stamped (Noticed Message)) Report) → Option LosingFrameWorld
      result gone pair turn = cond gone None (option_map (λ v. record { world = v; gone = w.gone }) (cond pair (option_map (perform (without_input {C = Action} w.world (Take i p)) i) turn) None))

      timed_by : Bool → Option (Turn State (Noticed Message) Report) → Option (Turn (Timed State) (Stamped (Noticed Message)) Report)
      timed_by fits None = None
      timed_by fits (Some t) = cond fits (Some (timed_turn clock t)) None

      go : (gone pair lost fits : Bool)
          → is_some (result gone pair (timed_by fits (option_map (mapped_turn Sent) (cond lost None (Some (place_turn config (see_loss (name_at config p) (w.world.node i).state)))))))
          ≡ (not gone && (pair && (not lost && fits)))
      go true pair lost fits = refl
      go false false lost fits = refl
      go false true true fits = refl
      go false true false true = refl
      go false true false false = refl

  pub seen_exactly : (see_refusal config w i p ≡ None) ↔ Sight
  seen_exactly = (forth (w.world.wire p i) refl, back (w.world.wire p i) refl)
    where
      tests : List (Stamped (Noticed Message)) → Option Refusal
      tests xs = Tests (is_pair (length config) i p) (w.gone i) seen (w.gone p) (way_is_drained xs) (is_full (clock_after (w.world.node i).clock xs))

      fits : List (Stamped (Noticed Message)) → Bool
      fits xs = nat_le (clock_after (w.world.node i).clock xs) CLOCK_LIMIT

      passed : (xs : List (Stamped (Noticed Message))) → w.world.wire p i ≡ xs → see_refusal config w i p ≡ None
          → Passes (is_pair (length config) i p) (w.gone i) seen (w.gone p) (way_is_drained xs) (not (fits xs))
      passed xs is none = passes (is_pair (length config) i p) (w.gone i) seen (w.gone p) (way_is_drained xs) (not (fits xs)) (sym (ap tests is) ∙ none)

      forth : (xs : List (Stamped (Noticed Message))) → w.world.wire p i ≡ xs → see_refusal config w i p ≡ None → Sight
      forth [] is none = absurd (no ((passed [] is none).all_taken))
      forth (x ∷ rest) is none = kind x.packet refl
        where
          pass : Passes (is_pair (length config) i p) (w.gone i) seen (w.gone p) (is_notice x.packet) (not (fits (x ∷ rest)))
          pass = passed (x ∷ rest) is none

          kind : (y : Noticed Message) → x.packet ≡ y → Sight
          kind (Sent m) sent = absurd (no (sym (ap is_notice sent) ∙ pass.all_taken))
          kind Last last = (
            pass.is_lost,
            ap way_is_drained is ∙ pass.all_taken,
            notice_taken x rest is last ∙ all_go (w.gone i) (is_pair (length config) i p) seen (fits (x ∷ rest))
                (record { is_pair = pass.is_pair; stays = pass.stays; unseen = pass.unseen; within = not_false (fits (x ∷ rest)) pass.not_full }),
          )

      back : (xs : List (Stamped (Noticed Message))) → w.world.wire p i ≡ xs → Sight → see_refusal config w i p ≡ None
      back [] is sight = absurd (no (sym (ap way_is_drained is) ∙ sight.1))
      back (x ∷ rest) is sight = kind x.packet refl
        where
          kind : (y : Noticed Message) → x.packet ≡ y → see_refusal config w i p ≡ None
          kind (Sent m) sent = absurd (no (sym (ap is_notice sent) ∙ sym (ap way_is_drained is) ∙ sight.1))
          kind Last last =
              let all : Goes (is_pair (length config) i p) (w.gone i) seen (fits (x ∷ rest)) = goes (w.gone i) (is_pair (length config) i p) seen (fits (x ∷ rest)) (sym (notice_taken x rest is last) ∙ sight.2) in
              ap tests is ∙ none_holds (is_pair (length config) i p) (w.gone i) seen (w.gone p) (is_notice x.packet) (not (fits (x ∷ rest)))
              (record { is_pair = all.is_pair; stays = all.stays; unseen = all.unseen; is_lost = sight.0; all_taken = sym (ap way_is_drained is) ∙ sight.1; not_full = ap not all.within })

-- ---- when a node is lost

pub lost_exactly : (config : Config) (w : LosingFrameWorld) (i : ℕ) (keep : ℕ → ℕ)
    → (lose_refusal config w i keep ≡ None) ↔ (is_some (losing_happens (losing_frame_machine config) last_notice w (Lose i keep)) ≡ true)
unfolding losing_happens
lost_exactly config w i keep = (forth (is_place (length config) i) (can_keep (length config) w.world i keep) (w.gone i), back (is_place (length config) i) (can_keep (length config) w.world i keep) (w.gone i))
  where
    after : Bool → Bool → Bool → Option LosingFrameWorld
    after place can gone = cond (place && (not gone && can)) (Some (record { world = stopped (length config) last_notice w.world i keep; gone = set_at w.gone i true })) None

    tests : Bool → Bool → Bool → Option Refusal
    tests place can gone = first_that_holds ((not (place && can), NoSuchPlace) ∷ (gone, NodeLost) ∷ [])

    forth : (place can gone : Bool) → tests place can gone ≡ None → is_some (after place can gone) ≡ true
    forth true true false e = refl
    forth true true true e = absurd (cc)
    forth true false gone e = absurd (cc)
    forth false can gone e = absurd (cc)

    back : (place can gone : Bool) → is_some (after place can gone) ≡ true → tests place can gone ≡ None
    back true true false e = refl
    back true true true e = absurd (cc)
    back true false true e = absurd (cc)
    back true false false e = absurd (cc)
    back false can gone e = absurd (cc)
