-- An end that a node has taken is at the home of its process, or the node has seen the loss of the home.
use Rattle.std.proofs.Common.{◌≡◌, ◌⊎◌, inl, inr, ℕ, Bool, true, false, ◌||◌, cond, length, map}
use Rattle.std.proofs.Common.{take, List, [], ◌∷◌, ◌++◌, refl, ap, sym, ◌∙◌, subst, zero, suc}
use Rattle.std.specs.List.{AllByRecursion}
use Rattle.pg_term.specs.declared.pid.Pid.{Pid}
use Rattle.pg_term.specs.Same.{same_atom}
use Rattle.pg_laws.specs.PgMessageTypes.declared.message.Message.{Message}
use Rattle.pg_laws.specs.PgMessageTypes.declared.message.Message.TheVariants.{Exchange, Down}
use Rattle.pg_laws.specs.PgStep.Machines.Happened.{Happened}
use Rattle.pg_laws.specs.PgStep.Machines.Losing.{Noticed, Sent, Last, LosingEvent, nobody_gone}
use Rattle.pg_laws.specs.PgStep.Machines.Machine.{Input, Turn, Event, Taken, node_of, start_of}
use Rattle.pg_laws.specs.PgStep.Machines.Places.{is_pair, is_place}
use Rattle.pg_laws.proofs.PgStep.Machines.Places.{by_place}
use Rattle.pg_laws.proofs.PgStep.Machines.Plain.{plain_start}
use Rattle.pg_laws.proofs.PgStep.Machines.Steps.{changes}
use Rattle.pg_laws.specs.PgStep.Config.{Config, name_at, groups_at}
use Rattle.pg_laws.specs.PgStep.FrameMachine.{losing_frame_machine, losing_machine_of}
use Rattle.pg_laws.specs.PgStep.Losses.{see_loss}
use Rattle.pg_laws.specs.PgStep.LossLaws.{LosingFrameWorld}
use Rattle.pg_laws.specs.PgStep.State.{State}
use Rattle.pg_laws.specs.PgStep.Step.{CLOCK_LIMIT, Action}
use Rattle.pg_laws.specs.PgStep.Turns.{NodeTurn, Report}
use Rattle.pg_laws.proofs.PgStep.Once.{same_is}
use Rattle.pg_laws.specs.Sent.{end_of, ends_in}
use Rattle.pg_laws.proofs.ends.Apart.{pair_second}
use Rattle.pg_laws.proofs.references.Keys.{atoms, read_at}
use Rattle.pg_laws.proofs.steps.Made.{StepMakes, Talking, Merging, Ending, ended_by, sends_own_ends, step_makes}
use Rattle.pg_laws.proofs.steps.Ways.{WayAfter, Grown, Shorter, Unchanged, all_both, all_since}
use Rattle.pg_laws.proofs.steps.Ways.{own_place, packet_there, pair_there, state_after, way_after}
use Rattle.pg_laws_losses.specs.Agreeing.{EndedHome}
use Rattle.pg_laws_losses.specs.Reached.{LosingReaches}
use Rattle.pg_laws_losses.proofs.Lasts.{event_stays}
use Rattle.pg_laws_losses.proofs.Lossy.{Lossy, Passed, Went, Died, kept_past, Makes, Steps, Sees, makes, noted}

-- what a packet on the way from p tells of an end is of a process of p, which has ended there
abbrev pub TellsOwn : Config → ℕ → State → Noticed Message → Type 0
TellsOwn config p s (Sent x) = AllByRecursion (λ pid. (pid.node ≡ name_at config p) × (s.ended pid ≡ true)) (end_of x)
TellsOwn config p s Last = Unit {0}

abbrev pub AllOwn : Config → ℕ → State → List (Noticed Message) → Type 0
AllOwn config p s xs = AllByRecursion (TellsOwn config p s) xs

abbrev pub Home : Config → Lossy → ℕ → Pid → Type 0
Home config w i pid = (h : ℕ) × (is_place (length config) h ≡ true) × (pid.node ≡ name_at config h) × (((w.world.node h).ended pid ≡ true) ⊎ ((w.world.node i).lost (name_at config h) ≡ true))

pub record Homed (config : Config) (w : Lossy) : Type 0 where
  pub at : (i : ℕ) (pid : Pid) → is_place (length config) i ≡ true → (w.world.node i).ended pid ≡ true → Home config w i pid
  pub ways : (p y : ℕ) → AllOwn config p (w.world.node p) (w.world.wire p y)

-- ---- ways

all_of_two : {A : Type 0} (Q : A → Type 0) (xs ys : List A) → AllByRecursion Q (xs ++ ys) → AllByRecursion Q xs × AllByRecursion Q ys
all_of_two Q [] ys all = (tt, all)
all_of_two Q (x ∷ xs) ys all = let rest = all_of_two Q xs ys all.1 in ((all.0, rest.0), rest.1)

noted_own : (config : Config) (p : ℕ) (s : State) (xs : List Message) → AllByRecursion (λ pid. (pid.node ≡ name_at config p) × (s.ended pid ≡ true)) (ends_in xs) → AllOwn config p s (map Sent xs)
noted_own config p s [] all = tt
noted_own config p s (x ∷ xs) all = let both = all_of_two (λ pid. (pid.node ≡ name_at config p) × (s.ended pid ≡ true)) (end_of x) (ends_in xs) all in (both.0, noted_own config p s xs both.1)

own_later : (config : Config) (p : ℕ) (s t : State) (xs : List (Noticed Message)) → ((pid : Pid) → s.ended pid ≡ true → t.ended pid ≡ true) → AllOwn config p s xs → AllOwn config p t xs
own_later config p s t xs more all = all_since (TellsOwn config p s) (TellsOwn config p t) xs one all
  where
    one : (x : Noticed Message) → TellsOwn config p s x → TellsOwn config p t x
    one (Sent x) all = all_since (λ pid. (pid.node ≡ name_at config p) × (s.ended pid ≡ true)) (λ pid. (pid.node ≡ name_at config p) × (t.ended pid ≡ true)) (end_of x) (λ pid both. (both.0, more pid both.1)) all
    one Last all = tt

first_own : (config : Config) (p : ℕ) (s : State) (k : ℕ) (xs : List (Noticed Message)) → AllOwn config p s xs → AllOwn config p s (take k xs)
first_own config p s zero xs all = tt
first_own config p s (suc k) [] all = tt
first_own config p s (suc k) (x ∷ xs) all = (all.0, first_own config p s k xs all.1)

cut_own : (config : Config) (p : ℕ) (s : State) (b : Bool) (k : ℕ) (xs : List (Noticed Message)) → AllOwn config p s xs → AllOwn config p s (cond b (take k xs ++ Last ∷ []) xs)
cut_own config p s true k xs all = all_both (TellsOwn config p s) (take k xs) (Last ∷ []) (first_own config p s k xs all) (tt, tt)
cut_own config p s false k xs all = all

-- ---- events

home_later : (config : Config) (w v : Lossy) (e : LosingEvent Action) → Passed config w v e → (i : ℕ) (pid : Pid) → Home config w i pid → Home config v i pid
home_later config w v e passed i pid home = (home.0, home.1, home.2, go home.3)
  where
    go : ((w.world.node home.0).ended pid ≡ true) ⊎ ((w.world.node i).lost (name_at config home.0) ≡ true) → ((v.world.node home.0).ended pid ≡ true) ⊎ ((v.world.node i).lost (name_at config home.0) ≡ true)
    go (inl ended) = inl ((event_stays config w v e passed home.0).ended pid ended)
    go (inr lost) = inr ((event_stays config w v e passed i).lost (name_at config home.0) lost)

module _ (config : Config) (w v : Lossy) (e : LosingEvent Action) (passed : Passed config w v e) (d : Event Action) (h : Happened (losing_machine_of config) w.world d v.world) (old : Homed config w) where
  there : is_place (length config) (node_of d) ≡ true
  there = own_place (losing_machine_of config) w.world v.world d h

  state_is : v.world.node (node_of d) ≡ h.turn.state
  state_is = (changes (losing_machine_of config) w.world v.world d h).state

  before : (pid : Pid) → (w.world.node (node_of d)).ended pid ≡ true → Home config v (node_of d) pid
  before pid ended = home_later config w v e passed (node_of d) pid (old.at (node_of d) pid there ended)

  stepped : (given : Input Message Action) (t : NodeTurn) → h.input ≡ noted given → t.state.ended ≡ h.turn.state.ended → StepMakes config (node_of d) (w.world.node (node_of d)) given t
      → (pid : Pid) → t.state.ended pid ≡ true → Home config v (node_of d) pid
  stepped given t is same (Talking talks nothing) pid ended = go (talks.ended pid ended)
    where
      go : ((w.world.node (node_of d)).ended pid ≡ true) ⊎ (pid.node ≡ name_at config (node_of d)) → Home config v (node_of d) pid
      go (inl was) = before pid was
      go (inr own) = (node_of d, there, own, inl (ap (λ (s : State). s.ended pid) state_is ∙ (ap (λ (f : Pid → Bool). f pid) (sym same) ∙ ended)))
  stepped given t is same (Merging p node groups from good turn) pid ended = before pid (ap (λ (u : NodeTurn). u.state.ended pid) (sym turn) ∙ ended)
  stepped given t is same (Ending p other from turn) pid ended = go (ended_by other pid (w.world.node (node_of d)) (ap (λ (u : NodeTurn). u.state.ended pid) (sym turn) ∙ ended))
    where
      taken_is : h.input ≡ Taken p (Sent (Down other))
      taken_is = is ∙ ap noted from

      sent : (other.node ≡ name_at config p) × ((w.world.node p).ended other ≡ true)
      sent =
          let first = packet_there (losing_machine_of config) w.world v.world d h p (Sent (Down other)) taken_is in
          (subst (AllOwn config p (w.world.node p)) first.1 (old.ways p (node_of d))).0.0

      go : ((w.world.node (node_of d)).ended pid ≡ true) ⊎ (other ≡ pid) → Home config v (node_of d) pid
      go (inl was) = before pid was
      go (inr one) = (
        p,
        pair_second (length config) (node_of d) p (pair_there (losing_machine_of config) w.world v.world d h p (Sent (Down other)) taken_is),
        ap (λ (z : Pid). z.node) (sym one) ∙ sent.0,
        inl ((event_stays config w v e passed p).ended pid (subst (λ (z : Pid). (w.world.node p).ended z ≡ true) one sent.1)),
      )

  new_home : Makes config (node_of d) (w.world.node (node_of d)) h.input h.turn → (pid : Pid) → h.turn.state.ended pid ≡ true → Home config v (node_of d) pid
  new_home (Steps given t is made same) pid ended =
      let kind = step_makes config (node_of d) (w.world.node (node_of d)) given t made in
      let ends : kind.0.state.ended ≡ h.turn.state.ended = sym (ap (λ (u : Turn State (Noticed Message) Report). u.state.ended) same ∙ ap (λ (u : Turn State Message Report). u.state.ended) kind.1) in
      stepped given kind.0 is ends kind.2 pid (ap (λ (f : Pid → Bool). f pid) ends ∙ ended)
  new_home (Sees p is not_yet same) pid ended = go (same_atom (name_at config p) pid.node) refl (ap (λ (u : Turn State (Noticed Message) Report). u.state.ended pid) (sym same) ∙ ended)
    where
      lost_now : (v.world.node (node_of d)).lost (name_at config p) ≡ true
      lost_now = ap (λ (s : State). s.lost (name_at config p)) state_is ∙ (ap (λ (u : Turn State (Noticed Message) Report). u.state.lost (name_at config p)) same
          ∙ read_at same_atom atoms (w.world.node (node_of d)).lost (name_at config p) true (name_at config p) refl)

      go : (b : Bool) → same_atom (name_at config p) pid.node ≡ b → b || (w.world.node (node_of d)).ended pid ≡ true → Home config v (node_of d) pid
      go false other was = before pid was
      go true own _ = (
        p,
        pair_second (length config) (node_of d) p (pair_there (losing_machine_of config) w.world v.world d h p Last is),
        sym (same_is (name_at config p) pid.node own),
        inr lost_now,
      )

  sent_own : Makes config (node_of d) (w.world.node (node_of d)) h.input h.turn → (y : ℕ) → AllOwn config (node_of d) h.turn.state (h.turn.sends y)
  sent_own (Steps given t is made same) y = subst (λ (u : Turn State (Noticed Message) Report). AllOwn config (node_of d) u.state (u.sends y)) (sym same)
      (noted_own config (node_of d) t.state (t.sends y) (sends_own_ends config (node_of d) (w.world.node (node_of d)) given t made y))
  sent_own (Sees p is not_yet same) y = subst (λ (u : Turn State (Noticed Message) Report). AllOwn config (node_of d) u.state (u.sends y)) (sym same) (none (is_place (length config) y))
    where
      none : (b : Bool) → AllOwn config (node_of d) (see_loss (name_at config p) (w.world.node (node_of d))).state (map Sent (cond {A = List Message} b [] []))
      none true = tt
      none false = tt

  made : Makes config (node_of d) (w.world.node (node_of d)) h.input h.turn
  made = makes config (node_of d) (w.world.node (node_of d)) h.input h.turn h.made

  way : (x y : ℕ) → WayAfter (node_of d) h.input x y (h.turn.sends y) (w.world.wire x y) (v.world.wire x y) → AllOwn config x (v.world.node x) (v.world.wire x y)
  way x y (Grown own new) = subst (AllOwn config x (v.world.node x)) (sym new)
      (all_both (TellsOwn config x (v.world.node x)) (w.world.wire x y) (h.turn.sends y)
      (own_later config x (w.world.node x) (v.world.node x) (w.world.wire x y) ((event_stays config w v e passed x).ended) (old.ways x y))
      (subst (λ k. AllOwn config k (v.world.node k) (h.turn.sends y)) (sym own) (subst (λ (s : State). AllOwn config (node_of d) s (h.turn.sends y)) (sym state_is) (sent_own made y))))
  way x y (Shorter packet apart here from was) = own_later config x (w.world.node x) (v.world.node x) (v.world.wire x y) ((event_stays config w v e passed x).ended) (subst (AllOwn config x (w.world.node x)) was (old.ways x y)).1
  way x y (Unchanged apart untaken same) = own_later config x (w.world.node x) (v.world.node x) (v.world.wire x y) ((event_stays config w v e passed x).ended) (subst (AllOwn config x (w.world.node x)) (sym same) (old.ways x y))

  event_homed : Homed config v
  event_homed = record {
    at = λ j pid here. state_after (losing_machine_of config) w.world v.world d h (λ (s : State). s.ended pid ≡ true → Home config v j pid) j
        (λ own ended. subst (λ k. Home config v k pid) (sym own) (new_home made pid ended))
        (λ other ended. home_later config w v e passed j pid (old.at j pid here ended));
    ways = λ x y. way x y (way_after (losing_machine_of config) w.world v.world d h x y);
  }

pub passed_homed : (config : Config) (w v : Lossy) (e : LosingEvent Action) → Passed config w v e → Homed config w → Homed config v
passed_homed config w v e (Went d is lives h same) old = event_homed config w v e (Went d is lives h same) d h old
passed_homed config w v e (Died i keep is there_ lives cut gone) old = record {
  at = λ j pid here ended. home_later config w v e (Died i keep is there_ lives cut gone) j pid (old.at j pid here (ap (λ u. (u.node j).ended pid) (sym cut) ∙ ended));
  ways = λ x y. subst (λ u. AllOwn config x (u.node x) (u.wire x y)) (sym cut)
      (by_place w.world.wire i _ (λ (f : ℕ → List (Noticed Message)). AllOwn config x (w.world.node x) (f y)) x
      (λ own. cut_own config x (w.world.node x) (is_pair (length config) i y) (keep y) (w.world.wire i y) (subst (λ k. AllOwn config x (w.world.node x) (w.world.wire k y)) own (old.ways x y)))
      (λ other. old.ways x y));
}

pub start_homed : (config : Config) → Homed config (nobody_gone (start_of (losing_machine_of config)))
start_homed config = record { at = λ i pid here ended. absurd (cc); ways = λ x y. opened x (is_pair (length config) x y) }
  where
    opened : (x : ℕ) (b : Bool) → AllOwn config x ((losing_machine_of config).first x) (map Sent (cond b (Exchange (name_at config x) (groups_at config x) ∷ []) []))
    opened x true = (tt, tt)
    opened x false = tt

pub ended_at_home : (config : Config) (es : List (LosingEvent Action)) (w : LosingFrameWorld) → LosingReaches config es w → (i : ℕ) (pid : Pid) → is_place (length config) i ≡ true → (w.world.node i).state.ended pid ≡ true → EndedHome config w i pid
ended_at_home config es w l i pid here ended = (kept_past config (Homed config) (passed_homed config) es (nobody_gone (start_of (losing_frame_machine config))) w l
    (subst (λ u. Homed config (nobody_gone u)) (sym (plain_start (losing_machine_of config) CLOCK_LIMIT)) (start_homed config))).at i pid here ended
