-- What lasts though nodes are lost: what was reported, and with it answers and histories; formation, ends and seen losses;
-- a lost node does nothing more, and nobody hears it who saw its loss.
use Rattle.std.proofs.Common.{◌≡◌, ◌≢◌, ℕ, Bool, true, false, ◌||◌, cond, List, []}
use Rattle.std.proofs.Common.{◌∷◌, ◌++◌, Some, None, refl, ap, sym, ◌∙◌, subst}
use Rattle.std.specs.Prelude.{option_map, Err}
use Rattle.std.proofs.lemmas.Bool.{ne_eqb}
use Rattle.std.proofs.lemmas.List.{append-nil, append_assoc}
use Rattle.pg_term.specs.declared.pid.Pid.{Pid}
use Rattle.pg_term.specs.Same.{same_atom}
use Rattle.pg_laws.specs.PgGroup.Scope.{at_node}
use Rattle.pg_laws.proofs.PgGroup.Changes.{upd_by}
use Rattle.pg_laws.specs.PgMessageTypes.declared.message.Message.{Message}
use Rattle.pg_laws.specs.PgStep.Machines.Machine.{Input, Turn, Event, Take, Taken, node_of, first_from}
use Rattle.pg_laws.specs.PgStep.Machines.Happened.{Happened}
use Rattle.pg_laws.specs.PgStep.Machines.Losing.{Noticed, Sent, Last, LosingEvent, Step, LosingLeads, mapped_turn}
use Rattle.pg_laws.specs.PgStep.Machines.Runs.{reported_by}
use Rattle.pg_laws.proofs.PgStep.Machines.Options.{some_is, map_is_some}
use Rattle.pg_laws.proofs.PgStep.Machines.Places.{by_place}
use Rattle.pg_laws.proofs.PgStep.Machines.Sequences.{told_by_append}
use Rattle.pg_laws.proofs.PgStep.Machines.Steps.{changes}
use Rattle.pg_laws.specs.PgStep.Config.{Config, name_at, nodes_at}
use Rattle.pg_laws.specs.PgStep.FrameMachine.{losing_machine_of, losing_frame_machine}
use Rattle.pg_laws.specs.PgStep.FrameMachine.{last_notice, node_step, place_turn, placed}
use Rattle.pg_laws.specs.PgStep.Losses.{see_loss}
use Rattle.pg_laws.specs.PgStep.LossLaws.{LosingFrameWorld}
use Rattle.pg_laws.specs.PgStep.Nodes.{Node}
use Rattle.pg_laws.specs.PgStep.State.{State, Response, formed, live_nodes}
use Rattle.pg_laws.specs.PgStep.Step.{Action, taken}
use Rattle.pg_laws.specs.PgStep.Turns.{Report}
use Rattle.pg_laws.specs.PgStep.declared.refusal.Refusal.TheVariants.{NodeLost}
use Rattle.pg_laws.specs.Headline.{GoesOn}
use Rattle.pg_laws.specs.History.{answer_by, answers_by, history}
use Rattle.pg_laws.proofs.steps.Grows.{history_append}
use Rattle.pg_laws.proofs.steps.Lasting.{Lasts, all_stay, step_lasts}
use Rattle.pg_laws.proofs.steps.Lossless.{step_sees_none}
use Rattle.pg_laws.proofs.steps.Ways.{state_after, told_append}
use Rattle.pg_laws.proofs.tables.Applied.{step_tables}
use Rattle.pg_laws_losses.proofs.Lossy.{Lossy, bare, heard, Passed, Went, Died, passed, kept_past, Makes, Steps, Sees, makes}

-- ---- what was reported

abbrev More : List (ℕ × Report) → Lossy → Type 0
More told w = (more : List (ℕ × Report)) × (w.world.reported ≡ told ++ more)

event_more : (config : Config) (told : List (ℕ × Report)) (w v : Lossy) (e : LosingEvent Action) → Passed config w v e → More told w → More told v
event_more config told w v e (Went d is lives h same) m = (
  m.0 ++ (node_of d, h.turn.reported) ∷ [],
  (changes (losing_machine_of config) w.world v.world d h).reported ∙ (ap (λ ts. ts ++ (node_of d, h.turn.reported) ∷ []) m.1 ∙ append_assoc told m.0 ((node_of d, h.turn.reported) ∷ [])),
)
event_more config told w v e (Died i keep is there lives cut gone) m = (m.0, ap (λ u. u.reported) cut ∙ m.1)

pub reported_on : (config : Config) (es : List (LosingEvent Action)) (w v : LosingFrameWorld) → LosingLeads (losing_frame_machine config) last_notice w es v
    → (more : List (ℕ × Report)) × (v.world.reported ≡ w.world.reported ++ more)
reported_on config es w v l = kept_past config (More w.world.reported) (event_more config w.world.reported) es w v l ([], sym (append-nil w.world.reported))

pub answers_later : (config : Config) (w v : LosingFrameWorld) (es : List (LosingEvent Action)) (i port : ℕ) → LosingLeads (losing_frame_machine config) last_notice w es v
    → (more : List (ℕ × Response)) × (answers_by i v.world.reported port ≡ answers_by i w.world.reported port ++ more)
answers_later config w v es i port l =
    let all = reported_on config es w v l in
    (answers_by i all.0 port, ap (λ ts. answers_by i ts port) all.1 ∙ told_append (answer_by i port) w.world.reported all.0)

pub history_later : (config : Config) (w v : LosingFrameWorld) (es : List (LosingEvent Action)) → LosingLeads (losing_frame_machine config) last_notice w es v
    → GoesOn (heard (bare w)) (heard (bare v))
history_later config w v es l name =
    let all = reported_on config es w v l in
    (history name all.0, ap (history name) all.1 ∙ history_append name w.world.reported all.0)

-- ---- what nodes keep

-- the peers that count as merged, the ends that were taken and the losses that were seen stay
pub record Stays (s t : State) : Type 0 where
  pub merged : (q : Node) → s.merged q ≡ true → t.merged q ≡ true
  pub ended : (pid : Pid) → s.ended pid ≡ true → t.ended pid ≡ true
  pub lost : (q : Node) → s.lost q ≡ true → t.lost q ≡ true

node_stays : (config : Config) (i : ℕ) (s : State) (input : Input Message Action) (turn : Turn State Message Report) → node_step config i s input ≡ Some turn → Stays s turn.state
node_stays config i s input turn is =
    let t = step_tables config i s input turn is in
    let lasts : Lasts s turn.state = subst (λ (u : Turn State Message Report). Lasts s u.state) (sym t.1) (step_lasts config s input t.0 t.2) in
    record {
      merged = lasts.merged;
      ended = lasts.ended;
      lost = λ q was. ap (λ (f : Node → Bool). f q) (step_sees_none config i s input turn is) ∙ was;
    }

or_right : (a b : Bool) → b ≡ true → a || b ≡ true
or_right true b e = refl
or_right false b e = e

loss_stays : (peer : Node) (s : State) → Stays s (see_loss peer s).state
loss_stays peer s = record {
  merged = λ q was. upd_by same_atom s.merged peer (λ b. b ≡ true) true q (λ _. refl) (λ _. was);
  ended = λ pid was. or_right (at_node peer pid) (s.ended pid) was;
  lost = λ q was. upd_by same_atom s.lost peer (λ b. b ≡ true) true q (λ _. refl) (λ _. was);
}

pub made_stays : (config : Config) (i : ℕ) (s : State) (input : Input (Noticed Message) Action) (turn : Turn State (Noticed Message) Report) → Makes config i s input turn → Stays s turn.state
made_stays config i s input turn (Steps given t is made same) = subst (λ (u : Turn State (Noticed Message) Report). Stays s u.state) (sym same) (node_stays config i s given t made)
made_stays config i s input turn (Sees p is not_yet same) = subst (λ (u : Turn State (Noticed Message) Report). Stays s u.state) (sym same) (loss_stays (name_at config p) s)

stays_itself : (s : State) → Stays s s
stays_itself s = record { merged = λ q was. was; ended = λ pid was. was; lost = λ q was. was }

pub event_stays : (config : Config) (w v : Lossy) (e : LosingEvent Action) → Passed config w v e → (i : ℕ) → Stays (w.world.node i) (v.world.node i)
event_stays config w v e (Went d is lives h same) i = state_after (losing_machine_of config) w.world v.world d h (Stays (w.world.node i)) i
    (λ own. subst (λ j. Stays (w.world.node j) h.turn.state) (sym own)
    (made_stays config (node_of d) (w.world.node (node_of d)) h.input h.turn (makes config (node_of d) (w.world.node (node_of d)) h.input h.turn h.made)))
    (λ other. stays_itself (w.world.node i))
event_stays config w v e (Died i keep is there lives cut gone) j = subst (λ (s : State). Stays (w.world.node j) s) (ap (λ u. u.node j) (sym cut)) (stays_itself (w.world.node j))

module _ (config : Config) (w v : LosingFrameWorld) (es : List (LosingEvent Action)) (i : ℕ) (l : LosingLeads (losing_frame_machine config) last_notice w es v) where
  pub formed_later : formed (nodes_at config i) (w.world.node i).state ≡ true → formed (nodes_at config i) (v.world.node i).state ≡ true
  formed_later full = kept_past config (λ u. formed (nodes_at config i) (u.world.node i) ≡ true)
      (λ x y e p is. all_stay (x.world.node i).merged (y.world.node i).merged (nodes_at config i).peers ((event_stays config x y e p i).merged) is) es w v l full

  pub ended_later : (pid : Pid) → (w.world.node i).state.ended pid ≡ true → (v.world.node i).state.ended pid ≡ true
  ended_later pid is = kept_past config (λ u. (u.world.node i).ended pid ≡ true) (λ x y e p was. (event_stays config x y e p i).ended pid was) es w v l is

  pub seen_later : (q : Node) → (w.world.node i).state.lost q ≡ true → (v.world.node i).state.lost q ≡ true
  seen_later q is = kept_past config (λ u. (u.world.node i).lost q ≡ true) (λ x y e p was. (event_stays config x y e p i).lost q was) es w v l is

-- ---- who saw a loss hears the lost no more

pub unheard_so : (config : Config) (i p : ℕ) (s : State) (x : Message) (turn : Turn State Message Report) → s.lost (name_at config p) ≡ true → node_step config i s (Taken p x) ≡ Some turn → ⊥
unheard_so config i p s x turn seen is = absurd (cc (sym is ∙ ap (λ b. placed config (cond b (Err NodeLost) (taken (live_nodes (nodes_at config i) s) (name_at config p) x s))) seen))

pub unheard_input : (config : Config) (i p : ℕ) (s : State) (x : Noticed Message) (turn : Turn State (Noticed Message) Report) → s.lost (name_at config p) ≡ true → (losing_machine_of config).step i s (Taken p x) ≡ Some turn → ⊥
unheard_input config i p s (Sent x) turn seen is =
    let t = map_is_some (mapped_turn Sent) (node_step config i s (Taken p x)) turn is in
    unheard_so config i p s x t.0 seen t.1
unheard_input config i p s Last turn seen is =
    absurd (cc (sym is ∙ ap (λ b. option_map (mapped_turn {Q = Noticed Message} Sent) (cond b None (Some (place_turn config (see_loss (name_at config p) s))))) seen))

unheard_first : (config : Config) (i p : ℕ) (s : State) (xs : List (Noticed Message)) (input : Input (Noticed Message) Action) (turn : Turn State (Noticed Message) Report) → s.lost (name_at config p) ≡ true
    → first_from p xs ≡ Some input → (losing_machine_of config).step i s input ≡ Some turn → ⊥
unheard_first config i p s [] input turn seen given is = absurd (cc)
unheard_first config i p s (x ∷ xs) input turn seen given is =
    unheard_input config i p s x turn seen (subst (λ z. (losing_machine_of config).step i s z ≡ Some turn) (sym (some_is given)) is)

step_is : (d e : Event Action) → ◌≡◌ {A = LosingEvent Action} (Step d) (Step e) → d ≡ e
step_is d e same = cc

-- no event takes from a node whose loss was seen
pub unheard : (config : Config) (w v : Lossy) (i p : ℕ) → (w.world.node i).lost (name_at config p) ≡ true → Passed config w v (Step (Take i p)) → ⊥
unheard config w v i p seen (Died j keep is there lives cut gone) = absurd (cc)
unheard config w v i p seen (Went d is lives h same) =
    let taken_ : Happened (losing_machine_of config) w.world (Take i p) v.world = subst (λ e. Happened (losing_machine_of config) w.world e v.world) (step_is d (Take i p) (sym is)) h in
    unheard_first config i p (w.world.node i) (w.world.wire p i) taken_.input taken_.turn seen taken_.given taken_.made

pub unheard_later : (config : Config) (w v : LosingFrameWorld) (es before after : List (LosingEvent Action)) (i p : ℕ) → (w.world.node i).state.lost (name_at config p) ≡ true
    → LosingLeads (losing_frame_machine config) last_notice w es v → es ≡ before ++ Step (Take i p) ∷ after → ⊥
unheard_later config w v es [] after i p seen l is =
    let run : LosingLeads (losing_frame_machine config) last_notice w (Step (Take i p) ∷ after) v = subst (λ xs. LosingLeads (losing_frame_machine config) last_notice w xs v) is l in
    unheard config (bare w) (bare run.0) i p seen (passed config w run.0 (Step (Take i p)) run.1)
unheard_later config w v es (e ∷ before) after i p seen l is =
    let run : LosingLeads (losing_frame_machine config) last_notice w (e ∷ (before ++ Step (Take i p) ∷ after)) v = subst (λ xs. LosingLeads (losing_frame_machine config) last_notice w xs v) is l in
    unheard_later config run.0 v (before ++ Step (Take i p) ∷ after) before after i p ((event_stays config (bare w) (bare run.0) e (passed config w run.0 e run.1) i).lost (name_at config p) seen) run.2 refl

-- ---- who is lost does nothing more

record Still (i : ℕ) (s : State) (told : List Report) (w : Lossy) : Type 0 where
  pub gone : w.gone i ≡ true
  pub state : w.world.node i ≡ s
  pub reported : reported_by i w.world.reported ≡ told

not_it : (f : ℕ → Bool) (i j : ℕ) → f i ≡ true → f j ≡ false → i ≢ j
not_it f i j e d same = let one : f i ≡ f j = ap f same in cc

silent_here : (i j : ℕ) (r : Report) → i ≢ j → reported_by i ((j, r) ∷ []) ≡ []
silent_here i j r apart = ap (λ b. cond b (r ∷ []) []) (ne_eqb j i (λ e. apart (sym e)))

event_still : (config : Config) (i : ℕ) (s : State) (told : List Report) (w v : Lossy) (e : LosingEvent Action) → Passed config w v e → Still i s told w → Still i s told v
event_still config i s told w v e (Went d is lives h same) q =
    let all = changes (losing_machine_of config) w.world v.world d h in
    let apart : i ≢ node_of d = not_it w.gone i (node_of d) q.gone lives in
    record {
      gone = ap (λ f. f i) same ∙ q.gone;
      state = all.states i apart ∙ q.state;
      reported = ap (reported_by i) all.reported ∙ (told_by_append i w.world.reported ((node_of d, h.turn.reported) ∷ [])
          ∙ (ap (λ xs. reported_by i w.world.reported ++ xs) (silent_here i (node_of d) h.turn.reported apart) ∙ (append-nil (reported_by i w.world.reported) ∙ q.reported)));
    }
event_still config i s told w v e (Died j keep is there lives cut gone) q = record {
  gone = ap (λ f. f i) gone ∙ by_place w.gone j true (λ b. b ≡ true) i (λ _. refl) (λ _. q.gone);
  state = ap (λ u. u.node i) cut ∙ q.state;
  reported = ap (λ u. reported_by i u.reported) cut ∙ q.reported;
}

module _ (config : Config) (w v : LosingFrameWorld) (es : List (LosingEvent Action)) (i : ℕ) (gone : w.gone i ≡ true) (l : LosingLeads (losing_frame_machine config) last_notice w es v) where
  all_still : Still i (w.world.node i).state (reported_by i w.world.reported) (bare v)
  all_still = kept_past config (Still i (w.world.node i).state (reported_by i w.world.reported)) (event_still config i (w.world.node i).state (reported_by i w.world.reported)) es w v l
      (record { gone = gone; state = refl; reported = refl })

  pub lost_for_good : v.gone i ≡ true
  lost_for_good = all_still.gone

  pub lost_still : (v.world.node i).state ≡ (w.world.node i).state
  lost_still = all_still.state

  pub lost_silent : reported_by i v.world.reported ≡ reported_by i w.world.reported
  lost_silent = all_still.reported
