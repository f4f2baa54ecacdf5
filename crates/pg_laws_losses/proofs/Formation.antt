-- Where nothing is on the way to a node that is not lost, that node is formed: the exchange of each other is on the way until it
-- is merged, or the other is lost.
use Rattle.std.proofs.Common.{◌≡◌, ◌≢◌, ◌⊎◌, inl, inr, ℕ, Bool, true, false, cond, length}
use Rattle.std.proofs.Common.{map, List, [], ◌∷◌, ◌++◌, refl, ap, sym, ◌∙◌, subst}
use Rattle.std.specs.List.{IsDistinct}
use Rattle.pg_term.specs.Same.{same_atom}
use Rattle.pg_laws.specs.PgGroup.Functions.{upd}
use Rattle.pg_laws.specs.PgExchange.GroupList.{GroupList}
use Rattle.pg_laws.specs.PgMessageTypes.declared.message.Message.{Message}
use Rattle.pg_laws.specs.PgMessageTypes.declared.message.Message.TheVariants.{Exchange}
use Rattle.pg_laws.specs.PgStep.Machines.Clocked.{packets_of}
use Rattle.pg_laws.specs.PgStep.Machines.Happened.{Happened}
use Rattle.pg_laws.specs.PgStep.Machines.Losing.{Noticed, Sent, LosingEvent, nobody_gone}
use Rattle.pg_laws.specs.PgStep.Machines.Machine.{Event, Input, Taken, Turn, node_of, start_of}
use Rattle.pg_laws.specs.PgStep.Machines.Places.{is_pair}
use Rattle.pg_laws.proofs.PgStep.Machines.Places.{by_place, set_at_here, set_at_other}
use Rattle.pg_laws.proofs.PgStep.Machines.Plain.{plain_start}
use Rattle.pg_laws.proofs.PgStep.Machines.Steps.{changes, pair_apart}
use Rattle.pg_laws.specs.PgStep.Config.{Config, names_of, name_at, nodes_at, groups_at}
use Rattle.pg_laws.specs.PgStep.FrameMachine.{FrameWorld, losing_frame_machine, losing_machine_of, machine_of}
use Rattle.pg_laws.specs.PgStep.Losses.{see_loss}
use Rattle.pg_laws.specs.PgStep.LossLaws.{LosingFrameWorld}
use Rattle.pg_laws.specs.PgStep.Nodes.{Node}
use Rattle.pg_laws.specs.PgStep.State.{State, formed}
use Rattle.pg_laws.specs.PgStep.Step.{CLOCK_LIMIT, Action}
use Rattle.pg_laws.specs.PgStep.Turns.{NodeTurn, Report}
use Rattle.pg_laws.proofs.PgStep.Once.{clash}
use Rattle.pg_laws.specs.Sent.{exchange_of}
use Rattle.pg_laws.proofs.ends.Apart.{pair_second, pair_swapped}
use Rattle.pg_laws.proofs.places.Shown.{IsHere}
use Rattle.pg_laws.proofs.quiet.Rest.{each_peer}
use Rattle.pg_laws.proofs.references.Keys.{atoms, read_at, read_other, split}
use Rattle.pg_laws.proofs.steps.Lasting.{event_lasts}
use Rattle.pg_laws.proofs.steps.Lossless.{step_sees_none}
use Rattle.pg_laws.proofs.steps.Made.{StepMakes, Talking, Merging, Ending, TellsNothing, step_makes}
use Rattle.pg_laws.proofs.steps.Ways.{WayAfter, Grown, Shorter, Unchanged, state_after, way_after}
use Rattle.pg_laws_losses.specs.Quiet.{IsQuietLive}
use Rattle.pg_laws_losses.specs.Reached.{LosingReaches}
use Rattle.pg_laws_losses.proofs.Bridge.{Has, Left}
use Rattle.pg_laws_losses.proofs.Bridges.{bridged}
use Rattle.pg_laws_losses.proofs.Carried.{IsKept, carried_past}
use Rattle.pg_laws_losses.proofs.Lasts.{made_stays}
use Rattle.pg_laws_losses.proofs.Lossy.{Lossy, bare, Passed, Went, Died, kept_past, Makes, Steps, Sees, makes}
use Rattle.pg_laws_losses.proofs.Retries.{lost_waits}
use Rattle.pg_laws_losses.proofs.Unharmed.{Posts, elsewhere, noted_packet, passed_posts}
use Rattle.pg_laws_losses.proofs.Unharmed.{same_input, start_posts, told, told_of}

-- where the exchange of a node that is not lost is not on the way it was merged
abbrev Owed : Config → Lossy → Type 0
Owed config w = (p i : ℕ) → is_pair (length config) i p ≡ true → w.gone p ≡ false → told (w.world.wire p i) ≡ [] → (w.world.node i).merged (name_at config p) ≡ true

given_is : {p q : ℕ} {x z : Message} → ◌≡◌ {A = Input Message Action} (Taken p x) (Taken q z) → (p ≡ q) × (x ≡ z)
given_is e = (cc, cc)

module _ (config : Config) (apart : IsDistinct same_atom (names_of config)) (w v : Lossy) (d : Event Action) (h : Happened (losing_machine_of config) w.world d v.world) (posts : Posts config w)
    (same_gone : v.gone ≡ w.gone) (owed : Owed config w) where
  abbrev i : ℕ
  i = node_of d

  abbrev s : State
  s = w.world.node (node_of d)

  made : Makes config (node_of d) (w.world.node (node_of d)) h.input h.turn
  made = makes config (node_of d) (w.world.node (node_of d)) h.input h.turn h.made

  grows : (q : Node) → s.merged q ≡ true → h.turn.state.merged q ≡ true
  grows q was = (made_stays config (node_of d) (w.world.node (node_of d)) h.input h.turn made).merged q was

  -- a packet that tells of groups is an exchange, which is merged
  merges : (p : ℕ) (packet : Noticed Message) → h.input ≡ Taken p packet → (told_of packet ≡ [] → ⊥) → Makes config (node_of d) (w.world.node (node_of d)) h.input h.turn → h.turn.state.merged (name_at config p) ≡ true
  merges p packet taken tells (Sees q is not_yet same) =
      let one = same_input (sym is ∙ taken) in
      ap (λ (u : Turn State (Noticed Message) Report). u.state.merged (name_at config p)) same ∙ read_at same_atom atoms s.merged (name_at config q) true (name_at config p) (ap (name_at config) (sym one.0))
  merges p packet taken tells (Steps given t is made_ same) =
      let x = noted_packet given p packet (sym is ∙ taken) in
      let kind = step_makes config (node_of d) (w.world.node (node_of d)) given t made_ in
      ap (λ (u : Turn State (Noticed Message) Report). u.state.merged (name_at config p)) same ∙ ap (λ (u : Turn State Message Report). u.state.merged (name_at config p)) kind.1 ∙ go x.0 x.1 (ap told_of x.2) kind.0 kind.2
    where
      go : (x : Message) → given ≡ Taken p x → told_of packet ≡ exchange_of x → (u : NodeTurn) → StepMakes config (node_of d) (w.world.node (node_of d)) given u → u.state.merged (name_at config p) ≡ true
      go x is_ tells_ u (Talking talks nothing) = absurd (tells (tells_ ∙ (subst TellsNothing is_ nothing).0))
      go x is_ tells_ u (Ending q pid from same_) = absurd (tells (tells_ ∙ ap exchange_of (given_is (sym is_ ∙ from)).1))
      go x is_ tells_ u (Merging q node groups from good same_) =
          let one = given_is (sym is_ ∙ from) in
          ap (λ (z : NodeTurn). z.state.merged (name_at config p)) same_ ∙ read_at same_atom atoms s.merged (name_at config q) true (name_at config p) (ap (name_at config) one.0)

  own : (p : ℕ) → is_pair (length config) (node_of d) p ≡ true → w.gone p ≡ false → WayAfter (node_of d) h.input p (node_of d) (h.turn.sends (node_of d)) (w.world.wire p (node_of d)) (v.world.wire p (node_of d))
      → told (v.world.wire p (node_of d)) ≡ [] → h.turn.state.merged (name_at config p) ≡ true
  own p pair lives (Grown own_way new) none = absurd (pair_apart (length config) (node_of d) p pair (sym own_way))
  own p pair lives (Unchanged other untaken same) none = grows (name_at config p) (owed p (node_of d) pair lives (ap told (sym same) ∙ none))
  own p pair lives (Shorter packet other here from first) none = go (told_of packet) refl
    where
      go : (xs : List (Node × GroupList)) → told_of packet ≡ xs → h.turn.state.merged (name_at config p) ≡ true
      go [] nothing = grows (name_at config p) (owed p (node_of d) pair lives (ap told first ∙ (ap (λ ys. ys ++ told (v.world.wire p (node_of d))) nothing ∙ none)))
      go (x ∷ xs) some = merges p packet from (λ nothing. absurd (cc)) made

  event_owed : Owed config v
  event_owed p j pair lives = state_after (losing_machine_of config) w.world v.world d h (λ u. told (v.world.wire p j) ≡ [] → u.merged (name_at config p) ≡ true) j
      (λ here. subst (λ z. told (v.world.wire p z) ≡ [] → h.turn.state.merged (name_at config p) ≡ true) (sym here)
      (own p (subst (λ z. is_pair (length config) z p ≡ true) here pair) (ap (λ (f : ℕ → Bool). f p) (sym same_gone) ∙ lives) (way_after (losing_machine_of config) w.world v.world d h p (node_of d))))
      (λ other none. owed p j pair (ap (λ (f : ℕ → Bool). f p) (sym same_gone) ∙ lives) (sym (elsewhere config apart w v d h posts p j other (way_after (losing_machine_of config) w.world v.world d h p j)) ∙ none))

-- ---- runs

module _ (config : Config) (apart : IsDistinct same_atom (names_of config)) where
  abbrev Both : Lossy → Type 0
  Both v = Posts config v × Owed config v

  passed_both : (w v : Lossy) (e : LosingEvent Action) → Passed config w v e → Both w → Both v
  passed_both w v e (Went d is lives h same) old = (passed_posts config apart w v e (Went d is lives h same) old.0, event_owed config apart w v d h old.0 same old.1)
  passed_both w v e (Died i keep is there lives cut gone) old = (passed_posts config apart w v e (Died i keep is there lives cut gone) old.0, owed_still)
    where
      owed_still : Owed config v
      owed_still p j pair alive none =
          let apart_from : p ≢ i = λ same. clash (sym (ap (λ (f : ℕ → Bool). f p) gone ∙ set_at_here w.gone i true p same) ∙ alive) in
          let before : w.gone p ≡ false = sym (ap (λ (f : ℕ → Bool). f p) gone ∙ set_at_other w.gone i true p apart_from) ∙ alive in
          let way : v.world.wire p j ≡ w.world.wire p j = ap (λ u. u.wire p j) cut ∙ ap (λ (f : ℕ → List (Noticed Message)). f j) (set_at_other {A = ℕ → List (Noticed Message)} w.world.wire i _ p apart_from) in
          ap (λ u. (u.node j).merged (name_at config p)) cut ∙ old.1 p j pair before (ap told (sym way) ∙ none)

  start_owed : Owed config (nobody_gone (start_of (losing_machine_of config)))
  start_owed p i pair lives none = go (is_pair (length config) p i) (pair_swapped (length config) i p pair) none
    where
      go : (b : Bool) → b ≡ true → told (map Sent (cond b (Exchange (name_at config p) (groups_at config p) ∷ []) [])) ≡ [] → false ≡ true
      go true _ e = absurd (cc)
      go false e _ = e

  owed : (es : List (LosingEvent Action)) (w : LosingFrameWorld) → LosingReaches config es w → Owed config (bare w)
  owed es w l = (kept_past config Both passed_both es (nobody_gone (start_of (losing_frame_machine config))) w l
      (subst (λ u. Both (nobody_gone u)) (sym (plain_start (losing_machine_of config) CLOCK_LIMIT)) (start_posts config apart, start_owed))).1

-- a loss that was seen counts as an exchange that was taken
abbrev LostMerged : FrameWorld → Type 0
LostMerged u = (i : ℕ) (q : Node) → (u.node i).lost q ≡ true → (u.node i).merged q ≡ true

loss_merges : (peer : Node) (s : State) → ((q : Node) → s.lost q ≡ true → s.merged q ≡ true) → (q : Node) → (see_loss peer s).state.lost q ≡ true → (see_loss peer s).state.merged q ≡ true
loss_merges peer s old q = go (split same_atom atoms q peer)
  where
    go : (q ≡ peer) ⊎ (q ≢ peer) → upd same_atom s.lost peer true q ≡ true → upd same_atom s.merged peer true q ≡ true
    go (inl e) _ = read_at same_atom atoms s.merged peer true q e
    go (inr other) was = read_other same_atom atoms s.merged peer true q other ∙ old q (sym (read_other same_atom atoms s.lost peer true q other) ∙ was)

merged_kept : (config : Config) → IsKept config LostMerged
merged_kept config = record {
  same = λ u v node reported all i q was. ap (λ (f : ℕ → State). (f i).merged q) node ∙ all i q (ap (λ (f : ℕ → State). (f i).lost q) (sym node) ∙ was);
  step = λ u v d h all i q. state_after (machine_of config) u v d h (λ (s : State). s.lost q ≡ true → s.merged q ≡ true) i
      (λ own was.
      let grown = (event_lasts config u v d h (node_of d)).merged q (all (node_of d) q (ap (λ (f : Node → Bool). f q) (sym (step_sees_none config (node_of d) (u.node (node_of d)) h.input h.turn h.made)) ∙ was)) in
      ap (λ (s : State). s.merged q) (sym (changes (machine_of config) u v d h).state) ∙ grown)
      (λ _ was. all i q was);
  loss = λ u i p all j q. by_place u.node i (see_loss (name_at config p) (u.node i)).state (λ (s : State). s.lost q ≡ true → s.merged q ≡ true) j
      (λ own. loss_merges (name_at config p) (u.node i) (all i) q) (λ other. all j q);
}

pub is_formed_live : (config : Config) → IsDistinct same_atom (names_of config) → (es : List (LosingEvent Action)) (w : LosingFrameWorld) → LosingReaches config es w → IsQuietLive config w
    → (i : ℕ) → IsHere config i → w.gone i ≡ false → formed (nodes_at config i) (w.world.node i).state ≡ true
is_formed_live config apart es w l quiet i here lives = each_peer config i here (w.world.node i).state.merged each
  where
    has : Has config apart (bare w)
    has = (bridged config apart es w l).has

    lost_merged : (q : Node) → (w.world.node i).state.lost q ≡ true → (w.world.node i).state.merged q ≡ true
    lost_merged = carried_past config LostMerged (merged_kept config) es w l (λ j q e. absurd (cc)) i

    each : (p : ℕ) → is_pair (length config) i p ≡ true → (w.world.node i).state.merged (name_at config p) ≡ true
    each p pair = go (w.gone p) refl ((w.world.node i).state.lost (name_at config p)) refl
      where
        none : (bare w).world.wire p i ≡ []
        none = ap packets_of (quiet p i (pair_swapped (length config) i p pair) lives)

        go : (b : Bool) → w.gone p ≡ b → (seen : Bool) → (w.world.node i).state.lost (name_at config p) ≡ seen → (w.world.node i).state.merged (name_at config p) ≡ true
        go false alive seen _ = owed config apart es w l p i pair alive (ap told none)
        go true gone true seen = lost_merged (name_at config p) seen
        go true gone false unseen =
            let left_over = has.cut p i (pair_second (length config) i p pair) here (λ same. pair_apart (length config) i p pair (sym same)) unseen in
            absurd (clash (sym gone ∙ lost_waits (w.gone p) (has.ways p i) (subst (λ z. Left (w.gone p) z (has.ways p i)) none left_over)))
