-- The first packet on the way from a node is its exchange, until that is merged, or the node was lost and kept none.
use Rattle.std.proofs.Common.{◌≡◌, ◌≢◌, ◌⊎◌, inl, inr, ℕ, zero, suc, Bool, true, false, cond}
use Rattle.std.proofs.Common.{length, map, take, List, [], ◌∷◌, ◌++◌, refl, ap, sym, ◌∙◌, subst}
use Rattle.pg_term.specs.Same.{same_atom}
use Rattle.pg_laws.specs.PgMessageTypes.declared.message.Message.{Message}
use Rattle.pg_laws.specs.PgMessageTypes.declared.message.Message.TheVariants.{Exchange}
use Rattle.pg_laws.specs.PgStep.Machines.Happened.{Happened}
use Rattle.pg_laws.specs.PgStep.Machines.Losing.{Noticed, Sent, Last, LosingEvent, nobody_gone}
use Rattle.pg_laws.specs.PgStep.Machines.Machine.{Event, Input, Taken, Own, Turn, node_of, start_of}
use Rattle.pg_laws.specs.PgStep.Machines.Places.{is_pair}
use Rattle.pg_laws.proofs.PgStep.Machines.Places.{by_place}
use Rattle.pg_laws.proofs.PgStep.Machines.Plain.{plain_start}
use Rattle.pg_laws.proofs.PgStep.Machines.Steps.{pair_apart}
use Rattle.pg_laws.specs.PgStep.Config.{Config, name_at, groups_at}
use Rattle.pg_laws.specs.PgStep.FrameMachine.{losing_frame_machine, losing_machine_of}
use Rattle.pg_laws.specs.PgStep.LossLaws.{LosingFrameWorld}
use Rattle.pg_laws.specs.PgStep.State.{State}
use Rattle.pg_laws.specs.PgStep.Step.{CLOCK_LIMIT, Action}
use Rattle.pg_laws.specs.PgStep.Turns.{NodeTurn, Report}
use Rattle.pg_laws.proofs.ends.Apart.{pair_swapped}
use Rattle.pg_laws.proofs.references.Keys.{atoms, read_at}
use Rattle.pg_laws.proofs.steps.Made.{StepMakes, Talking, Merging, Ending, TellsNothing, step_makes}
use Rattle.pg_laws.proofs.steps.Ways.{WayAfter, Grown, Shorter, Unchanged, state_after, way_after}
use Rattle.pg_laws_losses.specs.Reached.{LosingReaches}
use Rattle.pg_laws_losses.proofs.Bridge.{not_true}
use Rattle.pg_laws_losses.proofs.Lasts.{made_stays}
use Rattle.pg_laws_losses.proofs.Lossy.{Lossy, bare, Passed, Went, Died, kept_past, Makes, Steps, Sees, makes, noted}

-- the exchange of node p, or a last notice
abbrev pub IsFirst : Config → ℕ → Noticed Message → Type 0
IsFirst config p x = (x ≡ Sent (Exchange (name_at config p) (groups_at config p))) ⊎ (x ≡ Last)

abbrev pub Head : Config → ℕ → List (Noticed Message) → Type 0
Head config p xs = (x : Noticed Message) × (rest : List (Noticed Message)) × (xs ≡ x ∷ rest) × IsFirst config p x

abbrev pub Heads : Config → Lossy → Type 0
Heads config w = (p i : ℕ) → is_pair (length config) i p ≡ true → (w.world.node i).merged (name_at config p) ≡ false → Head config p (w.world.wire p i)

-- ---- ways

head_grown : (config : Config) (p : ℕ) (xs ys : List (Noticed Message)) → Head config p xs → Head config p (xs ++ ys)
head_grown config p xs ys (x, rest, is, first) = (x, rest ++ ys, ap (λ z. z ++ ys) is, first)

head_cut : (config : Config) (p : ℕ) (b : Bool) (k : ℕ) (xs : List (Noticed Message)) → Head config p xs → Head config p (cond b (take k xs ++ Last ∷ []) xs)
head_cut config p false k xs head = head
head_cut config p true zero xs head = (Last, [], refl, inr refl)
head_cut config p true (suc k) xs (x, rest, is, first) = (x, take k rest ++ Last ∷ [], ap (λ ys. take (suc k) ys ++ Last ∷ []) is, first)

-- ---- what is taken first is merged

given_is : {p q : ℕ} {x z : Message} → ◌≡◌ {A = Input Message Action} (Taken p x) (Taken q z) → (p ≡ q) × (x ≡ z)
given_is e = (cc, cc)

pub packet_is : (given : Input Message Action) (p : ℕ) (x : Message) → noted given ≡ Taken p (Sent x) → given ≡ Taken p x
packet_is (Taken q y) p x e =
    let from : q ≡ p = cc in
    let same : y ≡ x = cc in
    (λ k. Taken (from k) (same k))
packet_is (Own action) p x e = absurd (cc)

no_notice : (given : Input Message Action) (p : ℕ) → noted given ≡ Taken p Last → ⊥
no_notice (Taken q y) p e = absurd (cc)
no_notice (Own action) p e = absurd (cc)

notice_from : {p q : ℕ} {x z : Noticed Message} → ◌≡◌ {A = Input (Noticed Message) Action} (Taken p x) (Taken q z) → (p ≡ q) × (x ≡ z)
notice_from e = (cc, cc)

module _ (config : Config) (i : ℕ) (s : State) (input : Input (Noticed Message) Action) (turn : Turn State (Noticed Message) Report) (p : ℕ) where
  pub exchange_merges : Makes config i s input turn → input ≡ Taken p (Sent (Exchange (name_at config p) (groups_at config p))) → turn.state.merged (name_at config p) ≡ true
  exchange_merges (Sees q is not_yet same) e = let no : ◌≡◌ {A = Noticed Message} Last (Sent (Exchange (name_at config p) (groups_at config p))) = (notice_from (sym is ∙ e)).1 in absurd (cc)
  exchange_merges (Steps given t is made same) e =
      let kind = step_makes config i s given t made in
      ap (λ (u : Turn State (Noticed Message) Report). u.state.merged (name_at config p)) same ∙ (ap (λ (u : Turn State Message Report). u.state.merged (name_at config p)) kind.1
      ∙ go (packet_is given p (Exchange (name_at config p) (groups_at config p)) (sym is ∙ e)) kind.0 kind.2)
    where
      go : given ≡ Taken p (Exchange (name_at config p) (groups_at config p)) → (u : NodeTurn) → StepMakes config i s given u → u.state.merged (name_at config p) ≡ true
      go is_ u (Talking talks nothing) = let no = (subst TellsNothing is_ nothing).0 in absurd (cc no)
      go is_ u (Ending q pid from same_) = let no = (given_is (sym is_ ∙ from)).1 in absurd (cc no)
      go is_ u (Merging q node groups from good same_) =
          let one = given_is (sym is_ ∙ from) in
          ap (λ (z : NodeTurn). z.state.merged (name_at config p)) same_ ∙ read_at same_atom atoms s.merged (name_at config q) true (name_at config p) (ap (name_at config) one.0)

  first_merges : Makes config i s input turn → (x : Noticed Message) → IsFirst config p x → input ≡ Taken p x → turn.state.merged (name_at config p) ≡ true
  first_merges made x (inl first) e = exchange_merges made (e ∙ ap (Taken p) first)
  first_merges (Sees q is not_yet same) x (inr first) e =
      let one = notice_from (sym is ∙ e) in
      ap (λ (u : Turn State (Noticed Message) Report). u.state.merged (name_at config p)) same ∙ read_at same_atom atoms s.merged (name_at config q) true (name_at config p) (ap (name_at config) (sym one.0))
  first_merges (Steps given t is made same) x (inr first) e = absurd (no_notice given p (sym is ∙ (e ∙ ap (Taken p) first)))

-- ---- events

module _ (config : Config) (w v : Lossy) (d : Event Action) (h : Happened (losing_machine_of config) w.world d v.world) (old : Heads config w) where
  made : Makes config (node_of d) (w.world.node (node_of d)) h.input h.turn
  made = makes config (node_of d) (w.world.node (node_of d)) h.input h.turn h.made

  before : (q : ℕ) → h.turn.state.merged (name_at config q) ≡ false → (w.world.node (node_of d)).merged (name_at config q) ≡ false
  before q later = not_true ((w.world.node (node_of d)).merged (name_at config q))
      (λ was. absurd (cc (sym later ∙ (made_stays config (node_of d) (w.world.node (node_of d)) h.input h.turn made).merged (name_at config q) was)))

  own : (p : ℕ) → is_pair (length config) (node_of d) p ≡ true → h.turn.state.merged (name_at config p) ≡ false
      → WayAfter (node_of d) h.input p (node_of d) (h.turn.sends (node_of d)) (w.world.wire p (node_of d)) (v.world.wire p (node_of d)) → Head config p (v.world.wire p (node_of d))
  own p pair later (Grown own_way new) = absurd (pair_apart (length config) (node_of d) p pair (sym own_way))
  own p pair later (Unchanged other untaken same) = subst (Head config p) (sym same) (old p (node_of d) pair (before p later))
  own p pair later (Shorter packet other here from first) =
      let head = old p (node_of d) pair (before p later) in
      let is : head.0 ≡ packet = cc (sym head.2 ∙ first) in
      let merged = first_merges config (node_of d) (w.world.node (node_of d)) h.input h.turn p made head.0 head.3 (from ∙ ap (Taken p) (sym is)) in
      absurd (cc (sym later ∙ merged))

  elsewhere : (p j : ℕ) → j ≢ node_of d → Head config p (w.world.wire p j) → WayAfter (node_of d) h.input p j (h.turn.sends j) (w.world.wire p j) (v.world.wire p j) → Head config p (v.world.wire p j)
  elsewhere p j other head (Grown own_way new) = subst (Head config p) (sym new) (head_grown config p (w.world.wire p j) (h.turn.sends j) head)
  elsewhere p j other head (Shorter packet apart_ here from first) = absurd (other here)
  elsewhere p j other head (Unchanged apart_ untaken same) = subst (Head config p) (sym same) head

  event_heads : Heads config v
  event_heads p j pair = state_after (losing_machine_of config) w.world v.world d h (λ (u : State). u.merged (name_at config p) ≡ false → Head config p (v.world.wire p j)) j
      (λ here later. subst (λ z. Head config p (v.world.wire p z)) (sym here)
      (own p (subst (λ z. is_pair (length config) z p ≡ true) here pair) later (way_after (losing_machine_of config) w.world v.world d h p (node_of d))))
      (λ other later. elsewhere p j other (old p j pair later) (way_after (losing_machine_of config) w.world v.world d h p j))

passed_heads : (config : Config) (w v : Lossy) (e : LosingEvent Action) → Passed config w v e → Heads config w → Heads config v
passed_heads config w v e (Went d is lives h same) old p j pair later = event_heads config w v d h old p j pair later
passed_heads config w v e (Died i keep is there lives cut gone) old p j pair later =
    subst (λ u. Head config p (u.wire p j)) (sym cut)
    (by_place w.world.wire i _ (λ (f : ℕ → List (Noticed Message)). Head config p (f j)) p
    (λ own. head_cut config p (is_pair (length config) i j) (keep j) (w.world.wire i j) (subst (λ k. Head config p (w.world.wire k j)) own was))
    (λ other. was))
  where
    was : Head config p (w.world.wire p j)
    was = old p j pair (ap (λ u. (u.node j).merged (name_at config p)) (sym cut) ∙ later)

start_heads : (config : Config) → Heads config (nobody_gone (start_of (losing_machine_of config)))
start_heads config p i pair later = go (is_pair (length config) p i) (pair_swapped (length config) i p pair)
  where
    go : (b : Bool) → b ≡ true → Head config p (map Sent (cond b (Exchange (name_at config p) (groups_at config p) ∷ []) []))
    go true _ = (Sent (Exchange (name_at config p) (groups_at config p)), [], refl, inl refl)
    go false e = absurd (cc)

pub heads : (config : Config) (es : List (LosingEvent Action)) (w : LosingFrameWorld) → LosingReaches config es w → Heads config (bare w)
heads config es w l = kept_past config (Heads config) (passed_heads config) es (nobody_gone (start_of (losing_frame_machine config))) w l
    (subst (λ u. Heads config (nobody_gone u)) (sym (plain_start (losing_machine_of config) CLOCK_LIMIT)) (start_heads config))
