-- What the groups of a node are made of, where nodes are lost: what the exchanges that it took told, and the updates that it applied.
use Rattle.std.proofs.Common.{◌≡◌, ◌≢◌, ◌⊎◌, inl, inr, ℕ, Bool, true, false, not, ◌||◌, cond, nat_eq}
use Rattle.std.proofs.Common.{length, List, [], ◌∷◌, ◌++◌, Option, Some, None, refl, ap, sym, ◌∙◌, subst}
use Rattle.std.specs.List.{IsDistinct}
use Rattle.std.proofs.Math.Path.{fun_ext}
use Rattle.std.proofs.lemmas.Bool.{cases_eq, eq-eqb, ne_eqb}
use Rattle.std.proofs.lemmas.Bool.Decides.{Decides-ltb}
use Rattle.std.proofs.lemmas.List.{append-nil, append_assoc}
use Rattle.pg_term.specs.declared.pid.Pid.{Pid}
use Rattle.pg_term.specs.declared.term.Term.{Term}
use Rattle.pg_term.specs.Same.{same_atom}
use Rattle.pg_laws.specs.PgGroup.declared.update.Update.{Update}
use Rattle.pg_laws.specs.PgGroup.Functions.{upd}
use Rattle.pg_laws.specs.PgGroup.Scope.{at_node}
use Rattle.pg_laws.specs.PgGroup.Value.{Value, less}
use Rattle.pg_laws.specs.PgExchange.GroupList.{GroupList}
use Rattle.pg_laws.specs.PgMessageTypes.declared.message.Message.{Message}
use Rattle.pg_laws.specs.PgMessageTypes.declared.message.Message.TheVariants.{Exchange}
use Rattle.pg_laws.specs.PgStep.Machines.Clocked.{Stamped, packets_of}
use Rattle.pg_laws.specs.PgStep.Machines.Happened.{Happened}
use Rattle.pg_laws.specs.PgStep.Machines.Losing.{Noticed, Sent, Last, LosingEvent, Lose, Step, nobody_gone}
use Rattle.pg_laws.specs.PgStep.Machines.Machine.{Do, Event, Input, Take, Taken, Turn, World}
use Rattle.pg_laws.specs.PgStep.Machines.Machine.{first_from, input_of, node_of, start_of}
use Rattle.pg_laws.specs.PgStep.Machines.Places.{is_pair}
use Rattle.pg_laws.proofs.PgStep.Machines.Options.{some_is}
use Rattle.pg_laws.proofs.PgStep.Machines.Steps.{changes, pair_apart}
use Rattle.pg_laws.specs.PgStep.Config.{Config, groups_at, name_at, names_of, nodes_at}
use Rattle.pg_laws.specs.PgStep.FrameMachine.{losing_frame_machine, losing_machine_of}
use Rattle.pg_laws.specs.PgStep.Losses.{see_loss}
use Rattle.pg_laws.specs.PgStep.LossLaws.{LosingFrameWorld, is_notice}
use Rattle.pg_laws.specs.PgStep.Nodes.{Node}
use Rattle.pg_laws.specs.PgStep.Peers.{exchange}
use Rattle.pg_laws.specs.PgStep.State.{State, formed}
use Rattle.pg_laws.specs.PgStep.Step.{Action}
use Rattle.pg_laws.specs.PgStep.Turns.{NodeTurn, Report}
use Rattle.pg_laws.specs.History.{applied_by, base, known, replay, update_by, update_of}
use Rattle.pg_laws.proofs.ends.Apart.{pair_second, same_place}
use Rattle.pg_laws.proofs.places.Shown.{IsHere}
use Rattle.pg_laws.proofs.quiet.Rest.{each_peer}
use Rattle.pg_laws.proofs.references.Keys.{atoms, read_at, read_other, split}
use Rattle.pg_laws.proofs.steps.Lossless.{step_sees_none}
use Rattle.pg_laws.proofs.steps.Ways.{pair_there, packet_there, told_append}
use Rattle.pg_laws.proofs.tables.Applied.{Applying, EndingOne, Merges, StepTables, Tables, Tabling, step_tables}
use Rattle.pg_laws.proofs.tables.Formed.{all_merged, knows_all, not_formed}
use Rattle.pg_laws.proofs.tables.Tabled.{TableIs, exchange_step, has, table_start, tables_step}
use Rattle.pg_laws.proofs.PgGroup.Changes.{upd_by}
use Rattle.pg_laws_losses.specs.Reached.{LosingReaches}
use Rattle.pg_laws_losses.proofs.Bridge.{not_true}
use Rattle.pg_laws_losses.proofs.Lasts.{made_stays, unheard_input}
use Rattle.pg_laws_losses.proofs.Lossy.{bare, Passed, Went, Died, passed, Makes, Steps, Sees, makes, noted}
use Rattle.pg_laws_losses.specs.Remains.Heard.{Heard, MadeOf}
use Rattle.pg_laws_losses.proofs.Remains.Empty.{applied_nothing}
use Rattle.pg_laws_losses.proofs.Remains.Heads.{IsFirst, exchange_merges, heads}
use Rattle.pg_laws_losses.proofs.Remains.Passing.{EachKeeps, Leaves, kept_all, one_world}

-- a state, with these exchanges as those that were taken
abbrev pub with_got : (Node → Bool) → State → State
with_got got s = record s { merged = got }

less_more : (v : Value) (one other : Pid → Bool) → less (less v other) one ≡ less v (λ pid. one pid || other pid)
less_more None one other = refl
less_more (Some counts) one other = ap Some (fun_ext (λ pid. go (one pid) (other pid) (counts pid)))
  where
    go : (a b : Bool) (n : ℕ) → cond a 0 (cond b 0 n) ≡ cond (a || b) 0 n
    go true b n = refl
    go false b n = refl

bad_or_new : (a b : Bool) → (a || b) ≡ false → b ≡ false
bad_or_new true b e = absurd (cc)
bad_or_new false b e = e

module _ (config : Config) (i : ℕ) where
  -- these exchanges were taken, and made the groups; of a peer whose loss was not seen the exchange that is merged was taken
  pub record Got (got : Node → Bool) (s : State) (us : Term → List Update) : Type 0 where
    pub tables : (name : Term) → TableIs config i name (with_got got s) (us name)
    pub merged : (q : Node) → got q ≡ true → s.merged q ≡ true
    pub other : (q : Node) → s.merged q ≡ true → s.lost q ≡ false → got q ≡ true

  -- and those before
  pub record Later (input : Input (Noticed Message) Action) (got : Node → Bool) (t : State) (us : Term → List Update) : Type 0 where
    pub later : Node → Bool
    pub are : Got later t us
    pub grows : (q : Node) → got q ≡ true → later q ≡ true
    -- what is new was taken by this input
    pub from : (q : Node) → later q ≡ true → (got q ≡ true) ⊎ ((p : ℕ) × (x : Message) × (q ≡ name_at config p) × (input ≡ Taken p (Sent x)))

  -- ---- a turn

  module _ (apart : IsDistinct same_atom (names_of config)) (s : State) (got : Node → Bool) (us : Term → List Update) (old : Got got s us) (input : Input (Noticed Message) Action) (turn : Turn State (Noticed Message) Report)
      (pair_of : (p : ℕ) (x : Noticed Message) → input ≡ Taken p x → is_pair (length config) i p ≡ true)
      (first : (p : ℕ) (x : Noticed Message) → input ≡ Taken p x → s.merged (name_at config p) ≡ false → IsFirst config p x)
      (unformed : formed (nodes_at config i) s ≡ false → (name : Term) → us name ≡ []) where
    -- what was applied behind the turn
    abbrev After : Option Update → Term → List Update
    After o name = us name ++ update_of name o

    regot : (u : NodeTurn) → Tables s u → Tables (with_got got s) (record u { state = with_got got u.state })
    regot u (Applying table ended merged) = Applying table ended refl
    regot u (EndingOne pid table ended merged none) = EndingOne pid table ended refl none

    same_merged : (u : NodeTurn) → Tables s u → u.state.merged ≡ s.merged
    same_merged u (Applying table ended merged) = merged
    same_merged u (EndingOne pid table ended merged none) = merged

    tabled : (u : NodeTurn) → u.state.lost ≡ s.lost → Tables s u → Later input got u.state (After u.reported.applied)
    tabled u lost is = record {
      later = got;
      are = record {
        tables = λ name. tables_step config i name (with_got got s) (us name) (old.tables name) (record u { state = with_got got u.state }) (regot u is);
        merged = λ q g. ap (λ (f : Node → Bool). f q) (same_merged u is) ∙ old.merged q g;
        other = λ q m l. old.other q (ap (λ (f : Node → Bool). f q) (sym (same_merged u is)) ∙ m) (ap (λ (f : Node → Bool). f q) (sym lost) ∙ l);
      };
      grows = λ q g. g;
      from = λ q g. inl g;
    }

    -- an exchange is taken
    module _ (p : ℕ) (node : Node) (groups : GroupList) (from : input ≡ Taken p (Sent (Exchange node groups))) (new : s.merged (name_at config p) ≡ false) where
      abbrev now : Node → Bool
      now = upd same_atom got (name_at config p) true

      pair : is_pair (length config) i p ≡ true
      pair = pair_of p (Sent (Exchange node groups)) from

      groups_are : groups ≡ groups_at config p
      groups_are = go (first p (Sent (Exchange node groups)) from new)
        where
          go : IsFirst config p (Sent (Exchange node groups)) → groups ≡ groups_at config p
          go (inl same) = cc same
          go (inr notice) = absurd (cc notice)

      none : (name : Term) → us name ≡ []
      none = unformed (not_formed config i s p pair new)

      not_got : got (name_at config p) ≡ false
      not_got = not_true (got (name_at config p)) (λ g. absurd (cc (sym new ∙ old.merged (name_at config p) g)))

      abbrev whole : NodeTurn
      whole = exchange (name_at config p) (groups_at config p) s

      merged_tables : (name : Term) → TableIs config i name (with_got now whole.state) []
      merged_tables name = exchange_step config apart i p pair (with_got got s) not_got name (subst (TableIs config i name (with_got got s)) (none name) (old.tables name))

      merging : (u : NodeTurn) → u ≡ exchange (name_at config p) groups s → Later input got u.state (After u.reported.applied)
      merging u same = subst (λ (z : NodeTurn). Later input got z.state (After z.reported.applied)) (sym (same ∙ ap (λ g. exchange (name_at config p) g s) groups_are)) (record {
        later = now;
        are = record {
          tables = λ name. subst (TableIs config i name (with_got now whole.state)) (sym (append-nil (us name) ∙ none name)) (merged_tables name);
          merged = merged;
          other = other;
        };
        grows = λ q g. upd_by same_atom got (name_at config p) (λ b. b ≡ true) true q (λ _. refl) (λ _. g);
        from = origin;
      })
        where
          origin : (q : Node) → now q ≡ true → (got q ≡ true) ⊎ ((r : ℕ) × (x : Message) × (q ≡ name_at config r) × (input ≡ Taken r (Sent x)))
          origin q is = go (split same_atom atoms q (name_at config p))
            where
              go : (q ≡ name_at config p) ⊎ (q ≢ name_at config p) → (got q ≡ true) ⊎ ((r : ℕ) × (x : Message) × (q ≡ name_at config r) × (input ≡ Taken r (Sent x)))
              go (inl e) = inr (p, Exchange node groups, e, from)
              go (inr n) = inl (sym (read_other same_atom atoms got (name_at config p) true q n) ∙ is)

          merged : (q : Node) → now q ≡ true → whole.state.merged q ≡ true
          merged q is = go (split same_atom atoms q (name_at config p))
            where
              go : (q ≡ name_at config p) ⊎ (q ≢ name_at config p) → upd same_atom s.merged (name_at config p) true q ≡ true
              go (inl e) = read_at same_atom atoms s.merged (name_at config p) true q e
              go (inr n) = read_other same_atom atoms s.merged (name_at config p) true q n ∙ old.merged q (sym (read_other same_atom atoms got (name_at config p) true q n) ∙ is)

          other : (q : Node) → whole.state.merged q ≡ true → whole.state.lost q ≡ false → now q ≡ true
          other q m l = go (split same_atom atoms q (name_at config p))
            where
              go : (q ≡ name_at config p) ⊎ (q ≢ name_at config p) → upd same_atom got (name_at config p) true q ≡ true
              go (inl e) = read_at same_atom atoms got (name_at config p) true q e
              go (inr n) = read_other same_atom atoms got (name_at config p) true q n ∙ old.other q (sym (read_other same_atom atoms s.merged (name_at config p) true q n) ∙ m) l

    stepped : (given : Input Message Action) → input ≡ noted given → (u : NodeTurn) → u.state.lost ≡ s.lost → StepTables config s given u → Later input got u.state (After u.reported.applied)
    stepped given is u lost (Tabling tables) = tabled u lost tables
    stepped given is u lost (Merges p node groups taken good same) = merging p node groups (is ∙ ap noted taken) (bad_or_new (not (same_atom node (name_at config p))) (s.merged (name_at config p)) good) u same

    -- a loss is seen
    seen : (peer : Node) → Later input got (see_loss peer s).state (After None)
    seen peer = record {
      later = got;
      are = record {
        tables = λ name.
            ap (λ v. less v (at_node peer)) (old.tables name) ∙ (less_more (replay (known (has config i (with_got got s)) name config) (us name)) (at_node peer) s.ended
            ∙ ap (λ xs. less (replay (known (has config i (with_got got s)) name config) xs) (λ pid. at_node peer pid || s.ended pid)) (sym (append-nil (us name))));
        merged = λ q g. upd_by same_atom s.merged peer (λ b. b ≡ true) true q (λ _. refl) (λ _. old.merged q g);
        other = other;
      };
      grows = λ q g. g;
      from = λ q g. inl g;
    }
      where
        other : (q : Node) → (see_loss peer s).state.merged q ≡ true → (see_loss peer s).state.lost q ≡ false → got q ≡ true
        other q = go (split same_atom atoms q peer)
          where
            go : (q ≡ peer) ⊎ (q ≢ peer) → upd same_atom s.merged peer true q ≡ true → upd same_atom s.lost peer true q ≡ false → got q ≡ true
            go (inl e) m l = absurd (cc (sym l ∙ read_at same_atom atoms s.lost peer true q e))
            go (inr n) m l = old.other q (sym (read_other same_atom atoms s.merged peer true q n) ∙ m) (sym (read_other same_atom atoms s.lost peer true q n) ∙ l)

    pub made_later : Makes config i s input turn → Later input got turn.state (After turn.reported.applied)
    made_later (Steps given t is made same) =
        let k = step_tables config i s given t made in
        let lost : k.0.state.lost ≡ s.lost = ap (λ (u : Turn State Message Report). u.state.lost) (sym k.1) ∙ step_sees_none config i s given t made in
        subst (λ (u : Turn State (Noticed Message) Report). Later input got u.state (After u.reported.applied)) (sym same)
        (subst (λ (u : Turn State Message Report). Later input got u.state (After u.reported.applied)) (sym k.1) (stepped given is k.0 lost k.2))
    made_later (Sees p is not_yet same) = subst (λ (u : Turn State (Noticed Message) Report). Later input got u.state (After u.reported.applied)) (sym same) (seen (name_at config p))

-- ---- what was heard

-- an event that stands among events, and one more, stands among them, or is that one
split_last : {A : Type 0} (done before after : List A) (e x : A) → done ++ e ∷ [] ≡ before ++ x ∷ after
    → ((more : List A) × (done ≡ before ++ x ∷ more)) ⊎ ((e ≡ x) × (done ≡ before))
split_last [] [] after e x is = inr (let one : e ≡ x = cc is in one, refl)
split_last [] (y ∷ []) after e x is = absurd (cc is)
split_last [] (y ∷ z ∷ before) after e x is = absurd (cc is)
split_last (d ∷ done) [] after e x is =
    let one : d ≡ x = cc is in
    inl (done, ap (λ z. z ∷ done) one)
split_last {A} (d ∷ done) (y ∷ before) after e x is =
    let one : d ≡ y = cc is in
    let rest : done ++ e ∷ [] ≡ before ++ x ∷ after = cc is in
    go one (split_last done before after e x rest)
  where
    go : d ≡ y → ((more : List A) × (done ≡ before ++ x ∷ more)) ⊎ ((e ≡ x) × (done ≡ before))
        → ((more : List A) × (d ∷ done ≡ y ∷ (before ++ x ∷ more))) ⊎ ((e ≡ x) × (d ∷ done ≡ y ∷ before))
    go one (inl (more, same)) = inl (more, (λ k. one k ∷ same k))
    go one (inr (here, same)) = inr (here, (λ k. one k ∷ same k))

step_is : {d e : Event Action} → ◌≡◌ {A = LosingEvent Action} (Step d) (Step e) → d ≡ e
step_is same = cc

module _ (law : EachKeeps) (config : Config) (apart : IsDistinct same_atom (names_of config)) (i : ℕ) (here : IsHere config i) where
  -- what node i knows, by its events
  pub record Knows (done : List (LosingEvent Action)) (w : LosingFrameWorld) : Type 0 where
    pub got : Node → Bool
    pub are : Got config i got (w.world.node i).state (λ name. applied_by i name w.world.reported)
    pub heard : (p : ℕ) → is_pair (length config) i p ≡ true → Heard config done i p → got (name_at config p) ≡ true
    pub took : (p : ℕ) → is_pair (length config) i p ≡ true → got (name_at config p) ≡ true → Heard config done i p

  module _ (done : List (LosingEvent Action)) (w v : LosingFrameWorld) (e : LosingEvent Action) (l : LosingReaches config done w) (h : Leaves config w e v) (old : Knows done w) where
    -- what was heard before, or by this event, in this world
    heard_by : (p : ℕ) → Heard config (done ++ e ∷ []) i p → Heard config done i p ⊎ ((e ≡ Step (Take i p)) × (first : Noticed Message) × (rest : List (Noticed Message)) × ((bare w).world.wire p i ≡ first ∷ rest) × (is_notice first ≡ false))
    heard_by p k = go (split_last done k.before k.after e (Step (Take i p)) k.is)
      where
        go : ((more : List (LosingEvent Action)) × (done ≡ k.before ++ Step (Take i p) ∷ more)) ⊎ ((e ≡ Step (Take i p)) × (done ≡ k.before))
            → Heard config done i p ⊎ ((e ≡ Step (Take i p)) × (first : Noticed Message) × (rest : List (Noticed Message)) × ((bare w).world.wire p i ≡ first ∷ rest) × (is_notice first ≡ false))
        go (inl (more, same)) = inl (record { before = k.before; after = more; is = same; m = k.m; reached = k.reached; first = k.first; rest = k.rest; there = k.there; packet = k.packet })
        go (inr (one, same)) =
            let world : k.m ≡ w = one_world config k.before (nobody_gone (start_of (losing_frame_machine config))) k.m w k.reached (subst (λ xs. LosingReaches config xs w) same l) in
            inr (one, k.first.packet, packets_of k.rest, ap packets_of (subst (λ (z : LosingFrameWorld). z.world.wire p i ≡ k.first ∷ k.rest) world k.there), k.packet)

    -- what was heard stays heard
    heard_still : (p : ℕ) → Heard config done i p → Heard config (done ++ e ∷ []) i p
    heard_still p k = record {
      before = k.before;
      after = k.after ++ e ∷ [];
      is = ap (λ xs. xs ++ e ∷ []) k.is ∙ append_assoc k.before (Step (Take i p) ∷ k.after) (e ∷ []);
      m = k.m;
      reached = k.reached;
      first = k.first;
      rest = k.rest;
      there = k.there;
      packet = k.packet;
    }

    -- an event that is not of the node
    same_knows : (w.world.node i).state ≡ (v.world.node i).state → ((name : Term) → applied_by i name w.world.reported ≡ applied_by i name v.world.reported) → ((p : ℕ) → e ≡ Step (Take i p) → ⊥) → Knows (done ++ e ∷ []) v
    same_knows state applied other = record {
      got = old.got;
      are = subst (λ (us : Term → List Update). Got config i old.got (v.world.node i).state us) (fun_ext applied) (subst (λ (s : State). Got config i old.got s (λ name. applied_by i name w.world.reported)) state old.are);
      heard = λ p pair k. go p pair (heard_by p k);
      took = λ p pair g. heard_still p (old.took p pair g);
    }
      where
        go : (p : ℕ) → is_pair (length config) i p ≡ true → Heard config done i p ⊎ ((e ≡ Step (Take i p)) × (first : Noticed Message) × (rest : List (Noticed Message)) × ((bare w).world.wire p i ≡ first ∷ rest) × (is_notice first ≡ false))
            → old.got (name_at config p) ≡ true
        go p there_is (inl before) = old.heard p there_is before
        go p there_is (inr one) = absurd (other p one.0)

    module _ (d : Event Action) (is : e ≡ Step d) (lives : w.gone (node_of d) ≡ false) (hap : Happened (losing_machine_of config) (bare w).world d (bare v).world) where
      reported : v.world.reported ≡ w.world.reported ++ (node_of d, hap.turn.reported) ∷ []
      reported = (changes (losing_machine_of config) (bare w).world (bare v).world d hap).reported

      applied_after : (name : Term) → applied_by i name v.world.reported ≡ applied_by i name w.world.reported ++ cond (nat_eq (node_of d) i) (update_of name hap.turn.reported.applied) []
      applied_after name = ap (applied_by i name) reported ∙ (told_append (update_by i name) w.world.reported ((node_of d, hap.turn.reported) ∷ [])
          ∙ ap (λ xs. applied_by i name w.world.reported ++ xs) (append-nil (update_by i name (node_of d, hap.turn.reported))))

      others : node_of d ≢ i → Knows (done ++ e ∷ []) v
      others other = same_knows (sym ((changes (losing_machine_of config) (bare w).world (bare v).world d hap).states i (λ same. other (sym same))))
          (λ name. sym (applied_after name ∙ (ap (λ b. applied_by i name w.world.reported ++ cond b (update_of name hap.turn.reported.applied) []) (ne_eqb (node_of d) i other) ∙ append-nil (applied_by i name w.world.reported))))
          (λ p one. other (ap node_of (step_is (sym is ∙ one))))

      -- an event of the node
      module _ (own : node_of d ≡ i) where
        abbrev s : State
        s = (w.world.node i).state

        made : Makes config i s hap.input hap.turn
        made = subst (λ z. Makes config z (w.world.node z).state hap.input hap.turn) own (makes config (node_of d) ((bare w).world.node (node_of d)) hap.input hap.turn hap.made)

        first_is : (p : ℕ) (x : Noticed Message) → hap.input ≡ Taken p x → s.merged (name_at config p) ≡ false → IsFirst config p x
        first_is p x from new =
            let there = packet_there (losing_machine_of config) (bare w).world (bare v).world d hap p x from in
            let pair : is_pair (length config) i p ≡ true = subst (λ z. is_pair (length config) z p ≡ true) own (pair_there (losing_machine_of config) (bare w).world (bare v).world d hap p x from) in
            let head = heads config done w l p i pair new in
            let way : (bare w).world.wire p i ≡ x ∷ there.0 = subst (λ z. (bare w).world.wire p z ≡ x ∷ there.0) own there.1 in
            let same : head.0 ≡ x = cc (sym head.2 ∙ way) in
            subst (IsFirst config p) same head.3

        more : Later config i hap.input old.got hap.turn.state (λ name. applied_by i name w.world.reported ++ update_of name hap.turn.reported.applied)
        more = made_later config i apart s old.got (λ name. applied_by i name w.world.reported) old.are hap.input hap.turn
            (λ p x from. subst (λ z. is_pair (length config) z p ≡ true) own (pair_there (losing_machine_of config) (bare w).world (bare v).world d hap p x from))
            first_is
            (λ unformed name. applied_nothing law config apart done w l i name here (subst (λ z. w.gone z ≡ false) own lives) unformed) made

        state_is : hap.turn.state ≡ (v.world.node i).state
        state_is = sym (subst (λ z. (v.world.node z).state ≡ hap.turn.state) own (changes (losing_machine_of config) (bare w).world (bare v).world d hap).state)

        are_now : Got config i more.later (v.world.node i).state (λ name. applied_by i name v.world.reported)
        are_now = subst (λ (us : Term → List Update). Got config i more.later (v.world.node i).state us)
            (fun_ext (λ name. sym (applied_after name ∙ ap (λ b. applied_by i name w.world.reported ++ cond b (update_of name hap.turn.reported.applied) []) (eq-eqb (node_of d) i own))))
            (subst (λ (t : State). Got config i more.later t (λ name. applied_by i name w.world.reported ++ update_of name hap.turn.reported.applied)) state_is more.are)

        -- a packet of p is taken
        hears : (p : ℕ) (x : Message) → hap.input ≡ Taken p (Sent x) → more.later (name_at config p) ≡ true
        hears p x from = more.are.other (name_at config p) (merged (s.merged (name_at config p)) refl) unlost
          where
            unlost_before : s.lost (name_at config p) ≡ false
            unlost_before = not_true (s.lost (name_at config p)) (λ seen. unheard_input config i p s (Sent x) hap.turn seen
                (subst (λ z. (losing_machine_of config).step i s z ≡ Some hap.turn) from (subst (λ z. (losing_machine_of config).step z (w.world.node z).state hap.input ≡ Some hap.turn) own hap.made)))

            unlost_by : Makes config i s hap.input hap.turn → hap.turn.state.lost (name_at config p) ≡ false
            unlost_by (Steps given t is_ made_ same) = ap (λ (u : Turn State (Noticed Message) Report). u.state.lost (name_at config p)) same ∙ (ap (λ (f : Node → Bool). f (name_at config p)) (step_sees_none config i s given t made_) ∙ unlost_before)
            unlost_by (Sees q is_ not_yet same) = let no = sym from ∙ is_ in absurd (cc no)

            unlost : hap.turn.state.lost (name_at config p) ≡ false
            unlost = unlost_by made

            merged : (b : Bool) → s.merged (name_at config p) ≡ b → hap.turn.state.merged (name_at config p) ≡ true
            merged true was = (made_stays config i s hap.input hap.turn made).merged (name_at config p) was
            merged false new = go (first_is p (Sent x) from new)
              where
                go : IsFirst config p (Sent x) → hap.turn.state.merged (name_at config p) ≡ true
                go (inl first) = exchange_merges config i s hap.input hap.turn p made (from ∙ ap (Taken p) first)
                go (inr notice) = absurd (cc notice)

        heard_now : (p : ℕ) → is_pair (length config) i p ≡ true → Heard config done i p ⊎ ((e ≡ Step (Take i p)) × (first : Noticed Message) × (rest : List (Noticed Message)) × ((bare w).world.wire p i ≡ first ∷ rest) × (is_notice first ≡ false))
            → more.later (name_at config p) ≡ true
        heard_now p pair (inl before) = more.grows (name_at config p) (old.heard p pair before)
        heard_now p pair (inr (one, Last, rest, way, packet)) = absurd (cc packet)
        heard_now p pair (inr (one, Sent x, rest, way, packet)) =
            hears p x (sym (some_is (sym (taken_from (step_is (sym is ∙ one))) ∙ hap.given)))
          where
            taken_from : d ≡ Take i p → input_of (bare w).world d ≡ Some (Taken p (Sent x))
            taken_from same = ap (input_of (bare w).world) same ∙ ap (first_from p) way

        -- a packet that was taken was the first on its way
        module _ (p : ℕ) (x : Message) (from : hap.input ≡ Taken p (Sent x)) where
          input_is : (z : Event Action) → input_of (bare w).world z ≡ Some (Taken p (Sent x)) → z ≡ Take (node_of z) p
          input_is (Do j action) given = absurd (cc given)
          input_is (Take j q) given = go ((bare w).world.wire q j) given
            where
              go : (xs : List (Noticed Message)) → first_from {C = Action} q xs ≡ Some (Taken p (Sent x)) → ◌≡◌ {A = Event Action} (Take j q) (Take j p)
              go [] empty = absurd (cc empty)
              go (y ∷ ys) some = let one : q ≡ p = cc some in ap (Take j) one

          is_take : e ≡ Step (Take i p)
          is_take = is ∙ (ap Step (input_is d (hap.given ∙ ap Some from)) ∙ ap (λ j. Step (Take j p)) own)

          stamped : (xs : List (Stamped (Noticed Message))) (rest : List (Noticed Message)) → packets_of xs ≡ Sent x ∷ rest
              → (first : Stamped (Noticed Message)) × (others : List (Stamped (Noticed Message))) × (xs ≡ first ∷ others) × (first.packet ≡ Sent x)
          stamped [] rest empty = absurd (cc empty)
          stamped (y ∷ ys) rest some = (y, ys, refl, cc some)

          hears_now : Heard config (done ++ e ∷ []) i p
          hears_now =
              let there = packet_there (losing_machine_of config) (bare w).world (bare v).world d hap p (Sent x) from in
              let first = stamped (w.world.wire p i) there.0 (subst (λ z. (bare w).world.wire p z ≡ Sent x ∷ there.0) own there.1) in
              record {
                before = done;
                after = [];
                is = ap (λ z. done ++ z ∷ []) is_take;
                m = w;
                reached = l;
                first = first.0;
                rest = first.1;
                there = first.2;
                packet = ap is_notice first.3;
              }

        took_now : (p : ℕ) → is_pair (length config) i p ≡ true → more.later (name_at config p) ≡ true → Heard config (done ++ e ∷ []) i p
        took_now p pair g = go (more.from (name_at config p) g)
          where
            go : (old.got (name_at config p) ≡ true) ⊎ ((q : ℕ) × (x : Message) × (name_at config p ≡ name_at config q) × (hap.input ≡ Taken q (Sent x))) → Heard config (done ++ e ∷ []) i p
            go (inl before) = heard_still p (old.took p pair before)
            go (inr (q, x, name, from)) =
                let other : is_pair (length config) i q ≡ true = subst (λ z. is_pair (length config) z q ≡ true) own (pair_there (losing_machine_of config) (bare w).world (bare v).world d hap q (Sent x) from) in
                let one : p ≡ q = same_place config apart p q (pair_second (length config) i p pair) (pair_second (length config) i q other) (ap (same_atom (name_at config p)) (sym name) ∙ atoms.refl (name_at config p)) in
                subst (λ z. Heard config (done ++ e ∷ []) i z) (sym one) (hears_now q x from)

        owns : Knows (done ++ e ∷ []) v
        owns = record { got = more.later; are = are_now; heard = λ p pair k. heard_now p pair (heard_by p k); took = took_now }

    by : Passed config (bare w) (bare v) e → Knows (done ++ e ∷ []) v
    by (Died j keep is there lives cut gone) = same_knows (ap (λ (z : World State (Noticed Message) Report). z.node i) (sym cut)) (λ name. ap (λ (z : World State (Noticed Message) Report). applied_by i name z.reported) (sym cut))
        (λ p one. let no : ◌≡◌ {A = LosingEvent Action} (Lose j keep) (Step (Take i p)) = sym is ∙ one in cc no)
    by (Went d is lives hap same) = go (cases_eq (node_of d) i)
      where
        go : (node_of d ≡ i) ⊎ (node_of d ≡ i → ⊥) → Knows (done ++ e ∷ []) v
        go (inl own) = owns d is lives hap own
        go (inr other) = others d is lives hap other

    knows_after : Knows (done ++ e ∷ []) v
    knows_after = by (passed config w v e h)

  start_knows : Knows [] (nobody_gone (start_of (losing_frame_machine config)))
  start_knows = record {
    got = λ q. false;
    are = record { tables = λ name. table_start config apart i name here; merged = λ q e. absurd (cc); other = λ q e _. absurd (cc) };
    heard = λ p pair k. absurd (nothing p k.after k.before k.is);
    took = λ p pair e. absurd (cc);
  }
    where
      nothing : (p : ℕ) (after before : List (LosingEvent Action)) → [] ≡ before ++ Step (Take i p) ∷ after → ⊥
      nothing p after [] is = absurd (cc)
      nothing p after (y ∷ before) is = absurd (cc)

  pub knows : (es : List (LosingEvent Action)) (w : LosingFrameWorld) → LosingReaches config es w → Knows es w
  knows es w l = kept_all config Knows (λ done u v e r h old. knows_after done u v e r h old) es w l start_knows

  -- what the table of the node is made of
  pub made_of : (es : List (LosingEvent Action)) (w : LosingFrameWorld) → LosingReaches config es w → MadeOf config es w i
  made_of es w l =
      let k = knows es w l in
      record { took = k.got; just = λ p pair. (k.took p pair, k.heard p pair); tables = k.are.tables }

  -- a formed node that heard each node whose loss it saw has what all began with, after the updates that it applied
  pub table_is : (es : List (LosingEvent Action)) (w : LosingFrameWorld) → LosingReaches config es w → formed (nodes_at config i) (w.world.node i).state ≡ true
      → ((p : ℕ) → is_pair (length config) i p ≡ true → (w.world.node i).state.lost (name_at config p) ≡ true → Heard config es i p)
      → (name : Term) → (w.world.node i).state.table name ≡ less (replay (base config name) (applied_by i name w.world.reported)) (w.world.node i).state.ended
  table_is es w l full heard name =
      k.are.tables name ∙ ap (λ v. less (replay v (applied_by i name w.world.reported)) (w.world.node i).state.ended) (knows_all config i (with_got k.got (w.world.node i).state) name (each_peer config i here k.got each))
    where
      k : Knows es w
      k = knows es w l

      each : (p : ℕ) → is_pair (length config) i p ≡ true → k.got (name_at config p) ≡ true
      each p pair = go ((w.world.node i).state.lost (name_at config p)) refl
        where
          go : (b : Bool) → (w.world.node i).state.lost (name_at config p) ≡ b → k.got (name_at config p) ≡ true
          go true seen = k.heard p pair (heard p pair seen)
          go false unseen = k.are.other (name_at config p)
              (all_merged config i (w.world.node i).state full p ((Decides-ltb p (length config)).0 (pair_second (length config) i p pair)) (pair_apart (length config) i p pair)) unseen
