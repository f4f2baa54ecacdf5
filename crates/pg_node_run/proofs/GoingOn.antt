-- How a node goes on, phase by phase.
use Rattle.std.proofs.Common.{◌≡◌, ◌<◌, ◌≤◌, ◌∙◌, ℕ, cond, get_or, length, List, []}
use Rattle.std.proofs.Common.{◌∷◌, ◌++◌, refl, ap, sym, subst, append_assoc, append-nil}
use Rattle.std.specs.Prelude.{slice_set, Bool, true, false, Option, Some, None, Result, Ok, Err, IfSome, IfNone}
use Rattle.std.proofs.lemmas.Bool.{eq-eqb, ne_eqb}
use Rattle.std.proofs.lemmas.Grind.{flat_map-append}
use Rattle.pg_node.specs.PgGroup.declared.table.GroupTable.{Ghosts}
use Rattle.pg_node.specs.PgNodeState.declared.state.fault.NodeFault.{NodeFault}
use Rattle.pg_node.specs.PgNodeState.Issued.{ports_of}
use Rattle.pg_node.specs.Nodes.{held_by}
use Rattle.pg_node.specs.PgNodeState.States.{names_of, answers_of}
use Rattle.pg_node_run.specs.declared.linked.LinkedNode.{LinkedNode}
use Rattle.pg_node_run.specs.declared.notices.Notice.{Notice}
use Rattle.pg_node_run.specs.declared.notices.Notices.{Notices}
use Rattle.pg_node_run.specs.declared.port.Port.{Port}
use Rattle.pg_node_run.specs.declared.run.NodeRun.{NodeRun}
use Rattle.pg_node.specs.PgRing.Slots.{SameSlotIn, taken}
use Rattle.pg_node_run.specs.Acts.{Act, Given, Took, Saw, Did, SawNone, loss_of, losses_of, seen_by, seen_in}
use Rattle.pg_node_run.specs.Events.{ActsOnce, TookNext, Acted, IsOfPeer}
use Rattle.pg_node_run.specs.Follows.{Follows, node_of, standing_of}
use Rattle.pg_node_run.specs.declared.port.Asked.{Asked}
use Rattle.pg_node_run.specs.Ports.{asked, handed, handed_count, asked_kept, SamePort, Hands}
use Rattle.pg_node_run.specs.Notices.{NoticesGo, inlet_of, kept_in, kept_of}
use Rattle.pg_node_run.specs.Runs.{Runs, linked_of, ports_at, notices_of}
use Rattle.pg_node_run.specs.Turns.{GoesOnSeeing, GoesOn, SeesOnce, ServesSeeing}
use Rattle.pg_node_run.specs.Turns.{Serves, ServesPort, commands_at, command_at}
use Rattle.pg_node_run.proofs.Following.{follows_itself, follows_on}
use Rattle.pg_node_run.proofs.Moving.{nil_first, nil_second}
use Rattle.pg_node_run.proofs.PortsGoing.{slot_in_on, Grows, answers_in, answers_grow, ports_wait, ports_follow_on}
use Rattle.pg_node_run.proofs.PortsGoing.{ports_set, port_gave_none, port_gave, port_kept, port_handed}
use Rattle.pg_node.specs.PgStep.declared.command.OpId.{OpId}
use Rattle.pg_node.specs.PgStep.declared.command.Command.{Command}
use Rattle.pg_node.specs.PgStep.Step.{Issue, Retry}

-- a packet is no command, and no loss
quiet_take : (peer place : ℕ) (input : Given) → IsOfPeer peer input → command_at place input ≡ []
quiet_take peer place (Took p x) of = refl
quiet_take peer place (Saw p last) of = absurd of
quiet_take peer place (Did action) of = absurd of

unseen_take : (peer : ℕ) (input : Given) → IsOfPeer peer input → seen_in input ≡ []
unseen_take peer (Took p x) of = refl
unseen_take peer (Saw p last) of = absurd of
unseen_take peer (Did action) of = absurd of

-- what two stretches saw, one after the other
seen_join : (first second : List Act) (losses losses2 : List Notice) → seen_by first ≡ losses → seen_by second ≡ losses2 → seen_by (first ++ second) ≡ losses ++ losses2
seen_join first second losses losses2 one two =
    flat_map-append (λ (act : Act). seen_in act.input) first second ∙ (ap (λ w. w ++ seen_by second) one ∙ ap (λ w. losses ++ w) two)

-- acts that saw no loss saw none of the peer at any place
one_unseen : (input : Given) → seen_in input ≡ [] → (place : ℕ) → loss_of place input ≡ []
one_unseen (Took p x) none place = refl
one_unseen (Saw p last) none place = absurd (cc)
one_unseen (Did action) none place = refl

pub seen_none : (acts : List Act) → seen_by acts ≡ [] → SawNone acts
seen_none [] none place = refl
seen_none (act ∷ acts) none place =
    ap (λ w. w ++ losses_of place acts) (one_unseen act.input (nil_first (seen_in act.input) (seen_by acts) none) place)
    ∙ seen_none acts (nil_second (seen_in act.input) (seen_by acts) none) place

-- ---- where notices come

-- nothing was told, and nothing seen
pub notices_stay : (a b : Notices) → inlet_of b ≡ inlet_of a → kept_of b ≡ kept_of a → NoticesGo [] a b
notices_stay a b same kept = record {
  same = subst (SameSlotIn (inlet_of a)) (sym same) ((refl, refl, refl, refl), refl);
  came = λ before was. ap taken same ∙ (was ∙ (ap (λ w. before ++ w) (sym kept) ∙ ap (λ w. w ++ kept_of b) (sym (append-nil before))));
}

pub notices_on : (losses losses2 : List Notice) (a b c : Notices) → NoticesGo losses a b → NoticesGo losses2 b c → NoticesGo (losses ++ losses2) a c
notices_on losses losses2 a b c h k = record {
  same = slot_in_on (inlet_of a) (inlet_of b) (inlet_of c) h.same k.same;
  came = λ before was. k.came (before ++ losses) (h.came before was) ∙ ap (λ w. w ++ kept_of c) (append_assoc before losses losses2);
}

-- the next notice came, or none
pub notices_look : (a b : Notices) (next : Option Notice) → SameSlotIn (inlet_of a) (inlet_of b) → kept_of a ≡ [] → kept_of b ≡ kept_in next
    → IfSome next (λ notice. taken (inlet_of b) ≡ taken (inlet_of a) ++ notice ∷ []) → IfNone next (taken (inlet_of b) ≡ taken (inlet_of a)) → NoticesGo [] a b
notices_look a b (Some notice) same none kept some no_more = record {
  same = same;
  came = λ before was. some ∙ (ap (λ w. w ++ notice ∷ []) (was ∙ ap (λ w. before ++ w) none) ∙ ap (λ w. (before ++ []) ++ w) (sym kept));
}
notices_look a b None same none kept some no_more = record {
  same = same;
  came = λ before was. no_more ∙ (was ∙ (ap (λ w. before ++ w) (none ∙ sym kept) ∙ ap (λ w. w ++ kept_of b) (sym (append-nil before))));
}

-- the loss of the next one was seen
pub notices_pass : (a b c : Notices) (notice : Notice) → NoticesGo [] a b → kept_of b ≡ notice ∷ [] → inlet_of c ≡ inlet_of b → kept_of c ≡ [] → NoticesGo (notice ∷ []) a c
notices_pass a b c notice h kept same none = record {
  same = subst (SameSlotIn (inlet_of a)) (sym same) h.same;
  came = λ before was.
      ap taken same ∙ (h.came before was ∙ (ap (λ w. (before ++ []) ++ w) kept ∙ (ap (λ w. w ++ notice ∷ []) (append-nil before)
      ∙ (sym (append-nil (before ++ notice ∷ [])) ∙ ap (λ w. (before ++ notice ∷ []) ++ w) (sym none)))));
}

module _ {T L I : Type 0} {g : Ghosts T} (accepts : L → List ℕ → L → Type 0) (gives : I → List ℕ → I → Type 0) where
  pub goes_by_none : (a b : LinkedNode T L I g) → Follows accepts gives [] a b → GoesOn accepts gives a b
  goes_by_none a b follows = record { acts = []; follows = follows; quiet = λ place. refl; seen = refl }

  pub goes_by_take : (peer : ℕ) (r : Result Bool NodeFault) (a b : LinkedNode T L I g) → TookNext accepts gives peer r a b → GoesOn accepts gives a b
  goes_by_take peer (Ok true) a b took = record {
    acts = took.act ∷ [];
    follows = took.follows;
    quiet = λ place. append-nil (command_at place took.act.input) ∙ quiet_take peer place took.act.input took.wanted;
    seen = append-nil (seen_in took.act.input) ∙ unseen_take peer took.act.input took.wanted;
  }
  goes_by_take peer (Ok false) a b took = goes_by_none a b took
  goes_by_take peer (Err fault) a b took = goes_by_none a b took

  pub goes_by_retry : (op : OpId) (r : Result (Unit {0}) NodeFault) (a b : LinkedNode T L I g) → Acted accepts gives (Did (Retry op)) r a b → GoesOn accepts gives a b
  goes_by_retry op (Ok done) a b acted = record {
    acts = acted.act ∷ [];
    follows = acted.follows;
    quiet = λ place. append-nil (command_at place acted.act.input) ∙ ap (λ input. command_at place input) acted.wanted;
    seen = append-nil (seen_in acted.act.input) ∙ ap seen_in acted.wanted;
  }
  goes_by_retry op (Err fault) a b acted = goes_by_none a b acted

  -- what came of a loss
  pub saw_it : (notice : Notice) (r : Result (Unit {0}) NodeFault) (a b : LinkedNode T L I g) (done : Unit {0}) → r ≡ Ok done
      → Acted accepts gives (Saw notice.peer notice.last) r a b → GoesOnSeeing accepts gives (notice ∷ []) a b
  saw_it notice r a b done ok acted =
      let acted2 : ActsOnce accepts gives (λ input. input ≡ Saw notice.peer notice.last) a b = subst (λ x. Acted accepts gives (Saw notice.peer notice.last) x a b) ok acted in record {
        acts = acted2.act ∷ [];
        follows = acted2.follows;
        quiet = λ place. append-nil (command_at place acted2.act.input) ∙ ap (λ input. command_at place input) acted2.wanted;
        seen = append-nil (seen_in acted2.act.input) ∙ ap seen_in acted2.wanted;
      }

  pub saw_nothing : (notice : Notice) (r : Result (Unit {0}) NodeFault) (a b : LinkedNode T L I g) (fault : NodeFault) → r ≡ Err fault
      → Acted accepts gives (Saw notice.peer notice.last) r a b → GoesOn accepts gives a b
  saw_nothing notice r a b fault err acted = goes_by_none a b (subst (λ x. Acted accepts gives (Saw notice.peer notice.last) x a b) err acted)

  module _ (link_rests : (a : L) → accepts a [] a) (inlet_rests : (a : I) → gives a [] a) where
    pub goes_itself : (a : LinkedNode T L I g) → GoesOn accepts gives a a
    goes_itself a = goes_by_none a a (follows_itself accepts gives link_rests inlet_rests a)

  grows_of : (acts : List Act) (a b : LinkedNode T L I g) → Follows accepts gives acts a b → (place : ℕ)
      → Grows (answers_in place acts) (answers_of (held_by (node_of a)) place) (answers_of (held_by (node_of b)) place)
  grows_of acts a b follows = answers_grow (names_of (held_by (node_of a))) (ports_of (held_by (node_of a))) (standing_of (node_of a)) acts (standing_of (node_of b)) follows.lead

  module _ (link_composes : (a b c : L) (xs ys : List ℕ) → accepts a xs b → accepts b ys c → accepts a (xs ++ ys) c)
      (inlet_composes : (a b c : I) (xs ys : List ℕ) → gives a xs b → gives b ys c → gives a (xs ++ ys) c) where
    pub goes_seeing_on : (losses losses2 : List Notice) (a b c : LinkedNode T L I g) → GoesOnSeeing accepts gives losses a b → GoesOnSeeing accepts gives losses2 b c
        → GoesOnSeeing accepts gives (losses ++ losses2) a c
    goes_seeing_on losses losses2 a b c h k = record {
      acts = h.acts ++ k.acts;
      follows = follows_on accepts gives link_composes inlet_composes h.acts k.acts a b c h.follows k.follows;
      quiet = λ place. flat_map-append (λ (act : Act). command_at place act.input) h.acts k.acts ∙ (ap (λ w. w ++ commands_at place k.acts) (h.quiet place) ∙ k.quiet place);
      seen = seen_join h.acts k.acts losses losses2 h.seen k.seen;
    }

    pub goes_on : (a b c : LinkedNode T L I g) → GoesOn accepts gives a b → GoesOn accepts gives b c → GoesOn accepts gives a c
    goes_on a b c h k = goes_seeing_on [] [] a b c h k

    -- behind a stretch in which no loss was seen
    pub sees_after : (notice : Notice) (r : Result Bool NodeFault) (a b c : LinkedNode T L I g) → GoesOn accepts gives a b → SeesOnce accepts gives notice r b c
        → SeesOnce accepts gives notice r a c
    sees_after notice (Ok true) a b c h sees = goes_seeing_on [] (notice ∷ []) a b c h sees
    sees_after notice (Ok false) a b c h sees = goes_on a b c h sees
    sees_after notice (Err fault) a b c h sees = goes_on a b c h sees

    pub serves_seeing_on : (losses losses2 : List Notice) (a b c : LinkedNode T L I g) (x y z : List Port)
        → ServesSeeing accepts gives losses a x b y → ServesSeeing accepts gives losses2 b y c z → ServesSeeing accepts gives (losses ++ losses2) a x c z
    serves_seeing_on losses losses2 a b c x y z h k = record {
      acts = h.acts ++ k.acts;
      follows = follows_on accepts gives link_composes inlet_composes h.acts k.acts a b c h.follows k.follows;
      served = ports_follow_on h.acts k.acts (answers_of (held_by (node_of a))) (answers_of (held_by (node_of b))) (answers_of (held_by (node_of c))) x y z (grows_of h.acts a b h.follows) h.served k.served;
      seen = seen_join h.acts k.acts losses losses2 h.seen k.seen;
    }

    pub serves_on : (a b c : LinkedNode T L I g) (x y z : List Port) → Serves accepts gives a x b y → Serves accepts gives b y c z → Serves accepts gives a x c z
    serves_on a b c x y z h k = serves_seeing_on [] [] a b c x y z h k

  -- where no command came in, the ports wait
  pub serves_seeing : (losses : List Notice) (a b : LinkedNode T L I g) (ports : List Port) → GoesOnSeeing accepts gives losses a b → ServesSeeing accepts gives losses a ports b ports
  serves_seeing losses a b ports going = record {
    acts = going.acts;
    follows = going.follows;
    served = ports_wait going.acts (answers_of (held_by (node_of a))) (answers_of (held_by (node_of b))) ports going.quiet
        (answers_grow (names_of (held_by (node_of a))) (ports_of (held_by (node_of a))) (standing_of (node_of a)) going.acts (standing_of (node_of b)) going.follows.lead);
    seen = going.seen;
  }

  pub serves_going : (a b : LinkedNode T L I g) (ports : List Port) → GoesOn accepts gives a b → Serves accepts gives a ports b ports
  serves_going a b ports going = serves_seeing [] a b ports going

  -- what one port gave
  pub serves_one : (a b : LinkedNode T L I g) (ports : List Port) (k : ℕ) (port port2 : Port) → k < length ports → port ≡ get_or ports k port
      → ServesPort accepts gives k a port b port2 → Serves accepts gives a ports b (slice_set ports k port2)
  serves_one a b ports k port port2 within is serves = record {
    acts = serves.acts;
    follows = serves.follows;
    served = ports_set serves.acts (answers_of (held_by (node_of a))) (answers_of (held_by (node_of b))) ports k port port2 within is serves.served serves.quiet
        (answers_grow (names_of (held_by (node_of a))) (ports_of (held_by (node_of a))) (standing_of (node_of a)) serves.acts (standing_of (node_of b)) serves.follows.lead);
    seen = serves.seen;
  }

  pub served_none : ((a : L) → accepts a [] a) → ((a : I) → gives a [] a) → (place : ℕ) (a : LinkedNode T L I g) (port port2 : Port) → SamePort port port2
      → ((before : List Asked) → asked port ≡ before ++ asked_kept port → asked port2 ≡ before ++ asked_kept port2) → handed port2 ≡ handed port
      → handed_count port2 ≡ handed_count port → ServesPort accepts gives place a port a port2
  served_none link_rests inlet_rests place a port port2 same came out count = record {
    acts = [];
    follows = follows_itself accepts gives link_rests inlet_rests a;
    served = port_gave_none place (answers_of (held_by (node_of a)) place) port port2 same came out count;
    quiet = λ other apart. refl;
    seen = refl;
  }

  -- what came of the command that a port gave
  pub served_command : (place : ℕ) (next : Asked) (r : Result (Unit {0}) (NodeFault × Command)) (a b : LinkedNode T L I g) (port m : Port)
      → SamePort port m → ((before : List Asked) → asked port ≡ before ++ asked_kept port → asked m ≡ before ++ next ∷ []) → asked_kept m ≡ []
      → handed m ≡ handed port → handed_count m ≡ handed_count port → next.polled ≤ handed_count m → (done : Unit {0}) → r ≡ Ok done → Acted accepts gives (Did (Issue place next.command)) r a b
      → ServesPort accepts gives place a port b m
  served_command place next r a b port m same came none out count waited done ok acted =
      let acted2 : ActsOnce accepts gives (λ input. input ≡ Did (Issue place next.command)) a b = subst (λ x. Acted accepts gives (Did (Issue place next.command)) x a b) ok acted in record {
        acts = acted2.act ∷ [];
        follows = acted2.follows;
        served = port_gave place acted2.act (answers_of (held_by (node_of a)) place) (answers_of (held_by (node_of b)) place) next port m same came none out count waited
            (ap (λ input. command_at place input) acted2.wanted ∙ ap (λ b. cond b (next.command ∷ []) []) (eq-eqb place place refl))
            (grows_of (acted2.act ∷ []) a b acted2.follows place);
        quiet = λ other apart. append-nil (command_at other acted2.act.input) ∙ (ap (λ input. command_at other input) acted2.wanted
            ∙ ap (λ b. cond b (next.command ∷ []) []) (ne_eqb place other (λ e. apart (sym e))));
        seen = append-nil (seen_in acted2.act.input) ∙ ap seen_in acted2.wanted;
      }

  pub served_kept : (place : ℕ) (next : Asked) (back : NodeFault × Command) (r : Result (Unit {0}) (NodeFault × Command)) (a b : LinkedNode T L I g) (port m port2 : Port)
      → SamePort port m → ((before : List Asked) → asked port ≡ before ++ asked_kept port → asked m ≡ before ++ next ∷ [])
      → handed m ≡ handed port → handed_count m ≡ handed_count port → r ≡ Err back → Acted accepts gives (Did (Issue place next.command)) r a b
      → SamePort m port2 → asked port2 ≡ asked m → asked_kept port2 ≡ next ∷ [] → handed port2 ≡ handed m → handed_count port2 ≡ handed_count m
      → ServesPort accepts gives place a port b port2
  served_kept place next back r a b port m port2 same came out count err acted same2 still kept out2 count2 =
      let follows : Follows accepts gives [] a b = subst (λ x. Acted accepts gives (Did (Issue place next.command)) x a b) err acted in record {
        acts = [];
        follows = follows;
        served = port_kept place (answers_of (held_by (node_of a)) place) (answers_of (held_by (node_of b)) place) next port m port2 same same2 came still kept out count out2 count2 (grows_of [] a b follows place);
        quiet = λ other apart. refl;
        seen = refl;
      }

  -- answers were handed over at one port
  pub served_handed : ((a : L) → accepts a [] a) → ((a : I) → gives a [] a) → (a : LinkedNode T L I g) (ports : List Port) (k : ℕ) (port port2 : Port) → k < length ports → port ≡ get_or ports k port
      → Hands (answers_of (held_by (node_of a)) k) port port2 → Serves accepts gives a ports a (slice_set ports k port2)
  served_handed link_rests inlet_rests a ports k port port2 within is hands = serves_one a a ports k port port2 within is (record {
    acts = [];
    follows = follows_itself accepts gives link_rests inlet_rests a;
    served = port_handed k (answers_of (held_by (node_of a)) k) port port2 hands;
    quiet = λ other apart. refl;
    seen = refl;
  })

-- ---- turns

module _ {T L I : Type 0} {g : Ghosts T} (accepts : L → List ℕ → L → Type 0) (gives : I → List ℕ → I → Type 0)
    (link_composes : (a b c : L) (xs ys : List ℕ) → accepts a xs b → accepts b ys c → accepts a (xs ++ ys) c)
    (inlet_composes : (a b c : I) (xs ys : List ℕ) → gives a xs b → gives b ys c → gives a (xs ++ ys) c) where
  -- the phases of a turn, of which the second may see a loss
  pub serves_turn : (losses : List Notice) (a b c d e f : LinkedNode T L I g) (p q r : List Port) → GoesOn accepts gives a b → GoesOnSeeing accepts gives losses b c
      → Serves accepts gives c p d q → GoesOn accepts gives d e → GoesOn accepts gives e f → Serves accepts gives f q f r → ServesSeeing accepts gives losses a p f r
  serves_turn losses a b c d e f p q r took saw commanded retried put handed =
      let on = serves_on accepts gives link_composes inlet_composes in
      let later : Serves accepts gives c p f r = on c d f p q r commanded (on d e f q q r (serves_going accepts gives d e q retried) (on e f f q q r (serves_going accepts gives e f q put) handed)) in
      subst (λ ls. ServesSeeing accepts gives ls a p f r) (append-nil losses)
      (serves_seeing_on accepts gives link_composes inlet_composes [] (losses ++ []) a b f p p r (serves_going accepts gives a b p took)
      (serves_seeing_on accepts gives link_composes inlet_composes losses [] b c f p p r (serves_seeing accepts gives losses b c p saw) later))

module _ {T L I K : Type 0} {g : Ghosts T} (accepts : L → List ℕ → L → Type 0) (gives : I → List ℕ → I → Type 0)
    (link_composes : (a b c : L) (xs ys : List ℕ) → accepts a xs b → accepts b ys c → accepts a (xs ++ ys) c)
    (inlet_composes : (a b c : I) (xs ys : List ℕ) → gives a xs b → gives b ys c → gives a (xs ++ ys) c) where
  -- one stretch of turns after another
  pub runs_on : (a b c : NodeRun T L I K g) → Runs accepts gives a b → Runs accepts gives b c → Runs accepts gives a c
  runs_on a b c h k = record {
    losses = h.losses ++ k.losses;
    serves = serves_seeing_on accepts gives link_composes inlet_composes h.losses k.losses (linked_of a) (linked_of b) (linked_of c) (ports_at a) (ports_at b) (ports_at c) h.serves k.serves;
    told = notices_on h.losses k.losses (notices_of a) (notices_of b) (notices_of c) h.told k.told;
  }
