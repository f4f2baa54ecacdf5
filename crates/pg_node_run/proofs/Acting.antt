-- What one event of a node makes of it and of its links.
use Rattle.std.proofs.Common.{◌≡◌, ◌≢◌, ◌⊎◌, ◌∙◌, ℕ, cond, List, [], ◌∷◌, ◌++◌}
use Rattle.std.proofs.Common.{refl, sym, ap, subst, inl, inr, append-nil}
use Rattle.std.proofs.lemmas.Bool.{cases_eq}
use Rattle.std.specs.Prelude.{Bool, true, false, ◌||◌, ◌+◌, Result, Ok, Err, Option}
use Rattle.pg_node.specs.PgGroup.declared.table.GroupTable.{Ghosts}
use Rattle.pg_node.specs.PgStep.Machines.Clocked.{Timed}
use Rattle.pg_node.specs.PgNodeSends.contracts.framing.FramedOutgoing.TheImpl as frames
use Rattle.pg_node.specs.PgNodeSends.Dones.{FramedDone}
use Rattle.pg_node.specs.PgNodeState.declared.state.fault.NodeFault.{NodeFault}
use Rattle.pg_node.specs.PgNodeState.declared.state.fault.NodeFault.TheVariants.{Refused, OutOfMemory}
use Rattle.pg_node.specs.PgNodeState.declared.state.fault.NodeFault.TheVariants.{TooLong, Message, Damaged}
use Rattle.pg_node.specs.PgNodeState.Issued.{ports_of}
use Rattle.pg_node.specs.Bytes.{damages, marked}
use Rattle.pg_node.specs.PgNodeSends.Frames.{frames_to}
use Rattle.pg_node.specs.Links.{Link, at_link}
use Rattle.pg_node.specs.Nodes.{held_by, links_of, step_link}
use Rattle.pg_node.specs.PgNodeState.States.{names_of, state_of, answers_of, Happens, Comes}
use Rattle.pg_node_run.specs.declared.linked.LinkedNode.{LinkedNode}
use Rattle.pg_node_run.specs.Acts.{Act, Standing, ActLeads, event_of, is_from, losses_of}
use Rattle.pg_node.specs.PgNodeOpens.Places.{name_at, whole_in}
use Rattle.pg_node_run.specs.Events.{IsRefusedAs, IsFault, told_of_peer}
use Rattle.pg_node_run.specs.Follows.{Follows, HaveMoved, WasMarked, node_of, peers_of, log_of, standing_of}
use Rattle.pg_node_run.proofs.Moving.{Closes, act_moved, peers_kept, unmoved, link_there, link_else}
use Rattle.pg_node.specs.PgStep.declared.answer.Answer.{Answer}
use Rattle.pg_node.specs.PgStep.declared.refusal.Refusal.{Refusal}
use Rattle.pg_node.specs.PgStep.declared.refusal.Refusal.TheVariants.{NodeLost}
use Rattle.pg_node.specs.PgStep.Nodes.{Node as Name}
use Rattle.pg_node.specs.PgStep.State.{State}
use Rattle.pg_node.specs.PgStep.Step.{TimedTurn}

-- ---- what is told of an event

-- it happened by a turn of the step
pub record HappenedBy (names : List Name) (told : Result TimedTurn Refusal) (done : FramedDone) (s : Timed State) (before after : ℕ → List Answer) : Type 0 where
  pub turn : TimedTurn
  pub made : told ≡ Ok turn
  pub happens : Happens names turn done s before after

pub happened_by : (names : List Name) (told : Result TimedTurn Refusal) (done : FramedDone) (s : Timed State) (before after : ℕ → List Answer)
    → Comes names told (Ok done) s before after → HappenedBy names told done s before after
happened_by names (Ok turn) done s before after came = record { turn = turn; made = refl; happens = came }
happened_by names (Err refusal) done s before after came = absurd (cc)

pub refused_as : (names : List Name) (told : Result TimedTurn Refusal) (fault : NodeFault) (s : Timed State) (before after : ℕ → List Answer)
    → Comes {h = frames.ghosts} names told (Err fault) s before after → IsRefusedAs told fault
refused_as names told OutOfMemory s before after came = tt
refused_as names (Err refusal) (Refused other) s before after came = cc
refused_as names (Err refusal) (Message other) s before after came = cc
refused_as names (Err refusal) TooLong s before after came = cc
refused_as names (Err refusal) Damaged s before after came = cc
refused_as names (Ok turn) (Refused other) s before after came = came
refused_as names (Ok turn) (Message other) s before after came = came
refused_as names (Ok turn) TooLong s before after came = came
refused_as names (Ok turn) Damaged s before after came = came

abbrev standing : Timed State → (ℕ → List Answer) → Standing
standing s x = record { state = s; answers = x }

alike : (s t : Timed State) (x y : ℕ → List Answer) → s ≡ t → x ≡ y → standing s x ≡ standing t y
alike s t x y e f = ap (λ (u : Timed State). standing u x) e ∙ ap (λ (w : ℕ → List Answer). standing t w) f

-- the peer is lost
pub told_lost : (lost : Bool) (r : Result (Option TimedTurn) NodeFault) → lost ≡ true → cond lost (Err (Refused NodeLost)) r ≡ Err (Refused NodeLost)
told_lost lost r gone = ap (λ b. cond b (Err (Refused NodeLost)) r) gone

-- ---- a link that was marked

marked_outbox : (k : ℕ) (fault : NodeFault) (links : ℕ → Link) (place : ℕ) → (at_link k (λ l. marked l fault) links place).outbox ≡ (links place).outbox
marked_outbox k fault links place = go (cases_eq place k)
  where
    go : (place ≡ k) ⊎ (place ≢ k) → (at_link k (λ l. marked l fault) links place).outbox ≡ (links place).outbox
    go (inl e) = subst (λ j. (at_link k (λ l. marked l fault) links j).outbox ≡ (links j).outbox) (sym e) (ap (λ (l : Link). l.outbox) (link_there k (λ l. marked l fault) links))
    go (inr n) = ap (λ (l : Link). l.outbox) (link_else k place (λ l. marked l fault) links n)

marked_unread : (k : ℕ) (fault : NodeFault) (links : ℕ → Link) (place : ℕ) → (at_link k (λ l. marked l fault) links place).unread ≡ (links place).unread
marked_unread k fault links place = go (cases_eq place k)
  where
    go : (place ≡ k) ⊎ (place ≢ k) → (at_link k (λ l. marked l fault) links place).unread ≡ (links place).unread
    go (inl e) = subst (λ j. (at_link k (λ l. marked l fault) links j).unread ≡ (links j).unread) (sym e) (ap (λ (l : Link). l.unread) (link_there k (λ l. marked l fault) links))
    go (inr n) = ap (λ (l : Link). l.unread) (link_else k place (λ l. marked l fault) links n)

or_true : (b : Bool) → (b || true) ≡ true
or_true true = refl
or_true false = refl

or_false : (b : Bool) → (b || false) ≡ b
or_false true = refl
or_false false = refl

-- a mark lasts where another is made
marked_lasts : (k : ℕ) (fault : NodeFault) (links : ℕ → Link) (place : ℕ) → (links place).damaged ≡ true → (at_link k (λ l. marked l fault) links place).damaged ≡ true
marked_lasts k fault links place damaged = go (cases_eq place k)
  where
    go : (place ≡ k) ⊎ (place ≢ k) → (at_link k (λ l. marked l fault) links place).damaged ≡ true
    go (inl e) =
        subst (λ j. (at_link k (λ l. marked l fault) links j).damaged ≡ true) (sym e)
        (ap (λ (l : Link). l.damaged) (link_there k (λ l. marked l fault) links)
        ∙ (ap (λ b. damages fault || b) (subst (λ j. (links j).damaged ≡ true) e damaged) ∙ or_true (damages fault)))
    go (inr n) = ap (λ (l : Link). l.damaged) (link_else k place (λ l. marked l fault) links n) ∙ damaged

-- a fault that damages the link is the one that the step tells
fault_told : (told : Result (Option TimedTurn) NodeFault) (fault : NodeFault) → damages fault ≡ true → IsFault told fault → told ≡ Err fault
fault_told told OutOfMemory harm is = absurd (cc)
fault_told told (Refused other) harm is = is
fault_told told (Message other) harm is = is
fault_told told TooLong harm is = is
fault_told told Damaged harm is = is

-- a link at which a mark is made is damaged from before, or by the fault that was told
marked_by : (names : List Name) (ports k : ℕ) (fault : NodeFault) (links : ℕ → Link) (a b : Standing) → b ≡ a
    → IsFault (step_link (whole_in names) (name_at names (k + 1)) (links k) a.state) fault → (place : ℕ) → (at_link k (λ l. marked l fault) links place).damaged ≡ true
    → ((links place).damaged ≡ true) ⊎ WasMarked names ports place [] a b (at_link k (λ l. marked l fault) links place).unread
marked_by names ports k fault links a b same told place damaged = go (cases_eq place k)
  where
    by_it : (was : Bool) → (links k).damaged ≡ was → (at_link k (λ l. marked l fault) links k).damaged ≡ true
        → ((links k).damaged ≡ true) ⊎ WasMarked names ports k [] a b (at_link k (λ l. marked l fault) links k).unread
    by_it true is damaged = inl is
    by_it false is damaged =
        let harm : damages fault ≡ true =
        sym (ap (λ (l : Link). l.damaged) (link_there k (λ l. marked l fault) links) ∙ (ap (λ b. damages fault || b) is ∙ or_false (damages fault))) ∙ damaged in
        inr (record {
          before = [];
          after = [];
          cut = refl;
          middle = a;
          led = refl;
          rest = same;
          untaken = refl;
          left = (links k).unread;
          later = [];
          came = marked_unread k fault links k ∙ sym (append-nil (links k).unread);
          fault = fault;
          told = sym (ap (λ d. step_link (whole_in names) (name_at names (k + 1)) (record { unread = (links k).unread; outbox = []; damaged = d }) a.state) is)
              ∙ fault_told (step_link (whole_in names) (name_at names (k + 1)) (links k) a.state) fault harm told;
          marks = harm;
        })

    go : (place ≡ k) ⊎ (place ≢ k) → ((links place).damaged ≡ true) ⊎ WasMarked names ports place [] a b (at_link k (λ l. marked l fault) links place).unread
    go (inl e) =
        subst (λ j. ((links j).damaged ≡ true) ⊎ WasMarked names ports j [] a b (at_link k (λ l. marked l fault) links j).unread) (sym e)
        (by_it (links k).damaged refl (subst (λ j. (at_link k (λ l. marked l fault) links j).damaged ≡ true) e damaged))
    go (inr n) = inl (sym (ap (λ (l : Link). l.damaged) (link_else k place (λ l. marked l fault) links n)) ∙ damaged)

-- ---- one act

module _ {T L I : Type 0} {g : Ghosts T} (accepts : L → List ℕ → L → Type 0) (gives : I → List ℕ → I → Type 0)
    (link_rests : (a : L) → accepts a [] a) (inlet_rests : (a : I) → gives a [] a) where
  pub acts_once : (a b : LinkedNode T L I g) (act : Act)
      → names_of (held_by (node_of b)) ≡ names_of (held_by (node_of a)) → ports_of (held_by (node_of b)) ≡ ports_of (held_by (node_of a))
      → ActLeads (names_of (held_by (node_of a))) (ports_of (held_by (node_of a))) (standing_of (node_of a)) act (standing_of (node_of b))
      → log_of b ≡ log_of a ++ ((state_of (held_by (node_of b))).clock, event_of act.input) ∷ [] → peers_of b ≡ peers_of a
      → ((place : ℕ) → losses_of place (act ∷ []) ≡ [] → (links_of (node_of b) place).outbox ≡ (links_of (node_of a) place).outbox ++ frames_to act.sends place)
      → ((place : ℕ) → Closes place act (links_of (node_of b) place))
      → ((place : ℕ) → (links_of (node_of a) place).unread ≡ cond (is_from place act.input) act.came [] ++ (links_of (node_of b) place).unread)
      → ((place : ℕ) → (links_of (node_of b) place).damaged ≡ (links_of (node_of a) place).damaged)
      → ((place : ℕ) → (links_of (node_of a) place).damaged ≡ true → cond (is_from place act.input) act.came [] ≡ [])
      → Follows accepts gives (act ∷ []) a b
  acts_once a b act names ports leads log peers out shut came marks still = record {
    names = names;
    ports = ports;
    lead = (standing_of (node_of b), leads, refl);
    log = log ∙ ap (λ (s : Timed State). log_of a ++ (s.clock, event_of act.input) ∷ []) leads.state;
    moved = subst (λ ps. HaveMoved accepts gives (act ∷ []) (links_of (node_of a)) (links_of (node_of b)) (peers_of a) ps) (sym peers)
        (peers_kept accepts gives (act ∷ []) (links_of (node_of a)) (links_of (node_of b)) (peers_of a)
        (λ place other. act_moved accepts gives link_rests inlet_rests place act (links_of (node_of a) place) (links_of (node_of b) place) other
        (λ none. out place none ∙ ap (λ w. (links_of (node_of a) place).outbox ++ w) (sym (append-nil (frames_to act.sends place))))
        (shut place)
        (came place ∙ ap (λ w. w ++ (links_of (node_of b) place).unread) (sym (append-nil (cond (is_from place act.input) act.came []))))
        (λ damaged. marks place ∙ damaged) (λ damaged. append-nil (cond (is_from place act.input) act.came []) ∙ still place damaged)));
    marked = λ place low damaged. inl (sym (marks place) ∙ damaged);
  }

  -- ---- no act

  -- nothing is seen to have changed, whatever memory was got
  pub nothing_done : (a b : LinkedNode T L I g) → names_of (held_by (node_of b)) ≡ names_of (held_by (node_of a)) → ports_of (held_by (node_of b)) ≡ ports_of (held_by (node_of a))
      → state_of (held_by (node_of b)) ≡ state_of (held_by (node_of a)) → answers_of (held_by (node_of b)) ≡ answers_of (held_by (node_of a))
      → log_of b ≡ log_of a → peers_of b ≡ peers_of a → links_of (node_of b) ≡ links_of (node_of a) → Follows accepts gives [] a b
  nothing_done a b names ports state answers log peers links = record {
    names = names;
    ports = ports;
    lead = alike (state_of (held_by (node_of b))) (state_of (held_by (node_of a))) (answers_of (held_by (node_of b))) (answers_of (held_by (node_of a))) state answers;
    log = log ∙ sym (append-nil (log_of a));
    moved = subst (λ ps. HaveMoved accepts gives [] (links_of (node_of a)) (links_of (node_of b)) (peers_of a) ps) (sym peers)
        (peers_kept accepts gives [] (links_of (node_of a)) (links_of (node_of b)) (peers_of a)
        (λ place other. unmoved accepts gives link_rests inlet_rests place (links_of (node_of a) place) (links_of (node_of b) place) other
        (ap (λ (ls : ℕ → Link). (ls place).outbox) links) (ap (λ (ls : ℕ → Link). (ls place).unread) links) (λ damaged. ap (λ (ls : ℕ → Link). (ls place).damaged) links ∙ damaged)));
    marked = λ place low damaged. inl (sym (ap (λ (ls : ℕ → Link). (ls place).damaged) links) ∙ damaged);
  }

  -- the same where the node over packets is the same
  pub nothing_held : (a b : LinkedNode T L I g) → held_by (node_of b) ≡ held_by (node_of a) → log_of b ≡ log_of a → peers_of b ≡ peers_of a
      → links_of (node_of b) ≡ links_of (node_of a) → Follows accepts gives [] a b
  nothing_held a b held log peers links = nothing_done a b (ap names_of held) (ap ports_of held) (ap state_of held) (ap answers_of held) log peers links

  -- nothing but a fault is seen, which was told of the peer at a place
  pub fault_done : (a b : LinkedNode T L I g) (k : ℕ) (fault : NodeFault) → names_of (held_by (node_of b)) ≡ names_of (held_by (node_of a)) → ports_of (held_by (node_of b)) ≡ ports_of (held_by (node_of a))
      → state_of (held_by (node_of b)) ≡ state_of (held_by (node_of a)) → answers_of (held_by (node_of b)) ≡ answers_of (held_by (node_of a))
      → log_of b ≡ log_of a → peers_of b ≡ peers_of a → links_of (node_of b) ≡ at_link k (λ l. marked l fault) (links_of (node_of a)) → IsFault (told_of_peer (node_of a) k) fault
      → Follows accepts gives [] a b
  fault_done a b k fault names ports state answers log peers links told =
      let same = alike (state_of (held_by (node_of b))) (state_of (held_by (node_of a))) (answers_of (held_by (node_of b))) (answers_of (held_by (node_of a))) state answers in record {
        names = names;
        ports = ports;
        lead = same;
        log = log ∙ sym (append-nil (log_of a));
        moved = subst (λ ps. HaveMoved accepts gives [] (links_of (node_of a)) (links_of (node_of b)) (peers_of a) ps) (sym peers)
            (peers_kept accepts gives [] (links_of (node_of a)) (links_of (node_of b)) (peers_of a)
            (λ place other. unmoved accepts gives link_rests inlet_rests place (links_of (node_of a) place) (links_of (node_of b) place) other
            (ap (λ (ls : ℕ → Link). (ls place).outbox) links ∙ marked_outbox k fault (links_of (node_of a)) place)
            (ap (λ (ls : ℕ → Link). (ls place).unread) links ∙ marked_unread k fault (links_of (node_of a)) place)
            (λ damaged. ap (λ (ls : ℕ → Link). (ls place).damaged) links ∙ marked_lasts k fault (links_of (node_of a)) place damaged)));
        marked = λ place low.
            subst
            (λ (ls : ℕ → Link). (ls place).damaged ≡ true → ((links_of (node_of a) place).damaged ≡ true)
            ⊎ WasMarked (names_of (held_by (node_of a))) (ports_of (held_by (node_of a))) place [] (standing_of (node_of a)) (standing_of (node_of b)) (ls place).unread) (sym links)
            (marked_by (names_of (held_by (node_of a))) (ports_of (held_by (node_of a))) k fault (links_of (node_of a)) (standing_of (node_of a)) (standing_of (node_of b)) same told place);
      }

-- a log that got room, and then an entry
pub log_after : {E : Type 0} (l m r x : List E) → r ≡ m ++ x → m ≡ l → r ≡ l ++ x
log_after l m r x e f = e ∙ ap (λ w. w ++ x) f
