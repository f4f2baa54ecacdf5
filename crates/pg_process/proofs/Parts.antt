-- What a deed makes of the node, of the links and of the ports, each by itself, and what two of them make one after the other.
use Rattle.std.proofs.Common.{◌≡◌, ◌≢◌, ◌⊎◌, ◌∙◌, ℕ, Bool, true, false, cond, nat_eq, length, take, drop, List, [], ◌∷◌, ◌++◌, Option, Some, None, inl, inr, refl, sym, ap}
use Rattle.std.proofs.Common.{subst, append-nil, append_assoc, take-append-drop, arith, length-append, option_to_list}
use Rattle.std.specs.Prelude.{◌||◌}
use Rattle.std.proofs.lemmas.List.Concat.{flat_map-append}
use Rattle.std.proofs.lemmas.Bool.{cases_eq, eq-eqb, ne_eqb}
use Rattle.pg_node.specs.Bytes.{damages, marked, passed}
use Rattle.pg_node.specs.Links.{Link, at_link, without_front}
use Rattle.pg_node.specs.Nodes.{sent_out}
use Rattle.pg_node.specs.PgGroup.Functions.{upd}
use Rattle.pg_node.specs.PgNodeSends.Frames.{frames_to}
use Rattle.pg_node.specs.PgNodeState.States.{Gave, left_at}
use Rattle.pg_node.specs.PgNodeState.declared.state.fault.NodeFault.{NodeFault}
use Rattle.pg_node.specs.PgStep.Machines.Clocked.{Timed as AtClock}
use Rattle.pg_node.specs.PgStep.Nodes.{Node}
use Rattle.pg_node.specs.PgStep.State.{Response, State}
use Rattle.pg_node.specs.PgStep.Step.{Action}
use Rattle.pg_node.specs.PgStep.declared.answer.Answer.{Answer}
use Rattle.pg_node.specs.PgStep.declared.command.Command.{Command}
use Rattle.pg_node.specs.PgStep.declared.command.OpId.{OpId}
use Rattle.pg_node_process.specs.Desks.{Answered as Closed, Handed as Opened, Happening, Port, port_after, port_at_last, all_out, handed_by, let_out, rest_by}
use Rattle.pg_node_process.specs.declared.desk.Numbered.{Numbered}
use Rattle.pg_node_run.specs.Acts.{Act, ActLeads, Did, Given, Saw, Standing, frames_sent, frames_taken, is_from, Took as TookPacket}
use Rattle.pg_node_run.proofs.Moving.{link_else}
use Rattle.pg_process.specs.Accounts.{AnswersGo, AreInTurn, BytesCame, BytesWent, GiveAt, GivesAt, PortGoes, StatesLead, at_this, HandsGo, issued_in, issued_of, taken_of}
use Rattle.pg_process.specs.Deeds.{IsOf, fed_by}
use Rattle.pg_process.specs.Situations.{Setting, at_place, own_of}

-- ---- what changes at one place

-- what holds where the change is, and where nothing is
at_one : {X V : Type 0} (R : List X → V → V → Type 0) (this place : ℕ) (xs : List X) (change : V → V) (vs : ℕ → V)
    → R xs (vs place) (change (vs place)) → R [] (vs this) (vs this) → R (at_this this place xs) (vs this) (at_place place change vs this)
unfolding upd
at_one R this place xs change vs here there = go (cases_eq this place)
  where
    go : (this ≡ place) ⊎ (this ≢ place) → R (at_this this place xs) (vs this) (at_place place change vs this)
    go (inl e) =
        subst (λ j. R (at_this j place xs) (vs j) (at_place place change vs j)) (sym e)
        (subst (λ (b : Bool). R (cond b xs []) (vs place) (cond b (change (vs place)) (vs place))) (sym (eq-eqb place place refl)) here)
    go (inr n) =
        subst (λ (b : Bool). R (cond b xs []) (vs this) (cond b (change (vs place)) (vs this))) (sym (ne_eqb place this (λ e. n (sym e)))) there

-- what holds by whether a place is this one
pub at_bool : (P : Bool → ℕ → Type 0) (this place : ℕ) → P true place → P false this → P (nat_eq place this) this
at_bool P this place here there = go (cases_eq this place)
  where
    go : (this ≡ place) ⊎ (this ≢ place) → P (nat_eq place this) this
    go (inl e) = subst (λ j. P (nat_eq place j) j) (sym e) (subst (λ (b : Bool). P b place) (sym (eq-eqb place place refl)) here)
    go (inr n) = subst (λ (b : Bool). P b this) (sym (ne_eqb place this (λ e. n (sym e)))) there

-- two equations of lists, one behind the other
seam : {A : Type 0} (a f p m q c s : List A) → a ++ f ≡ p ++ m → m ++ q ≡ c ++ s → a ++ (f ++ q) ≡ (p ++ c) ++ s
seam a f p m q c s one two = sym (append_assoc a f q) ∙ (ap (λ w. w ++ q) one ∙ (append_assoc p m q ∙ (ap (λ w. p ++ w) two ∙ sym (append_assoc p c s))))

not_both : (b : Bool) → b ≡ true → b ≡ false → ⊥
not_both true h k = cc
not_both false h k = cc

-- ---- the node

-- what the node makes of a deed with these acts, and these answers said
pub record NodeGoes (set : Setting) (acts : List Act) (said : ℕ → List Answer) (a b : Standing) : Type 0 where
  pub lead : StatesLead set.names set.ports a.state acts b.state
  pub lost : b.state.state.lost ≡ a.state.state.lost
  pub answers : (port : ℕ) → AnswersGo (own_of set) port acts (said port) (a.answers port) (b.answers port)

none_said : (own : Node) (port : ℕ) (before after : List Answer) → after ≡ before → AnswersGo own port [] [] before after
none_said own port before after is = record { given = []; gave = refl; kept = append-nil before ∙ sym is }

-- nothing
pub node_rests : (set : Setting) (a b : Standing) → b ≡ a → NodeGoes set [] (λ port. []) a b
node_rests set a b is = record {
  lead = ap (λ (s : Standing). s.state) is;
  lost = ap (λ (s : Standing). s.state.state.lost) is;
  answers = λ port. none_said (own_of set) port (a.answers port) (b.answers port) (ap (λ (s : Standing). s.answers port) is);
}

-- what an act gave
gave_at : (own : Node) (port : ℕ) (act : Act) (gave : Option (OpId × Response)) (before after : ℕ → List Answer) → Gave own gave before after
    → (given : List Answer) × GivesAt own port gave given × (before port ++ given ≡ after port)
gave_at own port act None before after is = ([], refl, append-nil (before port) ∙ sym (ap (λ f. f port) is))
gave_at own port act (Some gave) before after is =
    let answer : Answer = record { number = gave.0.number; reply = is.0 } in (
      at_this port gave.0.port (answer ∷ []),
      (is.0, is.1, refl),
      at_one (λ (xs v w : List Answer). v ++ xs ≡ w) port gave.0.port (answer ∷ []) (λ v. v ++ answer ∷ []) before refl (append-nil (before port)) ∙ sym (ap (λ f. f port) is.2),
    )

-- an act
pub node_acts : (set : Setting) (act : Act) (a b : Standing) → ActLeads set.names set.ports a act b → act.turn.state.state.lost ≡ a.state.state.lost
    → NodeGoes set (act ∷ []) (λ port. []) a b
node_acts set act a b leads unseen = record {
  lead = (b.state, record { before = a.answers; after = b.answers; leads = leads }, refl);
  lost = ap (λ s. s.state.lost) leads.state ∙ unseen;
  answers = λ port.
      let gave = gave_at (own_of set) port act act.turn.reported.gave a.answers b.answers leads.answers in
      record { given = gave.0; gave = (gave.0, [], sym (append-nil gave.0), gave.1, refl); kept = gave.2 };
}

-- the first answer is said
pub node_says : (set : Setting) (place : ℕ) (answer : Answer) (later : List Answer) (a : Standing) → a.answers place ≡ answer ∷ later
    → NodeGoes set [] (λ port. at_this port place (answer ∷ [])) a (record a { answers = left_at place 1 a.answers })
node_says set place answer later a first = record {
  lead = refl;
  lost = refl;
  answers = λ port. at_one (λ (xs v w : List Answer). AnswersGo (own_of set) port [] xs v w) port place (answer ∷ []) (drop 1) a.answers
      (record { given = []; gave = refl; kept = append-nil (a.answers place) ∙ (first ∙ ap (λ w. answer ∷ drop 1 w) (sym first)) })
      (none_said (own_of set) port (a.answers port) (a.answers port) refl);
}

states_on : (names : List Node) (ports : ℕ) (s m t : AtClock State) (xs ys : List Act) → StatesLead names ports s xs m → StatesLead names ports m ys t
    → StatesLead names ports s (xs ++ ys) t
states_on names ports s m t [] ys p q = subst (λ (w : AtClock State). StatesLead names ports w ys t) p q
states_on names ports s m t (x ∷ xs) ys p q = (p.0, p.1, states_on names ports p.0 m t xs ys p.2 q)

gives_on : (own : Node) (port : ℕ) (xs ys : List Act) (g h : List Answer) → GiveAt own port xs g → GiveAt own port ys h → GiveAt own port (xs ++ ys) (g ++ h)
gives_on own port [] ys g h p q = subst (λ (w : List Answer). GiveAt own port ys (w ++ h)) (sym p) q
gives_on own port (x ∷ xs) ys g h p q = (p.0, p.1 ++ h, ap (λ w. w ++ h) p.2 ∙ append_assoc p.0 p.1 h, p.3, gives_on own port xs ys p.1 h p.4 q)

pub node_on : (set : Setting) (xs ys : List Act) (said more : ℕ → List Answer) (a m b : Standing) → NodeGoes set xs said a m → NodeGoes set ys more m b
    → NodeGoes set (xs ++ ys) (λ port. said port ++ more port) a b
node_on set xs ys said more a m b p q = record {
  lead = states_on set.names set.ports a.state m.state b.state xs ys p.lead q.lead;
  lost = q.lost ∙ p.lost;
  answers = λ port.
      let one = p.answers port in
      let two = q.answers port in record {
        given = one.given ++ two.given;
        gave = gives_on (own_of set) port xs ys one.given two.given one.gave two.gave;
        kept = seam (a.answers port) one.given (said port) (m.answers port) two.given (more port) (b.answers port) one.kept two.kept;
      };
}

-- ---- the links

-- what the links make of a deed with these acts, and these bytes that come and go
pub record LinksGo (acts : List Act) (fed sent : ℕ → List ℕ) (a b : ℕ → Link) : Type 0 where
  pub came : (peer : ℕ) → BytesCame (fed peer) (frames_taken peer acts) (a peer) (b peer)
  pub went : (peer : ℕ) → BytesWent (frames_sent peer acts) (sent peer) (a peer) (b peer)

-- no bytes come and none are taken, but damage may be told
came_none : (a b : Link) → b.unread ≡ a.unread → (a.damaged ≡ true → b.damaged ≡ true) → BytesCame [] [] a b
came_none a b unread lasts = record {
  first = [];
  later = [];
  parts = refl;
  taken = append-nil a.unread ∙ sym unread;
  sound = λ h. refl;
  damaged = λ h. (refl, refl, lasts h);
}

went_none : (a b : Link) → b.outbox ≡ a.outbox → BytesWent [] [] a b
went_none a b outbox = append-nil a.outbox ∙ sym outbox

-- nothing
pub links_rest : (a b : ℕ → Link) → b ≡ a → LinksGo [] (λ peer. []) (λ peer. []) a b
links_rest a b is = record {
  came = λ peer. came_none (a peer) (b peer) (ap (λ (f : ℕ → Link). (f peer).unread) is) (λ h. ap (λ (f : ℕ → Link). (f peer).damaged) is ∙ h);
  went = λ peer. went_none (a peer) (b peer) (ap (λ (f : ℕ → Link). (f peer).outbox) is);
}

-- bytes come, of a peer whose loss was not seen
came_fed : (damaged : Bool) (bytes : List ℕ) (link : Link) → link.damaged ≡ damaged → BytesCame bytes [] link (fed_by false damaged bytes link)
came_fed true bytes link is = record {
  first = [];
  later = bytes;
  parts = refl;
  taken = append-nil link.unread;
  sound = λ h. absurd (not_both link.damaged is h);
  damaged = λ h. (refl, refl, h);
}
came_fed false bytes link is = record {
  first = bytes;
  later = [];
  parts = sym (append-nil bytes);
  taken = refl;
  sound = λ h. refl;
  damaged = λ h. absurd (not_both link.damaged h is);
}

fed_out : (damaged : Bool) (bytes : List ℕ) (link : Link) → (fed_by false damaged bytes link).outbox ≡ link.outbox
fed_out true bytes link = refl
fed_out false bytes link = refl

pub links_feed : (place : ℕ) (lost : Bool) (bytes : List ℕ) (a b : ℕ → Link) → lost ≡ false → b ≡ at_link place (fed_by lost (a place).damaged bytes) a
    → LinksGo [] (λ peer. at_this peer place bytes) (λ peer. []) a b
links_feed place lost bytes a b sound is =
    subst (λ (f : ℕ → Link). LinksGo [] (λ peer. at_this peer place bytes) (λ peer. []) a f)
    (sym (is ∙ ap (λ (l : Bool). at_link place (fed_by l (a place).damaged bytes) a) sound))
    (record {
      came = λ peer. at_one (λ (xs : List ℕ) (v w : Link). BytesCame xs [] v w) peer place bytes (fed_by false (a place).damaged bytes) a
          (came_fed (a place).damaged bytes (a place) refl) (came_none (a peer) (a peer) refl (λ h. h));
      went = λ peer. at_one (λ (xs : List ℕ) (v w : Link). BytesWent [] [] v w) peer place bytes (fed_by false (a place).damaged bytes) a
          (went_none (a place) (fed_by false (a place).damaged bytes (a place)) (fed_out (a place).damaged bytes (a place))) (went_none (a peer) (a peer) refl);
    })

-- a fault is told
broken : (fault : NodeFault) (link : Link) → damages fault ≡ true → (marked link fault).damaged ≡ true
broken fault link harms = ap (λ (b : Bool). b || link.damaged) harms

pub links_break : (place : ℕ) (fault : NodeFault) (a b : ℕ → Link) → damages fault ≡ true → b ≡ at_link place (λ link. marked link fault) a
    → LinksGo [] (λ peer. []) (λ peer. []) a b
links_break place fault a b harms is =
    subst (λ (f : ℕ → Link). LinksGo [] (λ peer. []) (λ peer. []) a f) (sym is)
    (record {
      came = λ peer. at_one (λ (xs : List ℕ) (v w : Link). BytesCame [] [] v w) peer place [] (λ link. marked link fault) a
          (came_none (a place) (marked (a place) fault) refl (λ h. broken fault (a place) harms)) (came_none (a peer) (a peer) refl (λ h. h));
      went = λ peer. at_one (λ (xs : List ℕ) (v w : Link). BytesWent [] [] v w) peer place [] (λ link. marked link fault) a
          (went_none (a place) (marked (a place) fault) refl) (went_none (a peer) (a peer) refl);
    })

-- bytes go out
pub links_send : (place : ℕ) (bytes : List ℕ) (a b : ℕ → Link) → take (length bytes) (a place).outbox ≡ bytes → b ≡ at_link place (λ link. without_front link (length bytes)) a
    → LinksGo [] (λ peer. []) (λ peer. at_this peer place bytes) a b
links_send place bytes a b first is =
    subst (λ (f : ℕ → Link). LinksGo [] (λ peer. []) (λ peer. at_this peer place bytes) a f) (sym is)
    (record {
      came = λ peer. at_one (λ (xs : List ℕ) (v w : Link). BytesCame [] [] v w) peer place bytes (λ link. without_front link (length bytes)) a
          (came_none (a place) (without_front (a place) (length bytes)) refl (λ h. h)) (came_none (a peer) (a peer) refl (λ h. h));
      went = λ peer. at_one (λ (xs : List ℕ) (v w : Link). BytesWent [] xs v w) peer place bytes (λ link. without_front link (length bytes)) a
          (append-nil (a place).outbox ∙ (sym (take-append-drop (length bytes) (a place).outbox) ∙ ap (λ w. w ++ drop (length bytes) (a place).outbox) first))
          (went_none (a peer) (a peer) refl);
    })

-- an act sends frames, and takes one or none
links_act : (act : Act) (a b : ℕ → Link) → ((peer : ℕ) → (a peer).unread ≡ cond (is_from peer act.input) act.came [] ++ (b peer).unread)
    → ((peer : ℕ) → (a peer).damaged ≡ true → cond (is_from peer act.input) act.came [] ≡ []) → ((peer : ℕ) → (b peer).damaged ≡ (a peer).damaged)
    → ((peer : ℕ) → (b peer).outbox ≡ (a peer).outbox ++ frames_to act.sends peer) → LinksGo (act ∷ []) (λ peer. []) (λ peer. []) a b
links_act act a b taken harmed damaged sent = record {
  came = λ peer. record {
    first = [];
    later = [];
    parts = refl;
    taken = append-nil (a peer).unread ∙ (taken peer ∙ ap (λ w. w ++ (b peer).unread) (sym (append-nil (cond (is_from peer act.input) act.came []))));
    sound = λ h. refl;
    damaged = λ h. (refl, append-nil (cond (is_from peer act.input) act.came []) ∙ harmed peer h, damaged peer ∙ h);
  };
  went = λ peer. ap (λ w. (a peer).outbox ++ w) (append-nil (frames_to act.sends peer)) ∙ sym (sent peer);
}

-- an action of the node
pub links_did : (act : Act) (action : Action) (a b : ℕ → Link) → act.input ≡ Did action → ((peer : ℕ) → b peer ≡ sent_out act.sends a peer)
    → LinksGo (act ∷ []) (λ peer. []) (λ peer. []) a b
links_did act action a b given is = links_act act a b
    (λ peer. sym (ap (λ (l : Link). l.unread) (is peer)) ∙ ap (λ (x : Given). cond (is_from peer x) act.came [] ++ (b peer).unread) (sym given))
    (λ peer h. ap (λ (x : Given). cond (is_from peer x) act.came []) given)
    (λ peer. ap (λ (l : Link). l.damaged) (is peer)) (λ peer. ap (λ (l : Link). l.outbox) (is peer))

-- a packet is taken
pub links_took : (place : ℕ) (act : Act) (a b : ℕ → Link) → IsOf place act.input → (a place).damaged ≡ false → (a place).unread ≡ act.came ++ (b place).unread
    → ((peer : ℕ) → b peer ≡ at_link place passed (sent_out act.sends a) peer) → LinksGo (act ∷ []) (λ peer. []) (λ peer. []) a b
links_took place act a b from sound taken is = links_act act a b (λ peer. by peer act.input from (cases_eq peer place))
    (λ peer h. unharmed peer act.input from h (cases_eq peer place))
    (λ peer. ap (λ (l : Link). l.damaged) (is peer) ∙ part (λ l. l.damaged) peer (λ l. refl))
    (λ peer. ap (λ (l : Link). l.outbox) (is peer) ∙ part (λ l. l.outbox) peer (λ l. refl))
  where
    part : {A : Type 0} (see : Link → A) (peer : ℕ) → ((l : Link) → see (passed l) ≡ see l)
        → see (at_link place passed (sent_out act.sends a) peer) ≡ see (sent_out act.sends a peer)
    part see peer same = at_one (λ (xs : List ℕ) (v w : Link). see w ≡ see v) peer place [] passed (sent_out act.sends a) (same (sent_out act.sends a place)) refl

    unharmed : (peer : ℕ) (input : Given) → IsOf place input → (a peer).damaged ≡ true → (peer ≡ place) ⊎ (peer ≢ place) → cond (is_from peer input) act.came [] ≡ []
    unharmed peer (TookPacket p x) e h (inl same) = absurd (not_both (a place).damaged (sym (ap (λ j. (a j).damaged) same) ∙ h) sound)
    unharmed peer (TookPacket p x) e h (inr other) = ap (λ (b : Bool). cond b act.came []) (ne_eqb p peer (λ k. other (sym k ∙ e)))
    unharmed peer (Saw p last) e h any = absurd e
    unharmed peer (Did action) e h any = absurd e

    by : (peer : ℕ) (input : Given) → IsOf place input → (peer ≡ place) ⊎ (peer ≢ place) → (a peer).unread ≡ cond (is_from peer input) act.came [] ++ (b peer).unread
    by peer (TookPacket p x) e (inl same) =
        subst (λ j. (a j).unread ≡ cond (nat_eq p j) act.came [] ++ (b j).unread) (sym same)
        (taken ∙ ap (λ (h : Bool). cond h act.came [] ++ (b place).unread) (sym (eq-eqb p place e)))
    by peer (TookPacket p x) e (inr other) =
        sym (ap (λ (l : Link). l.unread) (is peer ∙ link_else place peer passed (sent_out act.sends a) other))
        ∙ ap (λ (h : Bool). cond h act.came [] ++ (b peer).unread) (sym (ne_eqb p peer (λ k. other (sym k ∙ e))))
    by peer (Saw p last) e any = absurd e
    by peer (Did action) e any = absurd e

came_on : (fed frames more others : List ℕ) (a m b : Link) → BytesCame fed frames a m → BytesCame more others m b → BytesCame (fed ++ more) (frames ++ others) a b
came_on fed frames more others a m b p q = go m.damaged refl
  where
    both : a.unread ++ (p.first ++ q.first) ≡ (frames ++ others) ++ b.unread
    both = seam a.unread p.first frames m.unread q.first others b.unread p.taken q.taken

    go : (d : Bool) → m.damaged ≡ d → BytesCame (fed ++ more) (frames ++ others) a b
    go false sound = record {
      first = p.first ++ q.first;
      later = q.later;
      parts = ap (λ w. w ++ more) (p.parts ∙ (ap (λ w. p.first ++ w) (p.sound sound) ∙ append-nil p.first))
          ∙ (ap (λ w. p.first ++ w) q.parts ∙ sym (append_assoc p.first q.first q.later));
      taken = both;
      sound = q.sound;
      damaged = λ h. absurd (not_both m.damaged (p.damaged h).2 sound);
    }
    go true harmed = record {
      first = p.first;
      later = p.later ++ more;
      parts = ap (λ w. w ++ more) p.parts ∙ append_assoc p.first p.later more;
      taken = ap (λ w. a.unread ++ w) (sym (append-nil p.first) ∙ ap (λ w. p.first ++ w) (sym (q.damaged harmed).0)) ∙ both;
      sound = λ h. absurd (not_both b.damaged (q.damaged harmed).2 h);
      damaged = λ h. ((p.damaged h).0, ap (λ w. w ++ others) (p.damaged h).1 ∙ (q.damaged harmed).1, (q.damaged harmed).2);
    }

pub links_on : (xs ys : List Act) (fed more sent after : ℕ → List ℕ) (a m b : ℕ → Link) → LinksGo xs fed sent a m → LinksGo ys more after m b
    → LinksGo (xs ++ ys) (λ peer. fed peer ++ more peer) (λ peer. sent peer ++ after peer) a b
links_on xs ys fed more sent after a m b p q = record {
  came = λ peer. subst (λ (w : List ℕ). BytesCame (fed peer ++ more peer) w (a peer) (b peer))
      (sym (flat_map-append (λ (act : Act). cond (is_from peer act.input) act.came []) xs ys))
      (came_on (fed peer) (frames_taken peer xs) (more peer) (frames_taken peer ys) (a peer) (m peer) (b peer) (p.came peer) (q.came peer));
  went = λ peer. ap (λ w. (a peer).outbox ++ w) (flat_map-append (λ (act : Act). frames_to act.sends peer) xs ys)
      ∙ seam (a peer).outbox (frames_sent peer xs) (sent peer) (m peer).outbox (frames_sent peer ys) (after peer) (b peer).outbox (p.went peer) (q.went peer);
}

-- ---- the ports

-- what one port makes of it, with these marks of what is handed over there, and these commands that the node is issued
pub record PortMoves (marks : List Bool) (commands : List Command) (happened : List Happening) (a b : Port) : Type 0 where
  pub goes : PortGoes happened a b
  pub hands : HandsGo marks commands (all_out a happened)

abbrev pub PortsGo : List Act → (ℕ → List Bool) → (ℕ → List Happening) → (ℕ → Port) → (ℕ → Port) → Type 0
PortsGo acts marks happened a b = (port : ℕ) → PortMoves (marks port) (issued_in port acts) (happened port) (a port) (b port)

pub none_handed : HandsGo [] [] []
none_handed = record { each = refl; issued = refl }

-- nothing, by acts that issue none
pub ports_rest : (acts : List Act) (a b : ℕ → Port) → ((port : ℕ) → issued_in port acts ≡ []) → b ≡ a → PortsGo acts (λ port. []) (λ port. []) a b
ports_rest acts a b none is port = record {
  goes = record { last = ap (λ (f : ℕ → Port). f port) is; turns = tt };
  hands = subst (λ (w : List Command). HandsGo [] w []) (sym (none port)) none_handed;
}

-- something at one of them
pub ports_at : (place : ℕ) (marks : Bool → List Bool) (commands : Bool → List Command) (acts : List Act) (happened : List Happening) (change : Port → Port) (a b : ℕ → Port)
    → b ≡ at_place place change a → change (a place) ≡ port_at_last (a place) happened → AreInTurn (a place) happened
    → HandsGo (marks true) (commands true) (all_out (a place) happened) → HandsGo (marks false) (commands false) []
    → ((port : ℕ) → issued_in port acts ≡ commands (nat_eq place port)) → PortsGo acts (λ port. marks (nat_eq place port)) (λ port. at_this port place happened) a b
ports_at place marks commands acts happened change a b is last turns here there issued port = record {
  goes = subst (λ (f : ℕ → Port). PortGoes (at_this port place happened) (a port) (f port)) (sym is)
      (at_one (λ (xs : List Happening) (v w : Port). PortGoes xs v w) port place happened change a (record { last = last; turns = turns }) (record { last = refl; turns = tt }));
  hands = subst (λ (w : List Command). HandsGo (marks (nat_eq place port)) w (all_out (a port) (at_this port place happened))) (sym (issued port))
      (at_bool (λ (h : Bool) (j : ℕ). HandsGo (marks h) (commands h) (all_out (a j) (cond h happened []))) port place here there);
}

-- the change that a port hands over where none is with the node
handed_is : (handed : Option Numbered) (port : Port) (change : Numbered) → port.current ≡ None → (rest_by handed port).current ≡ Some change → handed ≡ Some change
handed_is None port change free is = absurd (none_some port.current free is)
  where
    none_some : (current : Option Numbered) → current ≡ None → current ≡ Some change → ⊥
    none_some None h k = cc
    none_some (Some other) h k = cc
handed_is (Some other) port change free is = is

-- the node takes it, or refuses it
pub handed_one : (port : Port) (change : Numbered) → port.current ≡ None → (port_after port Opened).current ≡ Some change
    → HandsGo (true ∷ []) (change.command ∷ []) (all_out port (Opened ∷ []))
handed_one port change free is =
    subst (λ (handed : Option Numbered). HandsGo (true ∷ []) (change.command ∷ []) (option_to_list handed ++ []))
    (sym (handed_is (handed_by port.current port.waiting) port change free is)) (record { each = refl; issued = refl })

pub refused_one : (port : Port) (change : Numbered) → port.current ≡ None → (port_after port Opened).current ≡ Some change
    → HandsGo (false ∷ []) [] (all_out port (Opened ∷ Closed ∷ []))
refused_one port change free is =
    subst (λ (handed : Option Numbered). HandsGo (false ∷ []) [] (option_to_list handed ++ []))
    (sym (handed_is (handed_by port.current port.waiting) port change free is)) (record { each = refl; issued = refl })

-- one after another
at_last_on : (xs ys : List Happening) (p : Port) → port_at_last p (xs ++ ys) ≡ port_at_last (port_at_last p xs) ys
at_last_on [] ys p = refl
at_last_on (x ∷ xs) ys p = at_last_on xs ys (port_after p x)

turns_on : (xs ys : List Happening) (p : Port) → AreInTurn p xs → AreInTurn (port_at_last p xs) ys → AreInTurn p (xs ++ ys)
turns_on [] ys p one two = two
turns_on (x ∷ xs) ys p one two = (one.0, turns_on xs ys (port_after p x) one.1 two)

out_on : (xs ys : List Happening) (p : Port) → all_out p (xs ++ ys) ≡ all_out p xs ++ all_out (port_at_last p xs) ys
out_on [] ys p = refl
out_on (x ∷ xs) ys p =
    ap (λ w. let_out p x ++ w) (out_on xs ys (port_after p x)) ∙ sym (append_assoc (let_out p x) (all_out (port_after p x) xs) (all_out (port_at_last p (x ∷ xs)) ys))

taken_on : (xs ys : List Bool) (cs ds : List Numbered) → length xs ≡ length cs → taken_of (xs ++ ys) (cs ++ ds) ≡ taken_of xs cs ++ taken_of ys ds
taken_on [] ys [] ds e = refl
taken_on [] ys (c ∷ cs) ds e = absurd (omega (arith, e))
taken_on (x ∷ xs) ys [] ds e = absurd (omega (arith, e))
taken_on (x ∷ xs) ys (c ∷ cs) ds e =
    ap (λ w. cond x (c.command ∷ []) [] ++ w) (taken_on xs ys cs ds (omega (arith, e))) ∙ sym (append_assoc (cond x (c.command ∷ []) []) (taken_of xs cs) (taken_of ys ds))

hands_on : (xs ys : List Bool) (i j : List Command) (cs ds : List Numbered) → HandsGo xs i cs → HandsGo ys j ds → HandsGo (xs ++ ys) (i ++ j) (cs ++ ds)
hands_on xs ys i j cs ds p q = record {
  each =
      let one = p.each in
      let two = q.each in
      let marks = length-append xs ys in
      let changes = length-append cs ds in
      omega (arith, one, two, marks, changes);
  issued = ap (λ w. w ++ j) p.issued ∙ (ap (λ w. taken_of xs cs ++ w) q.issued ∙ sym (taken_on xs ys cs ds p.each));
}

port_on : (xs ys : List Happening) (a m b : Port) → PortGoes xs a m → PortGoes ys m b → PortGoes (xs ++ ys) a b
port_on xs ys a m b p q = record {
  last = q.last ∙ (ap (λ (w : Port). port_at_last w ys) p.last ∙ sym (at_last_on xs ys a));
  turns = turns_on xs ys a p.turns (subst (λ (w : Port). AreInTurn w ys) p.last q.turns);
}

pub ports_on : (xs ys : List Act) (marks more : ℕ → List Bool) (happened later : ℕ → List Happening) (a m b : ℕ → Port) → PortsGo xs marks happened a m → PortsGo ys more later m b
    → PortsGo (xs ++ ys) (λ port. marks port ++ more port) (λ port. happened port ++ later port) a b
ports_on xs ys marks more happened later a m b p q port =
    let one = p port in
    let two = q port in record {
      goes = port_on (happened port) (later port) (a port) (m port) (b port) one.goes two.goes;
      hands =
          subst (λ (w : List Command). HandsGo (marks port ++ more port) w (all_out (a port) (happened port ++ later port)))
          (sym (flat_map-append (λ (act : Act). issued_of port act.input) xs ys))
          (subst (λ (w : List Numbered). HandsGo (marks port ++ more port) (issued_in port xs ++ issued_in port ys) w)
          (ap (λ (s : Port). all_out (a port) (happened port) ++ all_out s (later port)) one.goes.last ∙ sym (out_on (happened port) (later port) (a port)))
          (hands_on (marks port) (more port) (issued_in port xs) (issued_in port ys) (all_out (a port) (happened port)) (all_out (m port) (later port)) one.hands two.hands));
    }
