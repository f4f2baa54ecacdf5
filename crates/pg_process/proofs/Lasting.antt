-- Where nothing of a peer is there to be taken, nothing is by what follows.
use Rattle.std.proofs.Common.{◌≡◌, ◌≢◌, ◌⊎◌, ◌+◌, ◌∙◌, ℕ, Bool, true, false, cond, length, List, [], ◌∷◌, ◌++◌, Option, Some, None, Result, Ok, Err, inl, inr, refl, sym, ap, subst}
use Rattle.std.specs.Prelude.{if◌then◌else◌, ◌||◌}
use Rattle.std.proofs.lemmas.Bool.{cases_eq}
use Rattle.pg_node.specs.Bytes.{damages, marked, packet_at, packet_in, passed}
use Rattle.pg_node.specs.Links.{Link, at_link, without_front}
use Rattle.pg_node.specs.Nodes.{read_next, sent_out}
use Rattle.pg_node.specs.PgFrame.Frames.{front_of}
use Rattle.pg_node.specs.PgMessageTypes.declared.fault.MessageFault.{MessageFault}
use Rattle.pg_node.specs.PgMessageTypes.declared.packet.Packet.{Packet}
use Rattle.pg_node.specs.PgMessageTypes.Reading.{packet_spelled}
use Rattle.pg_node.specs.PgNodeOpens.Places.{name_at, whole_in}
use Rattle.pg_node.specs.PgNodeState.declared.state.fault.NodeFault.{NodeFault}
use Rattle.pg_node.specs.PgNodeState.declared.state.fault.NodeFault.TheVariants.{Refused, Damaged}
use Rattle.pg_node.specs.PgStep.Step.{Action}
use Rattle.pg_node.specs.PgStep.declared.refusal.Refusal.TheVariants.{NodeLost}
use Rattle.pg_node.proofs.PgFrame.Fronts.{front_of-append}
use Rattle.pg_node_run.specs.Acts.{Act, Came, Did, Given, Saw, act_step, Took as TookPacket}
use Rattle.pg_node_run.proofs.Moving.{link_else, link_there}
use Rattle.pg_node_process.specs.Outputs.{Output}
use Rattle.pg_process.specs.declared.process.Process.{Process}
use Rattle.pg_process.specs.Chains.{AllDo, AreWork, IsWork, Step, Works}
use Rattle.pg_process.specs.Deeds.{Acts, Aged, Answered, Asked, Blamed, Broke, Brought, Crowded, Declined, Deed, Denied, Does, Fed, Formed, Handed, IsOf, Looked, Queued, Read, Sent, Shared, Takes, Timed, Took, Tried, is_lost}
use Rattle.pg_process.specs.Situations.{Setting, Situation, setting_of, situation_of}
use Rattle.pg_process.specs.Takings.{HasNone}
use Rattle.pg_process.proofs.Unseen.{act_unseen, take_sound, take_unseen}

-- `HasNone`, of what is kept
abbrev NoneIn : Setting → Situation → ℕ → Type 0
NoneIn set s peer =
    (is_lost set s peer ≡ true)
    ⊎ (((s.links peer).damaged ≡ true)
    ⊎ (read_next (is_lost set s peer) (s.links peer) ≡ Ok None))

abbrev read_by : Bool → Bool → List ℕ → Result (Option Packet) NodeFault
read_by lost damaged bytes = cond lost (Err (Refused NodeLost)) (if damaged then Err Damaged else packet_at (front_of bytes))

-- where the same stands of the peer
none_still : (set : Setting) (a b : Situation) (peer : ℕ) → is_lost set b peer ≡ is_lost set a peer → (b.links peer).damaged ≡ (a.links peer).damaged → (b.links peer).unread ≡ (a.links peer).unread
    → NoneIn set a peer → NoneIn set b peer
none_still set a b peer lost damaged unread (inl l) = inl (lost ∙ l)
none_still set a b peer lost damaged unread (inr (inl d)) = inr (inl (damaged ∙ d))
none_still set a b peer lost damaged unread (inr (inr r)) =
    inr (inr (ap (λ (x : Bool). read_by x (b.links peer).damaged (b.links peer).unread) lost
    ∙ (ap (λ (x : Bool). read_by (is_lost set a peer) x (b.links peer).unread) damaged
    ∙ (ap (λ (w : List ℕ). read_by (is_lost set a peer) (a.links peer).damaged w) unread ∙ r))))

-- a part of the links that no change at a place changes
part_kept : {A : Type 0} (part : Link → A) (k : ℕ) (change : Link → Link) → ((link : Link) → part (change link) ≡ part link) → (links : ℕ → Link) (place : ℕ)
    → part (at_link k change links place) ≡ part (links place)
part_kept part k change keeps links place = go (cases_eq place k)
  where
    go : (place ≡ k) ⊎ (place ≢ k) → part (at_link k change links place) ≡ part (links place)
    go (inl e) = subst (λ j. part (at_link k change links j) ≡ part (links j)) (sym e) (ap part (link_there k change links) ∙ keeps (links k))
    go (inr n) = ap part (link_else k place change links n)

-- a fault was told of the link of a peer
none_marked : (set : Setting) (a : Situation) (p : ℕ) (fault : NodeFault) → damages fault ≡ true → (peer : ℕ) → NoneIn set a peer
    → NoneIn set (record a { links = at_link p (λ link. marked link fault) a.links }) peer
none_marked set a p fault harms peer none = go (cases_eq peer p)
  where
    links : ℕ → Link
    links = at_link p (λ link. marked link fault) a.links

    go : (peer ≡ p) ⊎ (peer ≢ p) → NoneIn set (record a { links = links }) peer
    go (inl e) = inr (inl (ap (λ j. (links j).damaged) e
        ∙ (ap (λ (l : Link). l.damaged) (link_there p (λ link. marked link fault) a.links) ∙ ap (λ (b : Bool). b || (a.links p).damaged) harms)))
    go (inr n) =
        let is = link_else p peer (λ link. marked link fault) a.links n in
        none_still set a (record a { links = links }) peer refl (ap (λ (l : Link). l.damaged) is) (ap (λ (l : Link). l.unread) is) none

-- the node acts, and bytes go out
none_acted : (set : Setting) (a : Situation) (act : Act) (b : Situation) (action : Action) → act.input ≡ Did action → Acts set a act b → (peer : ℕ) → NoneIn set a peer → NoneIn set b peer
none_acted set a act b action given acts peer none =
    let made = subst (λ (x : Given). act_step set.names set.ports a.node.state x ≡ Ok act.turn) given acts.leads.made in
    let seen = act_unseen (whole_in set.names) set.ports action a.node.state act.turn made in
    none_still set a b peer
    (ap (λ s. s.state.lost (name_at set.names (peer + 1))) acts.leads.state ∙ ap (λ f. f (name_at set.names (peer + 1))) seen)
    (ap (λ (l : Link). l.damaged) (acts.links peer)) (ap (λ (l : Link). l.unread) (acts.links peer)) none

-- a frame that is there is read
reads_some : (bytes rest body : List ℕ) (lost damaged : Bool) → front_of bytes ≡ Ok (Some body) → lost ≡ false → damaged ≡ false → read_by lost damaged (bytes ++ rest) ≡ Ok None → ⊥
reads_some bytes rest body lost damaged front alive sound is =
    by (packet_spelled body)
    (sym (ap packet_at (front_of-append bytes rest body front))
    ∙ (sym (ap (λ (x : Bool). read_by x false (bytes ++ rest)) alive) ∙ (sym (ap (λ (x : Bool). read_by lost x (bytes ++ rest)) sound) ∙ is)))
  where
    by : (r : Result Packet MessageFault) → packet_in r ≡ Ok None → ⊥
    by (Ok packet) h = cc
    by (Err fault) h = cc

-- a packet is taken, of another peer than this
none_took : (set : Setting) (a : Situation) (p : ℕ) (act : Act) (b : Situation) → Takes set a p act b → (peer : ℕ) → NoneIn set a peer → NoneIn set b peer
none_took set a p act b takes peer none = by act.input takes.given takes.leads.made takes.leads.came
  where
    by : (input : Given) → IsOf p input → act_step set.names set.ports a.node.state input ≡ Ok act.turn → Came input act.came → NoneIn set b peer
    by (TookPacket q x) is made came = go (cases_eq peer p)
      where
        alive : is_lost set a p ≡ false
        alive = subst (λ (k : ℕ). is_lost set a k ≡ false) is (take_sound (whole_in set.names) (name_at set.names (q + 1)) x a.node.state act.turn made)

        seen : b.node.state.state.lost ≡ a.node.state.state.lost
        seen = ap (λ s. s.state.lost) takes.leads.state ∙ take_unseen (whole_in set.names) (name_at set.names (q + 1)) x a.node.state act.turn made

        not_both : (v : Bool) → v ≡ true → v ≡ false → ⊥
        not_both true h k = cc
        not_both false h k = cc

        never : NoneIn set a p → ⊥
        never (inl l) = not_both (is_lost set a p) l alive
        never (inr (inl d)) = not_both (a.links p).damaged d takes.sound
        never (inr (inr r)) =
            reads_some act.came (b.links p).unread came.body (is_lost set a p) (a.links p).damaged came.front alive takes.sound
            (sym (ap (λ (w : List ℕ). read_by (is_lost set a p) (a.links p).damaged w) takes.taken) ∙ r)

        go : (peer ≡ p) ⊎ (peer ≢ p) → NoneIn set b peer
        go (inl e) = absurd (never (subst (λ (k : ℕ). NoneIn set a k) e none))
        go (inr n) =
            let link = takes.links peer ∙ link_else p peer passed (sent_out act.sends a.links) n in
            none_still set a b peer (ap (λ f. f (name_at set.names (peer + 1))) seen) (ap (λ (l : Link). l.damaged) link) (ap (λ (l : Link). l.unread) link) none
    by (Saw q last) is made came = absurd is
    by (Did action) is made came = absurd is

-- ---- deeds

none_by : (set : Setting) (a : Situation) (deed : Deed) (said : List Output) (b : Situation) → IsWork deed → Does set a deed said b → (peer : ℕ) → NoneIn set a peer → NoneIn set b peer
none_by set a (Read body) said b work does peer none = absurd work
none_by set a Brought said b work does peer none = absurd work
none_by set a Blamed said b work does peer none = absurd work
none_by set a Timed said b work does peer none = absurd work
none_by set a (Shared port) said b work does peer none = absurd work
none_by set a (Asked port command) said b work does peer none = absurd work
none_by set a (Queued port command) said b work does peer none = absurd work
none_by set a (Fed p bytes) said b work does peer none = absurd work
none_by set a (Took p act) said b work does peer none = none_took set a p act b does.1 peer none
none_by set a (Broke p fault) said b work does peer none = subst (λ (s : Situation). NoneIn set s peer) (sym does.after) (none_marked set a p fault does.harms peer none)
none_by set a (Handed port act) said b work does peer none = none_acted set a act b _ does.1.given does.1.acts peer none
none_by set a (Declined port refusal) said b work does peer none = subst (λ (s : Situation). NoneIn set s peer) (sym does.after) none
none_by set a (Looked port seen is_tick) said b work does peer none = subst (λ (s : Situation). NoneIn set s peer) (sym does.2) none
none_by set a (Tried port act) said b work does peer none = none_acted set a act b _ does.1.given does.1.acts peer none
none_by set a (Denied port) said b work does peer none = subst (λ (s : Situation). NoneIn set s peer) (sym does.3) none
none_by set a (Answered port answer) said b work does peer none = subst (λ (s : Situation). NoneIn set s peer) (sym does.after) none
none_by set a Formed said b work does peer none = subst (λ (s : Situation). NoneIn set s peer) (sym does.3) none
none_by set a Aged said b work does peer none = subst (λ (s : Situation). NoneIn set s peer) (sym does.3) none
none_by set a (Crowded count) said b work does peer none = subst (λ (s : Situation). NoneIn set s peer) (sym does.4) none
none_by set a (Sent p bytes) said b work does peer none =
    let change = λ (link : Link). without_front link (length bytes) in
    subst (λ (s : Situation). NoneIn set s peer) (sym does.after)
    (none_still set a (record a { links = at_link p change a.links }) peer refl
    (part_kept (λ link. link.damaged) p change (λ link. refl) a.links peer) (part_kept (λ link. link.unread) p change (λ link. refl) a.links peer) none)

none_all : (set : Setting) (peer : ℕ) (steps : List Step) (a b : Situation) → AreWork steps → AllDo set a steps b → NoneIn set a peer → NoneIn set b peer
none_all set peer [] a b work does none = subst (λ (s : Situation). NoneIn set s peer) (sym does) none
none_all set peer (step ∷ steps) a b work does none = none_all set peer steps does.0 b work.1 does.2 (none_by set a step.deed step.said does.0 work.0 does.1 peer none)

-- nothing of a peer comes to be there by what follows
pub none_lasts : (peer : ℕ) (a b : Process) → Works a b → HasNone peer a → HasNone peer b
none_lasts peer a b works none =
    subst (λ (set : Setting). NoneIn set (situation_of b) peer) (sym works.goes.setting)
    (none_all (setting_of a) peer works.steps (situation_of a) (situation_of b) works.work works.goes.does none)
