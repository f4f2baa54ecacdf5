-- What a chain of deeds comes to: what one deed does, and one after another.
use Rattle.std.proofs.Common.{◌≡◌, ◌+◌, ◌∙◌, ℕ, Bool, true, false, cond, List, [], ◌∷◌, ◌++◌, Some, Ok, refl, sym, ap, subst, append-nil}
use Rattle.pg_node.specs.PgNodeOpens.Places.{name_at, whole_in}
use Rattle.pg_node.specs.PgStep.Step.{Action}
use Rattle.pg_node.specs.PgStep.declared.answer.Answer.{Answer}
use Rattle.pg_node_process.specs.Desks.{Answered as Closed, Asked as Counted, Changing, Handed as Opened, Happening, Port, counted, port_after, port_at_last, with_answer}
use Rattle.pg_node_process.specs.Desks.{all_out}
use Rattle.pg_node_process.specs.Outputs.{Output}
use Rattle.pg_node_process.specs.declared.desk.Numbered.{Numbered}
use Rattle.pg_node_run.specs.Acts.{Act, ActLeads, Did, Given, Saw, Standing, act_step, Took as TookPacket}
use Rattle.pg_process.specs.Accounts.{AreInTurn, ChainsAccount, LostNone, act_of, acts_of, answers_in, at_this, fed_in, fed_of, happened_in, happened_of, said_of, sent_in}
use Rattle.pg_process.specs.Accounts.{sent_of, HandsGo, hands_in, hands_of, issued_of}
use Rattle.pg_process.specs.Chains.{AllDo, Step}
use Rattle.pg_process.specs.Deeds.{Aged, Answered, Asked, Blamed, Broke, Brought, Crowded, Declined, Deed, Denied, Does, Fed, Formed, Handed, Looked, Queued, Read, Sent, Shared, Timed, Took, Tried}
use Rattle.pg_process.specs.Deeds.{IsOf, is_lost}
use Rattle.pg_process.specs.Situations.{Setting, Situation, at_place}
use Rattle.pg_process.proofs.Parts.{NodeGoes, LinksGo, PortsGo, node_rests, node_acts, node_says, node_on, links_rest, links_feed, links_break, links_send, links_did}
use Rattle.pg_process.proofs.Parts.{links_took, links_on, none_handed, ports_rest, ports_at, ports_on, handed_one, refused_one}
use Rattle.pg_process.proofs.Placed.{placed_here}
use Rattle.pg_process.proofs.Unseen.{act_unseen, take_unseen}

-- ---- one deed, and one after another

-- what is made of a situation by these acts, these bytes that come and go, these answers said, and what is handed over and happens at the ports
pub record Moves (set : Setting) (acts : List Act) (fed sent : ℕ → List ℕ) (said : ℕ → List Answer) (marks : ℕ → List Bool)
    (happened : ℕ → List Happening) (a b : Situation) : Type 0 where
  pub node : NodeGoes set acts said a.node b.node
  pub links : LinksGo acts fed sent a.links b.links
  pub ports : PortsGo acts marks happened a.ports b.ports

abbrev pub DeedMoves : Setting → Deed → Situation → Situation → Type 0
DeedMoves set deed a b =
    Moves set (act_of deed) (λ peer. fed_of peer deed) (λ peer. sent_of peer deed) (λ port. said_of port deed) (λ port. hands_of port deed)
    (λ port. happened_of port deed) a b

abbrev ChainMoves : Setting → List Step → Situation → Situation → Type 0
ChainMoves set steps a b =
    Moves set (acts_of steps) (λ peer. fed_in peer steps) (λ peer. sent_in peer steps) (λ port. answers_in port steps) (λ port. hands_in port steps)
    (λ port. happened_in port steps) a b

-- nothing of it
still : (set : Setting) (a b c : Situation) → b ≡ c → c.node ≡ a.node → c.links ≡ a.links → c.ports ≡ a.ports
    → Moves set [] (λ peer. []) (λ peer. []) (λ port. []) (λ port. []) (λ port. []) a b
still set a b c is node links ports = record {
  node = node_rests set a.node b.node (ap (λ (s : Situation). s.node) is ∙ node);
  links = links_rest a.links b.links (ap (λ (s : Situation). s.links) is ∙ links);
  ports = ports_rest [] a.ports b.ports (λ port. refl) (ap (λ (s : Situation). s.ports) is ∙ ports);
}

-- a request comes at a port
asks_at : (set : Setting) (place : ℕ) (happened : List Happening) (change : Port → Port) (a b c : Situation) → b ≡ c → c.node ≡ a.node → c.links ≡ a.links
    → c.ports ≡ at_place place change a.ports → change (a.ports place) ≡ port_at_last (a.ports place) happened → AreInTurn (a.ports place) happened
    → all_out (a.ports place) happened ≡ [] → Moves set [] (λ peer. []) (λ peer. []) (λ port. []) (λ port. []) (λ port. at_this port place happened) a b
asks_at set place happened change a b c is node links ports last turns out = record {
  node = node_rests set a.node b.node (ap (λ (s : Situation). s.node) is ∙ node);
  links = links_rest a.links b.links (ap (λ (s : Situation). s.links) is ∙ links);
  ports = ports_at place (λ h. []) (λ h. []) [] happened change a.ports b.ports (ap (λ (s : Situation). s.ports) is ∙ ports) last turns
      (subst (λ (w : List Numbered). HandsGo [] [] w) (sym out) none_handed) none_handed (λ port. refl);
}

-- an action of the node sees no loss, and no packet shows one
did_unseen : (set : Setting) (act : Act) (action : Action) (a b : Standing) → ActLeads set.names set.ports a act b → act.input ≡ Did action
    → act.turn.state.state.lost ≡ a.state.state.lost
did_unseen set act action a b leads given =
    act_unseen (whole_in set.names) set.ports action a.state act.turn (subst (λ (x : Given). act_step set.names set.ports a.state x ≡ Ok act.turn) given leads.made)

took_unseen : (set : Setting) (peer : ℕ) (act : Act) (a b : Standing) → ActLeads set.names set.ports a act b → IsOf peer act.input
    → act.turn.state.state.lost ≡ a.state.state.lost
took_unseen set peer act a b leads from = by act.input from leads.made
  where
    by : (input : Given) → IsOf peer input → act_step set.names set.ports a.state input ≡ Ok act.turn → act.turn.state.state.lost ≡ a.state.state.lost
    by (TookPacket p x) is made = take_unseen (whole_in set.names) (name_at set.names (p + 1)) x a.state act.turn made
    by (Saw p last) is made = absurd is
    by (Did action) is made = absurd is

-- a packet that is taken issues none
took_none : (peer port : ℕ) (input : Given) → IsOf peer input → issued_of port input ++ [] ≡ []
took_none peer port (TookPacket p x) is = refl
took_none peer port (Saw p last) is = absurd is
took_none peer port (Did action) is = absurd is

-- the change that is with the node was handed over
handed_there : (port : ℕ) (a b : ℕ → Port) (change : Numbered) → b ≡ at_place port (λ p. port_after p Opened) a → (b port).current ≡ Some change
    → (port_after (a port) Opened).current ≡ Some change
handed_there port a b change is next =
    sym (ap (λ (f : ℕ → Port). (f port).current) is ∙ ap (λ (p : Port). p.current) (placed_here a port (λ p. port_after p Opened))) ∙ next

pub moves_by : (set : Setting) (a : Situation) (deed : Deed) (said : List Output) (b : Situation) → LostNone a → Does set a deed said b → DeedMoves set deed a b
moves_by set a (Read body) said b sound does = still set a b _ does.1 refl refl refl
moves_by set a Brought said b sound does = still set a b _ does.1 refl refl refl
moves_by set a Blamed said b sound does = still set a b _ does.1 refl refl refl
moves_by set a Timed said b sound does = still set a b _ does.1 refl refl refl
moves_by set a (Shared port) said b sound does = still set a b _ does.1 refl refl refl
moves_by set a (Asked port command) said b sound does = asks_at set port (Counted ∷ []) counted a b _ does.after refl refl refl refl (tt, tt) refl
moves_by set a (Queued port command) said b sound does =
    asks_at set port (Changing command ∷ []) (λ p. port_after p (Changing command)) a b _ does.after refl refl refl refl (tt, tt) refl
moves_by set a (Fed peer bytes) said b sound does = record {
  node = node_rests set a.node b.node (ap (λ (s : Situation). s.node) does.1);
  links = links_feed peer (is_lost set a peer) bytes a.links b.links (sound (name_at set.names (peer + 1))) (ap (λ (s : Situation). s.links) does.1);
  ports = ports_rest [] a.ports b.ports (λ port. refl) (ap (λ (s : Situation). s.ports) does.1);
}
moves_by set a (Took peer act) said b sound does = record {
  node = node_acts set act a.node b.node does.1.leads (took_unseen set peer act a.node b.node does.1.leads does.1.given);
  links = links_took peer act a.links b.links does.1.given does.1.sound does.1.taken does.1.links;
  ports = ports_rest (act ∷ []) a.ports b.ports (λ port. took_none peer port act.input does.1.given) does.1.aside.ports;
}
moves_by set a (Broke peer fault) said b sound does = record {
  node = node_rests set a.node b.node (ap (λ (s : Situation). s.node) does.after);
  links = links_break peer fault a.links b.links does.harms (ap (λ (s : Situation). s.links) does.after);
  ports = ports_rest [] a.ports b.ports (λ port. refl) (ap (λ (s : Situation). s.ports) does.after);
}
moves_by set a (Handed port act) said b sound does = record {
  node = node_acts set act a.node b.node does.1.acts.leads (did_unseen set act _ a.node b.node does.1.acts.leads does.1.given);
  links = links_did act _ a.links b.links does.1.given does.1.acts.links;
  ports = ports_at port (λ h. cond h (true ∷ []) []) (λ h. cond h (does.1.change.command ∷ []) []) (act ∷ []) (Opened ∷ []) (λ p. port_after p Opened) a.ports b.ports
      does.1.ports refl (does.1.free, tt)
      (handed_one (a.ports port) does.1.change does.1.free (handed_there port a.ports b.ports does.1.change does.1.ports does.1.next)) none_handed
      (λ place. ap (λ (x : Given). issued_of place x ++ []) does.1.given ∙ append-nil (at_this place port (does.1.change.command ∷ [])));
}
moves_by set a (Declined port refusal) said b sound does = record {
  node = node_rests set a.node b.node (ap (λ (s : Situation). s.node) does.after);
  links = links_rest a.links b.links (ap (λ (s : Situation). s.links) does.after);
  ports = ports_at port (λ h. cond h (false ∷ []) []) (λ h. []) [] (Opened ∷ Closed ∷ []) (λ p. port_after (port_after p Opened) Closed) a.ports b.ports
      (ap (λ (s : Situation). s.ports) does.after) refl (does.free, (tt, tt)) (refused_one (a.ports port) does.change does.free does.next) none_handed (λ place. refl);
}
moves_by set a (Looked port seen is_tick) said b sound does = still set a b _ does.2 refl refl refl
moves_by set a (Tried port act) said b sound does = record {
  node = node_acts set act a.node b.node does.1.acts.leads (did_unseen set act _ a.node b.node does.1.acts.leads does.1.given);
  links = links_did act _ a.links b.links does.1.given does.1.acts.links;
  ports = ports_rest (act ∷ []) a.ports b.ports (λ place. ap (λ (x : Given). issued_of place x ++ []) does.1.given) does.1.ports;
}
moves_by set a (Denied port) said b sound does = still set a b _ does.3 refl refl refl
moves_by set a (Answered port answer) said b sound does = record {
  node = subst (λ (s : Situation). NodeGoes set [] (λ place. at_this place port (answer ∷ [])) a.node s.node) (sym does.after)
      (node_says set port answer does.later a.node does.first);
  links = links_rest a.links b.links (ap (λ (s : Situation). s.links) does.after);
  ports = ports_at port (λ h. []) (λ h. []) [] (Closed ∷ []) with_answer a.ports b.ports (ap (λ (s : Situation). s.ports) does.after) refl (tt, tt) none_handed none_handed
      (λ place. refl);
}
moves_by set a Formed said b sound does = still set a b _ does.3 refl refl refl
moves_by set a Aged said b sound does = still set a b _ does.3 refl refl refl
moves_by set a (Crowded count) said b sound does = still set a b _ does.4 refl refl refl
moves_by set a (Sent peer bytes) said b sound does = record {
  node = node_rests set a.node b.node (ap (λ (s : Situation). s.node) does.after);
  links = links_send peer bytes a.links b.links does.first (ap (λ (s : Situation). s.links) does.after);
  ports = ports_rest [] a.ports b.ports (λ port. refl) (ap (λ (s : Situation). s.ports) does.after);
}

all_move : (set : Setting) (a : Situation) (steps : List Step) (b : Situation) → AllDo set a steps b → LostNone a → ChainMoves set steps a b
all_move set a [] b does sound = still set a b a does refl refl refl
all_move set a (step ∷ steps) b does sound =
    let m = does.0 in
    let one = moves_by set a step.deed step.said m sound does.1 in
    let rest = all_move set m steps b does.2 (λ node. ap (λ f. f node) one.node.lost ∙ sound node) in record {
      node = node_on set (act_of step.deed) (acts_of steps) (λ port. said_of port step.deed) (λ port. answers_in port steps) a.node m.node b.node one.node rest.node;
      links = links_on (act_of step.deed) (acts_of steps) (λ peer. fed_of peer step.deed) (λ peer. fed_in peer steps) (λ peer. sent_of peer step.deed)
          (λ peer. sent_in peer steps) a.links m.links b.links one.links rest.links;
      ports = ports_on (act_of step.deed) (acts_of steps) (λ port. hands_of port step.deed) (λ port. hands_in port steps) (λ port. happened_of port step.deed)
          (λ port. happened_in port steps) a.ports m.ports b.ports one.ports rest.ports;
    }

-- the law of chains, of src/laws.rt
pub chains_account : ChainsAccount
chains_account set a steps b does sound =
    let all = all_move set a steps b does sound in record {
      acts = all.node.lead;
      lost = all.node.lost;
      came = all.links.came;
      went = all.links.went;
      answers = all.node.answers;
      ports = λ port. (all.ports port).goes;
      hands = λ port. (all.ports port).hands;
    }
