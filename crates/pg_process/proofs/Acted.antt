-- What an action of a node makes of it, as an act, and what is told where it is refused.
use Rattle.std.proofs.Common.{◌≡◌, ◌∙◌, ℕ, List, [], ◌∷◌, ◌++◌, refl, sym, ap, subst, append-nil}
use Rattle.std.specs.Prelude.{Result, Ok, Err, Option, Some, None}
use Rattle.std.specs.Option.{option_map, unwrap_or}
use Rattle.std.specs.List.{AllByRecursion, flat_map}
use Rattle.pg_node.specs.PgGroup.declared.table.GroupTable.{Ghosts}
use Rattle.pg_node.specs.PgStep.Machines.Clocked.{Timed}
use Rattle.pg_node.specs.PgNodeSends.contracts.framing.FramedOutgoing.TheImpl as frames
use Rattle.pg_node.specs.PgNodeSends.Dones.{FramedDone}
use Rattle.pg_node.specs.PgNodeSends.Framed.{listed_of}
use Rattle.pg_node.specs.PgNodeSends.Frames.{AreSmallFrames}
use Rattle.pg_node.specs.PgNodeSends.Sendable.{AreSendable}
use Rattle.pg_node.specs.PgNodeState.declared.state.NodeState.{NodeState}
use Rattle.pg_node.specs.PgNodeState.declared.state.fault.NodeFault.{NodeFault}
use Rattle.pg_node.specs.PgNodeState.declared.state.fault.NodeFault.TheVariants.{Refused}
use Rattle.pg_node.specs.PgNodeState.Issued.{ports_of}
use Rattle.pg_node.specs.PgNodeState.States.{names_of, nodes_of, state_of, answers_of, Comes, Gave}
use Rattle.pg_node.specs.PgNodeOpens.Places.{name_at}
use Rattle.pg_node.specs.Links.{Link}
use Rattle.pg_node.specs.Nodes.{held_by, links_of, sent_out}
use Rattle.pg_node.specs.declared.node.Node.{Node}
use Rattle.pg_node.specs.PgStep.declared.answer.Answer.{Answer}
use Rattle.pg_node.specs.PgStep.declared.refusal.Refusal.{Refusal}
use Rattle.pg_node.specs.PgStep.Nodes.{Node as Name}
use Rattle.pg_node.specs.PgStep.State.{State}
use Rattle.pg_node.specs.PgStep.Step.{Action, TimedTurn, step_act}
use Rattle.pg_node_process.specs.declared.desk.Numbered.{Numbered}
use Rattle.pg_node_process.specs.Logs.{Entry, entry_bytes}
use Rattle.pg_node_run.specs.Acts.{Act, ActLeads, Did, Standing}
use Rattle.pg_node_run.proofs.Acting.{happened_by}
use Rattle.pg_node_process.specs.Outputs.{IsFramed, Output, said as bytes_said}
use Rattle.pg_process.specs.declared.process.Process.{Process}
use Rattle.pg_process.specs.Chains.{Makes}
use Rattle.pg_process.specs.Deeds.{Deed, Does, logged, number_of}
use Rattle.pg_process.specs.Situations.{Setting, Situation, setting_of, situation_of}

-- ---- an action is made

module _ {T : Type 0} {g : Ghosts T} where
  abbrev pub standing_of : Node T g → Standing
  standing_of n = record { state = state_of (held_by n); answers = answers_of (held_by n) }

  pub record DidAct (n m : Node T g) (action : Action) : Type 0 where
    pub act : Act
    pub given : act.input ≡ Did action
    pub leads : ActLeads (names_of (held_by n)) (ports_of (held_by n)) (standing_of n) act (standing_of m)
    pub links : (place : ℕ) → links_of m place ≡ sent_out act.sends (links_of n) place

  -- and what it began is what the event told
  pub did_act : (n m m2 : Node T g) (action : Action) (done : FramedDone)
      → Comes (names_of (held_by n)) (step_act (nodes_of (held_by n)) (ports_of (held_by n)) action (state_of (held_by n)))
      (Ok done) (state_of (held_by m)) (answers_of (held_by n)) (answers_of (held_by m))
      → AreSendable (names_of (held_by n)) (listed_of done.sends) → AreSmallFrames (listed_of done.sends)
      → ((place : ℕ) → links_of m place ≡ sent_out (listed_of done.sends) (links_of n) place)
      → held_by m2 ≡ held_by m → links_of m2 ≡ links_of m → (did : DidAct n m2 action) × (done.began ≡ did.act.turn.reported.began)
  did_act n m m2 action done came fits small sent same wires =
      let happened = happened_by (names_of (held_by n)) (step_act (nodes_of (held_by n)) (ports_of (held_by n)) action (state_of (held_by n)))
      done (state_of (held_by m)) (answers_of (held_by n)) (answers_of (held_by m)) came in (
        record {
          act = record { input = Did action; turn = happened.turn; sends = listed_of done.sends; came = [] };
          given = refl;
          leads = record {
            there = tt;
            made = happened.made;
            state = ap state_of same ∙ happened.happens.state;
            answers = subst (λ (x : NodeState T g). Gave (name_at (names_of (held_by n)) 0) happened.turn.reported.gave (answers_of (held_by n)) (answers_of x)) (sym same) happened.happens.answers;
            sends = happened.happens.told.sends;
            fits = fits;
            small = small;
            came = refl;
          };
          links = λ place. ap (λ (ls : ℕ → Link). ls place) wires ∙ sent place;
        },
        happened.happens.told.began,
      )

-- ---- it is refused

pub told_refused : (names : List Name) (told : Result TimedTurn Refusal) (fault : NodeFault) (refusal : Refusal) (s : Timed State) (before after : ℕ → List Answer)
    → fault ≡ Refused refusal → Comes {h = frames.ghosts} names told (Err fault) s before after → told ≡ Err refusal
told_refused names told fault refusal s before after is came = go told (subst (λ (f : NodeFault). Comes {h = frames.ghosts} names told (Err f) s before after) is came)
  where
    go : (told : Result TimedTurn Refusal) → Comes {h = frames.ghosts} names told (Err (Refused refusal)) s before after → told ≡ Err refusal
    go (Ok turn) came = absurd came
    go (Err other) came = cc

-- ---- what stays

abbrev standing : Timed State → (ℕ → List Answer) → Standing
standing s x = record { state = s; answers = x }

pub alike_standings : (s t : Timed State) (x y : ℕ → List Answer) → s ≡ t → x ≡ y → standing s x ≡ standing t y
alike_standings s t x y e f = ap (λ (u : Timed State). standing u x) e ∙ ap (λ (w : ℕ → List Answer). standing t w) f

abbrev pub setting_with : List Name → ℕ → Setting
setting_with names ports = record { names = names; ports = ports }

pub alike_settings : (xs ys : List Name) (m n : ℕ) → xs ≡ ys → m ≡ n → setting_with xs m ≡ setting_with ys n
alike_settings xs ys m n e f = ap (λ (w : List Name). setting_with w m) e ∙ ap (λ (k : ℕ). setting_with ys k) f

-- ---- a deed that is marked

pub marked_deed : (a b : Process) (deed : Deed) (mid : Situation) (entry : Entry) (said : List Output) → logged deed ≡ entry ∷ [] → situation_of b ≡ mid → setting_of b ≡ setting_of a
    → AllByRecursion IsFramed said → b.outlet.gathered.items ≡ a.outlet.gathered.items ++ flat_map bytes_said said → b.journal.gathered.items ≡ a.journal.gathered.items ++ entry_bytes entry
    → Does (setting_of a) (situation_of a) deed said mid → Makes deed a b
marked_deed a b deed mid entry said is same kept framed gathered journal does = record {
  said = said;
  does = subst (λ (s : Situation). Does (setting_of a) (situation_of a) deed said s) (sym same) does;
  heard = framed;
  gathered = gathered;
  journal = journal ∙ ap (λ w. a.journal.gathered.items ++ w) (sym (append-nil (entry_bytes entry)) ∙ ap (λ es. flat_map entry_bytes es) (sym is));
  setting = kept;
}

-- the number of the change that is with the node, where one is
pub number_there : (change : Option Numbered) → unwrap_or (option_map (λ x. x.number) change) 0 ≡ number_of change
number_there None = refl
number_there (Some change) = refl
