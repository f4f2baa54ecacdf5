-- What a node's step sends of exchanges and of ends, and what it makes of its ended processes and of the peers merged.
use Rattle.std.proofs.Common.{◌≡◌, ◌⊎◌, inl, inr, Bool, true, false, cond}
use Rattle.std.proofs.Common.{List, [], ◌∷◌, ◌++◌, refl, ap, sym, ◌∙◌, subst}
use Rattle.std.specs.List.{AllByRecursion}
use Rattle.pg_term.specs.declared.pid.Pid.{Pid}
use Rattle.pg_step.specs.PgMessageTypes.declared.message.Message.{Message}
use Rattle.pg_step.specs.Nodes.{Node, Nodes}
use Rattle.pg_step.specs.State.{State}
use Rattle.pg_step.specs.Turns.{NodeTurn, and_then}
use Rattle.pg_laws.specs.History.{all_reported}
use Rattle.pg_laws.specs.Sent.{exchange_of, exchanges_in, end_of, ends_in}
use Rattle.pg_laws.proofs.steps.Ways.{all_both, all_since, told_append}
use Rattle.pg_laws.proofs.steps.Single.{Any, AnyUpdate, OfSingle}

-- ---- one turn

-- A turn of node m that merges no peer. It sends no exchange; only processes of its own end; the ends that it tells are
-- of its own processes, which have ended.
pub record Talks (m : Nodes) (s : State) (t : NodeTurn) : Type 0 where
  pub merged : t.state.merged ≡ s.merged
  pub exchanges : (q : Node) → exchanges_in (t.sends q) ≡ []
  pub lasting : (pid : Pid) → s.ended pid ≡ true → t.state.ended pid ≡ true
  pub ended : (pid : Pid) → t.state.ended pid ≡ true → (s.ended pid ≡ true) ⊎ (pid.node ≡ m.own)
  pub reported : (q : Node) → AllByRecursion (λ pid. (pid.node ≡ m.own) × (t.state.ended pid ≡ true)) (ends_in (t.sends q))

-- a turn that ends nothing, and tells of no end
quiet : (m : Nodes) (s : State) (t : NodeTurn) → t.state.merged ≡ s.merged → t.state.ended ≡ s.ended → ((q : Node) → exchanges_in (t.sends q) ≡ []) → ((q : Node) → ends_in (t.sends q) ≡ []) → Talks m s t
quiet m s t merged ended exchanges ends = record {
  merged = merged;
  exchanges = exchanges;
  lasting = λ pid e. ap (λ (f : Pid → Bool). f pid) ended ∙ e;
  ended = λ pid e. inl (ap (λ (f : Pid → Bool). f pid) (sym ended) ∙ e);
  reported = λ q. subst (AllByRecursion (λ pid. (pid.node ≡ m.own) × (t.state.ended pid ≡ true))) (sym (ends q)) tt;
}

-- a message that tells nothing, to whom it may go
pub sent_nothing : {B : Type 0} (tells : Message → List B) (x : Message) (b : Bool) → tells x ≡ [] → all_reported tells (cond b (x ∷ []) []) ≡ []
sent_nothing tells x true none = ap (λ xs. xs ++ []) none
sent_nothing tells x false none = refl

silent : (m : Nodes) (s : State) (t : NodeTurn) → t.state.merged ≡ s.merged → t.state.ended ≡ s.ended → ((q : Node) → t.sends q ≡ []) → Talks m s t
silent m s t merged ended none = quiet m s t merged ended (λ q. ap exchanges_in (none q)) (λ q. ap ends_in (none q))

talks_then : (m : Nodes) (s : State) (t : NodeTurn) (next : State → NodeTurn) → Talks m s t → Talks m t.state (next t.state) → Talks m s (and_then t next)
talks_then m s t next a b = record {
  merged = b.merged ∙ a.merged;
  exchanges = λ q. told_append exchange_of (t.sends q) ((next t.state).sends q) ∙ ap (λ xs. xs ++ exchanges_in ((next t.state).sends q)) (a.exchanges q) ∙ b.exchanges q;
  lasting = λ pid e. b.lasting pid (a.lasting pid e);
  ended = λ pid e. before pid (b.ended pid e);
  reported = λ q. subst (AllByRecursion Told_end) (sym (told_append end_of (t.sends q) ((next t.state).sends q)))
      (all_both Told_end (ends_in (t.sends q)) (ends_in ((next t.state).sends q))
      (all_since (λ pid. (pid.node ≡ m.own) × (t.state.ended pid ≡ true)) Told_end (ends_in (t.sends q)) (λ pid both. (both.0, b.lasting pid both.1)) (a.reported q)) (b.reported q));
}
  where
    Told_end : Pid → Type 0
    Told_end pid = (pid.node ≡ m.own) × ((next t.state).state.ended pid ≡ true)

    before : (pid : Pid) → (t.state.ended pid ≡ true) ⊎ (pid.node ≡ m.own) → (s.ended pid ≡ true) ⊎ (pid.node ≡ m.own)
    before pid (inl e) = a.ended pid e
    before pid (inr own) = inr own

pub talks_singly : (m : Nodes) → OfSingle m Any AnyUpdate (Talks m) (Talks m)
talks_singly m = record {
  alone = λ s t talks. talks;
  before = λ s t next _. talks_then m s t next;
  behind = λ s t next _. talks_then m s t next;
  stays = λ s. silent m s _ refl refl (λ q. refl);
  counted = λ port s. silent m s _ refl refl (λ q. refl);
  lasts = λ op pid s new. new;
  answered = λ op response s _. silent m s _ refl refl (λ q. refl);
  opened = λ op u s _ _. silent m s _ refl refl (λ q. refl);
  made = λ op s _. silent m s _ refl refl (λ q. refl);
  attempted = λ lead op u s _. silent m s _ refl refl (λ q. refl);
  asked = λ who c op u lead st s _. quiet m s _ refl refl (λ q. sent_nothing exchange_of _ _ refl) (λ q. sent_nothing end_of _ _ refl);
  given_up = λ c op u lead st s _ _. quiet m s _ refl refl (λ q. sent_nothing exchange_of _ _ refl) (λ q. sent_nothing end_of _ _ refl);
  begun = λ c op u lead st s _ _. quiet m s _ refl refl (λ q. sent_nothing exchange_of _ _ refl) (λ q. sent_nothing end_of _ _ refl);
  finished = λ n op u c replied s _ _. quiet m s _ refl refl (λ q. sent_nothing exchange_of _ _ refl) (λ q. sent_nothing end_of _ _ refl);
  heard = λ c op u lead st p status s _ _. silent m s _ refl refl (λ q. refl);
  confirmed = λ n op u c replied p s _ _. silent m s _ refl refl (λ q. refl);
  odd = λ what s. silent m s _ refl refl (λ q. refl);
  requested = λ p reference name s. quiet m s _ refl refl (λ q. sent_nothing exchange_of _ _ refl) (λ q. sent_nothing end_of _ _ refl);
  updated = λ p reference u s. quiet m s _ refl refl (λ q. sent_nothing exchange_of _ _ refl) (λ q. sent_nothing end_of _ _ refl);
  freed = λ name reference s. silent m s _ refl refl (λ q. refl);
}
