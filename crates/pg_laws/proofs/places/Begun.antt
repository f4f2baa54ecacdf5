-- A node that begins an update is formed: it has the lock at itself, which it grants to nobody before.
use Rattle.std.proofs.Common.{◌≡◌, ℕ, ◌+◌, nat_eq, Bool, true, false, ◌&&◌, cond}
use Rattle.std.proofs.Common.{Option, Some, None, refl, ap, sym, ◌∙◌, subst}
use Rattle.std.specs.List.{list_all}
use Rattle.std.specs.Cmp.{first_so}
use Rattle.pg_term.specs.Same.{same_atom}
use Rattle.pg_step.specs.PgGroup.declared.update.Update.{Update}
use Rattle.pg_step.specs.PgGroup.Functions.{upd}
use Rattle.pg_step.specs.PgGroup.Value.{name_of}
use Rattle.pg_step.proofs.PgGroup.Changes.{upd_by}
use Rattle.pg_step.specs.PgLock.Locks.{is_free}
use Rattle.pg_step.specs.PgExchange.GroupList.{GroupList}
use Rattle.pg_step.specs.PgMessageTypes.declared.message.Message.{Message}
use Rattle.pg_step.specs.PgMessageTypes.declared.message.Message.TheVariants.{Down}
use Rattle.pg_step.specs.declared.command.OpId.{OpId}
use Rattle.pg_step.specs.Machines.Machine.{Input, Turn, Taken, Own}
use Rattle.pg_step.specs.Nodes.{Node, Nodes, is_node, to_peers}
use Rattle.pg_step.specs.State.{State, Status, Use, formed}
use Rattle.pg_step.specs.State.Status.{Unasked, Asked, Yes, No}
use Rattle.pg_step.specs.State.Use.{Locking, Owning, Updating, Spent}
use Rattle.pg_step.specs.Turns.{NodeTurn, Report, becomes_and_sends, and_then, first_of}
use Rattle.pg_step.specs.Peers.{would_grant, update_request, exchange, process_end, ended_in}
use Rattle.pg_step.specs.Attempts.{is_yes, asks, own_verdict, with_asked}
use Rattle.pg_step.specs.Step.{Action}
use Rattle.pg_step.specs.Config.{Config, name_at, nodes_at, ports_at}
use Rattle.pg_step.specs.FrameMachine.{node_step}
use Rattle.pg_step.proofs.Once.{is_same, same_is}
use Rattle.pg_laws.proofs.steps.Single.{Any, AnyUpdate, OfSingle, acted_so, taken_so}
use Rattle.pg_laws.proofs.steps.Lossless.{NoneLost, took_all, did_all}
use Rattle.pg_laws.proofs.places.Unlocked.{all_more}

-- what the own answer to a request for a lock can be, of a node that is formed or not
abbrev pub FitsOwn : Bool → Status → Type 0
FitsOwn full Asked = ⊥
FitsOwn full Yes = full ≡ true
FitsOwn full Unasked = Unit {0}
FitsOwn full No = Unit {0}

fits_later : (before after : Bool) (v : Status) → (before ≡ true → after ≡ true) → FitsOwn before v → FitsOwn after v
fits_later before after Asked grows f = f
fits_later before after Yes grows f = grows f
fits_later before after Unasked grows f = tt
fits_later before after No grows f = tt

fits_verdict : (full free : Bool) → FitsOwn full (own_verdict (full && free))
fits_verdict true true = refl
fits_verdict true false = tt
fits_verdict false free = tt

said_yes : (full : Bool) (v : Status) → is_yes v ≡ true → FitsOwn full v → full ≡ true
said_yes full Yes e f = f
said_yes full Asked e f = absurd f
said_yes full Unasked e f = absurd (cc)
said_yes full No e f = absurd (cc)

module _ (m : Nodes) where
  pub record OwnFits (s : State) : Type 0 where
    pub own : (c : ℕ) (op : OpId) (u : Update) (lead : Node) (st : Node → Status) → s.uses c ≡ Locking op u lead st → FitsOwn (formed m s) (st m.own)

  -- what a single turn keeps that begins no update
  pub record KeepsOwn (s : State) (t : NodeTurn) : Type 0 where
    pub merged : t.state.merged ≡ s.merged
    pub keeps : OwnFits s → OwnFits t.state
    pub none : t.reported.began ≡ None

  -- what a step keeps, and that who begins an update, or was formed before, is formed
  pub record StepOwn (s : State) (t : State) (reported : Report) : Type 0 where
    pub keeps : OwnFits s → OwnFits t
    pub began : OwnFits s → (op : OpId) (u : Update) → reported.began ≡ Some (op, u) → formed m s ≡ true
    pub stays : formed m s ≡ true → formed m t ≡ true

  abbrev pub TurnOwn : State → NodeTurn → Type 0
  TurnOwn s t = StepOwn s t.state t.reported

  formed_same : (s t : State) → t.merged ≡ s.merged → formed m t ≡ formed m s
  formed_same s t merged = ap (λ (f : Node → Bool). list_all f m.peers) merged

  same_own : (s : State) (t : NodeTurn) → t.state.merged ≡ s.merged → t.state.uses ≡ s.uses → t.reported.began ≡ None → KeepsOwn s t
  same_own s t merged uses none = record {
    merged = merged;
    keeps = λ fits. record { own = λ c op u lead st is. subst (λ b. FitsOwn b (st m.own)) (sym (formed_same s t.state merged)) (fits.own c op u lead st (ap (λ (f : ℕ → Use). f c) (sym uses) ∙ is)) };
    none = none;
  }

  of_single : (s : State) (t : NodeTurn) → KeepsOwn s t → TurnOwn s t
  of_single s t own = record {
    keeps = own.keeps;
    began = λ fits op u e. absurd (cc (sym own.none ∙ e));
    stays = λ full. formed_same s t.state own.merged ∙ full;
  }

  before_own : (s : State) (t : NodeTurn) (next : State → NodeTurn) → KeepsOwn s t → TurnOwn t.state (next t.state) → TurnOwn s (and_then t next)
  before_own s t next first later = record {
    keeps = λ fits. later.keeps (first.keeps fits);
    began = λ fits op u e. sym (formed_same s t.state first.merged) ∙ later.began (first.keeps fits) op u (ap (λ o. first_of o ((next t.state).reported.began)) (sym first.none) ∙ e);
    stays = λ full. later.stays (formed_same s t.state first.merged ∙ full);
  }

  behind_own : (s : State) (t : NodeTurn) (next : State → NodeTurn) → TurnOwn s t → KeepsOwn t.state (next t.state) → TurnOwn s (and_then t next)
  behind_own s t next first later = record {
    keeps = λ fits. later.keeps (first.keeps fits);
    began = λ fits op u e. first.began fits op u (go t.reported.began (ap (first_of t.reported.began) (sym later.none) ∙ e));
    stays = λ full. formed_same t.state ((next t.state).state) later.merged ∙ first.stays full;
  }
    where
      go : {x : OpId × Update} (o : Option (OpId × Update)) → first_of o None ≡ Some x → o ≡ Some x
      go None e = absurd (cc)
      go (Some y) e = e

  use_put : (full : Bool) (uses : ℕ → Use) (c : ℕ) (new : Use) → ((op : OpId) (u : Update) (lead : Node) (st : Node → Status) → new ≡ Locking op u lead st → FitsOwn full (st m.own))
      → ((d : ℕ) (op : OpId) (u : Update) (lead : Node) (st : Node → Status) → uses d ≡ Locking op u lead st → FitsOwn full (st m.own))
      → (d : ℕ) (op : OpId) (u : Update) (lead : Node) (st : Node → Status) → upd nat_eq uses c new d ≡ Locking op u lead st → FitsOwn full (st m.own)
  use_put full uses c new here all d op u lead st = upd_by nat_eq uses c (λ x. x ≡ Locking op u lead st → FitsOwn full (st m.own)) new d (λ _ e. here op u lead st e) (λ _ e. all d op u lead st e)

  locking_own : (full : Bool) (op other : OpId) (u v : Update) (lead lead' : Node) (st later : Node → Status) → FitsOwn full (st m.own) → Locking op u lead st ≡ Locking other v lead' later → FitsOwn full (later m.own)
  locking_own full op other u v lead lead' st later f e = let same : st ≡ later = cc in subst (λ (x : Node → Status). FitsOwn full (x m.own)) same f

  asked_own : (s : State) (who : Node → Bool) (u : Update) (st : Node → Status) → FitsOwn (formed m s) (st m.own) → FitsOwn (formed m s) (with_asked m who st (would_grant m s (name_of u)) m.own)
  asked_own s who u st f = go (is_node m m.own && asks who st m.own)
    where
      go : (b : Bool) → FitsOwn (formed m s) (cond b (cond (same_atom m.own m.own) (own_verdict (would_grant m s (name_of u))) Asked) (st m.own))
      go true = subst (λ b. FitsOwn (formed m s) (cond b (own_verdict (would_grant m s (name_of u))) Asked)) (sym (is_same m.own)) (fits_verdict (formed m s) (is_free (s.locks (name_of u))))
      go false = f

  heard_own : (full : Bool) (st : Node → Status) (p : Node) (status : Status) → st p ≡ Asked → FitsOwn full (st m.own) → FitsOwn full (upd same_atom st p status m.own)
  heard_own full st p status asked f = upd_by same_atom st p (FitsOwn full) status m.own
      (λ same. absurd (subst (FitsOwn full) (ap st (sym (same_is p m.own same)) ∙ asked) f)) (λ _. f)

  pub own_singly : OfSingle m Any AnyUpdate KeepsOwn TurnOwn
  own_singly = record {
    alone = of_single;
    before = λ s t next _. before_own s t next;
    behind = λ s t next _. behind_own s t next;
    stays = λ s. same_own s _ refl refl refl;
    counted = λ port s. same_own s _ refl refl refl;
    lasts = λ op pid s new. new;
    answered = λ op response s _. same_own s _ refl refl refl;
    opened = λ op u s _ _. same_own s _ refl refl refl;
    made = λ op s _. same_own s _ refl refl refl;
    attempted = λ lead op u s _. record {
      merged = refl;
      keeps = λ fits. record { own = use_put (formed m s) s.uses (s.references + 1) (Locking op u lead (λ q. Unasked)) (λ other v lead' later e. locking_own (formed m s) op other u v lead lead' (λ q. Unasked) later tt e) fits.own };
      none = refl;
    };
    asked = λ who c op u lead st s is. record {
      merged = refl;
      keeps = λ fits. record {
        own = use_put (formed m s) s.uses c (Locking op u lead (with_asked m who st (would_grant m s (name_of u))))
            (λ other v lead' later e. locking_own (formed m s) op other u v lead lead' (with_asked m who st (would_grant m s (name_of u))) later (asked_own s who u st (fits.own c op u lead st is)) e) fits.own;
      };
      none = refl;
    };
    given_up = λ c op u lead st s is _. record {
      merged = refl;
      keeps = λ fits. record { own = use_put (formed m s) s.uses c Spent (λ _ _ _ _ e. absurd (cc)) fits.own };
      none = refl;
    };
    begun = λ c op u lead st s is all. record {
      keeps = λ fits. record {
        own = use_put (formed m s) (upd nat_eq s.uses c (Owning (name_of u) (s.references + 1))) (s.references + 1) (Updating op u c (same_atom m.own)) (λ _ _ _ _ e. absurd (cc))
            (use_put (formed m s) s.uses c (Owning (name_of u) (s.references + 1)) (λ _ _ _ _ e. absurd (cc)) fits.own);
      };
      began = λ fits other v e. said_yes (formed m s) (st m.own) (first_so (is_yes (st m.own)) _ all) (fits.own c op u lead st is);
      stays = λ full. full;
    };
    finished = λ n op u c replied s is _. record {
      merged = refl;
      keeps = λ fits. record { own = use_put (formed m s) (upd nat_eq s.uses c Spent) n Spent (λ _ _ _ _ e. absurd (cc)) (use_put (formed m s) s.uses c Spent (λ _ _ _ _ e. absurd (cc)) fits.own) };
      none = refl;
    };
    heard = λ c op u lead st p status s is waits. record {
      merged = refl;
      keeps = λ fits. record {
        own = use_put (formed m s) s.uses c (Locking op u lead (upd same_atom st p status))
            (λ other v lead' later e. locking_own (formed m s) op other u v lead lead' (upd same_atom st p status) later (heard_own (formed m s) st p status waits (fits.own c op u lead st is)) e) fits.own;
      };
      none = refl;
    };
    confirmed = λ n op u c replied p s is _. record {
      merged = refl;
      keeps = λ fits. record { own = use_put (formed m s) s.uses n (Updating op u c (upd same_atom replied p true)) (λ _ _ _ _ e. absurd (cc)) fits.own };
      none = refl;
    };
    odd = λ what s. same_own s _ refl refl refl;
    requested = λ p reference name s. same_own s _ refl refl refl;
    updated = λ p reference u s. of_single s (update_request p reference u s) (same_own s (update_request p reference u s) refl refl refl);
    freed = λ name reference s. same_own s _ refl refl refl;
  }

-- ---- a step

of_exchange : (m : Nodes) (p : Node) (groups : GroupList) (s : State) → TurnOwn m s (exchange p groups s)
of_exchange m p groups s = record {
  keeps = λ fits. record { own = λ c op u lead st is. fits_later (formed m s) (formed m ((exchange p groups s).state)) (st m.own) (all_more s.merged p m.peers) (fits.own c op u lead st is) };
  began = λ fits op u e. absurd (cc);
  stays = all_more s.merged p m.peers;
}

pub step_own : (config : Config) (i : ℕ) (s : State) (input : Input Message Action) (turn : Turn State Message Report) → node_step config i s input ≡ Some turn
    → NoneLost s → StepOwn (nodes_at config i) s turn.state turn.reported
step_own config i s (Taken p x) turn is nobody =
    let m = nodes_at config i in
    let t = took_all config i s nobody p x turn is in
    subst (λ u. StepOwn m s u.state u.reported) (sym t.2)
    (taken_so m Any AnyUpdate (KeepsOwn m) (TurnOwn m) (own_singly m) (name_at config p) x s t.0
    (λ node groups _ _. of_exchange m (name_at config p) groups s) (λ pid _. of_single m s _ (same_own m s (process_end pid s) refl refl refl)) t.1)
step_own config i s (Own action) turn is nobody =
    let m = nodes_at config i in
    let t = did_all config i s nobody action turn is in
    subst (λ u. StepOwn m s u.state u.reported) (sym t.2)
    (acted_so m Any AnyUpdate (KeepsOwn m) (TurnOwn m) (own_singly m) (nodes_at config i)
    (λ pid u _ _ _. of_single m u (becomes_and_sends (ended_in pid u) (to_peers m (λ _. true) (Down pid))) (same_own m u (becomes_and_sends (ended_in pid u) (to_peers m (λ _. true) (Down pid))) refl refl refl))
    (ports_at config i) action s t.0 (λ port. tt) (λ port c u _ _. tt) t.1)
