-- How commands fare in a turn, of its phases.
use Rattle.std.proofs.Common.{◌≡◌, ℕ, get_or, List, [], ◌++◌, refl, cond, subst, sym}
use Rattle.std.specs.Prelude.{Bool, true, false}
use Rattle.pg_node.specs.PgGroup.declared.table.GroupTable.{Ghosts}
use Rattle.pg_node_run.specs.declared.linked.LinkedNode.{LinkedNode}
use Rattle.pg_node_run.specs.declared.log.NodeEvent.{NodeEvent}
use Rattle.pg_node_run.specs.declared.pauses.Pauses.{Pauses}
use Rattle.pg_node_run.specs.declared.port.Port.{Port}
use Rattle.pg_node_run.specs.declared.run.NodeRun.{NodeRun}
use Rattle.pg_node_run.specs.Follows.{log_of, node_of}
use Rattle.pg_node_run.specs.Logs.{IsCommand, IsDueRetry, IsTake, LogsLoss, LogsOnly}
use Rattle.pg_node_run.specs.Pauses.{Waits, is_due, wait_of}
use Rattle.pg_node_run.specs.Ports.{HandsMore, was_handed}
use Rattle.pg_node_run.specs.Runs.{TurnedTo}
use Rattle.pg_node_run.specs.Tries.{ComesTo, DidInPart, HasDone, HasRetried, HasRetriedDue}
use Rattle.pg_node_run.specs.Tries.{RetriedBy, SawDrained, TurnDid, is_ready_at, waits_at}
use Rattle.pg_node_run.specs.declared.run.Turned.{Turned}
use Rattle.pg_node_run.specs.declared.run.Turned.TheVariants.{Whole, Short}
use Rattle.pg_node_run.proofs.Logging.{logs_still}
use Rattle.pg_node_run.proofs.Pausing.{waits_less}
use Rattle.pg_node_run.proofs.Retrying.{retried_between}
use Rattle.pg_node_run.proofs.Trying.{comes_on, stays}
use Rattle.pg_node.specs.PgStep.declared.command.OpId.{OpId}

module _ {T L I K : Type 0} {g : Ghosts T} (accepts : L → List ℕ → L → Type 0) (gives : I → List ℕ → I → Type 0)
    (link_rests : (a : L) → accepts a [] a) (inlet_rests : (a : I) → gives a [] a)
    (link_composes : (a b c : L) (xs ys : List ℕ) → accepts a xs b → accepts b ys c → accepts a (xs ++ ys) c)
    (inlet_composes : (a b c : I) (xs ys : List ℕ) → gives a xs b → gives b ys c → gives a (xs ++ ys) c) (link_moves : L → ℕ → ℕ → Type 0) (inlet_moves : I → ℕ → ℕ → Type 0) where
  -- From the node m on commands are tried, by n all are, and then bytes are put.
  pub retried_due : (whole phase lost : Bool) (a b : NodeRun T L I K g) (m n : LinkedNode T L I g) (between : Pauses) (taken seen : List (ℕ × NodeEvent)) → (whole ≡ true → phase ≡ true)
      → (lost ≡ true → SawDrained accepts gives inlet_moves a.linked b.linked)
      → ComesTo accepts gives a.linked m → ComesTo accepts gives m n → ComesTo accepts gives n b.linked
      → (phase ≡ true → (op : OpId) → waits_at (node_of m) op ≡ true → is_due (is_ready_at (node_of m) op) (wait_of a.pauses op) ≡ true → HasRetried accepts gives op m n)
      → ((op : OpId) → waits_at (node_of m) op ≡ true → Waits (is_ready_at (node_of m) op) phase (wait_of a.pauses op) (wait_of between op))
      → ((op : OpId) → waits_at (node_of m) op ≡ false → wait_of between op ≡ wait_of a.pauses op)
      → LogsOnly IsTake (log_of a.linked) taken → LogsLoss lost taken seen → LogsOnly IsCommand seen (log_of m) → LogsOnly (IsDueRetry (is_ready_at (node_of m)) a.pauses between) (log_of m) (log_of n)
      → log_of b.linked ≡ log_of n → ((op : OpId) (none : Port) → was_handed op (get_or b.ports.items op.port none) ≡ false → wait_of b.pauses op ≡ wait_of between op)
      → ((op : OpId) (none : Port) → HandsMore op (get_or a.ports.items op.port none) (get_or b.ports.items op.port none) b.pauses)
      → HasRetriedDue accepts gives link_moves inlet_moves whole a b
  retried_due whole phase lost a b m n between taken seen is drained first retries put tried waits others takes sees commands retried still forgot answered = record {
    lost = lost;
    drained = drained;
    middle = m;
    first = first;
    rest = comes_on accepts gives link_rests inlet_rests link_composes inlet_composes m n b.linked retries put;
    tried = λ all op waiting due.
        retried_between accepts gives link_rests inlet_rests link_composes inlet_composes op m m n b.linked
        (stays accepts gives link_rests inlet_rests link_composes inlet_composes m) (tried (is all) op waiting due) put;
    between = between;
    waits = λ op waiting. waits_less (is_ready_at (node_of m) op) phase whole is _ _ (waits op waiting);
    others = others;
    logs = record {
      taken = taken;
      takes = takes;
      seen = seen;
      sees = sees;
      commands = commands;
      retries = logs_still (IsDueRetry (is_ready_at (node_of m)) a.pauses between) (log_of m) (log_of n) (log_of b.linked) retried still;
    };
    forgot = forgot;
    answered = answered;
  }

module _ {T L I K : Type 0} {g : Ghosts T} (accepts : L → List ℕ → L → Type 0) (gives : I → List ℕ → I → Type 0) (link_moves : L → ℕ → ℕ → Type 0)
    (inlet_moves : I → ℕ → ℕ → Type 0) where
  -- ---- by how it went

  pub turn_did : (turned : Turned) (phase : Bool) (a b : NodeRun T L I K g) → turned ≡ cond phase Whole Short → (phase ≡ true → HasDone accepts gives link_moves inlet_moves a b)
      → (phase ≡ false → DidInPart accepts gives link_moves inlet_moves a b) → TurnDid accepts gives link_moves inlet_moves turned a b
  turn_did turned phase a b is done wanted = subst (λ t. TurnDid accepts gives link_moves inlet_moves t a b) (sym is) (go phase done wanted)
    where
      go : (w : Bool) → (w ≡ true → HasDone accepts gives link_moves inlet_moves a b) → (w ≡ false → DidInPart accepts gives link_moves inlet_moves a b)
          → TurnDid accepts gives link_moves inlet_moves (cond w Whole Short) a b
      go true done wanted = done refl
      go false done wanted = wanted refl

  pub retried_by : (turned : Turned) (phase : Bool) (a b : NodeRun T L I K g) → turned ≡ cond phase Whole Short
      → ((whole : Bool) → (whole ≡ true → phase ≡ true) → HasRetriedDue accepts gives link_moves inlet_moves whole a b) → RetriedBy accepts gives link_moves inlet_moves turned a b
  retried_by turned phase a b is retried = subst (λ t. RetriedBy accepts gives link_moves inlet_moves t a b) (sym is) (go phase retried)
    where
      go : (w : Bool) → ((whole : Bool) → (whole ≡ true → w ≡ true) → HasRetriedDue accepts gives link_moves inlet_moves whole a b) → RetriedBy accepts gives link_moves inlet_moves (cond w Whole Short) a b
      go true retried = retried true (λ all. refl)
      go false retried = retried false (λ all. absurd (cc))

pub turned_on : {I : Type 0} (gives : I → List ℕ → I → Type 0) (turned : Turned) (phase : Bool) (a b : I) → turned ≡ cond phase Whole Short → gives a [] b → TurnedTo gives a turned b
turned_on gives turned phase a b is gave = subst (λ t. TurnedTo gives a t b) (sym is) (go phase)
  where
    go : (w : Bool) → TurnedTo gives a (cond w Whole Short) b
    go true = gave
    go false = gave
