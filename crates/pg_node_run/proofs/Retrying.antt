-- Commands that wait, one tried after another.
use Rattle.std.proofs.Common.{◌≡◌, ◌≢◌, ◌<◌, ◌≤◌, ◌+◌, ◌∙◌, ◌⊎◌, ℕ, cond, length, List, []}
use Rattle.std.proofs.Common.{◌∷◌, ◌++◌, refl, sym, ap, subst, inl, inr, arith, length-append}
use Rattle.std.specs.Prelude.{zero, suc, Bool, true, false, nat_lt, slice_get}
use Rattle.std.specs.Prelude.{Option, Some, None, Result, Ok, Err, IfErr, ◌||◌}
use Rattle.std.specs.List.{AllByRecursion, IsDistinct, list_any}
use Rattle.std.proofs.lemmas.Bool.{cases_eq, le-ltb}
use Rattle.std.proofs.lemmas.Map.Keys.{IsDistinct-head, IsDistinct-tail}
use Rattle.pg_node.specs.PgGroup.declared.table.GroupTable.{Ghosts}
use Rattle.pg_node.specs.PgNodeState.declared.state.fault.NodeFault.{NodeFault}
use Rattle.pg_node.specs.PgNodeState.declared.state.fault.NodeFault.TheVariants.{Refused}
use Rattle.pg_node.specs.PgNodeState.Issued.{ports_of}
use Rattle.pg_node.specs.declared.node.Node.{Node}
use Rattle.pg_node.specs.Nodes.{held_by}
use Rattle.pg_node.specs.PgNodeState.States.{kept_by, live_of}
use Rattle.pg_node.specs.PgNodeOpens.Commands.{stages_in}
use Rattle.pg_node.specs.PgNodeOpens.declared.command.OpenCommand.{OpenCommand}
use Rattle.pg_node_run.specs.declared.linked.LinkedNode.{LinkedNode}
use Rattle.pg_node_run.specs.declared.log.NodeEvent.{NodeEvent}
use Rattle.pg_node_run.specs.declared.log.NodeEvent.TheVariants as events
use Rattle.pg_node_run.specs.declared.pauses.Pauses.{Pauses}
use Rattle.pg_node_run.specs.Acts.{Did}
use Rattle.pg_node_run.specs.Events.{Acted, IsRefusedAs, told_of_action}
use Rattle.pg_node_run.specs.Follows.{log_of, node_of}
use Rattle.pg_node_run.specs.Logs.{IsDueRetry, LogsOnly, MayLogRetry}
use Rattle.pg_node_run.specs.Pauses.{Waits, begins_next, is_due, wait_of}
use Rattle.pg_node_run.specs.Tries.{ComesTo, HasRetried, IsNoWant, waits_at}
use Rattle.pg_node_run.specs.Turns.{GoesOn}
use Rattle.pg_node_run.proofs.Commands.{same_is, same_itself}
use Rattle.pg_node_run.proofs.Following.{follows_itself}
use Rattle.pg_node_run.proofs.Logging.{are_so, logs_on, logs_same}
use Rattle.pg_node_run.proofs.Pausing.{waits_less}
use Rattle.pg_node_run.proofs.Trying.{stays, comes_on}
use Rattle.pg_node_run.proofs.Wanting.{not_both}
use Rattle.pg_node.specs.PgStep.declared.command.OpId.{OpId}
use Rattle.pg_node.specs.PgStep.declared.refusal.Refusal.{Refusal}
use Rattle.pg_node.specs.PgStep.declared.refusal.Refusal.TheVariants.{NoSuchPlace}
use Rattle.pg_node.specs.PgStep.Attempts.{same_op, waits}
use Rattle.pg_node.specs.PgStep.State.Stage.{Closed}
use Rattle.pg_node.specs.PgStep.Step.{Retry, timed}
use Rattle.pg_node.specs.PgStep.Turns.{NodeTurn}

-- ---- none is open

all_closed : (commands : List OpenCommand) → length commands ≡ 0 → (op : OpId) → stages_in commands op ≡ Closed
all_closed [] none op = refl
all_closed (command ∷ commands) none op = absurd (omega (arith, none))

-- where no command is open none waits
pub none_waits : {A T : Type 0} {g : Ghosts T} (node : Node T g) → (kept_by (held_by node)).opened ≡ 0 → (op : OpId) → waits_at node op ≡ true → A
none_waits node none op waits_there =
    let not_there : waits_at node op ≡ false = ap (λ stage. waits (live_of (held_by node)) stage (kept_by (held_by node))) (all_closed _ none op) in
    not_both (waits_at node op) waits_there not_there

-- ---- one by one

-- what is told where the port of a command is not there
told_nowhere : (there : Bool) (clock : ℕ) (made : Result NodeTurn Refusal) → there ≡ false → IsRefusedAs (timed clock (cond there made (Err NoSuchPlace))) (Refused NoSuchPlace)
told_nowhere true clock made is = absurd (cc)
told_nowhere false clock made is = refl

-- the place of one of these commands
pub record IsAt (op : OpId) (ops : List OpId) : Type 0 where
  pub place : ℕ
  pub there : slice_get ops place ≡ Some op

is_at : (op : OpId) (ops : List OpId) → list_any (λ other. same_op other op) ops ≡ true → IsAt op ops
is_at op [] e = absurd (cc)
is_at op (o ∷ ops) e = go (same_op o op) refl (λ any. is_at op ops any) e
  where
    go : (b : Bool) → same_op o op ≡ b → (list_any (λ other. same_op other op) ops ≡ true → IsAt op ops) → (b || list_any (λ other. same_op other op) ops) ≡ true → IsAt op (o ∷ ops)
    go true same later any = record { place = 0; there = ap Some (same_is o op same) }
    go false same later any = let behind = later any in record { place = suc behind.place; there = behind.there }

pub none_at : (op : OpId) (ops : List OpId) → list_any (λ other. same_op other op) ops ≡ false → (k : ℕ) → slice_get ops k ≡ Some op → ⊥
none_at op [] e k there = absurd (cc)
none_at op (o ∷ ops) e k there = go (same_op o op) refl e k there (λ any j. none_at op ops any j)
  where
    first_of : Option OpId → OpId
    first_of None = o
    first_of (Some x) = x

    go : (b : Bool) → same_op o op ≡ b → (b || list_any (λ other. same_op other op) ops) ≡ false → (k : ℕ) → slice_get (o ∷ ops) k ≡ Some op
        → (list_any (λ other. same_op other op) ops ≡ false → (j : ℕ) → slice_get ops j ≡ Some op → ⊥) → ⊥
    go true same any k there later = absurd (cc)
    go false same any zero there later =
        let differs : same_op op op ≡ false = subst (λ x. same_op x op ≡ false) (ap first_of there) same in
        let is = same_itself op in
        absurd (cc)
    go false same any (suc k) there later = later any k there

-- no command stands at two places
apart_head : (o : OpId) (ops : List OpId) → AllByRecursion (λ other. same_op o other ≡ false) ops → (k : ℕ) → slice_get ops k ≡ Some o → ⊥
apart_head o [] h k there = absurd (cc)
apart_head o (x ∷ ops) h zero there =
    let differs : same_op o o ≡ false = subst (λ y. same_op o y ≡ false) (some_op o x o there) h.0 in
    let is = same_itself o in
    absurd (cc)
  where
    some_op : (none x y : OpId) → Some x ≡ Some y → x ≡ y
    some_op none x y e = ap (first_of none) e
      where
        first_of : OpId → Option OpId → OpId
        first_of none None = none
        first_of none (Some z) = z
apart_head o (x ∷ ops) h (suc k) there = apart_head o ops h.1 k there

pub apart_at : (ops : List OpId) → IsDistinct same_op ops → (j k : ℕ) (op : OpId) → j < k → slice_get ops j ≡ Some op → slice_get ops k ≡ Some op → ⊥
apart_at [] once j k op low first second = absurd (cc)
apart_at (o ∷ ops) once j zero op low first second = absurd (omega (arith, low))
apart_at (o ∷ ops) once zero (suc k) op low first second = apart_head o ops (IsDistinct-head same_op o ops once) k (second ∙ sym first)
apart_at (o ∷ ops) once (suc j) (suc k) op low first second = apart_at ops (IsDistinct-tail same_op o ops once) j k op (omega (arith, low)) first second

-- ---- retries below a place

-- one of these commands, below a place
pub record IsBelow (op : OpId) (ops : List OpId) (place : ℕ) : Type 0 where
  pub at : ℕ
  pub low : at < place
  pub there : slice_get ops at ≡ Some op

abbrev pub IsRetryBelow : List OpId → ℕ → (ready : OpId → Bool) → Pauses → Pauses → NodeEvent → Type 0
IsRetryBelow ops place ready p q (events.Take peer) = ⊥
IsRetryBelow ops place ready p q (events.Command port command) = ⊥
IsRetryBelow ops place ready p q (events.Retry op) = IsBelow op ops place × (is_due (ready op) (wait_of p op) ≡ true) × (begins_next (wait_of q op) ≡ true)
IsRetryBelow ops place ready p q (events.SeeLoss peer) = ⊥

pub due_below : (ops : List OpId) (place : ℕ) (ready : OpId → Bool) (p q : Pauses) (event : NodeEvent) → IsRetryBelow ops place ready p q event → IsDueRetry ready p q event
due_below ops place ready p q (events.Take peer) h = h
due_below ops place ready p q (events.Command port command) h = h
due_below ops place ready p q (events.Retry op) h = (h.1, h.2)
due_below ops place ready p q (events.SeeLoss peer) h = h

pub logs_due : (ops : List OpId) (place : ℕ) (ready : OpId → Bool) (p q : Pauses) (log log2 : List (ℕ × NodeEvent)) → LogsOnly (IsRetryBelow ops place ready p q) log log2 → LogsOnly (IsDueRetry ready p q) log log2
logs_due ops place ready p q log log2 h = record {
  more = h.more;
  grew = h.grew;
  each = are_so (IsRetryBelow ops place ready p q) (IsDueRetry ready p q) (due_below ops place ready p q) h.more h.each;
}

longer : (log : List (ℕ × NodeEvent)) (entry : ℕ × NodeEvent) → log ≡ log ++ entry ∷ [] → ⊥
longer log entry e = absurd (let n = ap length e ∙ length-append log (entry ∷ []) in omega (arith, n))

module _ (ops : List OpId) (once : IsDistinct same_op ops) (place : ℕ) (op : OpId) (at : slice_get ops place ≡ Some op) (ready : OpId → Bool) (p q r : Pauses)
    (others : (other : OpId) → other ≢ op → wait_of r other ≡ wait_of q other) where
  apart_below : (o : OpId) → IsBelow o ops place → o ≢ op
  apart_below o below same = apart_at ops once below.at place op below.low (below.there ∙ ap Some same) at

  one_further : (event : NodeEvent) → IsRetryBelow ops place ready p q event → IsRetryBelow ops (place + 1) ready p r event
  one_further (events.Take peer) h = h
  one_further (events.Command port command) h = h
  one_further (events.Retry o) h = (
    record { at = h.0.at; low = omega (arith, h.0.low); there = h.0.there },
    h.1,
    ap begins_next (others o (apart_below o h.0)) ∙ h.2,
  )
  one_further (events.SeeLoss peer) h = h

  -- what one more logs
  pub logs_one_more : (log log2 log3 : List (ℕ × NodeEvent)) → wait_of q op ≡ wait_of p op → LogsOnly (IsRetryBelow ops place ready p q) log log2 → MayLogRetry op r log2 log3
      → (is_due (ready op) (wait_of q op) ≡ false → log3 ≡ log2) → LogsOnly (IsRetryBelow ops (place + 1) ready p r) log log3
  logs_one_more log log2 log3 same was (inl still) spared = record {
    more = was.more;
    grew = still ∙ was.grew;
    each = are_so (IsRetryBelow ops place ready p q) (IsRetryBelow ops (place + 1) ready p r) one_further was.more was.each;
  }
  logs_one_more log log2 log3 same was (inr retry) spared = go (is_due (ready op) (wait_of q op)) refl
    where
      go : (b : Bool) → is_due (ready op) (wait_of q op) ≡ b → LogsOnly (IsRetryBelow ops (place + 1) ready p r) log log3
      go false not_due = absurd (longer log2 (retry.clock, events.Retry op) (sym (spared not_due) ∙ retry.grew))
      go true due = logs_on (IsRetryBelow ops (place + 1) ready p r) log log2 log3
          (record { more = was.more; grew = was.grew; each = are_so (IsRetryBelow ops place ready p q) (IsRetryBelow ops (place + 1) ready p r) one_further was.more was.each })
          (record {
            more = (retry.clock, events.Retry op) ∷ [];
            grew = retry.grew;
            each = ((record { at = place; low = omega arith; there = at }, ap (is_due (ready op)) (sym same) ∙ due, retry.begins), tt);
          })

module _ {T L I : Type 0} {g : Ghosts T} (accepts : L → List ℕ → L → Type 0) (gives : I → List ℕ → I → Type 0) where
  -- Those below a place fared as they are to: each that was due was tried, a turn passed for each, and only due ones were tried.
  pub record RetriedBelow (ops : List OpId) (place : ℕ) (ready : OpId → Bool) (whole : Bool) (pauses pauses2 : Pauses) (a b : LinkedNode T L I g) : Type 0 where
    pub goes : GoesOn accepts gives a b
    pub tried : whole ≡ true → (k : ℕ) (op : OpId) → k < place → slice_get ops k ≡ Some op → is_due (ready op) (wait_of pauses op) ≡ true → HasRetried accepts gives op a b
    pub waits : (k : ℕ) (op : OpId) → k < place → slice_get ops k ≡ Some op → Waits (ready op) whole (wait_of pauses op) (wait_of pauses2 op)
    pub others : (op : OpId) → ((k : ℕ) → k < place → slice_get ops k ≡ Some op → ⊥) → wait_of pauses2 op ≡ wait_of pauses op
    pub logs : LogsOnly (IsRetryBelow ops place ready pauses pauses2) (log_of a) (log_of b)

module _ {T L I : Type 0} {g : Ghosts T} (accepts : L → List ℕ → L → Type 0) (gives : I → List ℕ → I → Type 0)
    (link_rests : (a : L) → accepts a [] a) (inlet_rests : (a : I) → gives a [] a)
    (link_composes : (a b c : L) (xs ys : List ℕ) → accepts a xs b → accepts b ys c → accepts a (xs ++ ys) c)
    (inlet_composes : (a b c : I) (xs ys : List ℕ) → gives a xs b → gives b ys c → gives a (xs ++ ys) c) where
  stay : (a : LinkedNode T L I g) → ComesTo accepts gives a a
  stay a = stays accepts gives link_rests inlet_rests link_composes inlet_composes a

  on : (a b c : LinkedNode T L I g) → ComesTo accepts gives a b → ComesTo accepts gives b c → ComesTo accepts gives a c
  on a b c h k = comes_on accepts gives link_rests inlet_rests link_composes inlet_composes a b c h k

  -- ---- one command

  -- what came of it
  pub retried_ok : (op : OpId) (r : Result (Unit {0}) NodeFault) (done : Unit {0}) (a b : LinkedNode T L I g) → r ≡ Ok done → Acted accepts gives (Did (Retry op)) r a b → HasRetried accepts gives op a b
  retried_ok op r done a b ok acted = record {
    before = a;
    first = stay a;
    outcome = r;
    after = b;
    acted = acted;
    fault = subst (λ (x : Result (Unit {0}) NodeFault). IfErr x (IsRefusedAs (told_of_action (node_of a) (Retry op)))) (sym ok) tt;
    no_want = subst (λ (x : Result (Unit {0}) NodeFault). IfErr x IsNoWant) (sym ok) tt;
    rest = stay b;
  }

  pub retried_err : (op : OpId) (r : Result (Unit {0}) NodeFault) (fault : NodeFault) (a b : LinkedNode T L I g) → r ≡ Err fault → Acted accepts gives (Did (Retry op)) r a b
      → IfErr r (IsRefusedAs (told_of_action (node_of a) (Retry op))) → IsNoWant fault → HasRetried accepts gives op a b
  retried_err op r fault a b err acted told no_want = record {
    before = a;
    first = stay a;
    outcome = r;
    after = b;
    acted = acted;
    fault = told;
    no_want = subst (λ (x : Result (Unit {0}) NodeFault). IfErr x IsNoWant) (sym err) no_want;
    rest = stay b;
  }

  -- where its port is not there
  pub retried_nowhere : (op : OpId) (a : LinkedNode T L I g) → ports_of (held_by (node_of a)) ≤ op.port → HasRetried accepts gives op a a
  retried_nowhere op a nowhere = record {
    before = a;
    first = stay a;
    outcome = Err (Refused NoSuchPlace);
    after = a;
    acted = follows_itself accepts gives link_rests inlet_rests a;
    fault = told_nowhere (nat_lt op.port (ports_of (held_by (node_of a)))) _ _ (le-ltb op.port (ports_of (held_by (node_of a))) nowhere);
    no_want = tt;
    rest = stay a;
  }

  pub retried_between : (op : OpId) (a b c d : LinkedNode T L I g) → ComesTo accepts gives a b → HasRetried accepts gives op b c → ComesTo accepts gives c d → HasRetried accepts gives op a d
  retried_between op a b c d h retried k = record {
    before = retried.before;
    first = on a b retried.before h retried.first;
    outcome = retried.outcome;
    after = retried.after;
    acted = retried.acted;
    fault = retried.fault;
    no_want = retried.no_want;
    rest = on retried.after c d retried.rest k;
  }

  -- ---- one after another

  pub retried_first : (ops : List OpId) (ready : OpId → Bool) (whole : Bool) (pauses : Pauses) (a : LinkedNode T L I g) → GoesOn accepts gives a a → RetriedBelow accepts gives ops 0 ready whole pauses pauses a a
  retried_first ops ready whole pauses a goes = record {
    goes = goes;
    tried = λ is k op low. absurd (omega (arith, low));
    waits = λ k op low. absurd (omega (arith, low));
    others = λ op none. refl;
    logs = logs_same (IsRetryBelow ops 0 ready pauses pauses) (log_of a) (log_of a) refl;
  }

  pub retried_next : (ops : List OpId) → IsDistinct same_op ops → (place : ℕ) (op : OpId) (ready : OpId → Bool) (before here both : Bool) (p q r : Pauses) (a b c : LinkedNode T L I g) → slice_get ops place ≡ Some op
      → (both ≡ true → before ≡ true) → (both ≡ true → here ≡ true) → RetriedBelow accepts gives ops place ready before p q a b
      → GoesOn accepts gives a c → GoesOn accepts gives b c → (here ≡ true → is_due (ready op) (wait_of q op) ≡ true → HasRetried accepts gives op b c)
      → Waits (ready op) here (wait_of q op) (wait_of r op) → MayLogRetry op r (log_of b) (log_of c) → (is_due (ready op) (wait_of q op) ≡ false → log_of c ≡ log_of b)
      → ((other : OpId) → other ≢ op → wait_of r other ≡ wait_of q other) → RetriedBelow accepts gives ops (place + 1) ready both p r a c
  retried_next ops once place op ready before here both p q r a b c at first second was goes step tried waits logged spared others = record {
    goes = goes;
    tried = λ is k o low there due. by_place is k o low there due (cases_eq k place);
    waits = λ k o low there. waits_at_place k o low there (cases_eq k place);
    others = λ o none. others o (λ e. none place (omega arith) (at ∙ ap Some (sym e))) ∙ was.others o (λ k low there. none k (omega (arith, low)) there);
    logs = logs_one_more ops once place op at ready p q r others (log_of a) (log_of b) (log_of c) same was.logs logged spared;
  }
    where
      one_of : Option OpId → OpId
      one_of None = op
      one_of (Some o) = o

      -- it stands below no place, and so waits as it did
      same : wait_of q op ≡ wait_of p op
      same = was.others op (λ k low there. apart_at ops once k place op low there at)

      is_op : (k : ℕ) (o : OpId) → slice_get ops k ≡ Some o → k ≡ place → op ≡ o
      is_op k o there e = ap one_of (sym at ∙ (ap (slice_get ops) (sym e) ∙ there))

      by_place : both ≡ true → (k : ℕ) (o : OpId) → k < place + 1 → slice_get ops k ≡ Some o → is_due (ready o) (wait_of p o) ≡ true → (k ≡ place) ⊎ (k ≢ place) → HasRetried accepts gives o a c
      by_place is k o low there due (inl e) =
          let is_o : op ≡ o = is_op k o there e in
          subst (λ x. HasRetried accepts gives x a c) is_o
          (retried_between op a b c c (was.goes.acts, was.goes.follows) (tried (second is) (ap (is_due (ready op)) same ∙ subst (λ x. is_due (ready x) (wait_of p x) ≡ true) (sym is_o) due)) (stay c))
      by_place is k o low there due (inr apart) = retried_between o a a b c (stay a) (was.tried (first is) k o (omega (arith, low, apart)) there due) (step.acts, step.follows)

      waits_at_place : (k : ℕ) (o : OpId) → k < place + 1 → slice_get ops k ≡ Some o → (k ≡ place) ⊎ (k ≢ place) → Waits (ready o) both (wait_of p o) (wait_of r o)
      waits_at_place k o low there (inl e) =
          subst (λ x. Waits (ready x) both (wait_of p x) (wait_of r x)) (is_op k o there e) (subst (λ w. Waits (ready op) both w (wait_of r op)) same (waits_less (ready op) here both second _ _ waits))
      waits_at_place k o low there (inr apart) =
          let below : k < place = omega (arith, low, apart) in
          subst (Waits (ready o) both (wait_of p o)) (sym (others o (λ e. apart_at ops once k place op below (there ∙ ap Some e) at)))
          (waits_less (ready o) before both first _ _ (was.waits k o below there))

  -- the same where it is marked whether the command is ready
  pub retried_next_marked : (ops : List OpId) → IsDistinct same_op ops → (place : ℕ) (op : OpId) (ready : OpId → Bool) (marked : Bool) (before here both : Bool) (p q r : Pauses) (a b c : LinkedNode T L I g)
      → slice_get ops place ≡ Some op → marked ≡ ready op
      → (both ≡ true → before ≡ true) → (both ≡ true → here ≡ true) → RetriedBelow accepts gives ops place ready before p q a b
      → GoesOn accepts gives a c → GoesOn accepts gives b c → (here ≡ true → is_due marked (wait_of q op) ≡ true → HasRetried accepts gives op b c)
      → Waits marked here (wait_of q op) (wait_of r op) → MayLogRetry op r (log_of b) (log_of c) → (is_due marked (wait_of q op) ≡ false → log_of c ≡ log_of b)
      → ((other : OpId) → other ≢ op → wait_of r other ≡ wait_of q other) → RetriedBelow accepts gives ops (place + 1) ready both p r a c
  retried_next_marked ops once place op ready marked before here both p q r a b c at is first second was goes step tried waits logged spared others =
      retried_next ops once place op ready before here both p q r a b c at first second was goes step
      (λ h due. tried h (ap (λ m. is_due m (wait_of q op)) is ∙ due)) (subst (λ m. Waits m here (wait_of q op) (wait_of r op)) is waits) logged
      (λ no. spared (ap (λ m. is_due m (wait_of q op)) is ∙ no)) others

  -- ---- all that wait

  pub tried_where_waits : (ops : List OpId) (ready : OpId → Bool) (pauses : Pauses) (a b : LinkedNode T L I g) → ((op : OpId) → list_any (λ other. same_op other op) ops ≡ waits_at (node_of a) op)
      → ((k : ℕ) (op : OpId) → slice_get ops k ≡ Some op → is_due (ready op) (wait_of pauses op) ≡ true → HasRetried accepts gives op a b)
      → (op : OpId) → waits_at (node_of a) op ≡ true → is_due (ready op) (wait_of pauses op) ≡ true → HasRetried accepts gives op a b
  tried_where_waits ops ready pauses a b each tried op waits due = let at = is_at op ops (each op ∙ waits) in tried at.place op at.there due

-- what is so of each of these commands is so of each that waits
pub where_waits : (ops : List OpId) (ready : OpId → Bool) (whole : Bool) (p q : Pauses) (waits : OpId → Bool) → ((op : OpId) → list_any (λ other. same_op other op) ops ≡ waits op)
    → ((k : ℕ) (op : OpId) → slice_get ops k ≡ Some op → Waits (ready op) whole (wait_of p op) (wait_of q op)) → (op : OpId) → waits op ≡ true → Waits (ready op) whole (wait_of p op) (wait_of q op)
where_waits ops ready whole p q waits each so op is = let at = is_at op ops (each op ∙ is) in so at.place op at.there
