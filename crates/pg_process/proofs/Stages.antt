-- What a step makes of the open commands of its node: it closes the one that it answers, opens the one that comes in, and leaves all others.
use Rattle.std.proofs.Common.{◌≡◌, ◌≢◌, ◌⊎◌, inl, inr, ◌∙◌, ℕ, ◌+◌, ◌<◌, ◌≤◌, Bool, true, false, cond, nat_eq, nat_lt, nat_le, Option, Some, None, Result, Ok, Err, refl, sym, ap, subst, arith}
use Rattle.std.specs.Prelude.{◌&&◌, max}
use Rattle.std.specs.Cmp.{first_so, second_so}
use Rattle.std.proofs.lemmas.Bool.{cases_lt, eq-eqb, eqb-true, eqb-false}
use Rattle.pg_step.specs.PgGroup.Functions.{upd}
use Rattle.pg_step.specs.PgGroup.Value.{name_of}
use Rattle.pg_step.specs.PgGroup.declared.update.Update.{Update}
use Rattle.pg_step.specs.PgGroup.declared.update.Update.TheVariants as update
use Rattle.pg_step.specs.PgLock.Attempts.{after_round, does_wait}
use Rattle.pg_step.specs.PgMessageTypes.declared.message.Message.{Message}
use Rattle.pg_step.specs.PgMessageTypes.declared.message.Message.TheVariants.{Call, Reply, DelLock, Exchange, Down}
use Rattle.pg_step.specs.PgMessageTypes.declared.message.Request.TheVariants.{SetLock, Change}
use Rattle.pg_step.specs.PgMessageTypes.declared.message.Said.{Said}
use Rattle.pg_step.specs.PgMulticall.Gathered.{what_of}
use Rattle.pg_step.specs.PgMulticall.declared.gather.Taken.{Taken as Heard}
use Rattle.pg_step.specs.PgMulticall.declared.gather.Taken.TheVariants as what
use Rattle.pg_step.specs.PgRefs.Numbered.{number_in}
use Rattle.pg_step.specs.Attempts.{all_granted, ask, attempt, begin, count_answer, count_ok, counted, finish, gathered, give_up, go_on, is_kind, lock_status, locks_in, new_attempt, none_denied, none_missing}
use Rattle.pg_step.specs.Attempts.{own_reference, replies_in, reply_by, round_of, same_op, tried_again, use_of, waits, with_asked}
use Rattle.pg_step.specs.Commands.{OPEN_LIMIT, answer, carried_out, change, change_by, command as command_in, command_by, count_command, fault_of, look, next_op, open_command, refused, undertake}
use Rattle.pg_step.specs.Machines.Clocked.{Stamped, Timed}
use Rattle.pg_step.specs.Nodes.{Node, Nodes, every, greatest}
use Rattle.pg_step.specs.Peers.{exchange, is_bad_exchange, would_grant}
use Rattle.pg_step.specs.State.{Response, Stage, State, Status, Use, live_nodes}
use Rattle.pg_step.specs.State.Stage.{Closed, Waiting, Asking, Changing}
use Rattle.pg_step.specs.State.Status.{Unasked}
use Rattle.pg_step.specs.State.Use.{Fresh, Locking, Owning, Updating, Spent}
use Rattle.pg_step.specs.Step.{CLOCK_LIMIT, Issue, Retry, TimedTurn, acted, at_clock, step_act, step_take, taken, timed}
use Rattle.pg_step.specs.Turns.{NodeTurn, and_then, becomes}
use Rattle.pg_step.specs.declared.answer.Reply.{Reply as Told}
use Rattle.pg_step.specs.declared.command.Command.{Command}
use Rattle.pg_step.specs.declared.command.Command.TheVariants as command
use Rattle.pg_step.specs.declared.command.OpId.{OpId}
use Rattle.pg_step.specs.declared.command_fault.CommandFault.{CommandFault}
use Rattle.pg_step.specs.declared.command_fault.CommandFault.TheVariants.{Busy}
use Rattle.pg_step.specs.declared.refusal.Refusal.{Refusal}
use Rattle.pg_step.specs.declared.refusal.Refusal.TheVariants.{NotAMessage, NoSuchPlace, NotWaiting, NodeLost, NotDrained, ClockFull, NotLost}
use Rattle.pg_step.proofs.PgGroup.Changes.{upd_at, upd_other, upd_by}
use Rattle.pg_term.specs.RefParts.{ref_eq}
use Rattle.pg_term.specs.Same.{same_atom}

-- ---- words

abbrev pub is_open : Stage → Bool
is_open Closed = false
is_open (Waiting u) = true
is_open (Asking c) = true
is_open (Changing n) = true

-- a reference that is of use is that of its command
abbrev Fits : ℕ → Use → (OpId → Stage) → Type 0
Fits c (Locking op u lead st) stages = stages op ≡ Asking c
Fits n (Updating op u c replied) stages = stages op ≡ Changing n
Fits c (Owning name u) stages = Unit {0}
Fits c Fresh stages = Unit {0}
Fits c Spent stages = Unit {0}

-- so it is with each; and a command that has not come in is not open
pub record Fit (s : State) : Type 0 where
  pub fits : (c : ℕ) → Fits c (s.uses c) s.stages
  pub closed : (op : OpId) → s.counts op.port < op.number → s.stages op ≡ Closed

-- a command is answered, and then closed, or open
abbrev pub Leaves : OpId → Option (OpId × Response) → Stage → Type 0
Leaves op None stage = is_open stage ≡ true
Leaves op (Some gave) stage = (gave.0 ≡ op) × (is_open stage ≡ false)

-- one command is left so, and all others stay
record Keeps (op : OpId) (s t : State) (gave : Option (OpId × Response)) : Type 0 where
  fit : Fit t
  counts : t.counts ≡ s.counts
  others : (other : OpId) → same_op op other ≡ false → t.stages other ≡ s.stages other
  own : Leaves op gave (t.stages op)

abbrev After : OpId → State → NodeTurn → Type 0
After op s t = Keeps op s t.state t.reported.gave

-- ---- commands, and their stages

pub op_is : (op other : OpId) → same_op op other ≡ true → op ≡ other
op_is op other e =
    let port = eqb-true op.port other.port (first_so (nat_eq op.port other.port) _ e) in
    let number = eqb-true op.number other.number (second_so (nat_eq op.port other.port) _ e) in
    λ i. record { port = port i; number = number i }

pub is_op : (op : OpId) → same_op op op ≡ true
is_op op = ap (λ b. b && nat_eq op.number op.number) (eq-eqb op.port op.port refl) ∙ eq-eqb op.number op.number refl

-- one command, and any other
pub each_op : (Q : OpId → Type 0) (op : OpId) → Q op → ((other : OpId) → same_op op other ≡ false → Q other) → (other : OpId) → Q other
each_op Q op own others other = go (same_op op other) refl
  where
    go : (b : Bool) → same_op op other ≡ b → Q other
    go true e = subst Q (op_is op other e) own
    go false e = others other e

waits_asks : {x : Stage} {u : Update} {c : ℕ} → x ≡ Waiting u → x ≡ Asking c → ⊥
waits_asks a b = absurd (cc (sym a ∙ b))

waits_changes : {x : Stage} {u : Update} {c : ℕ} → x ≡ Waiting u → x ≡ Changing c → ⊥
waits_changes a b = absurd (cc (sym a ∙ b))

asks_changes : {x : Stage} {c n : ℕ} → x ≡ Asking c → x ≡ Changing n → ⊥
asks_changes a b = absurd (cc (sym a ∙ b))

closed_asks : {x : Stage} {c : ℕ} → x ≡ Closed → x ≡ Asking c → ⊥
closed_asks a b = absurd (cc (sym a ∙ b))

closed_changes : {x : Stage} {c : ℕ} → x ≡ Closed → x ≡ Changing c → ⊥
closed_changes a b = absurd (cc (sym a ∙ b))

asking_is : {c d : ℕ} → Asking c ≡ Asking d → c ≡ d
asking_is e = cc

changing_is : {c d : ℕ} → Changing c ≡ Changing d → c ≡ d
changing_is e = cc

open_closed : {x : Stage} → is_open x ≡ true → x ≡ Closed → ⊥
open_closed {x} opened closed = let clash : true ≡ false = sym opened ∙ ap is_open closed in absurd (cc)

-- a stage that is not that of this command stays
stage_stays : (stages : OpId → Stage) (op : OpId) (new old : Stage) (other : OpId) → stages other ≡ old → stages op ≢ old → upd same_op stages op new other ≡ old
stage_stays stages op new old other is apart = upd_by same_op stages op (λ x. x ≡ old) new other (λ same. absurd (apart (ap stages (op_is op other same) ∙ is))) (λ _. is)

fits_still : (c : ℕ) (used : Use) (stages : OpId → Stage) (op : OpId) (new : Stage) → stages op ≢ Asking c → stages op ≢ Changing c → Fits c used stages → Fits c used (upd same_op stages op new)
fits_still c (Locking other u lead st) stages op new ask change fit = stage_stays stages op new (Asking c) other fit ask
fits_still c (Updating other u lock replied) stages op new ask change fit = stage_stays stages op new (Changing c) other fit change
fits_still c (Owning name u) stages op new ask change fit = tt
fits_still c Fresh stages op new ask change fit = tt
fits_still c Spent stages op new ask change fit = tt

fit_at : (s : State) → Fit s → (c : ℕ) (used : Use) → s.uses c ≡ used → Fits c used s.stages
fit_at s fit c used is = subst (λ x. Fits c x s.stages) is (fit.fits c)

-- ---- one turn, or one after another

join : (op : OpId) (s m t : State) (gave : Option (OpId × Response)) → Keeps op s m None → Keeps op m t gave → Keeps op s t gave
join op s m t gave first later = record {
  fit = later.fit;
  counts = later.counts ∙ first.counts;
  others = λ other apart. later.others other apart ∙ first.others other apart;
  own = later.own;
}

-- the stage of a command that has come in is another
restaged : (s t : State) (op : OpId) (new : Stage) (gave : Option (OpId × Response)) → op.number ≤ s.counts op.port → Fit s → t.stages ≡ upd same_op s.stages op new → t.counts ≡ s.counts
    → ((c : ℕ) → Fits c (t.uses c) (upd same_op s.stages op new)) → Leaves op gave new → Keeps op s t gave
restaged s t op new gave within fit stages counts fits own = record {
  fit = record {
    fits = λ c. subst (λ (f : OpId → Stage). Fits c (t.uses c) f) (sym stages) (fits c);
    closed = λ other below. ap (λ (f : OpId → Stage). f other) stages
        ∙ upd_by same_op s.stages op (λ x. x ≡ Closed) new other
        (λ same. absurd (late (subst (λ (o : OpId). t.counts o.port < o.number) (sym (op_is op other same)) below)))
        (λ _. fit.closed other (subst (λ (f : ℕ → ℕ). f other.port < other.number) counts below));
  };
  counts = counts;
  others = λ other apart. ap (λ (f : OpId → Stage). f other) stages ∙ upd_other same_op s.stages op new other apart;
  own = subst (λ x. Leaves op gave x) (sym (ap (λ (f : OpId → Stage). f op) stages ∙ upd_at same_op s.stages op new (is_op op))) own;
}
  where
    late : t.counts op.port < op.number → ⊥
    late below =
        let less : s.counts op.port < op.number = subst (λ (f : ℕ → ℕ). f op.port < op.number) counts below in
        absurd (omega (arith, less, within))

-- an open command has come in
came_in : (s : State) → Fit s → (op : OpId) → is_open (s.stages op) ≡ true → op.number ≤ s.counts op.port
came_in s fit op opened = go (cases_lt (s.counts op.port) op.number)
  where
    go : (s.counts op.port < op.number) ⊎ (op.number ≤ s.counts op.port) → op.number ≤ s.counts op.port
    go (inl above) = absurd (open_closed opened (fit.closed op above))
    go (inr within) = within

-- no stage is another
unstaged : (s t : State) (op : OpId) (gave : Option (OpId × Response)) → Fit s → t.stages ≡ s.stages → t.counts ≡ s.counts → ((c : ℕ) → Fits c (t.uses c) s.stages) → Leaves op gave (s.stages op) → Keeps op s t gave
unstaged s t op gave fit stages counts fits own = record {
  fit = record {
    fits = λ c. subst (λ (f : OpId → Stage). Fits c (t.uses c) f) (sym stages) (fits c);
    closed = λ other below. ap (λ (f : OpId → Stage). f other) stages ∙ fit.closed other (subst (λ (f : ℕ → ℕ). f other.port < other.number) counts below);
  };
  counts = counts;
  others = λ other apart. ap (λ (f : OpId → Stage). f other) stages;
  own = subst (λ x. Leaves op gave x) (sym (ap (λ (f : OpId → Stage). f op) stages)) own;
}

rests : (op : OpId) (s : State) → Fit s → is_open (s.stages op) ≡ true → After op s (becomes s)
rests op s fit opened = unstaged s s op None fit refl refl fit.fits opened

attempted : (lead : Node) (op : OpId) (u : Update) (s : State) → Fit s → s.stages op ≡ Waiting u → After op s (new_attempt lead op u s)
attempted lead op u s fit waits =
    let r = s.references + 1 in
    restaged s (new_attempt lead op u s).state op (Asking r) None (came_in s fit op (ap is_open waits)) fit refl refl
    (λ c. upd_by nat_eq s.uses r (λ x. Fits c x (upd same_op s.stages op (Asking r))) (Locking op u lead (λ q. Unasked)) c
    (λ same. upd_at same_op s.stages op (Asking r) (is_op op) ∙ ap Asking (eqb-true r c same))
    (λ _. fits_still c (s.uses c) s.stages op (Asking r) (waits_asks waits) (waits_changes waits) (fit.fits c)))
    refl

-- under a reference that asks for the lock of a command
module _ (c : ℕ) (op : OpId) (u : Update) (lead : Node) (st : Node → Status) (s : State) (is : s.uses c ≡ Locking op u lead st) (fit : Fit s) where
  asking : s.stages op ≡ Asking c
  asking = fit_at s fit c (Locking op u lead st) is

  -- what came of the request is another
  relocked : (t : State) (later : Node → Status) → t.stages ≡ s.stages → t.counts ≡ s.counts → t.uses ≡ upd nat_eq s.uses c (Locking op u lead later) → Keeps op s t None
  relocked t later stages counts uses = unstaged s t op None fit stages counts
      (λ d. subst (λ (f : ℕ → Use). Fits d (f d) s.stages) (sym uses)
      (upd_by nat_eq s.uses c (λ x. Fits d x s.stages) (Locking op u lead later) d (λ same. asking ∙ ap Asking (eqb-true c d same)) (λ _. fit.fits d)))
      (ap is_open asking)

  given_up : (m : Nodes) (gone : Node → Status) → After op s (give_up m c op u gone s)
  given_up m gone = restaged s (give_up m c op u gone s).state op (Waiting u) None (came_in s fit op (ap is_open asking)) fit refl refl
      (λ d. upd_by nat_eq s.uses c (λ x. Fits d x (upd same_op s.stages op (Waiting u))) Spent d (λ _. tt)
      (λ other. fits_still d (s.uses d) s.stages op (Waiting u) (λ asks. eqb-false c d other (asking_is (sym asking ∙ asks))) (asks_changes asking) (fit.fits d)))
      refl

  begun : (m : Nodes) → After op s (begin m c op u s)
  begun m =
      let r = s.references + 1 in
      restaged s (begin m c op u s).state op (Changing r) None (came_in s fit op (ap is_open asking)) fit refl refl
      (λ d. upd_by nat_eq (upd nat_eq s.uses c (Owning (name_of u) r)) r (λ x. Fits d x (upd same_op s.stages op (Changing r))) (Updating op u c (same_atom m.own)) d
      (λ same. upd_at same_op s.stages op (Changing r) (is_op op) ∙ ap Changing (eqb-true r d same))
      (λ _. upd_by nat_eq s.uses c (λ x. Fits d x (upd same_op s.stages op (Changing r))) (Owning (name_of u) r) d (λ _. tt)
      (λ other. fits_still d (s.uses d) s.stages op (Changing r) (λ asks. eqb-false c d other (asking_is (sym asking ∙ asks))) (asks_changes asking) (fit.fits d))))
      refl

-- under a reference by which the update of a command goes out
module _ (n : ℕ) (op : OpId) (u : Update) (c : ℕ) (replied : Node → Bool) (s : State) (is : s.uses n ≡ Updating op u c replied) (fit : Fit s) where
  changing : s.stages op ≡ Changing n
  changing = fit_at s fit n (Updating op u c replied) is

  confirmed : (p : Node) → After op s (count_ok n op u c replied p s)
  confirmed p = unstaged s (count_ok n op u c replied p s).state op None fit refl refl
      (λ d. upd_by nat_eq s.uses n (λ x. Fits d x s.stages) (Updating op u c (upd same_atom replied p true)) d (λ same. changing ∙ ap Changing (eqb-true n d same)) (λ _. fit.fits d))
      (ap is_open changing)

  finished : (m : Nodes) → After op s (finish m n op u c s)
  finished m = restaged s (finish m n op u c s).state op Closed _ (came_in s fit op (ap is_open changing)) fit refl refl
      (λ d. upd_by nat_eq (upd nat_eq s.uses c Spent) n (λ x. Fits d x (upd same_op s.stages op Closed)) Spent d (λ _. tt)
      (λ other. upd_by nat_eq s.uses c (λ x. Fits d x (upd same_op s.stages op Closed)) Spent d (λ _. tt)
      (λ _. fits_still d (s.uses d) s.stages op Closed (λ asks. asks_changes asks changing) (λ changes. eqb-false n d other (changing_is (sym changing ∙ changes))) (fit.fits d))))
      (refl, refl)

-- ---- what follows once answers are in

-- what a reference is of use for is this command
abbrev UsedFor : OpId → Use → Type 0
UsedFor op (Locking other u lead st) = other ≡ op
UsedFor op (Updating other u lock replied) = other ≡ op
UsedFor op (Owning name u) = Unit {0}
UsedFor op Fresh = Unit {0}
UsedFor op Spent = Unit {0}

used_here : (op : OpId) (uses : ℕ → Use) (n : ℕ) (used : Use) → UsedFor op used → UsedFor op (upd nat_eq uses n used n)
used_here op uses n used is = subst (λ (x : Use). UsedFor op x) (sym (upd_at nat_eq uses n used (eq-eqb n n refl))) is

module _ (m : Nodes) where
  replies_keep : (op : OpId) (n : ℕ) (used : Use) (s : State) → s.uses n ≡ used → UsedFor op used → Fit s → is_open (s.stages op) ≡ true → After op s (replies_in m n used s)
  replies_keep op n (Updating other u c replied) s is same fit opened = go (every m replied)
    where
      go : (b : Bool) → After op s (cond b (finish m n other u c s) (becomes s))
      go true = subst (λ (o : OpId). After o s (finish m n other u c s)) same (finished n other u c replied s is fit m)
      go false = rests op s fit opened
  replies_keep op n (Locking other u lead st) s is same fit opened = rests op s fit opened
  replies_keep op n (Owning name u) s is same fit opened = rests op s fit opened
  replies_keep op n Fresh s is same fit opened = rests op s fit opened
  replies_keep op n Spent s is same fit opened = rests op s fit opened

  locks_keep : (op : OpId) (c : ℕ) (used : Use) (s : State) → s.uses c ≡ used → UsedFor op used → Fit s → is_open (s.stages op) ≡ true → After op s (locks_in m c used s)
  locks_keep op c (Locking other u lead st) s is same fit opened =
      subst (λ (o : OpId). After o s (locks_in m c (Locking other u lead st) s)) same (go (all_granted m st) (none_missing m st))
    where
      t : State
      t = (begin m c other u s).state

      go : (b d : Bool) → After other s (cond b (and_then (begin m c other u s) (λ v. replies_in m v.references (v.uses v.references) v)) (cond d (give_up m c other u st s) (becomes s)))
      go true d =
          let first = begun c other u lead st s is fit m in
          let r = s.references + 1 in
          join other s t (replies_in m t.references (t.uses t.references) t).state (replies_in m t.references (t.uses t.references) t).reported.gave first
          (replies_keep other t.references (t.uses t.references) t refl (used_here other (upd nat_eq s.uses c (Owning (name_of u) r)) r (Updating other u c (same_atom m.own)) refl) first.fit first.own)
      go false true = given_up c other u lead st s is fit m st
      go false false = rests other s fit (ap is_open (asking c other u lead st s is fit))
  locks_keep op c (Updating other u lock replied) s is same fit opened = rests op s fit opened
  locks_keep op c (Owning name u) s is same fit opened = rests op s fit opened
  locks_keep op c Fresh s is same fit opened = rests op s fit opened
  locks_keep op c Spent s is same fit opened = rests op s fit opened

  go_on_keeps : (op : OpId) (c : ℕ) (used : Use) (s : State) → s.uses c ≡ used → UsedFor op used → Fit s → is_open (s.stages op) ≡ true → After op s (go_on m c used s)
  go_on_keeps op c (Locking other u lead st) s is same fit opened =
      subst (λ (o : OpId). After o s (go_on m c (Locking other u lead st) s)) same (go (none_missing m st) (does_wait (after_round (round_of lead st) (none_denied m st))))
    where
      later : Node → Status
      later = with_asked m (λ _. true) st (would_grant m s (name_of u))

      t : State
      t = (ask m (λ _. true) c other u lead st s).state

      go : (b d : Bool) → After other s (cond b (cond d (give_up m c other u st s) (and_then (ask m (λ _. true) c other u lead st s) (λ v. locks_in m c (v.uses c) v))) (becomes s))
      go true true = given_up c other u lead st s is fit m st
      go true false =
          let first = relocked c other u lead st s is fit t later refl refl refl in
          join other s t (locks_in m c (t.uses c) t).state (locks_in m c (t.uses c) t).reported.gave first
          (locks_keep other c (t.uses c) t refl (used_here other s.uses c (Locking other u lead later) refl) first.fit first.own)
      go false d = rests other s fit (ap is_open (asking c other u lead st s is fit))
  go_on_keeps op c (Updating other u lock replied) s is same fit opened = rests op s fit opened
  go_on_keeps op c (Owning name u) s is same fit opened = rests op s fit opened
  go_on_keeps op c Fresh s is same fit opened = rests op s fit opened
  go_on_keeps op c Spent s is same fit opened = rests op s fit opened

  attempt_keeps : (op : OpId) (u : Update) (s : State) → Fit s → s.stages op ≡ Waiting u → After op s (attempt m op u s)
  attempt_keeps op u s fit waits =
      let lead = greatest m in
      let t = (new_attempt lead op u s).state in
      let c = t.references in
      let later = with_asked m (same_atom lead) (λ _. Unasked) (would_grant m t (name_of u)) in
      let r = (ask m (same_atom lead) c op u lead (λ _. Unasked) t).state in
      let first = attempted lead op u s fit waits in
      let second = relocked c op u lead (λ _. Unasked) t (upd_at nat_eq s.uses c (Locking op u lead (λ q. Unasked)) (eq-eqb c c refl)) first.fit r later refl refl refl in
      let third = go_on_keeps op c (r.uses c) r refl (used_here op t.uses c (Locking op u lead later) refl) second.fit second.own in
      join op s t (go_on m c (r.uses c) r).state (go_on m c (r.uses c) r).reported.gave first
      (join op t r (go_on m c (r.uses c) r).state (go_on m c (r.uses c) r).reported.gave second third)

-- ---- what becomes of all commands

-- none is opened, and the one that is answered is closed
abbrev pub Closes : State → State → Option (OpId × Response) → Type 0
Closes s t None = (op : OpId) → is_open (t.stages op) ≡ is_open (s.stages op)
Closes s t (Some gave) = (is_open (s.stages gave.0) ≡ true) × (is_open (t.stages gave.0) ≡ false)
    × ((other : OpId) → same_op gave.0 other ≡ false → is_open (t.stages other) ≡ is_open (s.stages other))

pub record Stands (s t : State) (gave : Option (OpId × Response)) : Type 0 where
  pub fit : Fit t
  pub counts : t.counts ≡ s.counts
  pub closes : Closes s t gave

stands_by : (op : OpId) (s t : State) (gave : Option (OpId × Response)) → is_open (s.stages op) ≡ true → Keeps op s t gave → Stands s t gave
stands_by op s t None opened keeps = record {
  fit = keeps.fit;
  counts = keeps.counts;
  closes = each_op (λ other. is_open (t.stages other) ≡ is_open (s.stages other)) op (keeps.own ∙ sym opened) (λ other apart. ap is_open (keeps.others other apart));
}
stands_by op s t (Some gave) opened keeps = record {
  fit = keeps.fit;
  counts = keeps.counts;
  closes = subst
      (λ (o : OpId). (is_open (s.stages o) ≡ true) × (is_open (t.stages o) ≡ false) × ((other : OpId) → same_op o other ≡ false → is_open (t.stages other) ≡ is_open (s.stages other)))
      (sym keeps.own.0) (opened, keeps.own.1, (λ other apart. ap is_open (keeps.others other apart)));
}

-- the commands stay
stays : (s t : State) → Fit s → t.uses ≡ s.uses → t.stages ≡ s.stages → t.counts ≡ s.counts → Stands s t None
stays s t fit uses stages counts = record {
  fit = record {
    fits = λ c. subst (λ (f : ℕ → Use). Fits c (f c) t.stages) (sym uses) (subst (λ (f : OpId → Stage). Fits c (s.uses c) f) (sym stages) (fit.fits c));
    closed = λ op below. ap (λ (f : OpId → Stage). f op) stages ∙ fit.closed op (subst (λ (f : ℕ → ℕ). f op.port < op.number) counts below);
  };
  counts = counts;
  closes = λ op. ap (λ (f : OpId → Stage). is_open (f op)) stages;
}

same_ok : {A E : Type 0} {x y : A} → ◌≡◌ {A = Result A E} (Ok x) (Ok y) → x ≡ y
same_ok e = cc

abbrev Makes : State → NodeTurn → Type 0
Makes s t = Stands s t.state t.reported.gave

module _ (m : Nodes) where
  -- under a reference, by the command that it is of use for
  go_on_stands : (c : ℕ) (used : Use) (s : State) → s.uses c ≡ used → Fit s → Makes s (go_on m c used s)
  go_on_stands c (Locking op u lead st) s is fit =
      let opened = ap is_open (asking c op u lead st s is fit) in
      stands_by op s _ _ opened (go_on_keeps m op c (Locking op u lead st) s is refl fit opened)
  go_on_stands c (Updating op u lock replied) s is fit = stays s s fit refl refl refl
  go_on_stands c (Owning name u) s is fit = stays s s fit refl refl refl
  go_on_stands c Fresh s is fit = stays s s fit refl refl refl
  go_on_stands c Spent s is fit = stays s s fit refl refl refl

  replies_stand : (n : ℕ) (used : Use) (s : State) → s.uses n ≡ used → Fit s → Makes s (replies_in m n used s)
  replies_stand n (Updating op u c replied) s is fit =
      let opened = ap is_open (changing n op u c replied s is fit) in
      stands_by op s _ _ opened (replies_keep m op n (Updating op u c replied) s is refl fit opened)
  replies_stand n (Locking op u lead st) s is fit = stays s s fit refl refl refl
  replies_stand n (Owning name u) s is fit = stays s s fit refl refl refl
  replies_stand n Fresh s is fit = stays s s fit refl refl refl
  replies_stand n Spent s is fit = stays s s fit refl refl refl

  -- ---- a retry

  tried_stands : (stage : Stage) (op : OpId) (s : State) → s.stages op ≡ stage → Fit s → Makes s (tried_again stage m op s)
  tried_stands (Waiting u) op s is fit = stands_by op s _ _ (ap is_open is) (attempt_keeps m op u s fit is)
  tried_stands (Asking c) op s is fit = go_on_stands c (s.uses c) s refl fit
  tried_stands (Changing n) op s is fit = replies_stand n (s.uses n) s refl fit
  tried_stands Closed op s is fit = stays s s fit refl refl refl

  -- ---- packets

  counted_stands : (used : Use) (p : Node) (c : ℕ) (said : Said) (s : State) → s.uses c ≡ used → Fit s → Makes s (counted used m p c said s)
  counted_stands (Locking op u lead st) p c said s is fit =
      let later = upd same_atom st p (lock_status said) in
      let t = (count_answer c op u lead st p (lock_status said) s).state in
      let opened = ap is_open (asking c op u lead st s is fit) in
      let first = relocked c op u lead st s is fit t later refl refl refl in
      stands_by op s _ _ opened (join op s t _ _ first (go_on_keeps m op c (t.uses c) t refl (used_here op s.uses c (Locking op u lead later) refl) first.fit first.own))
  counted_stands (Updating op u lock replied) p n said s is fit =
      let t = (count_ok n op u lock replied p s).state in
      let opened = ap is_open (changing n op u lock replied s is fit) in
      let first = confirmed n op u lock replied s is fit p in
      stands_by op s _ _ opened (join op s t _ _ first (replies_keep m op n (t.uses n) t refl (used_here op s.uses n (Updating op u lock (upd same_atom replied p true)) refl) first.fit first.own))
  counted_stands (Owning name u) p c said s is fit = stays s s fit refl refl refl
  counted_stands Fresh p c said s is fit = stays s s fit refl refl refl
  counted_stands Spent p c said s is fit = stays s s fit refl refl refl

  reply_stands : (used : Use) (p : Node) (c : ℕ) (said : Said) (s : State) (t : NodeTurn) (w : Heard) (kind : Bool) → (used ≡ Spent) ⊎ (s.uses c ≡ used) → Fit s
      → reply_by w kind used m p c said s ≡ Ok t → Makes s t
  reply_stands used p c said s t what.Stranger kind own fit e = subst (Makes s) (same_ok e) (stays s s fit refl refl refl)
  reply_stands used p c said s t what.Double true own fit e = subst (Makes s) (same_ok e) (stays s s fit refl refl refl)
  reply_stands used p c said s t what.Double false own fit e = absurd (cc)
  reply_stands used p c said s t what.Counted true own fit e = subst (Makes s) (same_ok e) (by own)
    where
      by : (used ≡ Spent) ⊎ (s.uses c ≡ used) → Makes s (counted used m p c said s)
      by (inl spent) = subst (λ (x : Use). Makes s (counted x m p c said s)) (sym spent) (stays s s fit refl refl refl)
      by (inr is) = counted_stands used p c said s is fit
  reply_stands used p c said s t what.Counted false own fit e = absurd (cc)

  own_or_spent : (b : Bool) (used : Use) → (cond b used Spent ≡ Spent) ⊎ (used ≡ cond b used Spent)
  own_or_spent true used = inr refl
  own_or_spent false used = inl refl

  taken_stands : (p : Node) (x : Message) (s : State) (t : NodeTurn) → Fit s → taken m p x s ≡ Ok t → Makes s t
  taken_stands p (Call reference (SetLock name)) s t fit e = subst (Makes s) (same_ok e) (stays s _ fit refl refl refl)
  taken_stands p (Call reference (Change u)) s t fit e = subst (Makes s) (same_ok e) (stays s _ fit refl refl refl)
  taken_stands p (Reply reference said) s t fit e =
      let used = use_of m reference s in
      reply_stands used p (number_in reference) said s t (what_of true (gathered used p)) (is_kind used said)
      (own_or_spent (ref_eq (own_reference m (number_in reference)) reference) (s.uses (number_in reference))) fit e
  taken_stands p (DelLock name reference) s t fit e = subst (Makes s) (same_ok e) (stays s _ fit refl refl refl)
  taken_stands p (Exchange node groups) s t fit e = go (is_bad_exchange p node s) e
    where
      go : (b : Bool) → ◌≡◌ {A = Result NodeTurn Refusal} (cond b (Err NotAMessage) (Ok (exchange p groups s))) (Ok t) → Makes s t
      go true h = absurd (cc)
      go false h = subst (Makes s) (same_ok h) (stays s _ fit refl refl refl)
  taken_stands p (Down pid) s t fit e = subst (Makes s) (same_ok e) (stays s _ fit refl refl refl)

  retry_stands : (whole : Nodes) (ports : ℕ) (op : OpId) (s : State) (t : NodeTurn) → Fit s → acted whole m ports (Retry op) s ≡ Ok t → Makes s t
  retry_stands whole ports op s t fit is = go (nat_lt op.port ports) (waits m (s.stages op) s) is
    where
      go : (b d : Bool) → ◌≡◌ {A = Result NodeTurn Refusal} (cond b (cond d (Ok (tried_again (s.stages op) m op s)) (Err NotWaiting)) (Err NoSuchPlace)) (Ok t) → Makes s t
      go true true e = subst (Makes s) (same_ok e) (tried_stands (s.stages op) op s refl fit)
      go true false e = absurd (cc)
      go false d e = absurd (cc)

-- ---- a command comes in

-- it has the next number of its port; it is answered, or open
pub record Opens (port : ℕ) (s t : State) (gave : Option (OpId × Response)) : Type 0 where
  pub fit : Fit t
  pub counts : t.counts ≡ upd nat_eq s.counts port (s.counts port + 1)
  pub others : (other : OpId) → same_op (next_op port s) other ≡ false → is_open (t.stages other) ≡ is_open (s.stages other)
  pub own : Leaves (next_op port s) gave (t.stages (next_op port s))

module _ (m : Nodes) (op : OpId) (s : State) (fit : Fit s) (new : s.stages op ≡ Closed) (within : op.number ≤ s.counts op.port) where
  -- it is answered at once, by a turn that leaves the commands as they are
  answered : (t : State) (r : Response) → t.uses ≡ s.uses → t.stages ≡ s.stages → t.counts ≡ s.counts → Keeps op s t (Some (op, r))
  answered t r uses stages counts = unstaged s t op (Some (op, r)) fit stages counts (λ c. subst (λ (f : ℕ → Use). Fits c (f c) s.stages) (sym uses) (fit.fits c)) (refl, ap is_open new)

  begins : (u : Update) → After op s (open_command op u s)
  begins u = restaged s (open_command op u s).state op (Waiting u) None within fit refl refl
      (λ c. fits_still c (s.uses c) s.stages op (Waiting u) (closed_asks new) (closed_changes new) (fit.fits c)) refl

  undertaken : (u : Update) → After op s (undertake m op u s)
  undertaken u = go (nat_le OPEN_LIMIT s.opened)
    where
      t : State
      t = (open_command op u s).state

      go : (b : Bool) → After op s (cond b (answer op (refused Busy) s) (and_then (open_command op u s) (attempt m op u)))
      go true = answered s (refused Busy) refl refl refl
      go false =
          let first = begins u in
          join op s t _ _ first (attempt_keeps m op u t first.fit (upd_at same_op s.stages op (Waiting u) (is_op op)))

  changed_so : (u : Update) → After op s (change m op u s)
  changed_so u = go (look (s.table (name_of u)) u)
    where
      go : (r : Option Told) → After op s (change_by r m op u s)
      go (Some r) = answered s _ refl refl refl
      go None = undertaken u

  carried : (c : Command) → After op s (carried_out m op c s)
  carried (command.Create name) = changed_so (update.Create name)
  carried (command.Delete name) = changed_so (update.Delete name)
  carried (command.Join name pid) = changed_so (update.Join name pid)
  carried (command.Leave name pid) = changed_so (update.Leave name pid)
  carried command.Make = answered _ _ refl refl refl
  carried (command.Finish pid) = answered _ _ refl refl refl
  carried (command.Members name) = answered s _ refl refl refl
  carried (command.LocalMembers name) = answered s _ refl refl refl
  carried command.WhichGroups = answered s _ refl refl refl
  carried (command.Closest name word) = answered s _ refl refl refl

  commanded : (fault : Option CommandFault) (c : Command) → After op s (command_by fault m op c s)
  commanded (Some fault) c = answered s (refused fault) refl refl refl
  commanded None c = carried c

count_fits : (port : ℕ) (s : State) → Fit s → Fit (count_command port s).state
count_fits port s fit = record {
  fits = fit.fits;
  closed = λ op below. fit.closed op (upd_by nat_eq s.counts port (λ n. n < op.number → s.counts op.port < op.number) (s.counts port + 1) op.port
      (λ same more. subst (λ p. s.counts p < op.number) (eqb-true port op.port same) (omega (arith, more))) (λ _ more. more) below);
}

issue_opens : (m whole : Nodes) (ports port : ℕ) (c : Command) (s : State) (t : NodeTurn) → Fit s → acted whole m ports (Issue port c) s ≡ Ok t → Opens port s t.state t.reported.gave
issue_opens m whole ports port c s t fit is = go (nat_lt port ports) is
  where
    v : State
    v = (count_command port s).state

    op : OpId
    op = next_op port s

    more : op.number ≤ v.counts op.port
    more = subst (λ n. op.number ≤ n) (sym (upd_at nat_eq s.counts port (s.counts port + 1) (eq-eqb port port refl))) (omega arith)

    new : s.stages op ≡ Closed
    new = fit.closed op (omega arith)

    made : After op v (command_by (fault_of whole s c) m op c v)
    made = commanded m op v (count_fits port s fit) new more (fault_of whole s c) c

    opens : Opens port s (command_in whole m port c s).state (command_in whole m port c s).reported.gave
    opens = record {
      fit = made.fit;
      counts = made.counts;
      others = λ other apart. ap is_open (made.others other apart);
      own = made.own;
    }

    go : (b : Bool) → ◌≡◌ {A = Result NodeTurn Refusal} (cond b (Ok (command_in whole m port c s)) (Err NoSuchPlace)) (Ok t) → Opens port s t.state t.reported.gave
    go true e = subst (λ (x : NodeTurn). Opens port s x.state x.reported.gave) (same_ok e) opens
    go false e = absurd (cc)

-- ---- with clock

timed_so : (P : State → Option (OpId × Response) → Type 0) (clock : ℕ) (r : Result NodeTurn Refusal) (t : TimedTurn) → ((u : NodeTurn) → r ≡ Ok u → P u.state u.reported.gave)
    → timed clock r ≡ Ok t → P t.state.state t.reported.gave
timed_so P clock (Ok u) t so e = go (nat_le clock CLOCK_LIMIT) e
  where
    go : (b : Bool) → ◌≡◌ {A = Result TimedTurn Refusal} (cond b (Ok (at_clock clock u)) (Err ClockFull)) (Ok t) → P t.state.state t.reported.gave
    go true h = subst (λ (x : TimedTurn). P x.state.state x.reported.gave) (same_ok h) (so u refl)
    go false h = absurd (cc)
timed_so P clock (Err fault) t so e = by fault e
  where
    none : (b : Bool) (other : Refusal) → ◌≡◌ {A = Result TimedTurn Refusal} (cond b (Err other) (Err ClockFull)) (Ok t) → P t.state.state t.reported.gave
    none true other h = absurd (cc)
    none false other h = absurd (cc)

    by : (f : Refusal) → timed clock (Err f) ≡ Ok t → P t.state.state t.reported.gave
    by NoSuchPlace h = absurd (cc)
    by NodeLost h = absurd (cc)
    by NotWaiting h = absurd (cc)
    by NotAMessage h = none (nat_le clock CLOCK_LIMIT) NotAMessage h
    by NotDrained h = none (nat_le clock CLOCK_LIMIT) NotDrained h
    by ClockFull h = none (nat_le clock CLOCK_LIMIT) ClockFull h
    by NotLost h = none (nat_le clock CLOCK_LIMIT) NotLost h

-- a packet, and a retry, open none, and close the one that is answered
pub take_stands : (m : Nodes) (p : Node) (x : Stamped Message) (s : Timed State) (t : TimedTurn) → Fit s.state → step_take m p x s ≡ Ok t → Stands s.state t.state.state t.reported.gave
take_stands m p x s t fit is = timed_so (Stands s.state) (max s.clock x.stamp + 1) _ t (λ u e. go (s.state.lost p) u e) is
  where
    go : (b : Bool) (u : NodeTurn) → ◌≡◌ {A = Result NodeTurn Refusal} (cond b (Err NodeLost) (taken (live_nodes m s.state) p x.packet s.state)) (Ok u) → Makes s.state u
    go true u e = absurd (cc)
    go false u e = taken_stands (live_nodes m s.state) p x.packet s.state u fit e

pub try_stands : (m : Nodes) (ports : ℕ) (op : OpId) (s : Timed State) (t : TimedTurn) → Fit s.state → step_act m ports (Retry op) s ≡ Ok t → Stands s.state t.state.state t.reported.gave
try_stands m ports op s t fit is = timed_so (Stands s.state) (s.clock + 1) _ t (λ u e. retry_stands (live_nodes m s.state) m ports op s.state u fit e) is

-- a command that comes in is open, or answered
pub issue_stands : (m : Nodes) (ports port : ℕ) (c : Command) (s : Timed State) (t : TimedTurn) → Fit s.state → step_act m ports (Issue port c) s ≡ Ok t → Opens port s.state t.state.state t.reported.gave
issue_stands m ports port c s t fit is = timed_so (Opens port s.state) (s.clock + 1) _ t (λ u e. issue_opens (live_nodes m s.state) m ports port c s.state u fit e) is
