-- What is logged, phase by phase.
use Rattle.std.proofs.Common.{◌≡◌, ◌∙◌, ℕ, List, [], ◌∷◌, ◌++◌, sym, ap, subst, inl, append_assoc, append-nil}
use Rattle.std.specs.Prelude.{Bool, true, false, Result, Ok, Err}
use Rattle.pg_node.specs.PgGroup.declared.table.GroupTable.{Ghosts}
use Rattle.pg_node.specs.PgNodeState.declared.state.fault.NodeFault.{NodeFault}
use Rattle.pg_node_run.specs.declared.linked.LinkedNode.{LinkedNode}
use Rattle.pg_node_run.specs.declared.log.NodeEvent.{NodeEvent}
use Rattle.pg_node_run.specs.declared.log.NodeEvent.TheVariants as events
use Rattle.pg_node_run.specs.declared.notices.Notice.{Notice}
use Rattle.pg_node_run.specs.declared.pauses.Pauses.{Pauses}
use Rattle.pg_node_run.specs.Acts.{Act, Given, Took, Saw, Did, log_entry, event_of}
use Rattle.pg_node_run.specs.Events.{ActsOnce, Acted, IsOfPeer, TookNext}
use Rattle.pg_node_run.specs.Follows.{Follows, log_of}
use Rattle.pg_node_run.specs.Logs.{AreOf, LogsOnly, IsTake, IsCommand, LogsLoss, LogsRetry, MayLogRetry}
use Rattle.pg_node_run.specs.Pauses.{begins_next, wait_of}
use Rattle.pg_node.specs.PgStep.declared.command.Command.{Command}
use Rattle.pg_node.specs.PgStep.declared.command.OpId.{OpId}
use Rattle.pg_node.specs.PgStep.Step.{Issue, Retry}

-- ---- entries of one kind

are_more : (Wanted : NodeEvent → Type 0) (xs ys : List (ℕ × NodeEvent)) → AreOf Wanted xs → AreOf Wanted ys → AreOf Wanted (xs ++ ys)
are_more Wanted [] ys h k = k
are_more Wanted (x ∷ xs) ys h k = (h.0, are_more Wanted xs ys h.1 k)

pub are_so : (Wanted Also : NodeEvent → Type 0) → ((event : NodeEvent) → Wanted event → Also event) → (xs : List (ℕ × NodeEvent)) → AreOf Wanted xs → AreOf Also xs
are_so Wanted Also so [] h = tt
are_so Wanted Also so (x ∷ xs) h = (so x.1 h.0, are_so Wanted Also so xs h.1)

pub logs_same : (Wanted : NodeEvent → Type 0) (log log2 : List (ℕ × NodeEvent)) → log2 ≡ log → LogsOnly Wanted log log2
logs_same Wanted log log2 same = record { more = []; grew = same ∙ sym (append-nil log); each = tt }

pub logs_on : (Wanted : NodeEvent → Type 0) (a b c : List (ℕ × NodeEvent)) → LogsOnly Wanted a b → LogsOnly Wanted b c → LogsOnly Wanted a c
logs_on Wanted a b c h k = record {
  more = h.more ++ k.more;
  grew = k.grew ∙ (ap (λ w. w ++ k.more) h.grew ∙ append_assoc a h.more k.more);
  each = are_more Wanted h.more k.more h.each k.each;
}

-- nothing more is logged behind it, or before
pub logs_still : (Wanted : NodeEvent → Type 0) (a b c : List (ℕ × NodeEvent)) → LogsOnly Wanted a b → c ≡ b → LogsOnly Wanted a c
logs_still Wanted a b c h same = record { more = h.more; grew = same ∙ h.grew; each = h.each }

pub logs_after : (Wanted : NodeEvent → Type 0) (a b c : List (ℕ × NodeEvent)) → b ≡ a → LogsOnly Wanted b c → LogsOnly Wanted a c
logs_after Wanted a b c same h = record { more = h.more; grew = h.grew ∙ ap (λ w. w ++ h.more) same; each = h.each }

pub loss_still : (lost : Bool) (a b c : List (ℕ × NodeEvent)) → b ≡ a → LogsLoss lost b c → LogsLoss lost a c
loss_still true a b c same h = record { clock = h.clock; peer = h.peer; grew = h.grew ∙ ap (λ w. w ++ (h.clock, events.SeeLoss h.peer) ∷ []) same }
loss_still false a b c same h = h ∙ same

-- ---- what events log

is_take : (peer : ℕ) (given : Given) → IsOfPeer peer given → IsTake (event_of given)
is_take peer (Took p x) of = tt
is_take peer (Saw p last) of = absurd of
is_take peer (Did action) of = absurd of

module _ {T L I : Type 0} {g : Ghosts T} (accepts : L → List ℕ → L → Type 0) (gives : I → List ℕ → I → Type 0) where
  pub logs_none : (a b : LinkedNode T L I g) → Follows accepts gives [] a b → log_of b ≡ log_of a
  logs_none a b follows = follows.log ∙ append-nil (log_of a)

  logs_one : (Wanted : NodeEvent → Type 0) (act : Act) (a b : LinkedNode T L I g) → Follows accepts gives (act ∷ []) a b → Wanted (event_of act.input) → LogsOnly Wanted (log_of a) (log_of b)
  logs_one Wanted act a b follows wanted = record { more = log_entry act ∷ []; grew = follows.log; each = (wanted, tt) }

  pub logs_take : (peer : ℕ) (r : Result Bool NodeFault) (a b : LinkedNode T L I g) → TookNext accepts gives peer r a b → LogsOnly IsTake (log_of a) (log_of b)
  logs_take peer (Ok true) a b took = logs_one IsTake took.act a b took.follows (is_take peer took.act.input took.wanted)
  logs_take peer (Ok false) a b took = logs_same IsTake (log_of a) (log_of b) (logs_none a b took)
  logs_take peer (Err fault) a b took = logs_same IsTake (log_of a) (log_of b) (logs_none a b took)

  pub logs_command : {E : Type 0} (port : ℕ) (command : Command) (r : Result (Unit {0}) E) (a b : LinkedNode T L I g) → Acted accepts gives (Did (Issue port command)) r a b
      → LogsOnly IsCommand (log_of a) (log_of b)
  logs_command port command (Ok done) a b acted = logs_one IsCommand acted.act a b acted.follows (subst (λ given. IsCommand (event_of given)) (sym acted.wanted) tt)
  logs_command port command (Err fault) a b acted = logs_same IsCommand (log_of a) (log_of b) (logs_none a b acted)

  pub logs_retry : (op : OpId) (pauses : Pauses) (r : Result (Unit {0}) NodeFault) (a b : LinkedNode T L I g) → (done : Unit {0}) → r ≡ Ok done → Acted accepts gives (Did (Retry op)) r a b
      → begins_next (wait_of pauses op) ≡ true → LogsRetry op pauses (log_of a) (log_of b)
  logs_retry op pauses r a b done ok acted begins =
      let acted2 : ActsOnce accepts gives (λ input. input ≡ Did (Retry op)) a b = subst (λ x. Acted accepts gives (Did (Retry op)) x a b) ok acted in record {
        clock = acted2.act.turn.state.clock;
        grew = acted2.follows.log ∙ ap (λ given. log_of a ++ (acted2.act.turn.state.clock, event_of given) ∷ []) acted2.wanted;
        begins = begins;
      }

  pub logs_retry_none : (op : OpId) (pauses : Pauses) (r : Result (Unit {0}) NodeFault) (a b : LinkedNode T L I g) (fault : NodeFault) → r ≡ Err fault → Acted accepts gives (Did (Retry op)) r a b
      → MayLogRetry op pauses (log_of a) (log_of b)
  logs_retry_none op pauses r a b fault err acted = inl (logs_none a b (subst (λ x. Acted accepts gives (Did (Retry op)) x a b) err acted))

  pub logs_saw : (notice : Notice) (r : Result (Unit {0}) NodeFault) (a b : LinkedNode T L I g) (done : Unit {0}) → r ≡ Ok done
      → Acted accepts gives (Saw notice.peer notice.last) r a b → LogsLoss true (log_of a) (log_of b)
  logs_saw notice r a b done ok acted =
      let acted2 : ActsOnce accepts gives (λ input. input ≡ Saw notice.peer notice.last) a b = subst (λ x. Acted accepts gives (Saw notice.peer notice.last) x a b) ok acted in record {
        clock = acted2.act.turn.state.clock;
        peer = notice.peer;
        grew = acted2.follows.log ∙ ap (λ given. log_of a ++ (acted2.act.turn.state.clock, event_of given) ∷ []) acted2.wanted;
      }

  pub logs_saw_nothing : (notice : Notice) (r : Result (Unit {0}) NodeFault) (a b : LinkedNode T L I g) (fault : NodeFault) → r ≡ Err fault
      → Acted accepts gives (Saw notice.peer notice.last) r a b → log_of b ≡ log_of a
  logs_saw_nothing notice r a b fault err acted = logs_none a b (subst (λ x. Acted accepts gives (Saw notice.peer notice.last) x a b) err acted)
