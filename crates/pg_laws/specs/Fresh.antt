-- The processes that a node makes: each has the next number, so that none is made twice.
use Rattle.std.specs.Prelude.{◌≡◌, ℕ, zero, suc, ◌+◌, cond, nat_eq, length, List, [], ◌∷◌, ◌++◌, Option, Some, None}
use Rattle.std.specs.List.{IsDistinct}
use Rattle.pg_term.specs.declared.pid.Pid.{Pid}
use Rattle.pg_term.specs.Same.{same_pid}
use Rattle.pg_step.specs.PgEnds.Numbers.{pid_of}
use Rattle.pg_step.specs.declared.command.OpId.{OpId}
use Rattle.pg_step.specs.declared.answer.Reply.TheVariants as reply
use Rattle.pg_step.specs.Config.{Config, made_at, name_at}
use Rattle.pg_step.specs.FrameMachine.{FrameWorld}
use Rattle.pg_step.specs.Nodes.{Node}
use Rattle.pg_step.specs.State.{Response}
use Rattle.pg_step.specs.State.Response.{Given}
use Rattle.pg_step.specs.Turns.{Report}
use Rattle.pg_laws.specs.History.{all_reported}

-- the process that an answer gives, where it gives a new one
abbrev pub given_by : Option (OpId × Response) → List Pid
given_by None = []
given_by (Some (op, Given (reply.Made pid))) = pid ∷ []
given_by (Some (op, response)) = []

abbrev pub made_in : ℕ → ℕ × Report → List Pid
made_in i t = cond (nat_eq t.0 i) (given_by t.1.gave) []

-- the processes that node i made, the earliest first
abbrev pub made_by : ℕ → List (ℕ × Report) → List Pid
made_by i reported = all_reported (made_in i) reported

-- the processes of a node with the numbers after this one, so many
unfoldable pub numbered_after : Node → ℕ → ℕ → List Pid
numbered_after own number zero = []
numbered_after own number (suc n) = numbered_after own number n ++ pid_of own (number + suc n) ∷ []

-- of node i
pub record MakesFresh (config : Config) (w : FrameWorld) (i : ℕ) : Type 0 where
  -- those that it made have the numbers after those that it had made at the start, in their order
  pub in_order : made_by i w.reported ≡ numbered_after (name_at config i) (made_at config i) (length (made_by i w.reported))
  pub count : (w.node i).processes ≡ made_at config i + length (made_by i w.reported)
  -- no process is made twice
  pub once : IsDistinct same_pid (made_by i w.reported)
