-- What a cluster that has ended tells of its nodes and of the groups.
use Rattle.std.specs.Prelude.{◌≡◌, ℕ, true, cond, nat_lt, List, Option, Some, None}
use Rattle.pg_term.specs.declared.term.Term.{Term}
use Rattle.pg_world.specs.PgGroup.declared.table.GroupTable.{Ghosts}
use Rattle.pg_world.specs.PgLaws.History.{Entry, history}
use Rattle.pg_world.specs.PgNode.declared.node.Node.{Node}
use Rattle.pg_world.specs.PgNode.Nodes.{held_by}
use Rattle.pg_world.specs.PgNodeState.Issued.{ports_of}
use Rattle.pg_world.specs.PgNodeState.States.{answers_of}
use Rattle.pg_world.specs.PgStep.declared.answer.Answer.{Answer}
use Rattle.pg_world.specs.PgStep.Config.{Config}
use Rattle.pg_world.specs.PgWorldPackets.declared.step.FrameStep.{FrameStep}
use Rattle.pg_world.specs.PgWorldPackets.Past.{RanFrames}
use Rattle.pg_cluster_judges.specs.Judges.{all_made}

-- the answers that a node gave at a port, if it has that port
abbrev pub answers_at : {T : Type 0} {g : Ghosts T} → ℕ → Node T g → Option (List Answer)
answers_at port node = cond (nat_lt port (ports_of (held_by node))) (Some (answers_of (held_by node) port)) None

-- The schedule, made step by step from the start of the configuration, leads to a world with losses of which all holds that a run
-- tells (`RanFrames`), and there these entries are the history of the group. Each step was made.
pub record HasHistory (given : Config) (schedule : List FrameStep) (name : Term) (entries : List Entry) : Type 0 where
  pub numbers : List ℕ
  pub made : all_made numbers ≡ true
  pub ran : RanFrames given schedule numbers (λ config u. history name u.world.reported ≡ entries)
