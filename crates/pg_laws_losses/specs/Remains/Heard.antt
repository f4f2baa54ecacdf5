-- Words for what the live nodes have heard of those that are lost.
use Rattle.std.specs.Prelude.{◌≡◌, ◌↔◌, ◌||◌, ℕ, Bool, true, false, length, List, ◌∷◌, ◌++◌}
use Rattle.pg_term.specs.declared.term.Term.{Term}
use Rattle.pg_term.specs.Same.{same_atom}
use Rattle.pg_laws.specs.PgGroup.Value.{less}
use Rattle.pg_laws.specs.PgStep.Machines.Clocked.{Stamped}
use Rattle.pg_laws.specs.PgStep.Machines.Losing.{LosingEvent, Noticed, Step}
use Rattle.pg_laws.specs.PgStep.Machines.Machine.{Take}
use Rattle.pg_laws.specs.PgStep.Machines.Places.{is_pair}
use Rattle.pg_laws.specs.PgMessageTypes.declared.message.Message.{Message}
use Rattle.pg_laws.specs.PgStep.Config.{Config, name_at}
use Rattle.pg_laws.specs.PgStep.Nodes.{Node}
use Rattle.pg_laws.specs.PgStep.LossLaws.{LosingFrameWorld, is_notice}
use Rattle.pg_laws.specs.PgStep.Step.{Action}
use Rattle.pg_laws.specs.History.{Entry, applied_by, history, known, replay}
use Rattle.pg_laws_losses.specs.Reached.{LosingReaches}

-- Among these events node i takes a packet of node p, and so its exchange, which is the first of all; a last notice is none.
pub record Heard (config : Config) (events : List (LosingEvent Action)) (i p : ℕ) : Type 0 where
  pub before : List (LosingEvent Action)
  pub after : List (LosingEvent Action)
  pub is : events ≡ before ++ Step (Take i p) ∷ after
  -- the world in which it is taken, and what is on the way there
  pub m : LosingFrameWorld
  pub reached : LosingReaches config before m
  pub first : Stamped (Noticed Message)
  pub rest : List (Stamped (Noticed Message))
  pub there : m.world.wire p i ≡ first ∷ rest
  pub packet : is_notice first.packet ≡ false

-- node i heard each other node that is lost
abbrev pub HeardTheLost : Config → List (LosingEvent Action) → LosingFrameWorld → ℕ → Type 0
HeardTheLost config events w i = (p : ℕ) → is_pair (length config) i p ≡ true → w.gone p ≡ true → Heard config events i p

-- the history of the group has no entry of a node that is lost
abbrev pub NoneOfLost : LosingFrameWorld → Term → Type 0
NoneOfLost w name = (before after : List Entry) (e : Entry) → history name w.world.reported ≡ before ++ e ∷ after → w.gone e.node ≡ false

-- What the table of node i is made of, where nodes are lost: its own groups, and those of the exchanges that it took, after the updates that it
-- has applied, without the ends that it took. What it never took of a lost node is not there.
pub record MadeOf (config : Config) (events : List (LosingEvent Action)) (w : LosingFrameWorld) (i : ℕ) : Type 0 where
  -- whose exchange it took: those of which it took a packet
  pub took : Node → Bool
  pub just : (p : ℕ) → is_pair (length config) i p ≡ true → (took (name_at config p) ≡ true) ↔ Heard config events i p
  pub tables : (name : Term) → (w.world.node i).state.table name
      ≡ less (replay (known (λ q. same_atom (name_at config i) q || took q) name config) (applied_by i name w.world.reported)) (w.world.node i).state.ended
