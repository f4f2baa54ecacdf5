-- What a node has applied of a group, where nodes are lost.
use Rattle.std.specs.Prelude.{◌≡◌, ◌⊎◌, ℕ, ◌<◌, List, [], ◌∷◌, ◌++◌, None}
use Rattle.pg_term.specs.declared.term.Term.{Term}
use Rattle.pg_laws.specs.PgStep.Config.{Config}
use Rattle.pg_laws.specs.PgStep.LossLaws.{LosingFrameWorld}
use Rattle.pg_laws.specs.History.{Entry, answered_count, applied_by, history, updates_of}
use Rattle.pg_laws.specs.WithLosses.{Thinned, has_seen}

-- What node i has applied of a group.
pub record AppliesThinned (config : Config) (w : LosingFrameWorld) (i : ℕ) (name : Term) : Type 0 where
  -- the history, or all of it but its last entry, with at most one entry left out of each node whose loss was seen
  pub before : List Entry
  pub whole : (before ≡ history name w.world.reported) ⊎ ((last : Entry) × (before ++ last ∷ [] ≡ history name w.world.reported))
  pub thin : List Entry
  pub thinned : Thinned thin before (has_seen config w i)
  -- the updates of these, in their order, and nothing else
  pub applied : updates_of thin ≡ applied_by i name w.world.reported
  -- all of it where the node sees the lock free
  pub free : (w.world.node i).state.locks name ≡ None → before ≡ history name w.world.reported
  -- no answered update is left out, also none of a lost node
  pub answered : (e : Entry) (first rest : List Entry) → history name w.world.reported ≡ first ++ e ∷ rest
      → 0 < answered_count e.node e.op w.world.reported → (kept : List Entry) × (later : List Entry) × (thin ≡ kept ++ e ∷ later)
