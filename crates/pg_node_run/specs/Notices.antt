-- What a clause sees of where a node is told of losses.
use Rattle.std.specs.Prelude.{◌≡◌, List, [], ◌∷◌, ◌++◌, Option, Some, None}
use Rattle.pg_node.specs.PgRing.declared.slot_in.SlotIn.{SlotIn}
use Rattle.pg_node.specs.PgRing.Slots.{taken, SameSlotIn}
use Rattle.pg_node_run.specs.declared.notices.Notice.{Notice}
use Rattle.pg_node_run.specs.declared.notices.Notices.{Notices}

-- where notices come
abbrev pub inlet_of : Notices → SlotIn Notice
inlet_of notices = notices.inlet

abbrev pub kept_in : Option Notice → List Notice
kept_in None = []
kept_in (Some notice) = notice ∷ []

-- the notice that came and of which the loss is to be seen next, if there is one
abbrev pub kept_of : Notices → List Notice
kept_of notices = kept_in notices.next

-- Nothing was ever told there.
pub record IsUntold (notices : Notices) : Type 0 where
  pub came : taken (inlet_of notices) ≡ []
  pub kept : kept_of notices ≡ []

-- These losses were seen meanwhile: they are, in their order, the next of those that were told.
pub record NoticesGo (losses : List Notice) (a b : Notices) : Type 0 where
  pub same : SameSlotIn (inlet_of a) (inlet_of b)
  pub came : (before : List Notice) → taken (inlet_of a) ≡ before ++ kept_of a → taken (inlet_of b) ≡ (before ++ losses) ++ kept_of b
