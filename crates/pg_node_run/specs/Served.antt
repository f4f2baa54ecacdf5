-- What a phase of a turn makes of each port.
use Rattle.std.specs.Prelude.{◌≡◌, ◌≢◌, ◌<◌, ◌^◌, ℕ, false, get_or, length, List, None}
use Rattle.pg_node_run.specs.declared.pauses.Pauses.{Pauses}
use Rattle.pg_node_run.specs.declared.port.Port.{Port}
use Rattle.pg_node_run.specs.Pauses.{wait_of}
use Rattle.pg_node_run.specs.Ports.{HandsAll, HandsMore, IsPortServed, KeepsSame, handed, handed_count, was_handed}
use Rattle.pg_node.specs.PgStep.declared.answer.Answer.{Answer}
use Rattle.pg_node.specs.PgStep.declared.command.OpId.{OpId}

-- the port at a place was served
abbrev pub IsServedAt : ℕ → List Port → List Port → Type 0
IsServedAt place ports ports2 = (none : Port) → IsPortServed (get_or ports place none) (get_or ports2 place none)

-- each port was, whose place is the number of a port
abbrev pub AreServed : List Port → List Port → Type 0
AreServed ports ports2 = (place : ℕ) → place < length ports → place < 2 ^ 16 → IsServedAt place ports ports2

-- all ports stay as they were but that at a place
abbrev pub StayBut : ℕ → List Port → List Port → Type 0
StayBut place ports ports2 = (other : ℕ) (none : Port) → other ≢ place → get_or ports2 other none ≡ get_or ports other none

-- each port stays where commands come
abbrev pub KeepTheSame : List Port → List Port → Type 0
KeepTheSame ports ports2 = (place : ℕ) (none : Port) → KeepsSame (get_or ports place none) (get_or ports2 place none)

-- at no port an answer was handed over
abbrev pub HandNone : List Port → List Port → Type 0
HandNone ports ports2 = (place : ℕ) (none : Port)
    → (handed (get_or ports2 place none) ≡ handed (get_or ports place none)) × (handed_count (get_or ports2 place none) ≡ handed_count (get_or ports place none))

-- at the port at a place its answers were handed over as long as there was room
abbrev pub IsHandedAt : (ℕ → List Answer) → ℕ → List Port → List Port → Type 0
IsHandedAt answers place ports ports2 = (none : Port) → HandsAll (answers place) (get_or ports place none) (get_or ports2 place none)

-- at each port they were, whose place is the number of a port
abbrev pub AreHanded : (ℕ → List Answer) → List Port → List Port → Type 0
AreHanded answers ports ports2 = (place : ℕ) → place < length ports → place < 2 ^ 16 → IsHandedAt answers place ports ports2

-- at the port at a place one of its answers was not handed over
abbrev pub LeavesAnswerAt : (ℕ → List Answer) → ℕ → List Port → Type 0
LeavesAnswerAt answers place ports = (none : Port) → handed_count (get_or ports place none) < length (answers place)

-- at some port one was not
pub record LeavesAnswer (answers : ℕ → List Answer) (ports : List Port) : Type 0 where
  pub place : ℕ
  pub within : place < length ports
  pub left : LeavesAnswerAt answers place ports

-- Of all ports: what was handed over at one is so still, and how a command waits of which no answer was handed over stays. One of which
-- an answer was handed over has no pause any more, and none begins.
pub record AllForgetHanded (ports ports2 : List Port) (pauses pauses2 : Pauses) : Type 0 where
  pub earlier : (op : OpId) (none : Port) → was_handed op (get_or ports2 op.port none) ≡ false → was_handed op (get_or ports op.port none) ≡ false
  pub stays : (op : OpId) (none : Port) → was_handed op (get_or ports2 op.port none) ≡ false → wait_of pauses2 op ≡ wait_of pauses op
  pub gone : (op : OpId) (none : Port) → HandsMore op (get_or ports op.port none) (get_or ports2 op.port none) pauses2
  pub none : (op : OpId) → wait_of pauses op ≡ None → wait_of pauses2 op ≡ None
