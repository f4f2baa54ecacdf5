-- What each client of a conversation asks, in its order.
use Rattle.std.specs.Prelude.{◌≡◌, ◌≤◌, ◌<◌, ◌+◌, ◌-◌, ◌^◌, ◌++◌, min, ℕ, zero, suc, Bool, true, false, cond, List}
use Rattle.std.specs.Prelude.{[], ◌∷◌, Option, Some, None, codes, length, map, slice_get, take, get_or}
use Rattle.std.specs.Option.{option_map_or}
use Rattle.pg_term.specs.declared.pid.Pid.{Pid}
use Rattle.pg_term.specs.declared.term.Term.{Term}
use Rattle.pg_term.specs.declared.term.Term.TheVariants.{Atom}
use Rattle.pg_cluster.specs.PgStep.declared.answer.Answer.{Answer}
use Rattle.pg_cluster.specs.PgStep.declared.answer.Reply.{Reply}
use Rattle.pg_cluster.specs.PgStep.declared.answer.Reply.TheVariants.{Made}
use Rattle.pg_cluster.specs.PgStep.declared.command.Command.{Command}
use Rattle.pg_cluster.specs.PgStep.declared.command.Command.TheVariants.{Create, Join, Leave, Make}
use Rattle.pg_cluster.specs.PgNodeRun.declared.port.Asked.{Asked}
use Rattle.pg_cluster.specs.PgNodeRun.declared.port.Client.{Client}
use Rattle.pg_cluster.specs.PgNodeRun.Ports.{submitted, polled, polled_count}
use Rattle.pg_talk.specs.declared.speaker.Speaker.{Speaker}
use Rattle.pg_talk.specs.declared.speaker.Stage.{Stage}
use Rattle.pg_talk.specs.declared.speaker.Stage.TheVariants.{Waiting, Creating, Making, Joining, Leaving, Silent}

-- ---- the commands of a client

abbrev pub group_name : Term
group_name = Atom (codes "g")

-- the first of all clients creates the group, and each makes a process
abbrev pub first_asked : Bool → List Command
first_asked true = Create group_name ∷ Make ∷ []
first_asked false = Make ∷ []

-- in each of so many rounds the process joins the group and leaves it
abbrev pub rounds_asked : Pid → ℕ → List Command
rounds_asked pid zero = []
rounds_asked pid (suc n) = Join group_name pid ∷ Leave group_name pid ∷ rounds_asked pid n

abbrev pub all_asked : Bool → ℕ → Pid → List Command
all_asked creates rounds pid = first_asked creates ++ rounds_asked pid rounds

-- the process that a reply tells of
abbrev pub process_made : Reply → Option Pid
process_made (Made pid) = Some pid
process_made reply = None

-- how many answers come before that to the make
abbrev pub make_place : Bool → ℕ
make_place true = 1
make_place false = 0

-- the process that a client made, by what it was answered
abbrev pub made_in : Bool → List Answer → Option Pid
made_in creates heard = option_map_or (λ answer. process_made answer.reply) (slice_get heard (make_place creates)) None

-- it is this one, or none is known
abbrev pub MayBe : Pid → Option Pid → Type 0
MayBe pid (Some made) = made ≡ pid
MayBe pid None = Unit {0}

abbrev pub commands_of : Client → List Command
commands_of client = map (λ asked. asked.command) (submitted client)

-- the first was submitted before an answer was heard, the second after one, and so on
abbrev pub AlternateWithAnswers : List Asked → Type 0
AlternateWithAnswers asked = (k : ℕ) (none : Asked) → k < length asked → (get_or asked k none).polled ≡ min k (2 ^ 64 - 1)

-- What a client asked are the first of its commands, by the process that it made; and it asked each once all before it were answered.
pub record Spoke (creates : Bool) (rounds : ℕ) (client : Client) : Type 0 where
  pub asked : (pid : Pid) → MayBe pid (made_in creates (polled client)) → take (length (commands_of client)) (all_asked creates rounds pid) ≡ commands_of client
  pub heard : length (polled client) ≤ length (commands_of client)
  pub turns : length (commands_of client) ≤ length (polled client) + 1
  pub alternate : AlternateWithAnswers (submitted client)

-- the first of the clients creates the group
abbrev pub is_first : ℕ → Bool
is_first zero = true
is_first (suc i) = false

-- each client did, of which the first creates the group
abbrev pub AllSpoke : ℕ → List Client → Type 0
AllSpoke rounds clients = (i : ℕ) (none : Client) → i < length clients → Spoke (is_first i) rounds (get_or clients i none)

-- ---- how a client goes on

-- the command of a stage
abbrev pub next_said : Stage → Option Pid → Option Command
next_said Creating pid = Some (Create group_name)
next_said Making pid = Some Make
next_said Joining (Some pid) = Some (Join group_name pid)
next_said Leaving (Some pid) = Some (Leave group_name pid)
next_said stage pid = None

-- the stage after an answer, where so many rounds are to follow
abbrev pub stage_after : Stage → ℕ → Stage
stage_after Waiting n = Making
stage_after Creating n = Making
stage_after Making zero = Silent
stage_after Making (suc n) = Joining
stage_after Joining n = Leaving
stage_after Leaving zero = Silent
stage_after Leaving (suc n) = Joining
stage_after Silent n = Silent

-- and how many rounds follow then
abbrev pub rounds_after : Stage → ℕ → ℕ
rounds_after Making n = n - 1
rounds_after Leaving n = n - 1
rounds_after stage n = n

-- the process that is known then
abbrev pub pid_after : Stage → Option Pid → Reply → Option Pid
pid_after Making pid reply = process_made reply
pid_after stage pid reply = pid

-- what is left to be said by a client that has submitted the command of its stage, or not
abbrev pub left_to_say : Stage → Bool → ℕ → Pid → List Command
left_to_say Waiting asked n pid = Make ∷ rounds_asked pid n
left_to_say Creating asked n pid = cond asked [] (Create group_name ∷ []) ++ Make ∷ rounds_asked pid n
left_to_say Making asked n pid = cond asked [] (Make ∷ []) ++ rounds_asked pid n
left_to_say Joining asked n pid = cond asked [] (Join group_name pid ∷ []) ++ Leave group_name pid ∷ rounds_asked pid n
left_to_say Leaving asked n pid = cond asked [] (Leave group_name pid ∷ []) ++ rounds_asked pid n
left_to_say Silent asked n pid = []

-- how many answers a client has heard at a stage
abbrev pub HasHeard : Bool → Stage → Bool → ℕ → Type 0
HasHeard creates Waiting asked count = (creates ≡ false) × (asked ≡ false) × (count ≡ 0)
HasHeard creates Creating asked count = (creates ≡ true) × (count ≡ 0)
HasHeard creates Making asked count = count ≡ make_place creates
HasHeard creates stage asked count = make_place creates < count

-- A client has said the first of what it is to say, and its speaker has the rest.
pub record HasRest (creates : Bool) (rounds : ℕ) (speaker : Speaker) (client : Client) : Type 0 where
  pub counted : speaker.answered ≡ polled_count client
  pub process : speaker.pid ≡ made_in creates (polled client)
  pub said : (pid : Pid) → MayBe pid speaker.pid → commands_of client ++ left_to_say speaker.stage speaker.is_asked speaker.rounds pid ≡ all_asked creates rounds pid
  pub turns : length (commands_of client) ≡ length (polled client) + cond speaker.is_asked 1 0
  pub alternate : AlternateWithAnswers (submitted client)
  pub at : HasHeard creates speaker.stage speaker.is_asked (length (polled client))

-- the same of each client and its speaker, of which the first creates the group
pub record AllKeep (rounds : ℕ) (speakers : List Speaker) (clients : List Client) : Type 0 where
  pub len : length speakers ≡ length clients
  pub each : (i : ℕ) (s : Speaker) (c : Client) → i < length clients → HasRest (is_first i) rounds (get_or speakers i s) (get_or clients i c)
