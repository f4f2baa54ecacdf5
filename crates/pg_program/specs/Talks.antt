-- How a conversation of clients with a cluster ends.
use Rattle.std.specs.Prelude.{◌≡◌, ◌⊎◌, ℕ, List, ◌++◌, Bool, true, false, Option}
use Rattle.std.specs.Prelude.{Result, Ok, Err, codes, decimal, if◌then◌else◌}
use Rattle.std.specs.Io.KnownBytes.{Appends}
use Rattle.pg_cluster.specs.Fault.{start_number_of}
use Rattle.pg_talk.specs.Outcomes.{is_good, outcome_lines}
use Rattle.pg_talk.specs.declared.conversation.Conversation.{Conversation}
use Rattle.pg_talk.specs.declared.conversation.Outcome.{Outcome}
use Rattle.pg_cluster.specs.declared.fault.StartFault.{StartFault}
use Rattle.pg_program.specs.Faults.{status_number}
use Rattle.pg_program.specs.Told.{WritesSome}
use Rattle.pg_program.specs.declared.fault.Fault.{Fault}
use Rattle.pg_program.specs.declared.fault.Fault.TheVariants.{Run}

-- ---- what is told of an outcome

abbrev pub true_or_false : Bool → List ℕ
true_or_false b = if b then codes "true" else codes "false"

-- one line of JSON
abbrev pub json_line : Outcome → ℕ → List ℕ
json_line outcome microseconds =
    codes "{\"nodes\":" ++ decimal outcome.nodes ++ codes ",\"clients\":" ++ decimal outcome.clients
    ++ codes ",\"answered\":" ++ decimal outcome.answered ++ codes ",\"asked\":" ++ decimal outcome.asked
    ++ codes ",\"agree\":" ++ true_or_false outcome.agree ++ codes ",\"replay\":" ++ true_or_false outcome.replay
    ++ codes ",\"microseconds\":" ++ decimal microseconds ++ codes "}\n"

-- that line, or four
abbrev pub outcome_text : Bool → Outcome → ℕ → List ℕ
outcome_text is_json outcome microseconds = if is_json then json_line outcome microseconds else outcome_lines outcome

-- What became of a text, and of whether all is well: it was written whole and flushed; or there was no memory, and nothing was
-- written; or a write failed, and a prefix was written.
abbrev pub Printed : Type 0 → Type 0 → Type 0 → Option (List ℕ) → Option (List ℕ) → List ℕ → Bool → Result Bool Fault → Type 0
Printed unchanged unwritten flushed before after text good (Ok told) = (told ≡ good) × Appends before after text × flushed
Printed unchanged unwritten flushed before after text good (Err (Run number)) =
    ((number ≡ 10) × unchanged) ⊎ ((number ≡ 32) × WritesSome before after text × unwritten)
Printed unchanged unwritten flushed before after text good (Err other) = ⊥

-- ---- how it ends

-- a conversation that was asked for went as it is told
pub record Went {D : Type 0} (went : D → Conversation → Result Outcome StartFault → D → Type 0) (asked : Conversation) (told : Result Outcome StartFault) : Type 0 where
  pub before : D
  pub after : D
  pub is : went before asked told after

-- how it ends once that is printed: where a clock was full, by that fault
abbrev pub end_printed : Bool → Result Bool Fault → Result Bool Fault
end_printed full (Ok good) = if full then Err (Run 30) else Ok good
end_printed full (Err fault) = Err fault

-- no cluster was started, or it is told how the conversation went
abbrev pub TellsTalk : Type 0 → Type 0 → Type 0 → Option (List ℕ) → Option (List ℕ) → Bool → Result Outcome StartFault → Result Bool Fault → Type 0
TellsTalk unchanged unwritten flushed before after is_json (Err fault) end = (end ≡ Err (Run (start_number_of fault))) × unchanged
TellsTalk unchanged unwritten flushed before after is_json (Ok outcome) end =
    (microseconds : ℕ) × ((printed : Result Bool Fault) × Printed unchanged unwritten flushed before after (outcome_text is_json outcome microseconds) (is_good outcome) printed
    × (end ≡ end_printed outcome.is_full printed))

-- clients spoke, and this is told of it
pub record TalkEnd {D : Type 0} (went : D → Conversation → Result Outcome StartFault → D → Type 0) (asked : Conversation) (is_json : Bool)
    (unchanged unwritten flushed : Type 0) (before after : Option (List ℕ)) (end : Result Bool Fault) : Type 0 where
  pub told : Result Outcome StartFault
  pub talked : Went went asked told
  pub is : TellsTalk unchanged unwritten flushed before after is_json told end

-- there was no memory, and nothing was done; or E holds
abbrev pub OrNoMemory : {A : Type 0} → Type 0 → (Result A Fault → Type 0) → Result A Fault → Type 0
OrNoMemory unchanged E end = ((end ≡ Err (Run 10)) × unchanged) ⊎ E end

-- 0: all is well; 1: not all is, or the run was refused
abbrev pub talk_status : Result Bool Fault → ℕ
talk_status (Ok true) = 0
talk_status (Ok false) = 1
talk_status (Err fault) = status_number fault

-- whether all is well is no fault
abbrev pub talk_end : Result Bool Fault → Result (Unit {0}) Fault
talk_end (Ok good) = Ok tt
talk_end (Err fault) = Err fault

-- a conversation ends as E says, T is said of the line on standard error, and this is the status
pub record EndsTalk (E : Result Bool Fault → Type 0) (T : Result (Unit {0}) Fault → Type 0) (status : ℕ) : Type 0 where
  pub end : Result Bool Fault
  pub is : E end
  pub told : T (talk_end end)
  pub status_is : status ≡ talk_status end
