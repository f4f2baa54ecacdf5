-- How a conversation went, and the lines that tell it.
use Rattle.std.specs.Prelude.{ℕ, List, ◌++◌, Bool, true, false, ◌&&◌, ◌==◌, codes, decimal}
use Rattle.pg_talk.specs.declared.conversation.Outcome.{Outcome}

-- all was answered, the nodes agree, and the schedule replays
abbrev pub is_good : Outcome → Bool
is_good outcome = outcome.answered == outcome.asked && outcome.agree && outcome.replay

abbrev pub yes_or_no : Bool → List ℕ
yes_or_no true = codes "yes"
yes_or_no false = codes "no"

-- `nodes N clients M`
abbrev pub nodes_line : Outcome → List ℕ
nodes_line outcome = codes "nodes " ++ decimal outcome.nodes ++ codes " clients " ++ decimal outcome.clients ++ codes "\n"

-- `answered X of Y`
abbrev pub answered_line : Outcome → List ℕ
answered_line outcome = codes "answered " ++ decimal outcome.answered ++ codes " of " ++ decimal outcome.asked ++ codes "\n"

-- `agree yes`, or no
abbrev pub agree_line : Outcome → List ℕ
agree_line outcome = codes "agree " ++ yes_or_no outcome.agree ++ codes "\n"

-- `replay yes`, or no
abbrev pub replay_line : Outcome → List ℕ
replay_line outcome = codes "replay " ++ yes_or_no outcome.replay ++ codes "\n"

-- all four
abbrev pub outcome_lines : Outcome → List ℕ
outcome_lines outcome = nodes_line outcome ++ answered_line outcome ++ agree_line outcome ++ replay_line outcome
