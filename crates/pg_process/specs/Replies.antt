-- Each request has its one reply.
use Rattle.std.specs.Prelude.{◌≡◌, ◌≢◌, ◌+◌, ◌-◌, ◌^◌, ℕ, pos, min, nat_eq, nat_lt, Bool, false, cond, List, [], ◌∷◌, ◌++◌, Option, Some, None, count_by, length, map, option_to_list, ⊤, if◌then◌else◌}
use Rattle.std.specs.List.{flat_map}
use Rattle.pg_term.specs.declared.term.Term.{Term, out-Term}
use Rattle.pg_term.specs.declared.term.Term.TheOpen.{Term-F}
use Rattle.pg_step.specs.PgMessageTypes.Parts.{elements_of}
use Rattle.pg_node_process.specs.Outputs.{Output, Said}
use Rattle.pg_node_process.specs.declared.config.ProcessConfig.{ProcessConfig}
use Rattle.pg_node_process.specs.declared.desk.Numbered.{Numbered}
use Rattle.pg_node_process.specs.Desks.{Answered as Closed, Asked as Counted, Changing, Handed as Opened, Happening, Port, all_numbers, next_number, nothing_came, numbers_behind, port_after}
use Rattle.pg_step.specs.PgExchange.GroupList.{GroupList}
use Rattle.pg_process.specs.Accounts.{acts_of, answers_in, happened_in, issued_in}
use Rattle.pg_process.specs.Beginnings.{StartsAs}
use Rattle.pg_process.specs.Chains.{AllDo, Step, said_in}
use Rattle.pg_process.specs.Deeds.{number_of}
use Rattle.pg_process.specs.Situations.{Setting, Situation}

-- ---- what is replied at a port

-- The requests whose replies are said as it happens, by their numbers: a query, as it comes; a change that is refused, as 1,024 wait; and the change that is with the node, as it is answered.
abbrev pub replied_by : Port → Happening → List ℕ
replied_by port Counted = next_number port ∷ []
replied_by port (Changing command) = if nat_lt (length port.waiting) 1024 then [] else next_number port ∷ []
replied_by port Opened = []
replied_by port Closed = number_of port.current ∷ []

-- the same of all that happens, one after another
abbrev pub all_replied : Port → List Happening → List ℕ
all_replied port [] = []
all_replied port (happening ∷ later) = replied_by port happening ++ all_replied (port_after port happening) later

-- the requests that have no reply: the change that is with the node, and those that wait
abbrev pub unreplied : Port → List ℕ
unreplied port = map (λ (change : Numbered). change.number) (option_to_list port.current ++ port.waiting)

-- how often a number is among some
abbrev pub times_of : ℕ → List ℕ → ℕ
times_of number numbers = count_by (nat_eq number) numbers

-- ---- what is said of it

-- the number that a term is
abbrev pub number_in : Term-F Term → List ℕ
number_in (Term-F.Int (pos n)) = n ∷ []
number_in other = []

abbrev pub numeral : Term → List ℕ
numeral term = number_in (out-Term term)

abbrev pub is_next_to : ℕ → List ℕ → Bool
is_next_to port (n ∷ []) = nat_eq n (port + 1)
is_next_to port numbers = false

-- {Node, Port, Number, Reply}: the number of the request of this port to which it replies
abbrev pub named_by : ℕ → Option (List Term) → List ℕ
named_by port (Some (node ∷ place ∷ number ∷ reply ∷ [])) = cond (is_next_to port (numeral place)) (numeral number) []
named_by port parts = []

-- the same of an output; no other is a reply
abbrev pub named_in : ℕ → Output → List ℕ
named_in port (Said term) = named_by port (elements_of term)
named_in port output = []

-- a number as a reply has it, in 63 bits
abbrev pub shown : ℕ → ℕ
shown number = min number (2 ^ 63 - 1)

-- ---- answers

-- where an answer is said a change is with the node
abbrev pub HasChange : Port → Happening → Type 0
HasChange port Closed = port.current ≢ None
HasChange port happening = ⊤

-- so it is with each
abbrev pub AllHaveChange : Port → List Happening → Type 0
AllHaveChange port [] = ⊤
AllHaveChange port (happening ∷ later) = HasChange port happening × AllHaveChange (port_after port happening) later

-- ---- all of it

-- What these deeds reply at a port, to which nothing came before. The replies that are said there name just these requests, in this order. An answer is said only while a change of the port is with the node. Each request that came has its one reply, or is the change
-- that is with the node, or waits. The answers of the node are those to the commands that it was issued there, one each, in their order; of these one at most has none, the change that is with it.
pub record Replies (port : ℕ) (steps : List Step) (b : Situation) : Type 0 where
  pub said : flat_map (named_in port) (said_in steps) ≡ map shown (all_replied nothing_came (happened_in port steps))
  pub changes : AllHaveChange nothing_came (happened_in port steps)
  pub each : (number : ℕ) → times_of number (all_numbers nothing_came (happened_in port steps))
      ≡ times_of number (all_replied nothing_came (happened_in port steps)) + times_of number (unreplied (b.ports port))
  pub answers : map (λ answer. answer.number) (answers_in port steps) ≡ numbers_behind 0 (length (answers_in port steps))
  pub issued : length (issued_in port (acts_of steps)) ≡ length (answers_in port steps) + length (option_to_list (b.ports port).current)

-- so it is with each chain of deeds of a process from its beginning
abbrev pub ChainsReply : Type 0
ChainsReply = (config : ProcessConfig) (groups : GroupList) (set : Setting) (a : Situation) (steps : List Step) (b : Situation)
    → StartsAs config groups set a → AllDo set a steps b → (port : ℕ) → Replies port steps b
