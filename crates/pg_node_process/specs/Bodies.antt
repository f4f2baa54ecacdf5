-- What a body of the input asks for, by its first byte.
use Rattle.std.specs.Prelude.{◌≡◌, ◌<◌, ◌-◌, ℕ, nat_le, nat_lt, ◌&&◌, List, [], ◌∷◌, ⊤, Result, Ok, Err, if◌then◌else◌, ◌==◌}
use Rattle.pg_term.specs.declared.fault.TermFault.{TermFault}
use Rattle.pg_term.specs.declared.term.Term.{Term}
use Rattle.pg_step.specs.PgTermIo.Reading.{term_of}
use Rattle.pg_node_requests.specs.declared.input.Input.{Input}
use Rattle.pg_node_requests.specs.declared.input.Input.TheVariants as inputs
use Rattle.pg_node_requests.specs.Requests.{input_of}
use Rattle.pg_node_process.specs.declared.body.Body.{Body}
use Rattle.pg_node_process.specs.declared.body.Body.TheVariants as bodies
use Rattle.pg_node_process.specs.Whom.{Whom, ports_of}

-- 16, 17: the first byte alone
abbrev pub alone : Body → List ℕ → Body
alone body [] = body
alone body (byte ∷ bytes) = bodies.Bad

-- 19 N: a port, by its number from 1
abbrev pub port_told : ℕ → ℕ → Body
port_told ports number = if nat_le 1 number && nat_le number ports then bodies.Denied (number - 1) else bodies.Bad

abbrev pub denied_in : ℕ → List ℕ → Body
denied_in ports (number ∷ []) = port_told ports number
denied_in ports bytes = bodies.Bad

-- 131 ..: {Node, Port, Command}; a process loses no node, and any other term asks for nothing
abbrev pub request_in : Input → Body
request_in (inputs.Ask client command) = bodies.Ask client command
request_in (inputs.Lose node) = bodies.Bad
request_in inputs.Bad = bodies.Bad
request_in inputs.End = bodies.Bad
request_in (inputs.Broken number) = bodies.Bad

abbrev pub request_by : Whom → Result Term TermFault → Body
request_by whom (Ok term) = request_in (input_of (ports_of whom.name whom.ports ∷ []) term)
request_by whom (Err fault) = bodies.Bad

-- P bytes: those of the peer at this place
abbrev pub bytes_of : Whom → ℕ → Body
bytes_of whom place = if nat_lt place whom.peers then bodies.Bytes place else bodies.Bad

abbrev pub body_by : Whom → ℕ → List ℕ → Body
body_by whom first rest =
    if first == 131 then request_by whom (term_of (first ∷ rest))
    else if first == 16 then alone bodies.Tick rest
    else if first == 17 then alone bodies.Clock rest
    else if first == 19 then denied_in whom.ports rest
    else if first == 20 then bodies.Groups
    else bytes_of whom first

-- what a body asks for
abbrev pub body_of : Whom → List ℕ → Body
body_of whom [] = bodies.Bad
body_of whom (first ∷ rest) = body_by whom first rest

-- a port that it names is there, and so is a peer
abbrev pub IsWithin : Whom → Body → Type 0
IsWithin whom (bodies.Ask port command) = port < whom.ports
IsWithin whom (bodies.Denied port) = port < whom.ports
IsWithin whom (bodies.Bytes peer) = peer < whom.peers
IsWithin whom bodies.Groups = ⊤
IsWithin whom bodies.Tick = ⊤
IsWithin whom bodies.Clock = ⊤
IsWithin whom bodies.Bad = ⊤

-- it spells a term
abbrev pub IsTerm : List ℕ → Type 0
IsTerm body = (term : Term) × (term_of body ≡ Ok term)
