-- What a process does with a body: it is logged, what it asks for is done, and then what follows.
use Rattle.std.specs.Prelude.{◌≡◌, ℕ, Bool, true, false, cond, drop, map, List, [], ◌∷◌, ◌++◌}
use Rattle.std.specs.List.{AllByRecursion}
use Rattle.pg_node.specs.PgStep.StepLaws.{is_query}
use Rattle.pg_node.specs.PgStep.declared.command.Command.{Command}
use Rattle.pg_node_process.specs.Bodies.{body_of}
use Rattle.pg_node_process.specs.declared.body.Body.{Body}
use Rattle.pg_node_process.specs.declared.body.Body.TheVariants as bodies
use Rattle.pg_node_process.specs.Whom.{Whom}
use Rattle.pg_process.specs.declared.fault.ProcessFault.{ProcessFault}
use Rattle.pg_process.specs.declared.process.Process.{Process}
use Rattle.pg_process.specs.Chains.{Ends, Goes, IsWork, Step}
use Rattle.pg_process.specs.Deeds.{Asked, Blamed, Deed, Fed, Queued, Read, Shared, Timed}

-- a query is answered, and any other command is a change
abbrev pub asked : ℕ → Command → Deed
asked port command = cond (is_query command) (Asked port command) (Queued port command)

-- what a body asks for
abbrev pub heeded : Body → List ℕ → List Deed
heeded (bodies.Ask port command) body = asked port command ∷ []
heeded (bodies.Bytes peer) body = Fed peer (drop 1 body) ∷ []
heeded (bodies.Denied port) body = Shared port ∷ []
heeded bodies.Clock body = Timed ∷ []
heeded bodies.Tick body = []
heeded bodies.Groups body = Blamed ∷ []
heeded bodies.Bad body = Blamed ∷ []

abbrev pub is_tick : Body → Bool
is_tick bodies.Tick = true
is_tick body = false

-- whom the bodies of a process are of
abbrev pub whom_of : Process → Whom
whom_of process = process.parties

abbrev pub deeds_of : List Step → List Deed
deeds_of steps = map (λ step. step.deed) steps

-- what a body asks for is done
pub record Heeds (body : List ℕ) (a b : Process) : Type 0 where
  pub steps : List Step
  pub deeds : deeds_of steps ≡ heeded (body_of (whom_of a) body) body
  pub goes : Goes steps a b

-- A body is heard: it is logged, what it asks for is done, and then what follows.
pub record Hears (body : List ℕ) (a b : Process) : Type 0 where
  pub steps : List Step
  pub work : List Deed
  pub deeds : deeds_of steps ≡ Read body ∷ heeded (body_of (whom_of a) body) body ++ work
  pub follows : AllByRecursion IsWork work
  pub goes : Goes steps a b

-- a first part of that is done
pub record HearsUntil (body : List ℕ) (fault : ProcessFault) (a b : Process) : Type 0 where
  pub steps : List Step
  pub later : List Deed
  pub work : List Deed
  pub deeds : deeds_of steps ++ later ≡ Read body ∷ heeded (body_of (whom_of a) body) body ++ work
  pub follows : AllByRecursion IsWork work
  pub ends : Ends steps fault a b
