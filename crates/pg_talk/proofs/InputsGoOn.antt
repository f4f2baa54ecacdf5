-- A term's input does not end the input.
use Rattle.std.proofs.Common.{◌≡◌, ℕ, Bool, true, false, List, [], ◌∷◌, Some, None, Option, refl}
use Rattle.std.specs.Prelude.{cond}
use Rattle.pg_cluster.specs.PgStep.declared.command.Command.{Command}
use Rattle.pg_term.specs.declared.term.Term.{Term}
use Rattle.pg_node_requests.specs.declared.input.Input.{Input}
use Rattle.pg_node_requests.specs.declared.layout.NodePorts.{NodePorts}
use Rattle.pg_node_requests.specs.Requests.{input_asked, input_in, input_of, lost}
use Rattle.pg_talk.proofs.BodiesRead.{ends}

asked_on : (client : Option ℕ) (command : Option Command) → ends (input_asked client command) ≡ false
asked_on (Some client) (Some command) = refl
asked_on (Some client) None = refl
asked_on None command = refl

lost_on : (node : Option ℕ) → ends (lost node) ≡ false
lost_on (Some node) = refl
lost_on None = refl

either_on : (test : Bool) (a b : Input) → ends a ≡ false → ends b ≡ false → ends (cond test a b) ≡ false
either_on true a b p q = p
either_on false a b p q = q

input_in_on : (nodes : List NodePorts) (parts : Option (List Term)) → ends (input_in nodes parts) ≡ false
input_in_on nodes (Some (word ∷ node ∷ [])) = search (either_on, lost_on) depth 10
input_in_on nodes (Some (node ∷ port ∷ command ∷ [])) = search asked_on
input_in_on nodes (Some []) = refl
input_in_on nodes (Some (one ∷ [])) = refl
input_in_on nodes (Some (one ∷ two ∷ three ∷ four ∷ more)) = refl
input_in_on nodes None = refl

pub goes_on : (nodes : List NodePorts) (term : Term) → ends (input_of nodes term) ≡ false
goes_on nodes term = search input_in_on
