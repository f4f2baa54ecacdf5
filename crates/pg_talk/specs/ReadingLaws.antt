-- What holds of all that is read. The function of src/laws.rt is proved to meet it.
use Rattle.std.specs.Prelude.{◌≡◌, ◌<◌, ◌≤◌, ℕ, List, [], ◌∷◌, ◌++◌, Ok, length, map}
use Rattle.std.specs.List.{AllByRecursion, flat_map, sum_by}
use Rattle.pg_term.specs.declared.faults.TheConstants.{TRUNCATED}
use Rattle.pg_cluster.specs.PgFrame.Limits.{max_body}
use Rattle.pg_cluster.specs.PgFrame.Frames.{IsOpen}
use Rattle.pg_term.specs.declared.term.Term.{Term}
use Rattle.pg_cluster.specs.PgTermIo.Reading.{term_of}
use Rattle.pg_cluster.specs.PgTermIo.Writing.{written}
use Rattle.pg_node_requests.specs.declared.input.Input.{Input}
use Rattle.pg_node_requests.specs.declared.input.Input.TheVariants as forms
use Rattle.pg_node_requests.specs.declared.layout.NodePorts.{NodePorts}
use Rattle.pg_node_requests.specs.Requests.{input_of}
use Rattle.pg_talk.specs.Frames.{framed}
use Rattle.pg_talk.specs.Readings.{requests_in, inputs_in}

-- a frame holds it, and it is read back
pub record IsFramed (term : Term) : Type 0 where
  pub fits : length (written term) ≤ max_body
  pub back : term_of (written term) ≡ Ok term

-- the inputs of terms
abbrev pub inputs_said : List NodePorts → List Term → List Input
inputs_said nodes terms = map (input_of nodes) terms

-- how many requests they are
abbrev pub requests_said : List NodePorts → List Term → ℕ
requests_said nodes terms = sum_by (λ term. requests_in (input_of nodes term)) terms

-- Where terms were written one after another, and fewer requests than are wanted, each is read as its input, in order. Then comes the end, or that a frame is cut.
pub record FramesAreRead : Type 0 where
  pub whole : (nodes : List NodePorts) (wanted : ℕ) (terms : List Term) → AllByRecursion IsFramed terms → requests_said nodes terms < wanted
      → inputs_in nodes wanted (flat_map framed terms) ≡ inputs_said nodes terms ++ forms.End ∷ []
  pub cut : (nodes : List NodePorts) (wanted : ℕ) (terms : List Term) (byte : ℕ) (rest : List ℕ) → AllByRecursion IsFramed terms → requests_said nodes terms < wanted → IsOpen (byte ∷ rest)
      → inputs_in nodes wanted (flat_map framed terms ++ byte ∷ rest) ≡ inputs_said nodes terms ++ forms.Broken TRUNCATED ∷ []
