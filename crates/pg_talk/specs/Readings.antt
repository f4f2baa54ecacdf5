-- What is read of a source: which inputs its bytes are.
use Rattle.std.specs.Prelude.{◌≡◌, ◌⊎◌, ◌-◌, ℕ, zero, suc, List, [], ◌∷◌, ◌++◌, Option, Result, Ok, Err, IfSome, take}
use Rattle.std.specs.Io.KnownBytes.{Consumes}
use Rattle.pg_term.specs.declared.faults.TheConstants.{OUT_OF_MEMORY, READ_FAULT, TOO_LONG, TRUNCATED}
use Rattle.pg_cluster.specs.PgFrame.declared.fault.TooLong.{TooLong}
use Rattle.pg_cluster.specs.PgFrame.Frames.{bodies_of, front_of, rest_of}
use Rattle.pg_term.specs.declared.fault.TermFault.{TermFault}
use Rattle.pg_term.specs.declared.term.Term.{Term}
use Rattle.pg_cluster.specs.PgTermIo.Reading.{term_of}
use Rattle.pg_node_requests.specs.declared.input.Input.{Input}
use Rattle.pg_node_requests.specs.declared.input.Input.TheVariants as forms
use Rattle.pg_node_requests.specs.declared.layout.NodePorts.{NodePorts}
use Rattle.pg_node_requests.specs.Requests.{input_of}

-- ---- bytes

-- how many requests an input is
abbrev pub requests_in : Input → ℕ
requests_in (forms.Ask client command) = 1
requests_in (forms.Lose node) = 0
requests_in forms.Bad = 0
requests_in forms.End = 0
requests_in (forms.Broken number) = 0

-- the input of the term that is spelled; where none is it asks for nothing
abbrev pub asked_by : List NodePorts → Result Term TermFault → Input
asked_by nodes (Ok term) = input_of nodes term
asked_by nodes (Err fault) = forms.Bad

-- the input that a body is
abbrev pub body_input : List NodePorts → List ℕ → Input
body_input nodes body = asked_by nodes (term_of body)

-- Each body is one input. The input is over once so many requests came, and else by what comes after the bodies.
abbrev pub inputs_of : List NodePorts → ℕ → List (List ℕ) → Input → List Input
inputs_of nodes zero bodies last = forms.End ∷ []
inputs_of nodes (suc wanted) [] last = last ∷ []
inputs_of nodes (suc wanted) (body ∷ bodies) last = body_input nodes body ∷ inputs_of nodes (suc wanted - requests_in (body_input nodes body)) bodies last

abbrev pub cut_by : Result (Option (List ℕ)) TooLong → Input
cut_by (Ok front) = forms.Broken TRUNCATED
cut_by (Err fault) = forms.Broken TOO_LONG

-- what comes after the whole frames, by the bytes there: the end, or a frame that is cut, or too long
abbrev pub stream_ending : List ℕ → Input
stream_ending [] = forms.End
stream_ending (byte ∷ bytes) = cut_by (front_of (byte ∷ bytes))

-- the inputs that bytes are
abbrev pub inputs_in : List NodePorts → ℕ → List ℕ → List Input
inputs_in nodes wanted bytes = inputs_of nodes wanted (bodies_of bytes) (stream_ending (rest_of bytes))

-- ---- a source

-- these are all its bytes, where they are known
abbrev pub AreAll : Option (List ℕ) → List ℕ → Type 0
AreAll source bytes = IfSome source (λ known. bytes ≡ known)

module _ {S : Type 0} (remaining : S → Option (List ℕ)) (fails : S → S → Type 0) where
  -- after these bytes a read failed
  pub record FailsAfter (source : Option (List ℕ)) (bytes : List ℕ) : Type 0 where
    pub before : S
    pub after : S
    pub failed : fails before after
    pub read : Consumes source (remaining before) bytes

  -- What is read of bytes and then of a source, for the ports of these nodes and until so many requests came: all of it; or memory ran out after some of the bodies;
  -- or a read failed, after all bodies of what was read before.
  abbrev pub AreReadOn : List NodePorts → ℕ → Option (List ℕ) → List ℕ → List Input → Type 0
  AreReadOn nodes wanted source unread inputs =
      ((bytes : List ℕ) × AreAll source bytes × (inputs ≡ inputs_in nodes wanted (unread ++ bytes)))
      ⊎ ((bytes : List ℕ) × AreAll source bytes × ((count : ℕ) × (inputs ≡ inputs_of nodes wanted (take count (bodies_of (unread ++ bytes))) (forms.Broken OUT_OF_MEMORY))))
      ⊎ ((bytes : List ℕ) × FailsAfter source bytes × (inputs ≡ inputs_of nodes wanted (bodies_of (unread ++ bytes)) (forms.Broken READ_FAULT)))

  -- what is read of a source
  abbrev pub AreRead : List NodePorts → ℕ → Option (List ℕ) → List Input → Type 0
  AreRead nodes wanted source inputs = AreReadOn nodes wanted source [] inputs
