-- The law of src/laws.rt.
use Rattle.std.proofs.Common.{◌≡◌, ◌<◌, ◌-◌, ℕ, List, [], ◌∷◌, ◌++◌, None, Ok, Result, map, sym, ap, ◌∙◌, arith, append-nil}
use Rattle.std.specs.List.{AllByRecursion, flat_map}
use Rattle.std.proofs.lemmas.List.Folds.{flat_map-map}
use Rattle.std.proofs.lemmas.List.Sums.{sum_by-cons}
use Rattle.pg_cluster.proofs.PgFrame.Fronts.{front_of-open}
use Rattle.pg_cluster.proofs.PgFrame.Readings.{front_is_first, front_is_frame, written_is_read}
use Rattle.pg_cluster.specs.PgFrame.Frames.{IsBody, bodies_of, frame, front_of, rest_of}
use Rattle.pg_term.specs.declared.fault.TermFault.{TermFault}
use Rattle.pg_term.specs.declared.term.Term.{Term}
use Rattle.pg_cluster.specs.PgTermIo.Writing.{written}
use Rattle.pg_node_requests.specs.declared.input.Input.{Input}
use Rattle.pg_node_requests.specs.declared.layout.NodePorts.{NodePorts}
use Rattle.pg_node_requests.specs.Requests.{input_of}
use Rattle.pg_talk.proofs.BodiesRead.{cut_ending, first_input, last_input}
use Rattle.pg_talk.specs.Frames.{framed}
use Rattle.pg_talk.specs.ReadingLaws.{FramesAreRead, IsFramed, inputs_said, requests_said}
use Rattle.pg_talk.specs.Readings.{asked_by, requests_in, stream_ending, inputs_in, inputs_of}

are_bodies : (terms : List Term) → AllByRecursion IsFramed terms → AllByRecursion IsBody (map written terms)
are_bodies [] all = tt
are_bodies (term ∷ terms) all = (all.0.fits, are_bodies terms all.1)

module _ (nodes : List NodePorts) where
  -- so are the bodies read
  bodies_read : (wanted : ℕ) (terms : List Term) (last : Input) → AllByRecursion IsFramed terms → requests_said nodes terms < wanted
      → inputs_of nodes wanted (map written terms) last ≡ inputs_said nodes terms ++ last ∷ []
  bodies_read wanted [] last all some = last_input nodes wanted last (λ e. omega (arith, some, e))
  bodies_read wanted (term ∷ terms) last all some =
      let count = sum_by-cons (λ (term : Term). requests_in (input_of nodes term)) term terms in
      first_input nodes wanted (written term) (map written terms) last (λ e. omega (arith, some, e))
      ∙ (ap (λ (read : Result Term TermFault). asked_by nodes read ∷ inputs_of nodes (wanted - requests_in (asked_by nodes read)) (map written terms) last) all.0.back
      ∙ ap (λ (inputs : List Input). input_of nodes term ∷ inputs) (bodies_read (wanted - requests_in (input_of nodes term)) terms last all.1 (omega (arith, some, count))))

  frames_read : (wanted : ℕ) (terms : List Term) (rest : List ℕ) → AllByRecursion IsFramed terms → requests_said nodes terms < wanted → front_of rest ≡ Ok None
      → inputs_in nodes wanted (flat_map framed terms ++ rest) ≡ inputs_said nodes terms ++ stream_ending rest ∷ []
  frames_read wanted terms rest all some front =
      ap (λ (bytes : List ℕ). inputs_in nodes wanted (bytes ++ rest)) (sym (flat_map-map frame written terms))
      ∙ (ap (λ (bodies : List (List ℕ)). inputs_of nodes wanted bodies (stream_ending (rest_of (flat_map frame (map written terms) ++ rest)))) bodies
      ∙ (ap (λ (end : List ℕ). inputs_of nodes wanted (map written terms) (stream_ending end)) end ∙ bodies_read wanted terms (stream_ending rest) all some))
    where
      none : bodies_of rest ≡ []
      none = ((front_is_first.open_rest rest).0 front).0

      bodies : bodies_of (flat_map frame (map written terms) ++ rest) ≡ map written terms
      bodies = written_is_read.bodies (map written terms) rest (are_bodies terms all) ∙ (ap (λ (others : List (List ℕ)). map written terms ++ others) none ∙ append-nil (map written terms))

      end : rest_of (flat_map frame (map written terms) ++ rest) ≡ rest
      end = written_is_read.rest (map written terms) rest (are_bodies terms all) ∙ front_is_frame.none rest none

pub frames_are_read : FramesAreRead
frames_are_read = record {
  whole = λ nodes wanted terms all some.
      ap (λ (bytes : List ℕ). inputs_in nodes wanted bytes) (sym (append-nil (flat_map framed terms))) ∙ frames_read nodes wanted terms [] all some written_is_read.nothing.0;
  cut = λ nodes wanted terms byte rest all some open_rest.
      let front = front_of-open (byte ∷ rest) open_rest in
      frames_read nodes wanted terms (byte ∷ rest) all some front ∙ ap (λ (last : Input). inputs_said nodes terms ++ last ∷ []) (cut_ending (byte ∷ rest) (λ e. omega (arith, e)) front);
}
