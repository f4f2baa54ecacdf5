-- The law of src/laws.rt.
use Rattle.std.proofs.Common.{◌≡◌, ℕ, List, [], ◌∷◌, ◌++◌, Some, Option, map, sym, ap, ◌∙◌, refl, append-nil, lt-ltb}
use Rattle.std.proofs.lemmas.Nat.{from_be_bytes-to_be_bytes_4}
use Rattle.std.specs.List.{AllByRecursion, flat_map}
use Rattle.std.proofs.lemmas.List.Folds.{flat_map-map}
use Rattle.pg_frame.proofs.Readings.{written_is_read}
use Rattle.pg_frame.specs.Frames.{IsBody, bodies_of, frame}
use Rattle.pg_node_process.specs.Outputs.{Output, OutputsAreHeard, IsFramed, IsSayable, Version, Bytes, Said, Clock, Formed, Denied, Mirrored, body_said, heard, mirrored_heard, said, term_heard}

one : (output : Output) → IsSayable output → heard (body_said output) ≡ Some output
one (Version format text) sayable = refl
one (Bytes peer bytes) sayable = let low = lt-ltb peer 16 sayable in rw low refl
one (Said term) sayable = ap term_heard sayable
one (Clock clock) sayable = ap (λ (number : ℕ). Some (Clock number)) (from_be_bytes-to_be_bytes_4 clock sayable)
one Formed sayable = refl
one (Denied port) sayable = refl
one (Mirrored term) sayable = ap mirrored_heard sayable

are_bodies : (outputs : List Output) → AllByRecursion IsFramed outputs → AllByRecursion IsBody (map body_said outputs)
are_bodies [] all = tt
are_bodies (output ∷ outputs) all = (all.0.fits, are_bodies outputs all.1)

each : (outputs : List Output) → AllByRecursion IsFramed outputs → map heard (map body_said outputs) ≡ map Some outputs
each [] all = refl
each (output ∷ outputs) all = ap (λ (first : Option Output). first ∷ map heard (map body_said outputs)) (one output all.0.sayable) ∙ ap (λ (others : List (Option Output)). Some output ∷ others) (each outputs all.1)

all_bodies : (outputs : List Output) → AllByRecursion IsFramed outputs → bodies_of (flat_map said outputs) ≡ map body_said outputs
all_bodies outputs all =
    ap bodies_of (sym (append-nil (flat_map said outputs)) ∙ ap (λ (bytes : List ℕ). bytes ++ []) (sym (flat_map-map frame body_said outputs)))
    ∙ (written_is_read.bodies (map body_said outputs) [] (are_bodies outputs all)
    ∙ (ap (λ (others : List (List ℕ)). map body_said outputs ++ others) written_is_read.nothing.1 ∙ append-nil (map body_said outputs)))

pub outputs_are_heard : OutputsAreHeard
outputs_are_heard = record {
  one = one;
  all = λ outputs all. ap (map heard) (all_bodies outputs all) ∙ each outputs all;
}
