-- Texts that are written one after another, where a write may fail.
use Rattle.std.proofs.Common.{◌≡◌, ℕ, List, [], ◌∷◌, ◌++◌, Option, Some, None}
use Rattle.std.proofs.Common.{Result, Ok, Err, ap, sym, ◌∙◌, append_assoc}
use Rattle.std.specs.Prelude.{OnOk, OnErr, IfErr}
use Rattle.std.specs.Io.KnownBytes.{Appends}
use Rattle.pg_cluster.specs.PgNode.Replicas.Causes.{FailedAt}
use Rattle.pg_cluster.proofs.PgNode.Replicas.Streams.{appends_then}
use Rattle.pg_script.specs.declared.fault.RunFault.{RunFault}
use Rattle.pg_script.specs.declared.fault.RunFault.TheVariants.{WriteFault}
use Rattle.pg_program.specs.Told.{WritesOut, WritesSome}

-- the first of two texts was not written whole
pub told_first : {W : Type 0} (fails : W → W → Type 0) (before after : Option (List ℕ)) (now : W) (a b : List ℕ) (fault : RunFault)
    → WritesOut fails before after now a (Err fault) → WritesOut fails before after now (a ++ b) (Err fault)
told_first fails before after now a b fault h =
    let part = h.0.0 in
    let behind = h.0.1 in
    ((part, behind ++ b, sym (append_assoc part behind b) ∙ ap (λ (t : List ℕ). t ++ b) h.0.2, h.0.3), h.1)

-- the first of two texts was written, and then the second was, as told
pub told_next : {W : Type 0} (fails : W → W → Type 0) (before mid after : Option (List ℕ)) (now : W) (a b : List ℕ) (r : Result (Unit {0}) RunFault)
    → Appends before mid a → WritesOut fails mid after now b r → WritesOut fails before after now (a ++ b) r
told_next fails before mid after now a b (Ok done) p h = appends_then before mid after a b p h
told_next fails before mid after now a b (Err fault) p h =
    let part = h.0.0 in
    ((a ++ part, h.0.1, append_assoc a part h.0.1 ∙ ap (λ (t : List ℕ). a ++ t) h.0.2, appends_then before mid after a part p h.0.3), h.1)

-- bytes were written whole, or a prefix of them
pub told_bytes : {W : Type 0} (fails : W → W → Type 0) (before after : Option (List ℕ)) (now : W) (bytes : List ℕ) (r : Result (Unit {0}) RunFault)
    → OnOk r (Appends before after bytes)
    → IfErr r (λ fault. (fault ≡ WriteFault) × ((part : List ℕ) × (behind : List ℕ) × (part ++ behind ≡ bytes) × Appends before after part))
    → OnErr r (FailedAt fails now) → WritesOut fails before after now bytes r
told_bytes fails before after now bytes (Ok done) p h q = p
told_bytes fails before after now bytes (Err fault) p h q = (h.1, q)
