use Rattle.std.proofs.Common.{◌≡◌, ◌-◌, ◌++◌, List, ℕ, length, take, drop, ap, ◌∙◌, append_assoc, length-drop}
use Rattle.std.proofs.lemmas.List.{take-append-drop}
use Rattle.std.proofs.Math.Seq.{take-length}
use Rattle.pg_script_trace.proofs.PgNode.Replicas.Streams.{appends_then}
use Rattle.pg_script.proofs.writing.put_whole.Goals as goal

-- all of what is behind n elements
whole : (n : ℕ) (rest : List ℕ) → take (length rest - n) (drop n rest) ≡ drop n rest
whole n rest = rw (← length-drop n rest) (take-length (drop n rest))

-- a prefix of the rest goes to what is done
onward : (done rest bytes : List ℕ) (n : ℕ) → done ++ rest ≡ bytes → (done ++ take n rest) ++ take (length rest - n) (drop n rest) ≡ bytes
onward done rest bytes n e = append_assoc done (take n rest) (take (length rest - n) (drop n rest)) ∙ ap (λ (b : List ℕ). done ++ (take n rest ++ b)) (whole n rest) ∙ ap (λ (b : List ℕ). done ++ b) (take-append-drop n rest) ∙ e

pub loop-rest-preserved : goal.loop-rest-preserved
loop-rest-preserved g c =
    let i = c.loop-rest.invariant in
    let rest = c.loop-rest.rest.now in
    let n = c.in-Ok.count in (
      i.0 ++ take n rest,
      onward i.0 rest c.args.bytes.now n i.1,
      appends_then (g.W.Sink.contents c.args.writer.now) (g.W.Sink.contents c.loop-rest.writer) (g.W.Sink.contents c.write_some.new.self) i.0 (take n rest) i.2 c.in-Ok.ensures.bytes,
    )
