use Rattle.std.proofs.Common.{◌∷◌, decimal}
use Rattle.pg_text.proofs.Adding.{adds_at}
use Rattle.pg_text.proofs.writing.write_more_bytes.Goals as goal

pub loop-byte-preserved : goal.loop-byte-preserved
loop-byte-preserved c = adds_at (λ n. 44 ∷ decimal n) c.args.bytes.now c.loop-byte.byte-index 0 _ _ _ c.loop-byte-test.true c.loop-byte.invariant c.in_ok-write_part.ensures
