use Rattle.std.proofs.Common.{length, refl, arith}
use Rattle.std.proofs.lemmas.Bool.{le-ltb}
use Rattle.pg_term_io.proofs.reading.scanning.check_text.Goals as goal

pub returns-else-text-gt255 : goal.returns-else-text-gt255
returns-else-text-gt255 c = (c.args.text.now, rw (c.in-Latin.is, le-ltb 255 (length c.args.text.now) (omega (arith, c.if-text-gt255.false))) refl)
