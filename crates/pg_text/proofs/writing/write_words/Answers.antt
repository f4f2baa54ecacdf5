use Rattle.pg_text.specs.Writing.{part_text}
use Rattle.pg_text.proofs.Adding.{adds_at}
use Rattle.pg_text.proofs.writing.write_words.Goals as goal

pub loop-word-preserved : goal.loop-word-preserved
loop-word-preserved c = adds_at (part_text 46) c.args.words.now c.loop-word.word-index 0 _ _ _ c.loop-word-test.true c.loop-word.invariant c.in_ok-write_part.ensures
