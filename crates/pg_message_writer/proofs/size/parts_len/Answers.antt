use Rattle.std.proofs.Common.{arith}
use Rattle.pg_message_writer.proofs.Marks.{mark_len}
use Rattle.pg_message_writer.proofs.size.parts_len.Goals as goal

pub returns-clause-len : goal.returns-clause-len
returns-clause-len c = λ creation. omega (arith, mark_len c.args.node.now creation c.args.words.now c.told-words, c.atom_len.ensures.value)
