use Rattle.std.proofs.Common.{arith}
use Rattle.pg_message_reader.proofs.Shapes.Shapes.{no_term, behind_first}
use Rattle.pg_message_reader.proofs.shape.packet.check_packet.Goals as goal

pub returns-in-empty : goal.returns-in-empty
returns-in-empty c t e = absurd (omega (arith, no_term c.args.body.now t e, c.in-empty.len_below))

pub returns-in-len1-up : goal.returns-in-len1-up
returns-in-len1-up c t e = let item = behind_first c.args.body.now t e in c.check_stamped.ensures t item.rest item.read
