use Rattle.std.proofs.Common.{arith}
use Rattle.pg_message_reader.proofs.Members.{read_short}
use Rattle.pg_message_reader.proofs.Spelled.{found, only}
use Rattle.pg_message_reader.proofs.reading.read_packet.Goals as goal

pub returns-clause-found : goal.returns-clause-found
returns-clause-found c = found c.whole_packet.result c.args.body.now (λ i. omega (arith, c.type_inv.body i)) c.whole_packet.ensures.exact

pub returns-clause-only : goal.returns-clause-only
returns-clause-only c p s = only c.whole_packet.result c.args.body.now p s c.whole_packet.ensures.exact

pub returns-clause-few : goal.returns-clause-few
returns-clause-few c = read_short c.whole_packet.result c.args.body.now (found c.whole_packet.result c.args.body.now (λ i. omega (arith, c.type_inv.body i)) c.whole_packet.ensures.exact)
