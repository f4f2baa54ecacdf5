use Rattle.std.proofs.Common.{arith, codes}
use Rattle.pg_term.specs.declared.term.Term.TheVariants.{Atom, Ref}
use Rattle.pg_message_types.specs.Writing.{said_term}
use Rattle.pg_message_writer.specs.Told.{reference_lent}
use Rattle.pg_message_writer.proofs.Words.{triple_len}
use Rattle.pg_message_writer.proofs.size.reply_len.Goals as goal

pub returns-clause-len : goal.returns-clause-len
returns-clause-len c = omega (arith, triple_len (Atom (codes "reply")) (Ref (reference_lent c.args.mark.now)) (said_term c.args.said))
