use Rattle.std.proofs.Common.{arith, ap, length}
use Rattle.pg_term.specs.declared.term.Term.TheVariants.{Ref}
use Rattle.pg_message_types.specs.PgTermIo.Writing.{reference_bytes}
use Rattle.pg_message_writer.proofs.Put.{leaf}
use Rattle.pg_message_writer.proofs.Words.{reference_is}
use Rattle.pg_message_writer.proofs.parts.put_ref.Goals as goal

pub put_reference-requires : goal.put_reference-requires
put_reference-requires c = omega (arith, ap length (reference_is c.args.reference.now), c.requires)

pub returns : goal.returns
returns c = leaf c.args.out.now c.put_reference.new.out (Ref c.args.reference.now) (reference_bytes c.args.reference.now) (reference_is c.args.reference.now) c.put_reference.ensures.items c.put_reference.ensures.spare c.put_reference.ensures.spelled
