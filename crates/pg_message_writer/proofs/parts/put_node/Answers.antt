use Rattle.std.proofs.Common.{arith, ap, length}
use Rattle.pg_term.specs.declared.term.Term.TheVariants.{Atom}
use Rattle.pg_message_types.specs.PgTermIo.Writing.{atom_bytes}
use Rattle.pg_message_types.proofs.PgTermIo.Spelled.{name_spelled}
use Rattle.pg_message_writer.proofs.Put.{leaf}
use Rattle.pg_message_writer.proofs.Words.{atom_is}
use Rattle.pg_message_writer.proofs.parts.put_node.Goals as goal

pub put_atom-requires : goal.put_atom-requires
put_atom-requires c = omega (arith, ap length (atom_is c.args.node.now), c.requires)

pub returns : goal.returns
returns c = leaf c.args.out.now c.put_atom.new.out (Atom c.args.node.now) (atom_bytes c.args.node.now) (atom_is c.args.node.now) c.put_atom.ensures.items c.put_atom.ensures.spare (name_spelled c.args.node.now c.put_atom.ensures.spelled)
