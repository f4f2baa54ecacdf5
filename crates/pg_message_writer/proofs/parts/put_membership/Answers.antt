use Rattle.std.proofs.Common.{[], ◌∷◌, arith}
use Rattle.pg_term.specs.declared.term.Term.TheVariants.{Pid}
use Rattle.pg_message_writer.proofs.Put.{opened_put, more, nothing}
use Rattle.pg_message_writer.proofs.parts.put_membership.Goals as goal

pub returns : goal.returns
returns c =
    opened_put c.args.out.now c.put_opening.new.out c.put_process.new.out c.args.word.now (c.args.name.now ∷ Pid c.args.pid.now ∷ []) c.requires.short (omega arith) c.put_opening.ensures
    (more c.put_name.ensures (more c.put_process.ensures (nothing c.put_process.new.out)))
