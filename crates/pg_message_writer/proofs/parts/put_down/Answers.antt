use Rattle.std.proofs.Common.{[], ◌∷◌, codes, arith}
use Rattle.pg_term.specs.declared.term.Term.TheVariants.{Pid}
use Rattle.pg_message_writer.proofs.Put.{opened_put, more, nothing}
use Rattle.pg_message_writer.proofs.parts.put_down.Goals as goal

pub returns : goal.returns
returns c =
    opened_put c.args.out.now c.put_opening.new.out c.put_process.new.out (codes "down") (Pid c.args.pid.now ∷ []) c.requires.short (omega arith) c.put_opening.ensures
    (more c.put_process.ensures (nothing c.put_process.new.out))
