use Rattle.std.proofs.Common.{[], ◌∷◌, arith}
use Rattle.pg_message_writer.proofs.Put.{opened_put, more, nothing}
use Rattle.pg_message_writer.proofs.parts.put_named.Goals as goal

pub returns : goal.returns
returns c =
    opened_put c.args.out.now c.put_opening.new.out c.put_name.new.out c.args.word.now (c.args.name.now ∷ []) c.requires.short (omega arith) c.put_opening.ensures
    (more c.put_name.ensures (nothing c.put_name.new.out))
