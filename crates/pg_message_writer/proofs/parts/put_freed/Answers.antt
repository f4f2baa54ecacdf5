use Rattle.std.proofs.Common.{[], ◌∷◌, ◌≤◌, length, codes, arith}
use Rattle.pg_term.specs.declared.term.Term.{Tuple}
use Rattle.pg_term.specs.declared.term.Term.TheVariants.{Atom, Ref}
use Rattle.pg_message_types.specs.PgTermIo.Writing.{item_bytes}
use Rattle.pg_message_writer.specs.Told.{reference_lent}
use Rattle.pg_message_writer.proofs.Put.{opened_put, more, nothing}
use Rattle.pg_message_writer.proofs.Words.{pair_len}
use Rattle.pg_message_writer.proofs.parts.put_freed.Goals as goal

pub returns : goal.returns
returns c =
    let others = c.args.name.now ∷ Ref (reference_lent c.args.mark.now) ∷ [] in
    let inner = Tuple (Atom (codes "del_lock") ∷ others) in
    let short : length (item_bytes inner) ≤ 16777216 = omega (arith, pair_len (Atom (codes "cast")) inner, c.requires.short) in
    let said = opened_put c.put_opening.new.out c.put_opening-2.new.out c.put_mark.new.out (codes "del_lock") others short (omega arith) c.put_opening-2.ensures (more c.put_name.ensures (more c.put_mark.ensures (nothing c.put_mark.new.out))) in
    opened_put c.args.out.now c.put_opening.new.out c.put_mark.new.out (codes "cast") (inner ∷ []) c.requires.short (omega arith) c.put_opening.ensures (more said (nothing c.put_mark.new.out))
