use Rattle.std.proofs.Common.{[], ◌∷◌, ◌≤◌, length, map, codes, arith}
use Rattle.pg_term.specs.declared.term.Term.{Tuple, List as Listed}
use Rattle.pg_term.specs.declared.term.Term.TheVariants.{Atom}
use Rattle.pg_message_types.specs.PgTermIo.Writing.{item_bytes}
use Rattle.pg_message_types.specs.Writing.{group_term}
use Rattle.pg_message_writer.proofs.Put.{opened_put, more, nothing}
use Rattle.pg_message_writer.proofs.Words.{pair_len}
use Rattle.pg_message_writer.proofs.parts.put_exchange.Goals as goal

pub returns : goal.returns
returns c =
    let others = Atom c.args.node.now ∷ Listed (map group_term c.args.groups.now) ∷ [] in
    let inner = Tuple (Atom (codes "exchange") ∷ others) in
    let short : length (item_bytes inner) ≤ 16777216 = omega (arith, pair_len (Atom (codes "cast")) inner, c.requires.short) in
    let said = opened_put c.put_opening.new.out c.put_opening-2.new.out c.put_groups.new.out (codes "exchange") others short (omega arith) c.put_opening-2.ensures (more c.put_node.ensures (more c.put_groups.ensures (nothing c.put_groups.new.out))) in
    opened_put c.args.out.now c.put_opening.new.out c.put_groups.new.out (codes "cast") (inner ∷ []) c.requires.short (omega arith) c.put_opening.ensures (more said (nothing c.put_groups.new.out))
