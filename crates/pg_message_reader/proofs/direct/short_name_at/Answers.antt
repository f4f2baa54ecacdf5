use Rattle.std.proofs.Common.{sym, ◌∙◌, arith}
use Rattle.std.proofs.lemmas.Bool.{eqb-true}
use Rattle.pg_term.specs.Order.{kind_of}
use Rattle.pg_message_reader.proofs.Shapes.AtomNames.{atom_read}
use Rattle.pg_message_reader.proofs.direct.short_name_at.Goals as goal

pub returns-then-is_atom-clause-name : goal.returns-then-is_atom-clause-name
returns-then-is_atom-clause-name c =
    let found = c.in_ok-decode_item.field-0 in
    let e = c.in_ok-decode_item.ensures.exact in
    atom_read c.args.levels c.args.bytes.now found.0 found.1.now (λ i. omega (arith, c.type_inv.bytes i)) e (eqb-true (kind_of found.0) 1 (sym (c.is_atom.ensures.kind c.args.levels found.0 found.1.now e) ∙ c.if-is_atom.true))
