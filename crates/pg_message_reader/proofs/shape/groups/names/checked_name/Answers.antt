use Rattle.std.proofs.Common.{◌≡◌, true, false, arith, sym, ◌∙◌}
use Rattle.std.proofs.lemmas.Bool.{eqb-true}
use Rattle.pg_term.specs.Order.{kind_of}
use Rattle.pg_message_types.specs.PgTermIo.Reading.{item_at}
use Rattle.pg_message_types.specs.Name.{is_name}
use Rattle.pg_message_reader.proofs.Shapes.Shapes.{end_is}
use Rattle.pg_message_reader.proofs.Shapes.AtomNames.{atom_read}
use Rattle.pg_message_reader.proofs.Shapes.ListShapes.{at_none, at_some}
use Rattle.pg_message_reader.proofs.Shapes.Leaves.{other_kind}
use Rattle.pg_message_reader.proofs.Shapes.Told.{on_err}
use Rattle.pg_message_reader.proofs.shape.groups.names.checked_name.Goals as goal

pub returns-then-is_atom-clause-name : goal.returns-then-is_atom-clause-name
returns-then-is_atom-clause-name c t rest e = (
  end_is (item_at c.args.levels c.args.bytes.now) t rest c.in-Some.behind.now e c.in-Some.ensures.some,
  atom_read c.args.levels c.args.bytes.now t rest (λ i. omega (arith, c.type_inv.bytes i)) e (eqb-true (kind_of t) 1 (sym (c.is_atom.ensures.kind c.args.levels t rest e) ∙ c.if-is_atom.true)),
  record { room = c.args.levels; rest = rest; here = e; atom = eqb-true (kind_of t) 1 (sym (c.is_atom.ensures.kind c.args.levels t rest e) ∙ c.if-is_atom.true) },
)

pub returns-in-None-clause-name : goal.returns-in-None-clause-name
returns-in-None-clause-name c t rest e = at_none c.in_ok-name.field-0 (is_name t ≡ false) (λ name. (name ≡ t) × (is_name t ≡ true)) c.in-None.is (c.in_ok-name.ensures t rest e)

pub returns-in-Some-2-clause-name : goal.returns-in-Some-2-clause-name
returns-in-Some-2-clause-name c t rest e =
    let found = at_some c.in_ok-name.field-0 c.in-Some-2.name (is_name t ≡ false) (λ name. (name ≡ t) × (is_name t ≡ true)) c.in-Some-2.is (c.in_ok-name.ensures t rest e) in (
      end_is (item_at c.args.levels c.args.bytes.now) t rest c.in-Some.behind.now e c.in-Some.ensures.some,
      found.1,
      (found.0, other_kind t 1 (sym (c.is_atom.ensures.kind c.args.levels t rest e) ∙ c.if-is_atom.false)),
    )

pub returns-in_err-name-clause-built : goal.returns-in_err-name-clause-built
returns-in_err-name-clause-built c t rest e = on_err c.from_residual.result _ (other_kind t 1 (sym (c.is_atom.ensures.kind c.args.levels t rest e) ∙ c.if-is_atom.false))
