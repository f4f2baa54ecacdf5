use Rattle.std.proofs.Common.{sym, ◌∙◌}
use Rattle.pg_message_reader.proofs.Shapes.Leaves.{above, below, not_so}
use Rattle.pg_message_reader.proofs.shape.groups.names.Name.is_below.Goals as goal

pub returns-in-Atom-Built-clause-less : goal.returns-in-Atom-Built-clause-less
returns-in-Atom-Built-clause-less c a b x y h =
    above c.args.self.now c.args.other.now c.in-Atom-Built.field-0-0 c.in-Atom-Built.other a b c.in-Atom-Built.is-0 c.in-Atom-Built.is-1 x y (sym c.is_number.ensures ∙ not_so c.is_number.result h)

pub returns-in-Built-Atom-clause-less : goal.returns-in-Built-Atom-clause-less
returns-in-Built-Atom-clause-less c a b x y h =
    below c.args.self.now c.args.other.now c.in-Built-Atom.field-0-1 c.in-Built-Atom.name a b c.in-Built-Atom.is-0 c.in-Built-Atom.is-1 x y (sym c.is_number-in-Built-Atom.ensures ∙ h)
