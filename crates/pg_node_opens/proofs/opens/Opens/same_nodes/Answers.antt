use Rattle.std.proofs.Common.{ap, sym, ◌∙◌}
use Rattle.std.specs.Cmp.Lexicographic.{pointwise}
use Rattle.std.proofs.Math.Bool.{beq}
use Rattle.pg_term.specs.Same.{same_atom}
use Rattle.pg_node_opens.proofs.Named.{clash, atom_is, atom_self}
use Rattle.pg_node_opens.proofs.Alike.{lists_are, list_self, flag_is, flag_self}
use Rattle.pg_node_opens.proofs.opens.Opens.same_nodes.Goals as goal

pub returns-then-eq : goal.returns-then-eq
returns-then-eq c = (
  λ e. (
    lists_are same_atom atom_is c.args.self.now.names.items c.args.other.now.names.items (sym c.eq.ensures ∙ c.if-eq.true),
    lists_are beq flag_is c.args.self.now.lost.items c.args.other.now.lost.items (sym c.eq-then-eq.ensures ∙ e),
  ),
  λ h. c.eq-then-eq.ensures ∙ (ap (pointwise beq c.args.self.now.lost.items) (sym h.1) ∙ list_self beq flag_self c.args.self.now.lost.items),
)

pub returns-else-eq : goal.returns-else-eq
returns-else-eq c = (
  λ e. absurd (clash (sym e ∙ c.if-eq.false)),
  λ h. c.eq.ensures ∙ (ap (pointwise same_atom c.args.self.now.names.items) (sym h.0) ∙ list_self same_atom atom_self c.args.self.now.names.items),
)
