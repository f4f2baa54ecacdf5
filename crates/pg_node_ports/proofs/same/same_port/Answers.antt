use Rattle.std.proofs.Common.{◌∙◌, ap, sym, refl}
use Rattle.std.specs.Cmp.Lexicographic.{pointwise}
use Rattle.pg_node_opens.specs.PgStep.SameAnswers.{same_answer}
use Rattle.pg_node_opens.proofs.Alike.{lists_are, list_self}
use Rattle.pg_node_ports.proofs.same.same_port.Goals as goal

pub returns-then-port-other : goal.returns-then-port-other
returns-then-port-other c =
    let law = c.equal_answers.ensures.answers in
    let mine = c.args.port.now.answers.items in (
      λ same. (c.if-port-other.true, lists_are same_answer (λ x y e. (law x y).0 e) mine c.args.other.now.answers.items (sym c.eq.ensures ∙ same)),
      λ h. c.eq.ensures ∙ (ap (pointwise same_answer mine) (sym h.1) ∙ list_self same_answer (λ x. (law x x).1 refl) mine),
    )
