use Rattle.std.proofs.Common.{◌<◌, ◌∙◌, length, ap, subst, sym}
use Rattle.pg_node.specs.Nodes.{held_by}
use Rattle.pg_node.specs.PgNodeState.States.{answers_of}
use Rattle.pg_node_run.specs.Ports.{ForgetsHanded, Hands, HandsAll, handed_count}
use Rattle.pg_node_run.proofs.Forgetting.{all_forget_at}
use Rattle.pg_node_run.proofs.GoingOn.{served_handed}
use Rattle.pg_node_run.proofs.Served.{handed_at, keep_the_same, leaves_at, stays_at}
use Rattle.pg_node_run.proofs.serving.hand_at.Goals as goal

pub returns-clause-serves : goal.returns-clause-serves
returns-clause-serves g c =
    served_handed g.L.Link.accepts g.I.Inlet.gives g.met.L.Link.rests g.met.I.Inlet.rests c.args.linked.now c.args.ports.now.items c.from.result c.index_mut-port.result.now c.hand_all.new.self
    (subst (λ k. k < length c.args.ports.now.items) (sym c.from.ensures) c.requires.place) c.index_mut-port.ensures.value
    (subst (λ x. Hands x c.index_mut-port.result.now c.hand_all.new.self)
    (c.answers-answers.ensures ∙ (ap (λ s. answers_of s c.args.place) (c.state.ensures ∙ ap held_by c.node.ensures) ∙ ap (λ k. answers_of (held_by c.args.linked.now.node) k) (sym c.from.ensures)))
    c.hand_all.ensures.hands)

pub returns-clause-kept : goal.returns-clause-kept
returns-clause-kept g c =
    keep_the_same c.args.ports.now.items c.from.result c.index_mut-port.result.now c.hand_all.new.self
    (subst (λ k. k < length c.args.ports.now.items) (sym c.from.ensures) c.requires.place) c.index_mut-port.ensures.value c.hand_all.ensures.hands.keeps

pub returns-clause-forgets : goal.returns-clause-forgets
returns-clause-forgets g c =
    all_forget_at c.args.ports.now.items c.from.result c.index_mut-port.result.now c.hand_all.new.self c.args.pauses.now c.hand_all.new.pauses
    (subst (λ k. k < length c.args.ports.now.items) (sym c.from.ensures) c.requires.place) c.index_mut-port.ensures.value
    (subst (λ k. ForgetsHanded k c.index_mut-port.result.now c.hand_all.new.self c.args.pauses.now c.hand_all.new.pauses) (sym c.from.ensures) c.hand_all.ensures.forgets)

pub returns-clause-all : goal.returns-clause-all
returns-clause-all g c = λ whole.
    handed_at (answers_of (held_by c.args.linked.now.node)) c.args.ports.now.items c.from.result c.args.place c.index_mut-port.result.now c.hand_all.new.self c.from.ensures
    (subst (λ k. k < length c.args.ports.now.items) (sym c.from.ensures) c.requires.place) c.index_mut-port.ensures.value
    (subst (λ x. HandsAll x c.index_mut-port.result.now c.hand_all.new.self)
    (c.answers-answers.ensures ∙ (ap (λ s. answers_of s c.args.place) (c.state.ensures ∙ ap held_by c.node.ensures) ∙ ap (λ k. answers_of (held_by c.args.linked.now.node) k) (sym c.from.ensures)))
    (c.hand_all.ensures.all whole))

pub returns-clause-left : goal.returns-clause-left
returns-clause-left g c = λ short.
    leaves_at (answers_of (held_by c.args.linked.now.node)) c.args.ports.now.items c.from.result c.args.place c.hand_all.new.self c.from.ensures
    (subst (λ k. k < length c.args.ports.now.items) (sym c.from.ensures) c.requires.place)
    (subst (λ x. handed_count c.hand_all.new.self < length x)
    (c.answers-answers.ensures ∙ (ap (λ s. answers_of s c.args.place) (c.state.ensures ∙ ap held_by c.node.ensures) ∙ ap (λ k. answers_of (held_by c.args.linked.now.node) k) (sym c.from.ensures)))
    (c.hand_all.ensures.left short))

pub returns-clause-others : goal.returns-clause-others
returns-clause-others g c = stays_at c.args.ports.now.items c.from.result c.args.place c.hand_all.new.self c.from.ensures
