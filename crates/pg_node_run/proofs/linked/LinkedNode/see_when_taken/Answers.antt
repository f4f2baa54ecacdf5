use Rattle.std.proofs.Common.{◌≡◌, ◌∙◌, [], arith, inl, inr, subst, sym}
use Rattle.std.specs.Prelude.{true, slice_get, IfOk, IfSome, IsErrAnd}
use Rattle.pg_node.specs.Bytes.{is_drained}
use Rattle.pg_node.specs.Nodes.{links_of}
use Rattle.pg_node_run.proofs.GoingOn.{goes_by_none, sees_after}
use Rattle.pg_node_run.proofs.Logging.{logs_none, loss_still}
use Rattle.pg_node_run.proofs.Trying.{stays}
use Rattle.pg_node_run.proofs.Wanting.{came_more, not_unseen, pulling_wants, refused_behind}
use Rattle.pg_node_run.proofs.Wanting.{refused_pull, saw_drained, wanting_between}
use Rattle.pg_node_run.proofs.Following.{follows_itself}
use Rattle.pg_node_run.specs.Acts.{Saw}
use Rattle.pg_node_run.specs.Events.{ActsOnce}
use Rattle.pg_node_run.specs.Follows.{log_of, node_of, peers_of}
use Rattle.pg_node_run.specs.Logs.{saw_loss}
use Rattle.pg_node_run.specs.Tries.{IsWant}
use Rattle.pg_node_run.proofs.linked.LinkedNode.see_when_taken.Goals as goal

-- ---- a damaged link

pub returns-then-damaged-clause-drained : goal.returns-then-damaged-clause-drained
returns-then-damaged-clause-drained g c = λ seen.
    let a = c.args.self.now in
    let b = c.see.new.self in
    saw_drained g.L.Link.accepts g.I.Inlet.gives g.met.L.Link.rests g.met.I.Inlet.rests g.met.L.Link.composes g.met.I.Inlet.composes g.I.Inlet.moves c.args.notice a a b (follows_itself g.L.Link.accepts g.I.Inlet.gives g.met.L.Link.rests g.met.I.Inlet.rests a)
    (inl (sym c.damaged.ensures ∙ c.if-damaged.true))
    (subst (λ r. IfOk r (λ seen. is_drained (links_of (node_of a) c.args.notice.peer) ≡ true)) seen c.see.ensures.drained)
    (subst (λ r. IfOk r (λ seen. ActsOnce g.L.Link.accepts g.I.Inlet.gives (λ input. input ≡ Saw c.args.notice.peer c.args.notice.last) a b)) seen c.see.ensures.saw)

pub returns-then-damaged-clause-more : goal.returns-then-damaged-clause-more
returns-then-damaged-clause-more g c = λ is. not_unseen c.see.result c.see.ensures.seen is

-- ---- nothing came

pub returns-else-count-gt0-clause-sees : goal.returns-else-count-gt0-clause-sees
returns-else-count-gt0-clause-sees g c =
    let a = c.args.self.now in
    let b = c.pull.new.self in
    sees_after g.L.Link.accepts g.I.Inlet.gives g.met.L.Link.composes g.met.I.Inlet.composes c.args.notice c.see-else-count-gt0.result a b c.see-else-count-gt0.new.self
    (goes_by_none g.L.Link.accepts g.I.Inlet.gives a b c.pull.ensures.follows) c.see-else-count-gt0.ensures.sees

pub returns-else-count-gt0-clause-logs : goal.returns-else-count-gt0-clause-logs
returns-else-count-gt0-clause-logs g c =
    let a = c.args.self.now in
    let b = c.pull.new.self in
    loss_still (saw_loss c.see-else-count-gt0.result) (log_of a) (log_of b) (log_of c.see-else-count-gt0.new.self) (logs_none g.L.Link.accepts g.I.Inlet.gives a b c.pull.ensures.follows) c.see-else-count-gt0.ensures.logs

pub returns-else-count-gt0-clause-drained : goal.returns-else-count-gt0-clause-drained
returns-else-count-gt0-clause-drained g c = λ seen.
    let a = c.args.self.now in
    let m = c.pull.new.self in
    let b = c.see-else-count-gt0.new.self in
    let none : c.in-Ok.count ≡ 0 = let few = c.if-count-gt0.false in omega (arith, few) in
    saw_drained g.L.Link.accepts g.I.Inlet.gives g.met.L.Link.rests g.met.I.Inlet.rests g.met.L.Link.composes g.met.I.Inlet.composes g.I.Inlet.moves c.args.notice a m b c.pull.ensures.follows
    (inr (subst (λ n. IfSome (slice_get (peers_of a) c.args.notice.peer) (λ p. g.I.Inlet.moves p.inlet 4096 n)) none c.in-Ok.ensures.many))
    (subst (λ r. IfOk r (λ seen. is_drained (links_of (node_of m) c.args.notice.peer) ≡ true)) seen c.see-else-count-gt0.ensures.drained)
    (subst (λ r. IfOk r (λ seen. ActsOnce g.L.Link.accepts g.I.Inlet.gives (λ input. input ≡ Saw c.args.notice.peer c.args.notice.last) m b)) seen c.see-else-count-gt0.ensures.saw)

pub returns-else-count-gt0-clause-refused : goal.returns-else-count-gt0-clause-refused
returns-else-count-gt0-clause-refused g c =
    refused_behind g.L.Link.accepts g.I.Inlet.gives g.met.L.Link.rests g.met.I.Inlet.rests g.met.L.Link.composes g.met.I.Inlet.composes c.args.notice c.see-else-count-gt0.result c.args.self.now c.pull.new.self c.see-else-count-gt0.new.self
    ([], c.pull.ensures.follows) c.see-else-count-gt0.ensures.refused

pub returns-else-count-gt0-clause-wanting : goal.returns-else-count-gt0-clause-wanting
returns-else-count-gt0-clause-wanting g c = λ want.
    let a = c.args.self.now in
    let m = c.pull.new.self in
    let b = c.see-else-count-gt0.new.self in
    wanting_between g.L.Link.accepts g.I.Inlet.gives g.met.L.Link.rests g.met.I.Inlet.rests g.met.L.Link.composes g.met.I.Inlet.composes a m b b ([], c.pull.ensures.follows) (c.see-else-count-gt0.ensures.wanting want) (stays g.L.Link.accepts g.I.Inlet.gives g.met.L.Link.rests g.met.I.Inlet.rests g.met.L.Link.composes g.met.I.Inlet.composes b)

pub returns-else-count-gt0-clause-more : goal.returns-else-count-gt0-clause-more
returns-else-count-gt0-clause-more g c = λ is. not_unseen c.see-else-count-gt0.result c.see-else-count-gt0.ensures.seen is

-- ---- more came

pub returns-then-count-gt0-clause-more : goal.returns-then-count-gt0-clause-more
returns-then-count-gt0-clause-more g c = λ is.
    came_more g.L.Link.accepts g.I.Inlet.gives g.met.L.Link.rests g.met.I.Inlet.rests g.met.L.Link.composes g.met.I.Inlet.composes c.args.notice.peer c.in-Ok.count c.args.self.now c.pull.new.self c.pull.ensures.follows
    (let some = c.if-count-gt0.true in omega (arith, some)) c.in-Ok.ensures.count

-- ---- none could

pub returns-in-Err-clause-refused : goal.returns-in-Err-clause-refused
returns-in-Err-clause-refused g c = λ no_want.
    refused_pull g.L.Link.accepts g.I.Inlet.gives g.met.L.Link.rests g.met.I.Inlet.rests g.met.L.Link.composes g.met.I.Inlet.composes c.args.notice c.pull.result c.in-Err.fault c.args.self.now c.pull.new.self c.in-Err.is c.pull.ensures.follows
    (sym c.damaged.ensures ∙ c.if-damaged.false) c.pull.ensures.lost c.pull.ensures.memory no_want

pub returns-in-Err-clause-wanting : goal.returns-in-Err-clause-wanting
returns-in-Err-clause-wanting g c = λ want.
    pulling_wants g.L.Link.accepts g.I.Inlet.gives g.met.L.Link.rests g.met.I.Inlet.rests g.met.L.Link.composes g.met.I.Inlet.composes c.args.notice.peer c.pull.result c.args.self.now c.pull.new.self c.requires.place c.pull.ensures.follows
    c.pull.ensures.lost c.pull.ensures.damaged c.pull.ensures.memory (subst (λ r. IsErrAnd r IsWant) (sym c.in-Err.is) want)
