use Rattle.std.proofs.Common.{◌<◌, [], subst, sym}
use Rattle.pg_node_run.specs.Tries.{HasPulled, HasTried, WasWanting}
use Rattle.pg_node_run.specs.Turns.{GoesOn}
use Rattle.pg_node_run.proofs.GoingOn.{goes_on, goes_by_none, goes_by_take}
use Rattle.pg_node_run.specs.Follows.{log_of}
use Rattle.pg_node_run.specs.Logs.{IsTake, LogsOnly}
use Rattle.pg_node_run.proofs.Logging.{logs_after, logs_none, logs_still, logs_take}
use Rattle.pg_node_run.proofs.Trying.{stays, tried_between, tried_one}
use Rattle.pg_node_run.proofs.Wanting.{pulled_between, pulled_one, pulling_wants, taking_wants, wanting_between, wanting_on}
use Rattle.pg_node_run.proofs.linked.LinkedNode.pull_and_take.Goals as goal
use Rattle.pg_node_run.proofs.linked.LinkedNode.pull_and_take.Goals.{then-taken, else-taken}

pub returns-clause-goes : goal.returns-clause-goes
returns-clause-goes g c =
    let taken : GoesOn g.L.Link.accepts g.I.Inlet.gives c.args.self.now c.take.new.self =
    goes_on g.L.Link.accepts g.I.Inlet.gives g.met.L.Link.composes g.met.I.Inlet.composes c.args.self.now c.pull.new.self c.take.new.self
    (goes_by_none g.L.Link.accepts g.I.Inlet.gives c.args.self.now c.pull.new.self c.pull.ensures.follows)
    (goes_by_take g.L.Link.accepts g.I.Inlet.gives c.args.peer c.take.result c.pull.new.self c.take.new.self c.take.ensures.took)
    in
    elim c.if-taken.branch [
      | then-taken w ↦ subst (λ x. GoesOn g.L.Link.accepts g.I.Inlet.gives c.args.self.now x) (sym w.self-is) (goes_on g.L.Link.accepts g.I.Inlet.gives g.met.L.Link.composes g.met.I.Inlet.composes c.args.self.now c.take.new.self w.put_waiting.new.self taken w.put_waiting.ensures.goes)
      | else-taken w ↦ subst (λ x. GoesOn g.L.Link.accepts g.I.Inlet.gives c.args.self.now x) (sym w.self-is) taken
    ]

pub returns-clause-tried : goal.returns-clause-tried
returns-clause-tried g c = λ whole.
    let tried : HasTried g.L.Link.accepts g.I.Inlet.gives c.args.peer c.args.self.now c.take.new.self =
    tried_one g.L.Link.accepts g.I.Inlet.gives g.met.L.Link.rests g.met.I.Inlet.rests g.met.L.Link.composes g.met.I.Inlet.composes c.args.peer c.args.self.now c.pull.new.self c.take.new.self c.take.result
    c.pull.ensures.follows c.take.ensures.took c.take.ensures.none c.take.ensures.fault (c.of_take-taken.ensures.no_want (c.and.ensures.second whole))
    in
    elim c.if-taken.branch [
      | then-taken w ↦ subst (λ x. HasTried g.L.Link.accepts g.I.Inlet.gives c.args.peer c.args.self.now x) (sym w.self-is)
          (tried_between g.L.Link.accepts g.I.Inlet.gives g.met.L.Link.rests g.met.I.Inlet.rests g.met.L.Link.composes g.met.I.Inlet.composes c.args.peer c.args.self.now c.args.self.now c.take.new.self w.put_waiting.new.self (stays g.L.Link.accepts g.I.Inlet.gives g.met.L.Link.rests g.met.I.Inlet.rests g.met.L.Link.composes g.met.I.Inlet.composes c.args.self.now) tried (w.put_waiting.ensures.goes.acts, w.put_waiting.ensures.goes.follows))
      | else-taken w ↦ subst (λ x. HasTried g.L.Link.accepts g.I.Inlet.gives c.args.peer c.args.self.now x) (sym w.self-is) tried
    ]

pub returns-clause-logs : goal.returns-clause-logs
returns-clause-logs g c =
    let a = c.args.self.now in
    let b = c.pull.new.self in
    let d = c.take.new.self in
    let taken : LogsOnly IsTake (log_of a) (log_of d) = logs_after IsTake (log_of a) (log_of b) (log_of d) (logs_none g.L.Link.accepts g.I.Inlet.gives a b c.pull.ensures.follows)
    (logs_take g.L.Link.accepts g.I.Inlet.gives c.args.peer c.take.result b d c.take.ensures.took)
    in
    elim c.if-taken.branch [
      | then-taken w ↦ logs_still IsTake (log_of a) (log_of d) _ taken (rw w.self-is w.put_waiting.ensures.log)
      | else-taken w ↦ rw w.self-is taken
    ]

pub returns-clause-pulled : goal.returns-clause-pulled
returns-clause-pulled g c = λ whole.
    let a = c.args.self.now in
    let m = c.pull.new.self in
    let b = c.take.new.self in
    let took = goes_by_take g.L.Link.accepts g.I.Inlet.gives c.args.peer c.take.result m b c.take.ensures.took in
    let here : HasPulled g.L.Link.accepts g.I.Inlet.gives g.I.Inlet.moves c.args.peer a m =
    pulled_one g.L.Link.accepts g.I.Inlet.gives g.met.L.Link.rests g.met.I.Inlet.rests g.met.L.Link.composes g.met.I.Inlet.composes g.I.Inlet.moves c.args.peer c.pull.result a m
    c.pull.ensures.follows c.pull.ensures.memory (c.of_pull-pulled.ensures.no_want (c.and.ensures.first whole)) c.pull.ensures.count c.pull.ensures.many
    in
    let pulled : HasPulled g.L.Link.accepts g.I.Inlet.gives g.I.Inlet.moves c.args.peer a b =
    pulled_between g.L.Link.accepts g.I.Inlet.gives g.met.L.Link.rests g.met.I.Inlet.rests g.met.L.Link.composes g.met.I.Inlet.composes g.I.Inlet.moves c.args.peer a a m b (stays g.L.Link.accepts g.I.Inlet.gives g.met.L.Link.rests g.met.I.Inlet.rests g.met.L.Link.composes g.met.I.Inlet.composes a) here (took.acts, took.follows)
    in
    elim c.if-taken.branch [
      | then-taken w ↦ subst (λ x. HasPulled g.L.Link.accepts g.I.Inlet.gives g.I.Inlet.moves c.args.peer a x) (sym w.self-is)
          (pulled_between g.L.Link.accepts g.I.Inlet.gives g.met.L.Link.rests g.met.I.Inlet.rests g.met.L.Link.composes g.met.I.Inlet.composes g.I.Inlet.moves c.args.peer a a b w.put_waiting.new.self (stays g.L.Link.accepts g.I.Inlet.gives g.met.L.Link.rests g.met.I.Inlet.rests g.met.L.Link.composes g.met.I.Inlet.composes a) pulled (w.put_waiting.ensures.goes.acts, w.put_waiting.ensures.goes.follows))
      | else-taken w ↦ subst (λ x. HasPulled g.L.Link.accepts g.I.Inlet.gives g.I.Inlet.moves c.args.peer a x) (sym w.self-is) pulled
    ]

pub returns-clause-wanting : goal.returns-clause-wanting
returns-clause-wanting g c = λ short.
    let a = c.args.self.now in
    let m = c.pull.new.self in
    let b = c.take.new.self in
    let took = goes_by_take g.L.Link.accepts g.I.Inlet.gives c.args.peer c.take.result m b c.take.ensures.took in
    let wanted : WasWanting g.L.Link.accepts g.I.Inlet.gives a b =
    wanting_on g.L.Link.accepts g.I.Inlet.gives g.met.L.Link.rests g.met.I.Inlet.rests g.met.L.Link.composes g.met.I.Inlet.composes c.of_pull-pulled.result.whole c.of_take-taken.result.whole c.and.result.whole a m b c.and.ensures.either ([], c.pull.ensures.follows) (took.acts, took.follows)
    (λ e. pulling_wants g.L.Link.accepts g.I.Inlet.gives g.met.L.Link.rests g.met.I.Inlet.rests g.met.L.Link.composes g.met.I.Inlet.composes c.args.peer c.pull.result a m c.requires.place c.pull.ensures.follows c.pull.ensures.lost c.pull.ensures.damaged c.pull.ensures.memory (c.of_pull-pulled.ensures.want e))
    (λ e. taking_wants g.L.Link.accepts g.I.Inlet.gives g.met.L.Link.rests g.met.I.Inlet.rests g.met.L.Link.composes g.met.I.Inlet.composes c.args.peer c.take.result m b (subst (λ n. c.args.peer < n) (sym c.pull.ensures.follows.moved.len) c.requires.place) c.take.ensures.took c.take.ensures.fault (c.of_take-taken.ensures.want e))
    short
    in
    elim c.if-taken.branch [
      | then-taken w ↦ subst (λ x. WasWanting g.L.Link.accepts g.I.Inlet.gives a x) (sym w.self-is)
          (wanting_between g.L.Link.accepts g.I.Inlet.gives g.met.L.Link.rests g.met.I.Inlet.rests g.met.L.Link.composes g.met.I.Inlet.composes a a b w.put_waiting.new.self (stays g.L.Link.accepts g.I.Inlet.gives g.met.L.Link.rests g.met.I.Inlet.rests g.met.L.Link.composes g.met.I.Inlet.composes a) wanted (w.put_waiting.ensures.goes.acts, w.put_waiting.ensures.goes.follows))
      | else-taken w ↦ subst (λ x. WasWanting g.L.Link.accepts g.I.Inlet.gives a x) (sym w.self-is) wanted
    ]
