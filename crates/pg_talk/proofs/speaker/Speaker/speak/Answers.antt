use Rattle.std.proofs.Common.{get_or}
use Rattle.pg_cluster.specs.Running.{clients_in}
use Rattle.pg_talk.proofs.Asked.{hears}
use Rattle.pg_talk.proofs.speaker.Speaker.speak.Goals as goal

pub returns-in-Some-clause-keeps : goal.returns-in-Some-clause-keeps
returns-in-Some-clause-keeps c = λ creates rounds none kept.
    hears creates rounds c.args.self.now c.hear.new.self (get_or (clients_in c.args.running.now) c.args.place none) (get_or (clients_in c.poll.new.self) c.args.place none) c.in-Some.answer
    c.if-self.true (c.in-Some.ensures.some none) (c.in-Some.ensures.submitted none) c.hear.ensures.answered c.hear.ensures.asked c.hear.ensures.pid c.hear.ensures.stage c.hear.ensures.rounds kept
