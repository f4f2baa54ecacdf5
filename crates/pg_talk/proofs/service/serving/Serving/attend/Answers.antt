use Rattle.std.proofs.Common.{Bool, subst, sym}
use Rattle.pg_talk.specs.Servings.{ServingGoes, lost_at}
use Rattle.pg_talk.specs.Written.{IsDue, is_full_end}
use Rattle.pg_talk.proofs.Passing.{passed_same, short_of_memory}
use Rattle.pg_talk.proofs.Turns.{goes_itself, lost_here, on_ok, ok_of}
use Rattle.pg_talk.proofs.service.serving.Serving.attend.Goals as goal

pub returns-then-client-len-clause-goes : goal.returns-then-client-len-clause-goes
returns-then-client-len-clause-goes g c = goes_itself c.args.self.now (g.W.Sink.contents c.args.writer.now)

pub returns-in-None-clause-goes : goal.returns-in-None-clause-goes
returns-in-None-clause-goes g c =
    let same = g.W.Sink.contents c.args.writer.now in
    on_ok c.hand_over.result _ (ServingGoes c.args.self.now c.hand_over.new.self same same) c.hand_over.ensures.goes (λ rests. rests same)

pub returns-in-None-clause-passed : goal.returns-in-None-clause-passed
returns-in-None-clause-passed g c =
    ok_of c.hand_over.result _ (passed_same g.W.Sink.flushed c.args.self.now.outlet c.hand_over.new.self.outlet c.args.writer.now c.hand_over.ensures.outlet)

pub returns-in-None-clause-fault : goal.returns-in-None-clause-fault
returns-in-None-clause-fault g c = short_of_memory _ c.hand_over.result c.hand_over.ensures.fault
