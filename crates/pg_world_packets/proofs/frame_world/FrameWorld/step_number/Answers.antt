use Rattle.std.proofs.Common.{◌∙◌, sym, subst}
use Rattle.pg_world_packets.specs.FrameWorlds.{lost_of, view_of}
use Rattle.pg_world_packets.specs.Losing.{ShowsLosing}
use Rattle.pg_world_packets.specs.Runs.{StepsTo}
use Rattle.pg_world_packets.proofs.Running.{left_out_so, made_so, none_more}
use Rattle.pg_world_packets.proofs.frame_world.FrameWorld.step_number.Goals as goal

pub returns-in-Ok-clause-lost : goal.returns-in-Ok-clause-lost
returns-in-Ok-clause-lost g c = λ keeps. c.step.ensures.lost ∙ none_more c.args.step.now c.step.result (lost_of c.args.self.now) keeps

pub returns-in-Err-clause-lost : goal.returns-in-Err-clause-lost
returns-in-Err-clause-lost g c = λ keeps. c.step.ensures.lost ∙ none_more c.args.step.now c.step.result (lost_of c.args.self.now) keeps

pub returns-in-Ok-clause-steps : goal.returns-in-Ok-clause-steps
returns-in-Ok-clause-steps g c = λ config u shows.
    made_so config u c.args.step.now (ShowsLosing config (view_of c.step.new.self) (lost_of c.step.new.self)) c.step.result c.in-Ok.field-0 c.in-Ok.is (c.step.ensures.losing config u shows)

pub returns-in-Err-clause-steps : goal.returns-in-Err-clause-steps
returns-in-Err-clause-steps g c = λ config u shows.
    subst (λ n. StepsTo config u c.args.step.now n (ShowsLosing config (view_of c.step.new.self) (lost_of c.step.new.self))) (sym c.number.ensures)
    (left_out_so config u c.args.step.now (ShowsLosing config (view_of c.step.new.self) (lost_of c.step.new.self)) c.step.result c.in-Err.fault c.in-Err.is (c.step.ensures.losing config u shows))
