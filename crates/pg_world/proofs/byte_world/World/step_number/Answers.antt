use Rattle.std.proofs.Common.{◌∙◌, ap, sym}
use Rattle.pg_world.specs.ByteWorlds.{account_of, crossing_of, lost_of, room_of}
use Rattle.pg_world.specs.CrossingRuns.{number_of}
use Rattle.pg_world.proofs.over_bytes.Chained.{crosses_so}
use Rattle.pg_world.proofs.Cutting.{none_lost_in}
use Rattle.pg_world.proofs.byte_world.World.step_number.Goals as goal

pub returns-in-Ok-clause-lost : goal.returns-in-Ok-clause-lost
returns-in-Ok-clause-lost g c = λ keeps. c.step.ensures.lost ∙ none_lost_in c.args.step.now c.step.result (lost_of c.args.self.now) keeps

pub returns-in-Err-clause-lost : goal.returns-in-Err-clause-lost
returns-in-Err-clause-lost g c = λ keeps. c.step.ensures.lost ∙ none_lost_in c.args.step.now c.step.result (lost_of c.args.self.now) keeps

pub returns-in-Ok-clause-crosses : goal.returns-in-Ok-clause-crosses
returns-in-Ok-clause-crosses g c = λ config u reached shows.
    let old = c.args.self.now in
    let new = c.step.new.self in
    crosses_so config (room_of old) (crossing_of old) (crossing_of new) (account_of old) (account_of new) (lost_of old) (lost_of new) u c.args.step.now c.step.result 0 reached shows (sym (ap number_of c.in-Ok.is))
    c.step.ensures.barred c.step.ensures.undrained c.step.ensures.changes
    (c.step.ensures.losing config u reached shows)

pub returns-in-Err-clause-crosses : goal.returns-in-Err-clause-crosses
returns-in-Err-clause-crosses g c = λ config u reached shows.
    let old = c.args.self.now in
    let new = c.step.new.self in
    crosses_so config (room_of old) (crossing_of old) (crossing_of new) (account_of old) (account_of new) (lost_of old) (lost_of new) u c.args.step.now c.step.result c.number.result reached shows (c.number.ensures ∙ sym (ap number_of c.in-Err.is))
    c.step.ensures.barred c.step.ensures.undrained c.step.ensures.changes
    (c.step.ensures.losing config u reached shows)
