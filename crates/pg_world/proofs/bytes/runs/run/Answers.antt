use Rattle.std.proofs.Common.{◌∙◌}
use Rattle.pg_world.specs.ByteWorlds.{account_of, crossing_of, lost_of, room_of}
use Rattle.pg_world.proofs.over_bytes.Chained.{ran_so}
use Rattle.pg_world.proofs.bytes.runs.run.Goals as goal

pub returns-in-Ok-clause-ran : goal.returns-in-Ok-clause-ran
returns-in-Ok-clause-ran c =
    let begun = c.in-Ok.begun in
    let left = c.run.new.self in
    ran_so c.args.config.now.starts.items c.each_world_past_losses.ensures (room_of begun) c.args.config.now.ring (crossing_of begun) (crossing_of left) (account_of begun) (account_of left) (lost_of begun) (lost_of left)
    c.args.steps.now c.run.new.numbers.items c.in-Ok.ensures.begins c.in-Ok.ensures.opens c.in-Ok.ensures.lost c.in-Ok.ensures.room c.run.ensures.crosses

pub returns-in-Ok-clause-lost : goal.returns-in-Ok-clause-lost
returns-in-Ok-clause-lost c = λ none. c.run.ensures.lost none ∙ c.in-Ok.ensures.lost
