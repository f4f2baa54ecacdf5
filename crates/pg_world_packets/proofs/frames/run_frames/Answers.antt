use Rattle.std.proofs.Common.{◌∙◌, List, ℕ, sym, subst}
use Rattle.pg_world_packets.specs.FrameWorlds.{lost_of, view_of}
use Rattle.pg_world_packets.specs.Losing.{ShowsLosing}
use Rattle.pg_world_packets.proofs.Leading.{frames_ran}
use Rattle.pg_world_packets.proofs.frames.run_frames.Goals as goal

pub returns-in-Ok-clause-ran : goal.returns-in-Ok-clause-ran
returns-in-Ok-clause-ran c = frames_ran c.each_world_past_losses.ensures c.args.config.now.starts.items (view_of c.in-Ok.begun) c.args.steps.now c.run.new.numbers.items (view_of c.run.new.self) (lost_of c.run.new.self) c.in-Ok.ensures.begins
    (λ config u shows. c.run.ensures.runs config u (subst (λ (lost : List ℕ). ShowsLosing config (view_of c.in-Ok.begun) lost u) (sym c.in-Ok.ensures.lost) shows))

pub returns-in-Ok-clause-lost : goal.returns-in-Ok-clause-lost
returns-in-Ok-clause-lost c = λ none. c.run.ensures.lost none ∙ c.in-Ok.ensures.lost
