use Rattle.std.proofs.lemmas.Result.{IfOk-weaker}
use Rattle.pg_world_packets.specs.Losing.{told_of}
use Rattle.pg_explore.proofs.Outcomes.{came}
use Rattle.pg_explore.proofs.making.make_step.Goals as goal

pub returns-clause-made : goal.returns-clause-made
returns-clause-made c = IfOk-weaker c.has_happened.result _ _ (λ b is config u shows. came config u (told_of config u c.args.step.now) c.step.result _ b (c.step.ensures.losing config u shows) is) c.has_happened.ensures
