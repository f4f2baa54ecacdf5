use Rattle.std.proofs.Common.{refl, sym, ◌∙◌}
use Rattle.pg_world_packets.proofs.begun.few_enough.Goals as goal

pub returns-then-have_few : goal.returns-then-have_few
returns-then-have_few c = record { few = sym c.have_few.ensures ∙ c.if-have_few.true; fault = tt }

pub returns-else-have_few : goal.returns-else-have_few
returns-else-have_few c = record { few = tt; fault = (refl, sym c.have_few.ensures ∙ c.if-have_few.false) }
