use Rattle.std.proofs.Common.{◌∙◌}
use Rattle.pg_node_opens.specs.PgMessageTypes.declared.message.Message.TheVariants.{Exchange}
use Rattle.pg_node_sends.proofs.begin.announced.Goals as goal

pub returns : goal.returns
returns g c = (c.in_ok-groups.groups, c.in_ok-groups.ensures, λ i. record { stamp = 0; message = Exchange ((c.in_ok-own.ensures ∙ c.name.ensures) i) c.in_ok-groups.groups })
