use Rattle.std.proofs.Common.{sym, ap, ◌∙◌}
use Rattle.pg_message_types.specs.Groups.{is_less}
use Rattle.pg_message_reader.specs.Shapes.Leaves.{characters}
use Rattle.pg_message_reader.proofs.Shapes.Leaves.{order_is, not_less}
use Rattle.pg_message_reader.proofs.shape.leaves.is_lower.Goals as goal

pub returns-in-Less : goal.returns-in-Less
returns-in-Less c a b x y = sym (ap is_less (order_is a b (characters c.in-Some.text) (characters c.in-Some-text_at.other) c.as_str.result.now c.as_str-2.result.now (c.in-Some.ensures x.room a x.rest x.here x.atom) (c.in-Some-text_at.ensures y.room b y.rest y.here y.atom) c.as_str.ensures c.as_str-2.ensures c.as_str.utf8 c.as_str-2.utf8 ∙ sym c.cmp.ensures ∙ c.in-Less.is))

pub returns-in_default-cmp : goal.returns-in_default-cmp
returns-in_default-cmp c a b x y = sym (ap is_less (order_is a b (characters c.in-Some.text) (characters c.in-Some-text_at.other) c.as_str.result.now c.as_str-2.result.now (c.in-Some.ensures x.room a x.rest x.here x.atom) (c.in-Some-text_at.ensures y.room b y.rest y.here y.atom) c.as_str.ensures c.as_str-2.ensures c.as_str.utf8 c.as_str-2.utf8 ∙ sym c.cmp.ensures) ∙ not_less c.cmp.result c.in_default-cmp.not-Less)
