use Rattle.std.proofs.Common.{◌≡◌, true, ◌∙◌}
use Rattle.pg_message_types.specs.Name.{is_name}
use Rattle.pg_message_reader.specs.Shapes.Leaves.{Names}
use Rattle.pg_message_reader.proofs.Shapes.ListShapes.{matched}
use Rattle.pg_message_reader.proofs.shape.groups.names.is_name_at.Goals as goal

pub returns : goal.returns
returns c t rest e =
    c.is_some.ensures ∙ matched c.in_ok-name.name (is_name t) (λ x. (rest ≡ x.1.now) × (is_name t ≡ true) × Names x.0 t) (c.in_ok-name.ensures.name t rest e) (λ x h. h.1)
