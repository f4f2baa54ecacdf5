use Rattle.std.proofs.Common.{List, ap, ◌∙◌}
use Rattle.std.specs.List.{list_all}
use Rattle.pg_group.specs.declared.chunk.Chunk.{Chunk}
use Rattle.pg_group.specs.Numbers.{has_number, all_numbers}
use Rattle.pg_group.proofs.Chunks.{all_of_chunks}
use Rattle.pg_group.proofs.numbers.Numbers.is_within.Goals as goal

pub returns : goal.returns
returns c =
    c.are_within.ensures
    ∙ all_of_chunks (has_number c.args.other.now) c.deref.result.now
    ∙ ap (λ (l : List Chunk). list_all (has_number c.args.other.now) (all_numbers l)) c.deref.ensures.value
    ∙ ap (list_all (has_number c.args.other.now)) c.self.view_is
