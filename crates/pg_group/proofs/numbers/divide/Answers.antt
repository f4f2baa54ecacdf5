use Rattle.std.proofs.Common.{◌+◌, ◌<◌, List, length, sym, ap, subst, ◌∙◌, arith}
use Rattle.std.specs.Prelude.{slice_set, if◌then◌else◌}
use Rattle.std.specs.List.{insert}
use Rattle.pg_group.specs.declared.chunk.Chunk.{Chunk}
use Rattle.pg_group.specs.Numbers.{all_numbers}
use Rattle.pg_group.proofs.Chunks.{divided, set_kept}
use Rattle.pg_group.proofs.numbers.divide.Goals as goal

pub returns-in-Some : goal.returns-in-Some
returns-in-Some c =
    let chunks = c.reserve.new.self.items in
    let within : c.args.at < length chunks = subst (λ (l : List Chunk). c.args.at < length l) (sym c.reserve.ensures.items) c.requires in
    let done = c.insert.ensures.succeeds (omega (arith, c.in-Ok.ensures.ok)) in
    ap all_numbers (c.insert.ensures.items ∙ ap (λ b. if b then insert (slice_set chunks c.args.at c.split.new.self) (c.args.at + 1) c.in-Some.later else slice_set chunks c.args.at c.split.new.self) done)
    ∙ divided chunks c.args.at c.index_mut.result.now c.split.new.self c.in-Some.later within c.index_mut.ensures.value c.in-Some.ensures.some
    ∙ ap all_numbers c.reserve.ensures.items

pub returns-in_default-split : goal.returns-in_default-split
returns-in_default-split c =
    let chunks = c.reserve.new.self.items in
    let within : c.args.at < length chunks = subst (λ (l : List Chunk). c.args.at < length l) (sym c.reserve.ensures.items) c.requires in
    set_kept chunks c.args.at c.index_mut.result.now c.split.new.self within c.index_mut.ensures.value c.in_default-split.ensures.none
    ∙ ap all_numbers c.reserve.ensures.items
