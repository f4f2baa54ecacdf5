use Rattle.std.proofs.Common.{◌≡◌, ◌+◌, ◌<◌, List, length, sym, ap, subst, ◌∙◌, arith}
use Rattle.std.specs.Prelude.{slice_set, if◌then◌else◌}
use Rattle.std.specs.List.{flat_map, insert}
use Rattle.pg_index_members.specs.Rows.{IsSplit}
use Rattle.pg_index_members.proofs.Parts.{divided, set_kept}
use Rattle.pg_index_members.proofs.level.divide.Goals as goal

pub returns-in-Some-clause-rows : goal.returns-in-Some-clause-rows
returns-in-Some-clause-rows g c =
    let rows = g.P.Part.rows in
    let parts = c.reserve.new.self.items in
    let within : c.args.at < length parts = subst (λ (l : List g.row.P.Denot). c.args.at < length l) (sym c.reserve.ensures.items) c.requires.within in
    let done = c.insert.ensures.succeeds (omega (arith, c.in-Ok.ensures.ok)) in
    let split : IsSplit (rows c.index_mut.result.now) (rows c.split.new.self) (rows c.in-Some.part) = rw c.in-Some.is at c.in-Ok-split.ensures.ok in
    ap (flat_map rows) (c.insert.ensures.items ∙ ap (λ b. if b then insert (slice_set parts c.args.at c.split.new.self) (c.args.at + 1) c.in-Some.part else slice_set parts c.args.at c.split.new.self) done)
    ∙ divided rows parts c.args.at c.index_mut.result.now c.split.new.self c.in-Some.part within c.index_mut.ensures.value split.whole
    ∙ ap (flat_map rows) c.reserve.ensures.items

pub returns-in_default-split-clause-rows : goal.returns-in_default-split-clause-rows
returns-in_default-split-clause-rows g c =
    let rows = g.P.Part.rows in
    let parts = c.reserve.new.self.items in
    let within : c.args.at < length parts = subst (λ (l : List g.row.P.Denot). c.args.at < length l) (sym c.reserve.ensures.items) c.requires.within in
    set_kept rows parts c.args.at c.index_mut.result.now c.split.new.self within c.index_mut.ensures.value c.in_default-split.ensures.err
    ∙ ap (flat_map rows) c.reserve.ensures.items

pub returns-in_default-later-clause-rows : goal.returns-in_default-later-clause-rows
returns-in_default-later-clause-rows g c =
    let rows = g.P.Part.rows in
    let parts = c.reserve.new.self.items in
    let within : c.args.at < length parts = subst (λ (l : List g.row.P.Denot). c.args.at < length l) (sym c.reserve.ensures.items) c.requires.within in
    let kept : rows c.split.new.self ≡ rows c.index_mut.result.now = rw c.in_default-later.is at c.in-Ok-split.ensures.ok in
    set_kept rows parts c.args.at c.index_mut.result.now c.split.new.self within c.index_mut.ensures.value kept
    ∙ ap (flat_map rows) c.reserve.ensures.items
