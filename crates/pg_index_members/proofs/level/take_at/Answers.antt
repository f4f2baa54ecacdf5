use Rattle.std.proofs.Common.{◌≡◌, [], sym, ap, ◌∙◌}
use Rattle.std.specs.List.{flat_map}
use Rattle.pg_index_members.proofs.Parts.{counts_home, set_taken, remove_taken, written_at}
use Rattle.pg_index_members.proofs.level.take_at.Goals as goal

pub returns-then-is_empty-clause-count : goal.returns-then-is_empty-clause-count
returns-then-is_empty-clause-count g c =
    let rows = g.P.Part.rows in
    let parts = c.args.parts.now.items in
    let pid = c.args.pid.now in
    let part = c.index_mut.result.now in
    let is = c.index_mut.ensures.value in
    let home = c.requires.home in
    c.take-count.ensures.count ∙ sym (counts_home rows pid parts c.args.at home part is)

pub returns-then-is_empty-clause-rest : goal.returns-then-is_empty-clause-rest
returns-then-is_empty-clause-rest g c =
    let rows = g.P.Part.rows in
    let parts = c.args.parts.now.items in
    let pid = c.args.pid.now in
    let part = c.index_mut.result.now in
    let is = c.index_mut.ensures.value in
    let home = c.requires.home in
    let now : c.index.result.now ≡ c.take-count.new.self = written_at rows parts c.args.at c.index.result.now c.take-count.new.self home.within c.index.ensures in
    let none : rows c.take-count.new.self ≡ [] = ap rows (sym now) ∙ c.is_empty.ensures.0 c.if-is_empty.true in
    ap (flat_map rows) c.remove.ensures.items ∙ remove_taken rows pid parts c.args.at home part is c.args.most c.take-count.new.self c.take-count.ensures.rest none

pub returns-else-is_empty-clause-count : goal.returns-else-is_empty-clause-count
returns-else-is_empty-clause-count g c =
    let rows = g.P.Part.rows in
    let parts = c.args.parts.now.items in
    let pid = c.args.pid.now in
    let part = c.index_mut.result.now in
    let is = c.index_mut.ensures.value in
    let home = c.requires.home in
    c.take-count.ensures.count ∙ sym (counts_home rows pid parts c.args.at home part is)

pub returns-else-is_empty-clause-rest : goal.returns-else-is_empty-clause-rest
returns-else-is_empty-clause-rest g c =
    let rows = g.P.Part.rows in
    let parts = c.args.parts.now.items in
    let pid = c.args.pid.now in
    let part = c.index_mut.result.now in
    let is = c.index_mut.ensures.value in
    let home = c.requires.home in
    set_taken rows pid parts c.args.at home part is c.args.most c.take-count.new.self c.take-count.ensures.rest
