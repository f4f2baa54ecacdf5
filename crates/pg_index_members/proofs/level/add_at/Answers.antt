use Rattle.std.proofs.Common.{◌+◌, ◌<◌, List, length, sym, ap, subst, ◌∙◌, arith, rules}
use Rattle.pg_index_members.specs.declared.row.Row.{Row}
use Rattle.pg_index_members.proofs.Parts.{some_added, none_empty_set, counts_home, total_home, set_same, set_added}
use Rattle.pg_index_members.proofs.level.add_at.Goals as goal

pub add-requires-clause-fits : goal.add-requires-clause-fits
add-requires-clause-fits g c =
    let rows = g.P.Part.rows in
    let parts = c.args.parts.now.items in
    let pid = c.args.pid.now in
    let part = c.index_mut.result.now in
    let is = c.index_mut.ensures.value in
    let home = c.requires.home in
    let few = total_home rows pid parts c.args.at home part is in
    let fits = c.requires.fits in
    omega arith

pub returns-in_err-count-clause-err : goal.returns-in_err-count-clause-err
returns-in_err-count-clause-err g c =
    let rows = g.P.Part.rows in
    let parts = c.args.parts.now.items in
    let pid = c.args.pid.now in
    let part = c.index_mut.result.now in
    let is = c.index_mut.ensures.value in
    let home = c.requires.home in
    let e = set_same rows pid parts c.args.at home part is c.add.new.self c.in_err-count.ensures.err in
    search rules

pub returns-in_err-count-clause-memory : goal.returns-in_err-count-clause-memory
returns-in_err-count-clause-memory g c =
    let rows = g.P.Part.rows in
    let parts = c.args.parts.now.items in
    let pid = c.args.pid.now in
    let part = c.index_mut.result.now in
    let is = c.index_mut.ensures.value in
    let home = c.requires.home in
    let none = counts_home rows pid parts c.args.at home part is ∙ c.in_err-count.ensures.memory in
    search rules

pub divide-requires-clause-some : goal.divide-requires-clause-some
divide-requires-clause-some g c =
    let rows = g.P.Part.rows in
    let parts = c.args.parts.now.items in
    let pid = c.args.pid.now in
    let part = c.index_mut.result.now in
    let is = c.index_mut.ensures.value in
    let home = c.requires.home in
    none_empty_set rows parts c.args.at c.add.new.self c.requires.parts (subst (λ (l : List Row). 0 < length l) (sym c.in_ok-count.ensures.ok) (some_added pid c.args.more (rows part)))

pub returns-then-count-more-clause-ok : goal.returns-then-count-more-clause-ok
returns-then-count-more-clause-ok g c =
    let rows = g.P.Part.rows in
    let parts = c.args.parts.now.items in
    let pid = c.args.pid.now in
    let part = c.index_mut.result.now in
    let is = c.index_mut.ensures.value in
    let home = c.requires.home in
    c.divide.ensures.rows ∙ set_added rows pid parts c.args.at home part is c.args.more c.add.new.self c.in_ok-count.ensures.ok

pub returns-then-count-more-clause-count : goal.returns-then-count-more-clause-count
returns-then-count-more-clause-count g c =
    let rows = g.P.Part.rows in
    let parts = c.args.parts.now.items in
    let pid = c.args.pid.now in
    let part = c.index_mut.result.now in
    let is = c.index_mut.ensures.value in
    let home = c.requires.home in
    let same = counts_home rows pid parts c.args.at home part is in
    c.in_ok-count.ensures.count ∙ ap (λ n. n + c.args.more) (sym same)

pub returns-else-count-more-clause-ok : goal.returns-else-count-more-clause-ok
returns-else-count-more-clause-ok g c =
    let rows = g.P.Part.rows in
    let parts = c.args.parts.now.items in
    let pid = c.args.pid.now in
    let part = c.index_mut.result.now in
    let is = c.index_mut.ensures.value in
    let home = c.requires.home in
    set_added rows pid parts c.args.at home part is c.args.more c.add.new.self c.in_ok-count.ensures.ok

pub returns-else-count-more-clause-count : goal.returns-else-count-more-clause-count
returns-else-count-more-clause-count g c =
    let rows = g.P.Part.rows in
    let parts = c.args.parts.now.items in
    let pid = c.args.pid.now in
    let part = c.index_mut.result.now in
    let is = c.index_mut.ensures.value in
    let home = c.requires.home in
    let same = counts_home rows pid parts c.args.at home part is in
    c.in_ok-count.ensures.count ∙ ap (λ n. n + c.args.more) (sym same)

pub returns-else-count-more-clause-parts : goal.returns-else-count-more-clause-parts
returns-else-count-more-clause-parts g c =
    let rows = g.P.Part.rows in
    let parts = c.args.parts.now.items in
    let pid = c.args.pid.now in
    let part = c.index_mut.result.now in
    let is = c.index_mut.ensures.value in
    let home = c.requires.home in
    none_empty_set rows parts c.args.at c.add.new.self c.requires.parts (subst (λ (l : List Row). 0 < length l) (sym c.in_ok-count.ensures.ok) (some_added pid c.args.more (rows part)))
