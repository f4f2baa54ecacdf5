use Rattle.std.proofs.Common.{◌≡◌, ◌<◌, ◌+◌, ◌++◌, ◌∷◌, [], length, map, get_or, ap, sym, subst, ◌∙◌, rules}
use Rattle.std.proofs.lemmas.List.{length-append}
use Rattle.pg_group.specs.Ended.{ended_of}
use Rattle.pg_group.specs.Table.{merged, PartlyMerged}
use Rattle.pg_exchange.specs.Undone.{noted, before_of, undone}
use Rattle.pg_group.proofs.Groups.{merged_more}
use Rattle.pg_exchange.proofs.Undone.{whole, one_more_back}
use Rattle.pg_exchange.proofs.merging.merge_each.Goals as goal

pub returns-in_err-merge-clause-back : goal.returns-in_err-merge-clause-back
returns-in_err-merge-clause-back g c =
    let item = c.loop-name-item.result in
    let so_far = c.loop-name.before.items in
    let old = g.T.GroupTable.contents c.loop-name.table in
    let new = g.T.GroupTable.contents c.merge.new.self in
    let ended = ended_of c.args.ended.now in
    let pushed : c.push.new.self.items ≡ so_far ++ c.in_ok-counts_of.field-0 ∷ [] = search rules in
    let len : length so_far ≡ c.loop-name.name-index = c.loop-name.invariant.1 in
    ap (λ bs. undone new c.args.groups.now (map noted bs)) pushed
    ∙ one_more_back old new c.args.groups.now so_far c.in_ok-counts_of.field-0 item ended
    (subst (λ n. n < length c.args.groups.now) (sym len) c.loop-name-test.true)
    (subst (λ n. item ≡ get_or c.args.groups.now n item) (sym len) c.loop-name-item.is)
    (c.in_ok-counts_of.ensures ∙ ap (before_of (old item.0)) c.as_slice-members.ensures)
    (subst (λ pids. PartlyMerged old new item.0 pids ended) c.as_slice-members.ensures c.in_err-merge.ensures.err)
    ∙ c.loop-name.invariant.2

pub loop-name-preserved : goal.loop-name-preserved
loop-name-preserved g c =
    let item = c.loop-name-item.result in
    let so_far = c.loop-name.before.items in
    let old = g.T.GroupTable.contents c.loop-name.table in
    let new = g.T.GroupTable.contents c.merge.new.self in
    let ended = ended_of c.args.ended.now in
    let pushed : c.push.new.self.items ≡ so_far ++ c.in_ok-counts_of.field-0 ∷ [] = search rules in
    let len : length so_far ≡ c.loop-name.name-index = c.loop-name.invariant.1 in
    let is_merged : new ≡ merged old item.0 item.1 ended = c.in_ok-merge.ensures.ok ∙ ap (λ pids. merged old item.0 pids ended) c.as_slice-members.ensures in (
      merged_more ended (g.T.GroupTable.contents c.args.table.now) c.args.groups.now c.loop-name.name-index item old new c.loop-name-test.true c.loop-name-item.is c.loop-name.invariant.0 is_merged,
      ap (λ bs. length bs) pushed ∙ length-append so_far (c.in_ok-counts_of.field-0 ∷ []) ∙ ap (λ n. n + 1) len,
      ap (λ bs. undone new c.args.groups.now (map noted bs)) pushed
          ∙ one_more_back old new c.args.groups.now so_far c.in_ok-counts_of.field-0 item ended
          (subst (λ n. n < length c.args.groups.now) (sym len) c.loop-name-test.true)
          (subst (λ n. item ≡ get_or c.args.groups.now n item) (sym len) c.loop-name-item.is)
          (c.in_ok-counts_of.ensures ∙ ap (before_of (old item.0)) c.as_slice-members.ensures)
          (subst (λ t. PartlyMerged old t item.0 item.1 ended) (sym is_merged) (whole old item.0 item.1 ended))
          ∙ c.loop-name.invariant.2,
    )
