use Rattle.std.proofs.Common.{◌<◌, ◌∙◌, length, map, refl, sym, arith}
use Rattle.std.proofs.lemmas.List.{length-map, get_or-map}
use Rattle.pg_node_opens.proofs.Named.{clash}
use Rattle.pg_world_account.specs.Histories.{as_entry}
use Rattle.pg_world_account.proofs.Compared.{same_more, same_at, same_all, same_length}
use Rattle.pg_world_account.proofs.OneEntry.{entry_is, entry_so}
use Rattle.pg_world_account.proofs.entry.same_entries.Goals as goal

pub returns-then-entries-others : goal.returns-then-entries-others
returns-then-entries-others c = (
  λ e. absurd (clash (sym e)),
  λ h. absurd (c.if-entries-others.true (same_length as_entry (map as_entry) (λ xs. length-map xs as_entry) (get_or-map as_entry) c.args.entries.now c.args.others.now h)),
)

pub loop-place-preserved : goal.loop-place-preserved
loop-place-preserved c =
    let entries = c.args.entries.now in
    let others = c.args.others.now in
    let place = c.loop-place.place in
    let within : place < length entries = c.loop-place-test.true in
    let count = c.if-entries-others.false in
    same_more as_entry (map as_entry) (λ xs. length-map xs as_entry) (get_or-map as_entry) entries others place c.index-entries-place.result c.index-others-place.result within (omega (arith, within, count))
    c.index-entries-place.is c.index-others-place.is (entry_is c.index-entries-place.result c.index-others-place.result (sym c.same.ensures ∙ c.if-not-same.false)) c.loop-place.invariant

pub returns-then-not-same : goal.returns-then-not-same
returns-then-not-same c =
    let entries = c.args.entries.now in
    let others = c.args.others.now in
    let place = c.loop-place.place in
    let within : place < length entries = c.loop-place-test.true in
    let count = c.if-entries-others.false in (
      λ e. absurd (clash (sym e)),
      λ h. absurd (clash (sym (entry_so c.index-entries-place.result c.index-others-place.result (same_at as_entry (map as_entry) (λ xs. length-map xs as_entry) (get_or-map as_entry) entries others place c.index-entries-place.result c.index-others-place.result within (omega (arith, within, count))
          c.index-entries-place.is c.index-others-place.is h)) ∙ (sym c.same.ensures ∙ c.if-not-same.true))),
    )

pub returns : goal.returns
returns c = (
  λ e. same_all as_entry (map as_entry) (λ xs. length-map xs as_entry) (get_or-map as_entry) c.args.entries.now c.args.others.now c.loop-place.place c.if-entries-others.false c.loop-place-test.false c.loop-place.invariant,
  λ h. refl,
)
