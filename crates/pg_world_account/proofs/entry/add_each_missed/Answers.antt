use Rattle.std.proofs.Common.{◌++◌, ◌∷◌, [], map, sym, ap, ◌∙◌, append-nil, append_assoc, take_all}
use Rattle.pg_laws_losses.specs.Remains.Missed.{missed_of}
use Rattle.pg_world_account.specs.Histories.{as_entry, as_marked, is_among}
use Rattle.pg_world_account.proofs.Accounts.{missed_along}
use Rattle.pg_world_account.proofs.entry.add_each_missed.Goals as goal

pub loop-entry-init : goal.loop-entry-init
loop-entry-init c = sym (append-nil (map as_entry c.args.missed.now.items))

pub loop-entry-preserved : goal.loop-entry-preserved
loop-entry-preserved c =
    let seen = is_among c.args.seen.now in
    let before = map as_entry c.args.missed.now.items in
    c.in_ok-add_missed.ensures ∙ ap (λ es. es ++ missed_of seen (as_marked c.args.node c.entry-item.result ∷ [])) c.loop-entry.invariant
    ∙ append_assoc before _ _
    ∙ ap (λ es. before ++ es) (sym (missed_along seen c.args.node c.args.entries.now c.loop-entry.entry-index c.entry-item.result c.loop-entry-test.true c.entry-item.is))

pub returns : goal.returns
returns c = c.loop-entry.invariant
    ∙ ap (λ es. map as_entry c.args.missed.now.items ++ missed_of (is_among c.args.seen.now) (map (as_marked c.args.node) es)) (take_all c.loop-entry.entry-index c.args.entries.now c.loop-entry-test.false)
