use Rattle.std.proofs.Common.{◌∙◌, map, sym, ap}
use Rattle.std.specs.Option.{option_copied}
use Rattle.pg_node_opens.proofs.Named.{clash}
use Rattle.pg_world_account.specs.Histories.{as_entry}
use Rattle.pg_world_account.proofs.LastEntries.{with_none, with_first, with_second, with_both, with_others}
use Rattle.pg_world_account.proofs.OneEntry.{entry_is, entry_so}
use Rattle.pg_world_account.proofs.entry.same_with_last.Goals as goal

pub returns-in-None-None : goal.returns-in-None-None
returns-in-None-None c =
    with_none _ (map as_entry c.args.entries.now) (map as_entry c.args.others.now) (option_copied c.args.last) (option_copied c.args.other_last) (ap option_copied c.in-None-None.is-0) (ap option_copied c.in-None-None.is-1)
    c.same_entries.ensures

pub returns-then-same : goal.returns-then-same
returns-then-same c =
    with_both _ (map as_entry c.args.entries.now) (map as_entry c.args.others.now) (option_copied c.args.last) (option_copied c.args.other_last) c.in-Some-Some.last.now c.in-Some-Some.other.now
    (ap option_copied c.in-Some-Some.is-0) (ap option_copied c.in-Some-Some.is-1) (entry_is c.in-Some-Some.last.now c.in-Some-Some.other.now (sym c.same.ensures ∙ c.if-same.true)) c.same_entries-then-same.ensures

pub returns-else-same : goal.returns-else-same
returns-else-same c =
    with_others _ (map as_entry c.args.entries.now) (map as_entry c.args.others.now) (option_copied c.args.last) (option_copied c.args.other_last) c.in-Some-Some.last.now c.in-Some-Some.other.now
    (ap option_copied c.in-Some-Some.is-0) (ap option_copied c.in-Some-Some.is-1) (λ t. clash (sym t ∙ c.if-same.false)) (λ e. clash (sym (entry_so c.in-Some-Some.last.now c.in-Some-Some.other.now e) ∙ (sym c.same.ensures ∙ c.if-same.false)))

pub returns-in-Some-None : goal.returns-in-Some-None
returns-in-Some-None c =
    with_first _ (map as_entry c.args.entries.now) (map as_entry c.args.others.now) (option_copied c.args.last) (option_copied c.args.other_last) c.in-Some-None.last.now (ap option_copied c.in-Some-None.is-0) (ap option_copied c.in-Some-None.is-1)
    c.ends_with-in-Some-None.ensures

pub returns-in-None-Some : goal.returns-in-None-Some
returns-in-None-Some c =
    with_second _ (map as_entry c.args.entries.now) (map as_entry c.args.others.now) (option_copied c.args.last) (option_copied c.args.other_last) c.in-None-Some.other.now (ap option_copied c.in-None-Some.is-0) (ap option_copied c.in-None-Some.is-1)
    c.ends_with.ensures
