use Rattle.std.proofs.Common.{◌∙◌, sym}
use Rattle.pg_node_opens.proofs.Named.{clash}
use Rattle.pg_world_account.proofs.LastEntries.{ends_so, ends_otherwise}
use Rattle.pg_world_account.proofs.OneEntry.{entry_is, entry_so}
use Rattle.pg_world_account.proofs.entry.ends_with.Goals as goal

pub returns-then-same : goal.returns-then-same
returns-then-same c =
    ends_so _ c.args.entries.now c.in-Some.rest.now c.args.others.now c.in-Some.end.now c.args.last.now c.in-Some.ensures.cases.0 (entry_is c.in-Some.end.now c.args.last.now (sym c.same.ensures ∙ c.if-same.true)) c.same_entries.ensures

pub returns-else-same : goal.returns-else-same
returns-else-same c =
    ends_otherwise _ c.args.entries.now c.in-Some.rest.now c.args.others.now c.in-Some.end.now c.args.last.now c.in-Some.ensures.cases.0 (λ t. clash (sym t ∙ c.if-same.false)) (λ e. clash (sym (entry_so c.in-Some.end.now c.args.last.now e) ∙ (sym c.same.ensures ∙ c.if-same.false)))
