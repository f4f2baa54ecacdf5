use Rattle.std.proofs.Common.{rules, ◌≡◌, ◌∙◌, length, subst, sym}
use Rattle.pg_cluster.specs.Rows.{RowsWired}
use Rattle.pg_cluster_judges.proofs.Judging.{of_ok}
use Rattle.pg_cluster_judges.specs.PgWorldPackets.Openings.{CanBegin}
use Rattle.pg_cluster.proofs.Making.{are_made, rings_of, rows_fit, shortage_of}
use Rattle.pg_cluster.proofs.runs.make.Goals as goal

pub returns-in-Ok-wire_all : goal.returns-in-Ok-wire_all
returns-in-Ok-wire_all g c =
    let made = c.make_all.ensures in
    let size : c.len.result ≡ length c.in-Ok.nodes.items = search rules in
    let wired = subst (λ n. RowsWired n c.in-Ok-wire_all.rows.items) size c.in-Ok-wire_all.ensures.wired in
    let can : CanBegin c.args.config.now.ring c.args.config.now.starts.items = record { good = c.in-Ok.ensures.good.0; capacity = c.in-Ok.ensures.good.1; fits = c.in-Ok.ensures.fits; few = c.in-Ok.ensures.few } in
    record { can = of_ok c.make_all.result can; made = are_made c.args.config.now.starts.items c.in-Ok.nodes.items c.in-Ok-wire_all.rows.items c.make_all.result c.in-Ok.ensures.good.0 c.in-Ok.ensures.count c.in-Ok.ensures.begins wired made.nodes made.rows made.unlogged made.untold made.clients; rings = rings_of c.args.config.now.ring c.in-Ok-wire_all.rows.items c.make_all.result c.in-Ok-wire_all.ensures.room made.rows; generators = made.generators; clients = made.clients; notices = made.notices; fault = shortage_of c.args.config.now.ring c.args.config.now.starts.items c.make_all.result can made.fault }

pub make_all-requires-clause-rows : goal.make_all-requires-clause-rows
make_all-requires-clause-rows g c =
    let size : c.len.result ≡ length c.in-Ok.nodes.items = search rules in
    let wired = subst (λ n. RowsWired n c.in-Ok-wire_all.rows.items) size c.in-Ok-wire_all.ensures.wired in
    rows_fit c.args.config.now.starts.items c.in-Ok.nodes.items c.in-Ok-wire_all.rows.items c.in-Ok.ensures.begins wired

pub make_all-requires-clause-generators : goal.make_all-requires-clause-generators
make_all-requires-clause-generators g c = c.requires.generators ∙ sym c.in-Ok.ensures.count
