use Rattle.std.proofs.Common.{List}
use Rattle.pg_term.specs.declared.term.Term.{Term}
use Rattle.pg_node_process.specs.Mirrors.{RowsOf, SaysRows}
use Rattle.pg_node_process.specs.Outputs.{Output}
use Rattle.pg_node_process.proofs.Mirroring.{finished_all, says_rows}
use Rattle.pg_node_process.proofs.mirror.tell_end.Goals as goal

pub returns-clause-ok : goal.returns-clause-ok
returns-clause-ok g c =
    let names = c.args.names.now in
    let after = g.T.GroupTable.contents c.args.table.now in
    let said0 = c.args.outlet.now.gathered.items in
    let said2 = c.finish.new.outlet.gathered.items in
    finished_all c.add_named-added.result c.finish.result said0 c.add_named-added.new.outlet.gathered.items said2 c.new-batch.result.terms.items c.add_named-added.new.batch.terms.items (λ (terms : List Term). RowsOf names after terms)
    ((outputs : List Output) × SaysRows names after said0 said2 outputs) c.new-batch.ensures c.add_named-added.ensures.ok c.finish.ensures.ok c.finish.ensures.was
    (λ terms adds rows. says_rows terms names after said0 said2 adds rows)
