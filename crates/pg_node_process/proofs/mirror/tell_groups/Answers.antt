use Rattle.std.proofs.Common.{◌≡◌, List}
use Rattle.pg_term.specs.declared.term.Term.{Term}
use Rattle.pg_node_process.specs.Mirrors.{SaysTable, all_assigned, no_groups}
use Rattle.pg_node_process.specs.Outputs.{Output}
use Rattle.pg_node_process.proofs.Mirroring.{finished_all, says_table}
use Rattle.pg_node_process.proofs.mirror.tell_groups.Goals as goal

pub returns-clause-ok : goal.returns-clause-ok
returns-clause-ok g c =
    let after = g.T.GroupTable.contents c.args.table.now in
    let said0 = c.args.outlet.now.gathered.items in
    let said2 = c.finish.new.outlet.gathered.items in
    finished_all c.add_places-added.result c.finish.result said0 c.add_places-added.new.outlet.gathered.items said2 c.new-batch.result.terms.items c.add_places-added.new.batch.terms.items
    (λ (terms : List Term). all_assigned terms no_groups ≡ after) ((outputs : List Output) × SaysTable no_groups after said0 said2 outputs) c.new-batch.ensures c.add_places-added.ensures.ok c.finish.ensures.ok
    c.finish.ensures.was (λ terms adds makes. says_table terms no_groups after said0 said2 adds makes)
