use Rattle.std.proofs.Common.{◌∙◌, refl, subst, sym}
use Rattle.std.specs.Prelude.{OnOk}
use Rattle.pg_step.specs.PgGroup.declared.update.Update.{Update}
use Rattle.pg_step.specs.PgGroup.declared.update.Update.TheVariants.{Create, Join}
use Rattle.pg_node_process.specs.Mirrors.{SaysUpdate}
use Rattle.pg_node_process.proofs.Mirroring.{at_update, deleted_said, join_ended, joined_said, left_said, stays_untold}
use Rattle.pg_node_process.proofs.mirror.tell_update.Goals as goal

pub returns-in-Create-clause-ok : goal.returns-in-Create-clause-ok
returns-in-Create-clause-ok g c =
    at_update c.tell_created.result c.args.update.now (Create c.in-Create.name) c.args.has_ended (g.T.GroupTable.contents c.args.table.now) c.args.outlet.now.gathered.items c.tell_created.new.outlet.gathered.items c.in-Create.is c.tell_created.ensures.ok

pub returns-in-Delete-clause-ok : goal.returns-in-Delete-clause-ok
returns-in-Delete-clause-ok g c =
    let after = g.T.GroupTable.contents c.args.table.now in
    let said0 = c.args.outlet.now.gathered.items in
    let said1 = c.tell_deleted.new.outlet.gathered.items in
    subst (λ (u : Update). OnOk c.tell_deleted.result (SaysUpdate u c.args.has_ended after said0 said1)) (sym c.in-Delete.is)
    (deleted_said c.tell_deleted.result c.in-Delete.name after c.args.has_ended said0 said1 c.tell_deleted.ensures.ok)

pub returns-then-has_ended-clause-ok : goal.returns-then-has_ended-clause-ok
returns-then-has_ended-clause-ok g c =
    let after = g.T.GroupTable.contents c.args.table.now in
    let said = c.args.outlet.now.gathered.items in
    subst (λ (u : Update). SaysUpdate u c.args.has_ended after said said) (sym c.in-Join.is)
    (λ before ended is so. stays_untold (Join c.in-Join.name c.in-Join.pid) before after said said refl (join_ended c.in-Join.name c.in-Join.pid before after ended is (so ∙ c.if-has_ended.true)))

pub returns-else-has_ended-clause-ok : goal.returns-else-has_ended-clause-ok
returns-else-has_ended-clause-ok g c =
    let after = g.T.GroupTable.contents c.args.table.now in
    let said0 = c.args.outlet.now.gathered.items in
    let said1 = c.tell_count.new.outlet.gathered.items in
    subst (λ (u : Update). OnOk c.tell_count.result (SaysUpdate u c.args.has_ended after said0 said1)) (sym c.in-Join.is)
    (joined_said c.tell_count.result c.in-Join.name c.in-Join.pid after c.args.has_ended said0 said1 c.if-has_ended.false c.tell_count.ensures.ok c.tell_count.ensures.few)

pub returns-in-Leave-clause-ok : goal.returns-in-Leave-clause-ok
returns-in-Leave-clause-ok g c =
    let after = g.T.GroupTable.contents c.args.table.now in
    let said0 = c.args.outlet.now.gathered.items in
    let said1 = c.tell_count-in-Leave.new.outlet.gathered.items in
    subst (λ (u : Update). OnOk c.tell_count-in-Leave.result (SaysUpdate u c.args.has_ended after said0 said1)) (sym c.in-Leave.is)
    (left_said c.tell_count-in-Leave.result c.in-Leave.name c.in-Leave.pid after c.args.has_ended said0 said1 c.tell_count-in-Leave.ensures.ok c.tell_count-in-Leave.ensures.few)
