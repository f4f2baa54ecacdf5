use Rattle.std.proofs.Common.{◌≡◌, ◌∙◌, Some, ap, arith, refl, sym}
use Rattle.pg_step.specs.PgGroup.declared.update.Update.TheVariants.{Create}
use Rattle.pg_node_process.specs.Mirrors.{row}
use Rattle.pg_node_process.proofs.Mirroring.{created_before, created_said, stays_untold}
use Rattle.pg_node_process.proofs.mirror.tell_created.Goals as goal

pub returns-in_default-clause-ok : goal.returns-in_default-clause-ok
returns-in_default-clause-ok g c joined before ended is so =
    let name = c.args.name.now in
    let after = g.T.GroupTable.contents c.args.table.now in
    let said = c.args.outlet.now.gathered.items in
    stays_untold (Create name) before after said said refl (created_before name before after c.size.result is c.size.ensures.there.1 c.size.ensures.value (λ e. let none = c.in_default.is in cc))

pub returns-then-size-gt0-clause-ok : goal.returns-then-size-gt0-clause-ok
returns-then-size-gt0-clause-ok g c joined before ended is so =
    let name = c.args.name.now in
    let after = g.T.GroupTable.contents c.args.table.now in
    let said = c.args.outlet.now.gathered.items in
    stays_untold (Create name) before after said said refl
    (created_before name before after c.size.result is c.size.ensures.there.1 c.size.ensures.value
    (λ e. let both : Some c.in-Some.size ≡ Some 0 = sym c.in-Some.is ∙ e in let least : c.in-Some.size ≡ 0 = cc in omega arith))

pub returns-clause-ok : goal.returns-clause-ok
returns-clause-ok g c =
    let least : c.in-Some.size ≡ 0 = omega arith in
    created_said c.tell_one.result c.args.name.now c.in_ok-term.term (g.T.GroupTable.contents c.args.table.now) c.size.result c.args.outlet.now.gathered.items c.tell_one.new.outlet.gathered.items (c.in-Some.is ∙ ap Some least)
    c.size.ensures.there.0 c.size.ensures.value (c.in_ok-term.ensures ∙ ap (row c.args.name.now) c.new.ensures.items) c.tell_one.ensures.ok
