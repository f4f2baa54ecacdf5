use Rattle.std.proofs.Common.{◌∷◌, [], refl, subst, sym}
use Rattle.pg_term.specs.declared.term.Term.{Term}
use Rattle.pg_node_process.specs.Mirrors.{RowsOf}
use Rattle.pg_node_process.proofs.Mirroring.{gone_row, member_row, told_group}
use Rattle.pg_node_process.proofs.mirror.add_group.Goals as goal

pub returns-then-not-has-clause-ok : goal.returns-then-not-has-clause-ok
returns-then-not-has-clause-ok g c =
    let name = c.args.name.now in
    let after = g.T.GroupTable.contents c.args.table.now in
    told_group c.add.result name c.in_ok-term.term after c.args.outlet.now.gathered.items c.add.new.outlet.gathered.items c.args.batch.now.terms.items c.add.new.self.terms.items
    (subst (λ (t : Term). RowsOf (name ∷ []) after (t ∷ [])) (sym c.in_ok-term.ensures) (gone_row name after (λ there. let had = c.if-not-has.ensures.1 there in cc))) c.add.ensures.ok

pub returns-clause-ok : goal.returns-clause-ok
returns-clause-ok g c =
    let name = c.args.name.now in
    let after = g.T.GroupTable.contents c.args.table.now in
    told_group c.add-2.result name c.in_ok-term-2.term after c.args.outlet.now.gathered.items c.add-2.new.outlet.gathered.items c.args.batch.now.terms.items c.add-2.new.self.terms.items
    (subst (λ (t : Term). RowsOf (name ∷ []) after (t ∷ [])) (sym c.in_ok-term-2.ensures) (member_row name c.in_ok-pids.pids.items after c.in_ok-pids.ensures (c.if-not-has.ensures.0 refl))) c.add-2.ensures.ok
