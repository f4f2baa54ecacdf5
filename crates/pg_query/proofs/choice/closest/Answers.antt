use Rattle.std.proofs.Common.{refl, sym, subst, inl, inr, rules}
use Rattle.pg_group.specs.Scope.{anywhere, at_node}
use Rattle.pg_group.specs.Members.{IsMemberList}
use Rattle.pg_query.proofs.Listing.{picked_none, picked_some}
use Rattle.pg_query.proofs.choice.closest.Goals as goal

pub returns-in-Some-clause-ok : goal.returns-in-Some-clause-ok
returns-in-Some-clause-ok g c =
    let (local, (is, at)) = c.in-Some.ensures in
    record { among = local; nearest = inl is; place = sym at }

pub returns-in-Some-clause-nobody : goal.returns-in-Some-clause-nobody
returns-in-Some-clause-nobody g c =
    let (local, (is, at)) = c.in-Some.ensures in
    (λ e. absurd cc, λ empty. absurd (picked_some (g.T.GroupTable.contents c.args.table.now c.args.name.now) (at_node c.args.own.now) (c.one_member_list.ensures (g.T.GroupTable.contents c.args.table.now c.args.name.now) (at_node c.args.own.now)) local c.args.word c.in-Some.pid.now empty.1 is at))

pub returns-in-Some-pick-clause-ok : goal.returns-in-Some-pick-clause-ok
returns-in-Some-pick-clause-ok g c =
    let v = g.T.GroupTable.contents c.args.table.now c.args.name.now in
    let (local, (is, at)) = c.in-None.ensures in
    let (all, (one, found)) = c.in-Some-pick.ensures in
    record { among = all; nearest = inr (subst (IsMemberList v (at_node c.args.own.now)) (picked_none local c.args.word at) is, one); place = sym found }

pub returns-in-Some-pick-clause-nobody : goal.returns-in-Some-pick-clause-nobody
returns-in-Some-pick-clause-nobody g c =
    let (all, (is, at)) = c.in-Some-pick.ensures in
    (λ e. absurd cc, λ empty. absurd (picked_some (g.T.GroupTable.contents c.args.table.now c.args.name.now) anywhere (c.one_member_list.ensures (g.T.GroupTable.contents c.args.table.now c.args.name.now) anywhere) all c.args.word c.in-Some-pick.pid.now empty.1 is at))

pub returns-in-None-pick-clause-nobody : goal.returns-in-None-pick-clause-nobody
returns-in-None-pick-clause-nobody g c =
    let v = g.T.GroupTable.contents c.args.table.now c.args.name.now in
    let (all, (is, at)) = c.in-None-pick.ensures in
    (λ e. (search rules, subst (IsMemberList v anywhere) (picked_none all c.args.word at) is), λ empty. refl)
