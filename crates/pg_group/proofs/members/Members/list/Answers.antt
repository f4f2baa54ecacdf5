use Rattle.std.proofs.Common.{Some, sym, subst, ◌∙◌}
use Rattle.pg_group.specs.Scope.{in_scope}
use Rattle.pg_group.specs.Members.{IsMemberList}
use Rattle.pg_group.specs.Rows.{counts_of}
use Rattle.pg_group.proofs.Spread.{spread, listed_more, listed_all, members-spread}
use Rattle.pg_group.proofs.members.Members.list.Goals as goal

pub loop-pid-preserved-in-Continue-1 : goal.loop-pid-preserved-in-Continue-1
loop-pid-preserved-in-Continue-1 c =
    let among = in_scope c.args.scope in
    listed_more among c.loop-pid.pids.items c.append_member.new.pids.items (spread among c.args.self.now.counts.entries) c.in-Some.pid.now c.in-Some.count.now c.loop-pid.pid-iterator c.next.new.self c.in-Some.ensures.steps (sym c.has.ensures ∙ c.if-has.true) c.in_ok-append_member.ensures c.loop-pid.invariant

pub returns : goal.returns
returns c =
    let among = in_scope c.args.scope in
    let entries = c.args.self.now.counts.entries in
    subst (IsMemberList (Some (counts_of c.args.self.now)) among) (sym (listed_all among c.loop-pid.pids.items (spread among entries) c.loop-pid.pid-iterator c.in-None.ensures.steps.0 c.loop-pid.invariant))
    (members-spread among c.args.self.now.counts c.into_iter-pid-iterator.ensures.into_iter_gives.5)
