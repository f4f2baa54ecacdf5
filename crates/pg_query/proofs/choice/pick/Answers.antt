use Rattle.std.proofs.Common.{◌%◌, List, length, ap, ◌∙◌, arith}
use Rattle.std.specs.Prelude.{slice_get}
use Rattle.pg_group.specs.Scope.{in_scope}
use Rattle.pg_term.specs.declared.pid.Pid.{Pid}
use Rattle.pg_query.proofs.Listing.{same_place}
use Rattle.pg_query.proofs.choice.pick.Goals as goal

pub returns-in-Some : goal.returns-in-Some
returns-in-Some g c =
    let v = g.T.GroupTable.contents c.args.table.now c.args.name.now in
    let (sized, (is, size)) = c.in-Some.ensures.value in
    let (pids, (one, found)) = c.pid_at.ensures in
    let same = c.one_member_list.ensures v (in_scope c.args.scope) sized pids is one in
    (pids, (one, found ∙ ap (λ n. slice_get pids (n % c.in-Some.size)) c.from.ensures ∙ ap (λ n. slice_get pids n) (same_place c.args.word c.in-Some.size (length sized) (omega (arith, c.ranges.word)) size) ∙ ap (λ (ps : List Pid). slice_get pids (c.args.word % length ps)) same))
