use Rattle.std.proofs.Common.{◌≡◌, ◌+◌, length, inr, ap, subst, ◌∙◌, arith}
use Rattle.pg_term.specs.Same.{same_pid}
use Rattle.pg_group.specs.Functions.{upd}
use Rattle.pg_index_members.specs.Forms.{rows_of}
use Rattle.pg_index_members.specs.Rows.{counts_of}
use Rattle.pg_index_members.proofs.Counts.{counts-added}
use Rattle.pg_group.specs.Scope.{anywhere}
use Rattle.pg_index_members.specs.Rows.{spread, AreRows}
use Rattle.pg_index_members.proofs.Counts.{members}
use Rattle.pg_index_members.proofs.Places.{length-all}
use Rattle.pg_index_members.proofs.members.Members.add.Goals as goal

pub returns-clause-ok : goal.returns-clause-ok
returns-clause-ok c =
    ap counts_of c.in_ok-count.ensures.ok ∙ counts-added c.args.pid.now c.args.more (rows_of c.self.inside.rows) ∙ ap (λ l. upd same_pid (counts_of l) c.args.pid.now (counts_of l c.args.pid.now + c.args.more)) c.self.view_is

pub returns-then-room-more-clause-memory : goal.returns-then-room-more-clause-memory
returns-then-room-more-clause-memory c =
    let all = length-all (rows_of c.self.inside.rows) in
    let same : length (spread anywhere (rows_of c.self.inside.rows)) ≡ length (spread anywhere c.args.self.now) = ap (λ l. length (spread anywhere l)) c.self.view_is in
    let total = c.total-room.ensures.value in
    inr (omega arith)

pub returns-then-room-more-clause-list : goal.returns-then-room-more-clause-list
returns-then-room-more-clause-list c = members anywhere c.args.self.now (subst AreRows c.self.view_is c.total-room.ensures.in_order)

pub returns-in_err-count-clause-list : goal.returns-in_err-count-clause-list
returns-in_err-count-clause-list c = members anywhere c.args.self.now (subst AreRows c.self.view_is c.total-room.ensures.in_order)

pub returns-clause-list : goal.returns-clause-list
returns-clause-list c = members anywhere c.args.self.now (subst AreRows c.self.view_is c.total-room.ensures.in_order)

pub returns-clause-full : goal.returns-clause-full
returns-clause-full c =
    let all = length-all (rows_of c.self.inside.rows) in
    let same : length (spread anywhere (rows_of c.self.inside.rows)) ≡ length (spread anywhere c.args.self.now) = ap (λ l. length (spread anywhere l)) c.self.view_is in
    let total = c.total-room.ensures.value in
    λ many. absurd (omega arith)
