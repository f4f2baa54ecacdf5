use Rattle.std.proofs.Common.{refl, subst}
use Rattle.std.specs.Prelude.{Option, OnOk}
use Rattle.pg_term.specs.declared.term.Term.{Term}
use Rattle.pg_node_opens.specs.PgGroup.declared.update.Update.{Update}
use Rattle.pg_world_account.specs.Histories.{HasRow, CanServe}
use Rattle.pg_world_account.proofs.Accounts.{same_account}
use Rattle.pg_world_account.proofs.histories.Histories.make_room.Goals as goal

pub returns-in-Some-clause-account : goal.returns-in-Some-clause-account
returns-in-Some-clause-account c = same_account (record c.args.self.now { rows = c.make_room.new.rows }) c.args.self.now c.make_room.ensures.entries c.make_room.ensures.counts c.make_room.ensures.marks refl refl

pub returns-in-Some-clause-room : goal.returns-in-Some-clause-room
returns-in-Some-clause-room c =
    subst (λ (asked : Option Update). OnOk c.make_room.result (CanServe c.make_room.new.rows c.args.node asked)) c.in-Some.ensures
    (subst (λ (name : Term). OnOk c.make_room.result (HasRow c.make_room.new.rows name c.args.node)) c.name.ensures c.make_room.ensures.room)
