use Rattle.std.proofs.Common.{refl, sym, subst}
use Rattle.std.specs.Prelude.{Option, OnOk}
use Rattle.pg_term.specs.declared.term.Term.{Term}
use Rattle.pg_world_account.specs.declared.entry.Entry.{Entry}
use Rattle.pg_world_account.specs.Histories.{HasRow, LastHasRow}
use Rattle.pg_world_account.proofs.Accounts.{same_account}
use Rattle.pg_world_account.proofs.histories.Histories.make_room_for_last.Goals as goal

pub returns-in-Some-clause-room : goal.returns-in-Some-clause-room
returns-in-Some-clause-room c =
    subst (λ (last : Option Entry). OnOk c.make_room.result (LastHasRow c.make_room.new.rows last)) (sym c.in-Some.is)
    (subst (λ (name : Term). OnOk c.make_room.result (HasRow c.make_room.new.rows name c.in-Some.entry.node)) c.name.ensures c.make_room.ensures.room)

pub returns-in-Some-clause-account : goal.returns-in-Some-clause-account
returns-in-Some-clause-account c = same_account (record c.args.self.now { rows = c.make_room.new.rows }) c.args.self.now c.make_room.ensures.entries c.make_room.ensures.counts c.make_room.ensures.marks refl refl
