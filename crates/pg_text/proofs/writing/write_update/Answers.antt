use Rattle.std.proofs.Common.{subst, sym, OnOk, string_bytes}
use Rattle.std.specs.Str.{chars}
use Rattle.pg_text.specs.Writing.{GrowsBy, update_text}
use Rattle.pg_text.proofs.writing.write_update.Goals as goal

pub returns-in-Create : goal.returns-in-Create
unfolding chars
returns-in-Create c = subst (λ u. OnOk c.write_change.result (GrowsBy (update_text u) (string_bytes c.args.out.now) (string_bytes c.write_change.new.out))) (sym c.in-Create.is) c.write_change.ensures

pub returns-in-Delete : goal.returns-in-Delete
unfolding chars
returns-in-Delete c = subst (λ u. OnOk c.write_change-in-Delete.result (GrowsBy (update_text u) (string_bytes c.args.out.now) (string_bytes c.write_change-in-Delete.new.out))) (sym c.in-Delete.is) c.write_change-in-Delete.ensures

pub returns-in-Join : goal.returns-in-Join
unfolding chars
returns-in-Join c = subst (λ u. OnOk c.write_membership.result (GrowsBy (update_text u) (string_bytes c.args.out.now) (string_bytes c.write_membership.new.out))) (sym c.in-Join.is) c.write_membership.ensures

pub returns-in-Leave : goal.returns-in-Leave
unfolding chars
returns-in-Leave c = subst (λ u. OnOk c.write_membership-in-Leave.result (GrowsBy (update_text u) (string_bytes c.args.out.now) (string_bytes c.write_membership-in-Leave.new.out))) (sym c.in-Leave.is) c.write_membership-in-Leave.ensures
