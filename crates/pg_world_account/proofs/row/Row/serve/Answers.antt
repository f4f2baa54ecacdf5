use Rattle.std.proofs.Common.{◌≡◌, ◌<◌, ◌+◌, ◌-◌, length, nat_eq, refl, arith}
use Rattle.pg_world_account.proofs.Accounts.{entries_taken, last_taken}
use Rattle.pg_world_account.proofs.row.Row.serve.Goals as goal

pub returns-in-Some-clause-entries : goal.returns-in-Some-clause-entries
returns-in-Some-clause-entries c =
    let entries = c.args.self.now.entries in
    let some = c.in-Some.ensures.variant.0 refl in
    let k = entries.len - 1 in
    let below : k < length entries.items = omega (arith, some, entries.ok) in
    entries_taken c.in-Some.last.now c.take.new.self c.take.ensures.same entries.items k below c.in-Some.ensures.value

pub returns-in-Some-clause-marks : goal.returns-in-Some-clause-marks
returns-in-Some-clause-marks c = λ i few.
    let entries = c.args.self.now.entries in
    let some = c.in-Some.ensures.variant.0 refl in
    let k = entries.len - 1 in
    let end : k + 1 ≡ length entries.items = omega (arith, some, entries.ok) in
    last_taken c.in-Some.last.now c.take.new.self c.take.ensures.same i (nat_eq c.args.node i) (c.take.ensures.taken i few) entries.items k end c.in-Some.ensures.value
