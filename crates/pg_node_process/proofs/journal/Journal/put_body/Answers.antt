use Rattle.std.proofs.Common.{Err, ap, arith}
use Rattle.pg_frame.proofs.Fronts.{length-frame}
use Rattle.pg_node_process.proofs.journal.Journal.put_body.Goals as goal

pub returns-in-Ok-clause-room : goal.returns-in-Ok-clause-room
returns-in-Ok-clause-room c = omega (arith, c.in-Ok.ensures.spare, length-frame c.args.body.now)

pub returns-in-Err-OutOfMemory-clause-succeeds : goal.returns-in-Err-OutOfMemory-clause-succeeds
returns-in-Err-OutOfMemory-clause-succeeds c room =
    let short = c.in-Err-OutOfMemory.ensures.out_of_memory (ap (λ fault. Err fault) c.in-Err-OutOfMemory.field-0-is) in
    let never : ⊥ = omega (arith, room, short, length-frame c.args.body.now) in absurd never
