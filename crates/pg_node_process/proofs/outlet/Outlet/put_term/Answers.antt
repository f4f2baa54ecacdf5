use Rattle.std.proofs.Common.{◌≡◌, ◌++◌, ◌∙◌, List, ℕ, Err, length, length-append, ap, arith, refl}
use Rattle.pg_frame.proofs.Fronts.{length-frame}
use Rattle.pg_frame.specs.Frames.{frame}
use Rattle.pg_step.proofs.PgTermIo.Again.{term_again}
use Rattle.pg_step.specs.PgTermIo.Writing.{written}
use Rattle.pg_node_process.proofs.outlet.Outlet.put_term.Goals as goal

pub returns-in-Ok-frame_into-clause-none : goal.returns-in-Ok-frame_into-clause-none
returns-in-Ok-frame_into-clause-none c =
    let writable = c.in-Ok.ensures.writable refl in
    let term = c.args.term.now in
    let body = c.as_slice.ensures ∙ (c.in-Ok.ensures.ok ∙ ap (λ (before : List ℕ). before ++ written term) c.clear.ensures.items) in
    record {
      framed = record { sayable = term_again term (written term) c.in-Ok.ensures.spelled; fits = omega (arith, writable.short) };
      wrote = c.in-Ok-frame_into.ensures.ok ∙ ap (λ (body : List ℕ). c.args.self.now.gathered.items ++ frame body) body;
    }

pub returns-in-Ok-frame_into-clause-room : goal.returns-in-Ok-frame_into-clause-room
returns-in-Ok-frame_into-clause-room c =
    let none : length c.clear.new.self.items ≡ 0 = ap length c.clear.ensures.items in
    let body = ap length c.in-Ok.ensures.ok in
    let both = length-append c.clear.new.self.items (written c.args.term.now) in
    let whole = ap length c.as_slice.ensures in
    (omega (arith, none, body, both, c.clear.ensures.spare, c.in-Ok.ensures.spare), omega (arith, none, body, both, whole, c.in-Ok-frame_into.ensures.spare, length-frame c.as_slice.result.now))

pub returns-in-Err-OutOfMemory-frame_into-clause-succeeds : goal.returns-in-Err-OutOfMemory-frame_into-clause-succeeds
returns-in-Err-OutOfMemory-frame_into-clause-succeeds c room =
    let none : length c.clear.new.self.items ≡ 0 = ap length c.clear.ensures.items in
    let body = ap length c.in-Ok.ensures.ok in
    let both = length-append c.clear.new.self.items (written c.args.term.now) in
    let whole = ap length c.as_slice.ensures in
    let short = c.in-Err-OutOfMemory-frame_into.ensures.out_of_memory (ap (λ fault. Err fault) c.in-Err-OutOfMemory-frame_into.field-0-is) in
    let never : ⊥ = omega (arith, none, body, both, whole, room.1, short, length-frame c.as_slice.result.now) in absurd never
