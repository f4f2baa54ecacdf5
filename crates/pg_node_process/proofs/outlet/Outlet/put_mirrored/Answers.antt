use Rattle.std.proofs.Common.{◌≤◌, ◌++◌, ◌∷◌, ◌∙◌, [], List, ℕ, length, ap, subst, arith}
use Rattle.pg_frame.proofs.Fronts.{length-frame}
use Rattle.pg_frame.specs.Frames.{frame}
use Rattle.pg_step.proofs.PgTermIo.Again.{term_again}
use Rattle.pg_step.specs.PgTermIo.Writing.{written}
use Rattle.pg_frame.specs.Limits.{max_body}
use Rattle.pg_node_process.proofs.Said.{fits_framed, lacks_room}
use Rattle.pg_node_process.proofs.outlet.Outlet.put_mirrored.Goals as goal

pub returns-in-Ok-frame_into-clause-ok : goal.returns-in-Ok-frame_into-clause-ok
returns-in-Ok-frame_into-clause-ok c =
    let term = c.args.term.now in
    let whole = c.as_slice.ensures ∙ c.in-Ok.ensures.ok ∙ ap (λ (before : List ℕ). before ++ written term) (c.extend_reserved.ensures.items ∙ ap (λ (before : List ℕ). before ++ 23 ∷ []) (c.in_ok-reserve.ensures.items ∙ c.clear.ensures.items)) in
    record {
      framed = record { sayable = term_again term (written term) c.in-Ok.ensures.spelled; fits = subst (λ (body : List ℕ). length body ≤ max_body) whole (fits_framed c.frame_into.result c.in-Ok-frame_into.field-0 c.as_slice.result.now c.in-Ok-frame_into.is c.frame_into.ensures.too_long) };
      wrote = c.in-Ok-frame_into.ensures.ok ∙ ap (λ (body : List ℕ). c.args.self.now.gathered.items ++ frame body) whole;
    }

pub returns-in-Err-frame_into-clause-succeeds : goal.returns-in-Err-frame_into-clause-succeeds
returns-in-Err-frame_into-clause-succeeds c writable fits room =
    let term = c.args.term.now in
    let whole = c.as_slice.ensures ∙ c.in-Ok.ensures.ok ∙ ap (λ (before : List ℕ). before ++ written term) (c.extend_reserved.ensures.items ∙ ap (λ (before : List ℕ). before ++ 23 ∷ []) (c.in_ok-reserve.ensures.items ∙ c.clear.ensures.items)) in
    let size = ap length whole in
    let short = lacks_room c.frame_into.result c.in-Err-frame_into.field-0 c.as_slice.result.now c.args.self.now.gathered.spare c.in-Err-frame_into.is c.frame_into.ensures.too_long c.frame_into.ensures.out_of_memory (omega (arith, size, fits)) in
    let never : ⊥ = omega (arith, size, room.1, short, length-frame c.as_slice.result.now) in absurd never
