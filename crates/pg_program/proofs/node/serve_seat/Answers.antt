use Rattle.std.proofs.Common.{inl, inr, refl}
use Rattle.pg_program.proofs.node.serve_seat.Goals as goal

pub returns-in-Ok : goal.returns-in-Ok
returns-in-Ok g c = inl (c.in-Ok.config, c.in-Ok.ensures.given, c.serve_logged.ensures)

pub returns-in-Err : goal.returns-in-Err
returns-in-Err g c = inr (c.in-Err.fault, c.in-Err.ensures.given, refl, refl, refl, refl)
