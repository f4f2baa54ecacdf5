use Rattle.std.proofs.Common.{inl, inr, refl}
use Rattle.pg_program.proofs.service.serve.Goals as goal

pub returns-in-Ok : goal.returns-in-Ok
returns-in-Ok g c = inl (record { between = c.service_of.new.system; service = c.in-Ok.service; offered = c.in-Ok.ensures; went = c.ask.ensures })

pub returns-in-Err : goal.returns-in-Err
returns-in-Err g c = inr (c.in-Err.fault, c.in-Err.ensures, refl, refl)
