use Rattle.std.proofs.Common.{Ok, Err, ap, refl}
use Rattle.pg_program.proofs.service.ask.Goals as goal

pub returns-in-Ok : goal.returns-in-Ok
returns-in-Ok g c = (Ok c.in-Ok.served, c.in-Ok.ensures.told, refl)

pub returns-in-Err : goal.returns-in-Err
returns-in-Err g c = (Err c.in-Err.fault, c.in-Err.ensures.told, ap Err c.service_fault.ensures)
