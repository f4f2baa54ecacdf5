use Rattle.std.proofs.Common.{inl, inr, refl}
use Rattle.pg_program.proofs.node.serve_logged.Goals as goal

pub returns-in-Ok : goal.returns-in-Ok
returns-in-Ok g c = inl (record {
  log = c.begin_log.new.log;
  begins = c.in-Ok.ensures;
  result = c.serve.result;
  serves = c.serve.ensures.served c.requires;
  is = c.node_end.ensures;
})

pub returns-in-Err : goal.returns-in-Err
returns-in-Err g c = inr (c.in-Err.fault, c.in-Err.ensures, refl, refl, refl)
