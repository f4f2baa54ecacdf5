use Rattle.std.proofs.Common.{arith}
use Rattle.pg_node_process.proofs.Fits as fits
use Rattle.pg_node_process.proofs.outlet.refusal_fits.Goals as goal

pub returns : goal.returns
returns c = fits.refusal_fits c.args.name.now c.args.port c.args.number c.args.fault c.as_str.ensures.limit (omega (arith, c.ranges.port.fits)) (omega (arith, c.ranges.fault.fits))
