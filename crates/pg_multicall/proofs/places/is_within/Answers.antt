use Rattle.std.proofs.Common.{eqb-true, eq-eqb}
use Rattle.pg_multicall.proofs.Bits.{none_left, all_there}
use Rattle.pg_multicall.proofs.places.is_within.Goals as goal

pub returns : goal.returns
returns c = (
  λ e. none_left c.args.bits c.args.others c.ranges.others.fits (eqb-true _ _ e),
  λ h. eq-eqb _ _ (all_there c.args.bits c.args.others c.ranges.others.fits h),
)
