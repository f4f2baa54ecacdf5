use Rattle.pg_node_process.proofs.Fits as fits
use Rattle.pg_node_process.proofs.laws.heads_fit.Goals as goal

pub returns : goal.returns
returns c head is = fits.heads_fit head is
