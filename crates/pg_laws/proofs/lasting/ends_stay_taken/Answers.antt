use Rattle.pg_laws.proofs.steps.Lasting.{stay_taken}
use Rattle.pg_laws.proofs.lasting.ends_stay_taken.Goals as goal

pub returns : goal.returns
returns c = stay_taken
