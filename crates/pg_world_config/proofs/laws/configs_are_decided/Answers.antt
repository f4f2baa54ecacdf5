use Rattle.pg_world_config.proofs.Deciding.{passes, passed}
use Rattle.pg_world_config.proofs.laws.configs_are_decided.Goals as goal

pub returns : goal.returns
returns c = λ ring config. (passes ring config, passed ring config)
