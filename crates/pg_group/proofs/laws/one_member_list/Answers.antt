use Rattle.pg_group.proofs.Lists.{member_list_one}
use Rattle.pg_group.proofs.laws.one_member_list.Goals as goal

pub returns : goal.returns
returns c = λ v among pids others one other. member_list_one v among pids others one other
