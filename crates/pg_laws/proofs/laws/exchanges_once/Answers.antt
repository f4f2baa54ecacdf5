use Rattle.pg_step.specs.Machines.Clocked.{plain}
use Rattle.pg_laws.proofs.ends.Posts.{posted_timed, good_exchange, none_refused}
use Rattle.pg_laws.proofs.steps.Lossless.{nobody_timed}
use Rattle.pg_laws.proofs.laws.exchanges_once.Goals as goal

pub returns-clause-on_the_way : goal.returns-clause-on_the_way
returns-clause-on_the_way c = λ config w events i p apart l pair. posted_timed config apart events w l p i pair

pub returns-clause-accepted : goal.returns-clause-accepted
returns-clause-accepted c = λ config w events i p node groups rest apart l. good_exchange config (plain w) (posted_timed config apart events w l) i p node groups rest

pub returns-clause-packets : goal.returns-clause-packets
returns-clause-packets c = λ config w events i p x rest apart l. none_refused config (plain w) (nobody_timed config events w l) (posted_timed config apart events w l) i p x rest
