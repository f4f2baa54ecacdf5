use Rattle.pg_step.proofs.Peering.{lock_served, lock_freed_so, update_served, news_taken, odd_replies}
use Rattle.pg_step.proofs.served.peers_are_served.Goals as goal

pub returns-clause-locks : goal.returns-clause-locks
returns-clause-locks c = lock_served

pub returns-clause-freed : goal.returns-clause-freed
returns-clause-freed c = lock_freed_so

pub returns-clause-updates : goal.returns-clause-updates
returns-clause-updates c = update_served

pub returns-clause-news : goal.returns-clause-news
returns-clause-news c = news_taken

pub returns-clause-odd : goal.returns-clause-odd
returns-clause-odd c = odd_replies
