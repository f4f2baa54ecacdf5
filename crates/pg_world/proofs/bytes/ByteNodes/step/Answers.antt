use Rattle.std.proofs.Common.{◌≡◌, true, sym, subst}
use Rattle.pg_world.specs.declared.step.Step.{Step}
use Rattle.pg_world.specs.BytesLosing.{ShowsLosingBytes, StepLeaves}
use Rattle.pg_world.specs.Crossings.{crossing_of}
use Rattle.pg_world_packets.specs.PgWorldAccount.Histories.{account_of}
use Rattle.pg_world_packets.specs.PgWorldAccount.Losses.{lost_in}
use Rattle.pg_world.specs.Changes.{spares_links}
use Rattle.pg_world.proofs.over_bytes.Past.{put_in, pull_in}
use Rattle.pg_world.proofs.bytes.ByteNodes.step.Goals as goal

pub returns-in-Put-clause-losing : goal.returns-in-Put-clause-losing
returns-in-Put-clause-losing g c = λ config u reached shows.
    subst (λ (s : Step). StepLeaves config u s c.put.result (ShowsLosingBytes config (crossing_of c.put.new.self) (account_of c.put.new.self.histories) (lost_in c.put.new.self.losses))) (sym c.in-Put.is)
    (put_in config (crossing_of c.args.self.now) (crossing_of c.put.new.self) (account_of c.args.self.now.histories) (account_of c.put.new.self.histories) u (lost_in c.args.self.now.losses) _ shows c.put.ensures.lost
    c.put.result c.in-Put.from c.in-Put.to (c.put.ensures.came config shows.frames shows.shows))

pub returns-in-Pull-clause-losing : goal.returns-in-Pull-clause-losing
returns-in-Pull-clause-losing g c = λ config u reached shows.
    subst (λ (s : Step). StepLeaves config u s c.pull.result (ShowsLosingBytes config (crossing_of c.pull.new.self) (account_of c.pull.new.self.histories) (lost_in c.pull.new.self.losses))) (sym c.in-Pull.is)
    (pull_in config (crossing_of c.args.self.now) (crossing_of c.pull.new.self) (account_of c.args.self.now.histories) (account_of c.pull.new.self.histories) u (lost_in c.args.self.now.losses) _ shows c.pull.ensures.lost
    c.pull.result c.in-Pull.to c.in-Pull.from (c.pull.ensures.came config shows.frames shows.seen shows.shows))

pub returns-in-Event-clause-losing : goal.returns-in-Event-clause-losing
returns-in-Event-clause-losing g c = λ config u reached shows.
    subst (λ (s : Step). StepLeaves config u s c.event.result (ShowsLosingBytes config (crossing_of c.event.new.self) (account_of c.event.new.self.histories) (lost_in c.event.new.self.losses))) (sym c.in-Event.is)
    (c.event.ensures.losing config u reached shows)

pub returns-in-Event-clause-harmless : goal.returns-in-Event-clause-harmless
returns-in-Event-clause-harmless g c = λ config u reached shows. subst (λ (s : Step). spares_links s c.event.result ≡ true) (sym c.in-Event.is) (c.event.ensures.harmless config u reached shows)

pub returns-in-Lose-clause-losing : goal.returns-in-Lose-clause-losing
returns-in-Lose-clause-losing g c = λ config u reached shows.
    subst (λ (s : Step). StepLeaves config u s c.lose.result (ShowsLosingBytes config (crossing_of c.lose.new.self) (account_of c.lose.new.self.histories) (lost_in c.lose.new.self.losses))) (sym c.in-Lose.is)
    (c.lose.ensures.losing config u shows)
