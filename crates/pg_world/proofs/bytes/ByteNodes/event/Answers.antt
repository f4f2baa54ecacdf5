use Rattle.std.proofs.Common.{◌≡◌, ◌∙◌, Err, true, false, refl, sym, subst}
use Rattle.pg_world_packets.specs.PgStep.Machines.Places.{is_pair}
use Rattle.pg_world_packets.specs.PgLawsLosses.Reached.{LosingReaches}
use Rattle.pg_world_packets.specs.PgStep.Step.{Issue, Retry}
use Rattle.pg_world_packets.specs.declared.step.FrameStep.{FrameStep}
use Rattle.pg_world.specs.BytesLosing.{ShowsLosingBytes, EventLeaves}
use Rattle.pg_world.specs.Crossings.{crossing_of}
use Rattle.pg_world_packets.specs.PgWorldAccount.Histories.{account_of}
use Rattle.pg_world_packets.specs.Losing.{losing_of, is_barred, is_cut_off}
use Rattle.pg_world_packets.specs.PgWorldAccount.Losses.{lost_in, is_lost}
use Rattle.pg_world_packets.specs.PgWorldAccount.Histories.{Account}
use Rattle.pg_world_packets.specs.Worlds.{has_places}
use Rattle.pg_world_packets.proofs.Barred.{either_stays, either_unseen, take_cut}
use Rattle.pg_world.proofs.over_bytes.Past.{unplaced_past}
use Rattle.pg_world.proofs.over_bytes.Past.{barred_past, take_starved, own_starved}
use Rattle.pg_world_packets.specs.PgNodeState.declared.state.fault.NodeFault.TheVariants.{OutOfMemory}
use Rattle.pg_world.specs.Changes.{FrameChanges, spares}
use Rattle.pg_world_packets.specs.PgStep.declared.refusal.Refusal.TheVariants.{NoSuchPlace, NodeLost}
use Rattle.pg_world.proofs.Changed.{barred_changes}
use Rattle.pg_world.proofs.Harmless.{welcome_left}
use Rattle.pg_world_packets.proofs.Turning.{pair_there}
use Rattle.pg_world.proofs.bytes.ByteNodes.event.Goals as goal

pub returns-then-not-has_places-clause-losing : goal.returns-then-not-has_places-clause-losing
returns-then-not-has_places-clause-losing g c = λ config u reached shows.
    unplaced_past config (crossing_of c.args.self.now) (account_of c.args.self.now.histories) u (lost_in c.args.self.now.losses) shows c.args.event.now (sym c.has_places.ensures ∙ c.if-not-has_places.true)

pub returns-then-is_barred-clause-losing : goal.returns-then-is_barred-clause-losing
returns-then-is_barred-clause-losing g c = λ config u reached shows.
    barred_past config (crossing_of c.args.self.now) (account_of c.args.self.now.histories) u (lost_in c.args.self.now.losses) shows c.args.event.now
    (sym c.has_places.ensures ∙ c.if-not-has_places.false) (sym c.is_barred.ensures ∙ c.if-is_barred.true)

pub returns-in-Ok-clause-losing : goal.returns-in-Ok-clause-losing
returns-in-Ok-clause-losing g c = λ config u reached shows.
    let crossing = crossing_of c.args.self.now in
    let nodes = crossing.nodes in
    let lost = lost_in c.args.self.now.losses in
    let i = c.in-Take.node in
    let p = c.in-Take.peer in
    let places = sym c.has_places.ensures ∙ c.if-not-has_places.false in
    let bars = sym c.is_barred.ensures ∙ c.if-is_barred.false in
    let pair : is_pair _ i p ≡ true = subst (λ (s : FrameStep). has_places nodes s ≡ true) c.in-Take.is places in
    let lives : is_cut_off nodes lost i p ≡ false = subst (λ (s : FrameStep). is_barred nodes lost s ≡ false) c.in-Take.is bars in
    let settled : account_of c.settle.new.self ≡ account_of c.args.self.now.histories = c.settle.ensures.account in
    let now = subst (λ (a : Account). ShowsLosingBytes config crossing a lost u) (sym settled) shows in
    let w = now.frames in
    let its = now.shows.traffic.nodes in
    let cut = take_cut config nodes w lost its now.seen i p pair lives in
    let stays = either_stays config nodes w lost its now.seen (is_lost lost i) _ cut in
    let unseen = either_unseen config nodes w lost its now.seen (is_lost lost i) _ cut in
    let led = subst (LosingReaches config reached.0) now.is reached.1 in
    let welcome = welcome_left config w lost i p (λ packet rest begins. c.no_packet_is_refused.ensures config (losing_of config w lost) reached.0 i p packet rest its.apart led (pair_there config nodes w i p its pair) stays unseen begins) in
    subst (λ (s : FrameStep). EventLeaves config u s c.take.result (ShowsLosingBytes config (crossing_of c.take.new.self) (account_of c.take.new.self.histories) (lost_in c.take.new.self.losses))) (sym c.in-Take.is)
    (c.take.ensures.losing config u now welcome)

pub returns-in-Ok-settle-clause-losing : goal.returns-in-Ok-settle-clause-losing
returns-in-Ok-settle-clause-losing g c = λ config u reached shows.
    let crossing = crossing_of c.args.self.now in
    let nodes = crossing.nodes in
    let lost = lost_in c.args.self.now.losses in
    let places = subst (λ (s : FrameStep). has_places nodes s ≡ true) c.in-Command.is (sym c.has_places.ensures ∙ c.if-not-has_places.false) in
    let stays : is_lost lost c.in-Command.node ≡ false = subst (λ (s : FrameStep). is_barred nodes lost s ≡ false) c.in-Command.is (sym c.is_barred.ensures ∙ c.if-is_barred.false) in
    let settled : account_of c.settle-in-Command.new.self ≡ account_of c.args.self.now.histories = c.settle-in-Command.ensures.account in
    let now = subst (λ (a : Account). ShowsLosingBytes config crossing a lost u) (sym settled) shows in
    subst (λ (s : FrameStep). EventLeaves config u s c.command.result (ShowsLosingBytes config (crossing_of c.command.new.self) (account_of c.command.new.self.histories) (lost_in c.command.new.self.losses))) (sym c.in-Command.is)
    (c.command.ensures.losing config u now)

pub returns-in-Ok-settle-2-clause-losing : goal.returns-in-Ok-settle-2-clause-losing
returns-in-Ok-settle-2-clause-losing g c = λ config u reached shows.
    let crossing = crossing_of c.args.self.now in
    let nodes = crossing.nodes in
    let lost = lost_in c.args.self.now.losses in
    let places = subst (λ (s : FrameStep). has_places nodes s ≡ true) c.in-Retry.is (sym c.has_places.ensures ∙ c.if-not-has_places.false) in
    let stays : is_lost lost c.in-Retry.node ≡ false = subst (λ (s : FrameStep). is_barred nodes lost s ≡ false) c.in-Retry.is (sym c.is_barred.ensures ∙ c.if-is_barred.false) in
    let settled : account_of c.settle-in-Retry.new.self ≡ account_of c.args.self.now.histories = c.settle-in-Retry.ensures.account in
    let now = subst (λ (a : Account). ShowsLosingBytes config crossing a lost u) (sym settled) shows in
    subst (λ (s : FrameStep). EventLeaves config u s c.retry.result (ShowsLosingBytes config (crossing_of c.retry.new.self) (account_of c.retry.new.self.histories) (lost_in c.retry.new.self.losses))) (sym c.in-Retry.is)
    (c.retry.ensures.losing config u now)

pub returns-in-SeeLoss-clause-losing : goal.returns-in-SeeLoss-clause-losing
returns-in-SeeLoss-clause-losing g c = λ config u reached shows.
    subst (λ (s : FrameStep). EventLeaves config u s c.see_loss.result (ShowsLosingBytes config (crossing_of c.see_loss.new.self) (account_of c.see_loss.new.self.histories) (lost_in c.see_loss.new.self.losses))) (sym c.in-SeeLoss.is)
    (c.see_loss.ensures.losing config u shows)

pub returns-in-Lose-clause-losing : goal.returns-in-Lose-clause-losing
returns-in-Lose-clause-losing g c = λ config u reached shows.
    subst (λ (s : FrameStep). EventLeaves config u s c.lose.result (ShowsLosingBytes config (crossing_of c.lose.new.self) (account_of c.lose.new.self.histories) (lost_in c.lose.new.self.losses))) (sym c.in-Lose.is)
    (c.lose.ensures.losing config u shows)

pub returns-in-Err-clause-losing : goal.returns-in-Err-clause-losing
returns-in-Err-clause-losing g c = λ config u reached shows.
    let crossing = crossing_of c.args.self.now in
    let nodes = crossing.nodes in
    let lost = lost_in c.args.self.now.losses in
    let places = subst (λ (s : FrameStep). has_places nodes s ≡ true) c.in-Take.is (sym c.has_places.ensures ∙ c.if-not-has_places.false) in
    let lives = subst (λ (s : FrameStep). is_barred nodes lost s ≡ false) c.in-Take.is (sym c.is_barred.ensures ∙ c.if-is_barred.false) in
    let settled : account_of c.settle.new.self ≡ account_of c.args.self.now.histories = c.settle.ensures.account in
    let now = subst (λ (a : Account). ShowsLosingBytes config crossing a lost u) (sym settled) shows in
    subst (λ (s : FrameStep). EventLeaves config u s (Err OutOfMemory) (ShowsLosingBytes config crossing (account_of c.settle.new.self) lost)) (sym c.in-Take.is)
    (take_starved config crossing (account_of c.settle.new.self) u lost now c.in-Take.node c.in-Take.peer places lives)

pub returns-in-Err-settle-clause-losing : goal.returns-in-Err-settle-clause-losing
returns-in-Err-settle-clause-losing g c = λ config u reached shows.
    let crossing = crossing_of c.args.self.now in
    let nodes = crossing.nodes in
    let lost = lost_in c.args.self.now.losses in
    let places = subst (λ (s : FrameStep). has_places nodes s ≡ true) c.in-Command.is (sym c.has_places.ensures ∙ c.if-not-has_places.false) in
    let lives = subst (λ (s : FrameStep). is_barred nodes lost s ≡ false) c.in-Command.is (sym c.is_barred.ensures ∙ c.if-is_barred.false) in
    let settled : account_of c.settle-in-Command.new.self ≡ account_of c.args.self.now.histories = c.settle-in-Command.ensures.account in
    let now = subst (λ (a : Account). ShowsLosingBytes config crossing a lost u) (sym settled) shows in
    subst (λ (s : FrameStep). EventLeaves config u s (Err OutOfMemory) (ShowsLosingBytes config crossing (account_of c.settle-in-Command.new.self) lost)) (sym c.in-Command.is)
    (own_starved config crossing (account_of c.settle-in-Command.new.self) u lost now c.in-Command.node (Issue c.in-Command.port c.in-Command.command) places lives)

pub returns-in-Err-settle-2-clause-losing : goal.returns-in-Err-settle-2-clause-losing
returns-in-Err-settle-2-clause-losing g c = λ config u reached shows.
    let crossing = crossing_of c.args.self.now in
    let nodes = crossing.nodes in
    let lost = lost_in c.args.self.now.losses in
    let places = subst (λ (s : FrameStep). has_places nodes s ≡ true) c.in-Retry.is (sym c.has_places.ensures ∙ c.if-not-has_places.false) in
    let lives = subst (λ (s : FrameStep). is_barred nodes lost s ≡ false) c.in-Retry.is (sym c.is_barred.ensures ∙ c.if-is_barred.false) in
    let settled : account_of c.settle-in-Retry.new.self ≡ account_of c.args.self.now.histories = c.settle-in-Retry.ensures.account in
    let now = subst (λ (a : Account). ShowsLosingBytes config crossing a lost u) (sym settled) shows in
    subst (λ (s : FrameStep). EventLeaves config u s (Err OutOfMemory) (ShowsLosingBytes config crossing (account_of c.settle-in-Retry.new.self) lost)) (sym c.in-Retry.is)
    (own_starved config crossing (account_of c.settle-in-Retry.new.self) u lost now c.in-Retry.node (Retry c.in-Retry.op) places lives)

-- ---- what changes

pub returns-then-not-has_places-clause-changes : goal.returns-then-not-has_places-clause-changes
returns-then-not-has_places-clause-changes g c = λ safe. barred_changes (crossing_of c.args.self.now) c.args.event.now NoSuchPlace refl

pub returns-then-is_barred-clause-changes : goal.returns-then-is_barred-clause-changes
returns-then-is_barred-clause-changes g c = λ safe. barred_changes (crossing_of c.args.self.now) c.args.event.now NodeLost refl

pub returns-in-Ok-clause-changes : goal.returns-in-Ok-clause-changes
returns-in-Ok-clause-changes g c = λ safe.
    subst (λ (s : FrameStep). FrameChanges (crossing_of c.args.self.now) (crossing_of c.take.new.self) s c.take.result) (sym c.in-Take.is)
    (c.take.ensures.changes (subst (λ (s : FrameStep). spares s c.take.result ≡ true) c.in-Take.is safe))

pub returns-in-Ok-clause-harmless : goal.returns-in-Ok-clause-harmless
returns-in-Ok-clause-harmless g c = λ config u reached shows.
    let crossing = crossing_of c.args.self.now in
    let nodes = crossing.nodes in
    let lost = lost_in c.args.self.now.losses in
    let i = c.in-Take.node in
    let p = c.in-Take.peer in
    let pair : is_pair _ i p ≡ true = subst (λ (s : FrameStep). has_places nodes s ≡ true) c.in-Take.is (sym c.has_places.ensures ∙ c.if-not-has_places.false) in
    let lives : is_cut_off nodes lost i p ≡ false = subst (λ (s : FrameStep). is_barred nodes lost s ≡ false) c.in-Take.is (sym c.is_barred.ensures ∙ c.if-is_barred.false) in
    let settled : account_of c.settle.new.self ≡ account_of c.args.self.now.histories = c.settle.ensures.account in
    let now = subst (λ (a : Account). ShowsLosingBytes config crossing a lost u) (sym settled) shows in
    let w = now.frames in
    let its = now.shows.traffic.nodes in
    let cut = take_cut config nodes w lost its now.seen i p pair lives in
    let stays = either_stays config nodes w lost its now.seen (is_lost lost i) _ cut in
    let unseen = either_unseen config nodes w lost its now.seen (is_lost lost i) _ cut in
    let led = subst (LosingReaches config reached.0) now.is reached.1 in
    let welcome = welcome_left config w lost i p (λ packet rest begins. c.no_packet_is_refused.ensures config (losing_of config w lost) reached.0 i p packet rest its.apart led (pair_there config nodes w i p its pair) stays unseen begins) in
    subst (λ (s : FrameStep). spares s c.take.result ≡ true) (sym c.in-Take.is) (c.take.ensures.harmless config u now welcome)
