use Rattle.std.proofs.Common.{◌≡◌, ◌∙◌, ℕ, List, true, false, refl, sym, subst}
use Rattle.pg_node_state.specs.PgStep.Step.{Issue, Retry}
use Rattle.pg_world_packets.specs.declared.step.FrameStep.{FrameStep}
use Rattle.pg_world_packets.specs.Losing.{lost_of, told_of, told_loss, is_barred, is_told_first, ShowsLosing, LosingComesTo}
use Rattle.pg_world_packets.specs.Views.{View}
use Rattle.pg_world_packets.specs.Worlds.{traffic_of, view_of, has_places}
use Rattle.pg_world_packets.proofs.Barred.{take_late_in, own_late_in, unplaced_in, barred_in}
use Rattle.pg_world_packets.proofs.Recording.{view_is}
use Rattle.pg_world_packets.proofs.world.FrameNodes.step.Goals as goal

pub returns-then-not-has_places-clause-losing : goal.returns-then-not-has_places-clause-losing
returns-then-not-has_places-clause-losing g c = λ config u shows.
    (unplaced_in config (view_of c.args.self.now) u (lost_of c.args.self.now) shows c.args.step.now (sym c.has_places.ensures ∙ c.if-not-has_places.true), shows)

pub returns-then-is_barred-clause-losing : goal.returns-then-is_barred-clause-losing
returns-then-is_barred-clause-losing g c = λ config u shows.
    let places = sym c.has_places.ensures ∙ c.if-not-has_places.false in
    let bars = sym c.is_barred.ensures ∙ c.if-is_barred.true in
    (barred_in config (view_of c.args.self.now) u (lost_of c.args.self.now) shows c.args.step.now places bars, shows)

pub returns-in-Ok-clause-losing : goal.returns-in-Ok-clause-losing
returns-in-Ok-clause-losing g c = λ config u shows.
    let lost = lost_of c.args.self.now in
    let settled = view_is _ _ refl c.settle.ensures.account in
    let now = subst (λ (v : View). ShowsLosing config v lost u) (sym settled) shows in
    subst (λ (s : FrameStep). LosingComesTo config u (told_of config u s) c.take.result (ShowsLosing config (view_of c.take.new.self) (lost_of c.take.new.self))) (sym c.in-Take.is)
    (c.take.ensures.losing config u now)

pub returns-in-Err-clause-losing : goal.returns-in-Err-clause-losing
returns-in-Err-clause-losing g c = λ config u shows.
    let places = sym c.has_places.ensures ∙ c.if-not-has_places.false in
    let lives = sym c.is_barred.ensures ∙ c.if-is_barred.false in
    let nodes = (traffic_of c.args.self.now).nodes in
    let lost = lost_of c.args.self.now in
    let settled = view_is _ _ refl c.settle.ensures.account in (
      subst (λ (s : FrameStep). is_told_first (told_of config u s).refusal ≡ false) (sym c.in-Take.is)
          (take_late_in config (view_of c.args.self.now) u lost shows c.in-Take.node c.in-Take.peer
          (subst (λ (s : FrameStep). has_places nodes s ≡ true) c.in-Take.is places) (subst (λ (s : FrameStep). is_barred nodes lost s ≡ false) c.in-Take.is lives)),
      subst (λ (v : View). ShowsLosing config v lost u) (sym settled) shows,
    )

pub returns-in-Ok-settle-clause-losing : goal.returns-in-Ok-settle-clause-losing
returns-in-Ok-settle-clause-losing g c = λ config u shows.
    let lost = lost_of c.args.self.now in
    let settled = view_is _ _ refl c.settle-in-Command.ensures.account in
    let now = subst (λ (v : View). ShowsLosing config v lost u) (sym settled) shows in
    subst (λ (s : FrameStep). LosingComesTo config u (told_of config u s) c.command.result (ShowsLosing config (view_of c.command.new.self) (lost_of c.command.new.self))) (sym c.in-Command.is)
    (c.command.ensures.losing config u now)

pub returns-in-Err-settle-clause-losing : goal.returns-in-Err-settle-clause-losing
returns-in-Err-settle-clause-losing g c = λ config u shows.
    let places = sym c.has_places.ensures ∙ c.if-not-has_places.false in
    let lives = sym c.is_barred.ensures ∙ c.if-is_barred.false in
    let nodes = (traffic_of c.args.self.now).nodes in
    let lost = lost_of c.args.self.now in
    let settled = view_is _ _ refl c.settle-in-Command.ensures.account in (
      subst (λ (s : FrameStep). is_told_first (told_of config u s).refusal ≡ false) (sym c.in-Command.is)
          (own_late_in config (view_of c.args.self.now) u lost shows c.in-Command.node (Issue c.in-Command.port c.in-Command.command)
          (subst (λ (s : FrameStep). has_places nodes s ≡ true) c.in-Command.is places) (subst (λ (s : FrameStep). is_barred nodes lost s ≡ false) c.in-Command.is lives)),
      subst (λ (v : View). ShowsLosing config v lost u) (sym settled) shows,
    )

pub returns-in-Ok-settle-2-clause-losing : goal.returns-in-Ok-settle-2-clause-losing
returns-in-Ok-settle-2-clause-losing g c = λ config u shows.
    let lost = lost_of c.args.self.now in
    let settled = view_is _ _ refl c.settle-in-Retry.ensures.account in
    let now = subst (λ (v : View). ShowsLosing config v lost u) (sym settled) shows in
    subst (λ (s : FrameStep). LosingComesTo config u (told_of config u s) c.retry.result (ShowsLosing config (view_of c.retry.new.self) (lost_of c.retry.new.self))) (sym c.in-Retry.is)
    (c.retry.ensures.losing config u now)

pub returns-in-Err-settle-2-clause-losing : goal.returns-in-Err-settle-2-clause-losing
returns-in-Err-settle-2-clause-losing g c = λ config u shows.
    let places = sym c.has_places.ensures ∙ c.if-not-has_places.false in
    let lives = sym c.is_barred.ensures ∙ c.if-is_barred.false in
    let nodes = (traffic_of c.args.self.now).nodes in
    let lost = lost_of c.args.self.now in
    let settled = view_is _ _ refl c.settle-in-Retry.ensures.account in (
      subst (λ (s : FrameStep). is_told_first (told_of config u s).refusal ≡ false) (sym c.in-Retry.is)
          (own_late_in config (view_of c.args.self.now) u lost shows c.in-Retry.node (Retry c.in-Retry.op)
          (subst (λ (s : FrameStep). has_places nodes s ≡ true) c.in-Retry.is places) (subst (λ (s : FrameStep). is_barred nodes lost s ≡ false) c.in-Retry.is lives)),
      subst (λ (v : View). ShowsLosing config v lost u) (sym settled) shows,
    )

pub returns-in-SeeLoss-clause-losing : goal.returns-in-SeeLoss-clause-losing
returns-in-SeeLoss-clause-losing g c = λ config u shows.
    subst (λ (s : FrameStep). LosingComesTo config u (told_of config u s) c.see_loss.result (ShowsLosing config (view_of c.see_loss.new.self) (lost_of c.see_loss.new.self))) (sym c.in-SeeLoss.is)
    (c.see_loss.ensures.losing config u shows)

pub returns-in-Lose-clause-losing : goal.returns-in-Lose-clause-losing
returns-in-Lose-clause-losing g c = λ config u shows.
    subst (λ (s : FrameStep). LosingComesTo config u (told_of config u s) c.lose.result (ShowsLosing config (view_of c.lose.new.self) (lost_of c.lose.new.self))) (sym c.in-Lose.is)
    (subst (λ (keep : List ℕ). LosingComesTo config u (told_loss config u c.in-Lose.node keep) c.lose.result (ShowsLosing config (view_of c.lose.new.self) (lost_of c.lose.new.self))) c.as_slice.ensures.value
    (c.lose.ensures.losing config u shows))
