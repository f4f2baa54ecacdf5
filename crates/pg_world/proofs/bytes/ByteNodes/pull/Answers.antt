use Rattle.std.proofs.Common.{◌≡◌, ◌∙◌, ◌∷◌, [], not, None, Some, sym}
use Rattle.pg_world_packets.specs.PgStep.declared.refusal.Refusal.TheVariants.{NoSuchPlace, NodeLost}
use Rattle.pg_world_packets.specs.PgStep.Faults.{first_that_holds}
use Rattle.pg_world.specs.Bars.{pull_bar}
use Rattle.pg_world.specs.Crossings.{crossing_of}
use Rattle.pg_world_packets.specs.Losing.{is_cut_off}
use Rattle.pg_world_packets.specs.PgWorldAccount.Losses.{lost_in, is_lost}
use Rattle.pg_world_packets.proofs.Barred.{take_cut, either_unseen}
use Rattle.pg_world_packets.proofs.Turning.{pair_turned}
use Rattle.pg_world.proofs.over_bytes.Past.{move_mapped}
use Rattle.pg_world.proofs.bytes.ByteNodes.pull.Goals as goal

pub returns-then-not-has_pair-clause-came : goal.returns-then-not-has_pair-clause-came
returns-then-not-has_pair-clause-came g c = λ config w seen shows.
    let lost = lost_in c.args.self.now.losses in
    let crossing = crossing_of c.args.self.now in
    let bar : pull_bar crossing lost c.args.to c.args.from ≡ Some NoSuchPlace = λ j. first_that_holds (
    (not ((sym c.has_pair.ensures ∙ c.if-not-has_pair.true) j), NoSuchPlace) ∷ (is_cut_off crossing.nodes lost c.args.to c.args.from, NodeLost) ∷ []) in
    (bar, shows)

pub returns-then-is_cut_off-clause-came : goal.returns-then-is_cut_off-clause-came
returns-then-is_cut_off-clause-came g c = λ config w seen shows.
    let lost = lost_in c.args.self.now.losses in
    let bar : pull_bar (crossing_of c.args.self.now) lost c.args.to c.args.from ≡ Some NodeLost = λ j. first_that_holds (
    (not ((sym c.has_pair.ensures ∙ c.if-not-has_pair.false) j), NoSuchPlace) ∷ ((sym c.is_cut_off.ensures ∙ c.if-is_cut_off.true) j, NodeLost) ∷ []) in
    (bar, shows)

pub returns-clause-came : goal.returns-clause-came
returns-clause-came g c = λ config w seen shows.
    let lost = lost_in c.args.self.now.losses in
    let nodes = (crossing_of c.args.self.now).nodes in
    let its = shows.traffic.nodes in
    let y = c.args.to in
    let x = c.args.from in
    let cut = take_cut config nodes w lost its seen y x (pair_turned _ x y (sym c.has_pair.ensures ∙ c.if-not-has_pair.false)) (sym c.is_cut_off.ensures ∙ c.if-is_cut_off.false) in
    let unseen = either_unseen config nodes w lost its seen (is_lost lost y) _ cut in
    let bar : pull_bar (crossing_of c.args.self.now) lost c.args.to c.args.from ≡ None = λ j. first_that_holds (
    (not ((sym c.has_pair.ensures ∙ c.if-not-has_pair.false) j), NoSuchPlace) ∷ ((sym c.is_cut_off.ensures ∙ c.if-is_cut_off.false) j, NodeLost) ∷ []) in
    move_mapped None (pull_bar (crossing_of c.args.self.now) lost c.args.to c.args.from) _ _ c.pull_some.result (sym bar) (λ s. s) (c.pull_some.ensures.came config lost w unseen shows)
