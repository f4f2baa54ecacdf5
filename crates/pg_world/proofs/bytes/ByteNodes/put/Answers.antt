use Rattle.std.proofs.Common.{◌≡◌, ◌∙◌, ◌∷◌, [], not, None, Some, sym, subst}
use Rattle.pg_world_packets.specs.PgStep.declared.refusal.Refusal.TheVariants.{NoSuchPlace, NodeLost}
use Rattle.pg_world_packets.specs.PgStep.Faults.{first_that_holds}
use Rattle.pg_world.specs.Bars.{put_bar}
use Rattle.pg_world.specs.Crossings.{crossing_of}
use Rattle.pg_world_packets.specs.PgWorldAccount.Losses.{lost_in, is_lost}
use Rattle.pg_world_packets.specs.PgWorldAccount.Histories.{Account}
use Rattle.pg_world_packets.specs.Worlds.{ShowsUpdates}
use Rattle.pg_world.proofs.bytes.ByteNodes.put.Goals as goal

pub returns-then-not-has_pair-clause-came : goal.returns-then-not-has_pair-clause-came
returns-then-not-has_pair-clause-came g c = λ config w shows.
    let bar : put_bar (crossing_of c.args.self.now) (lost_in c.args.self.now.losses) c.args.from c.args.to ≡ Some NoSuchPlace = λ j. first_that_holds (
    (not ((sym c.has_pair.ensures ∙ c.if-not-has_pair.true) j), NoSuchPlace) ∷ (is_lost (lost_in c.args.self.now.losses) c.args.from, NodeLost) ∷ []) in
    (bar, shows)

pub returns-then-has-clause-came : goal.returns-then-has-clause-came
returns-then-has-clause-came g c = λ config w shows.
    let bar : put_bar (crossing_of c.args.self.now) (lost_in c.args.self.now.losses) c.args.from c.args.to ≡ Some NodeLost = λ j. first_that_holds (
    (not ((sym c.has_pair.ensures ∙ c.if-not-has_pair.false) j), NoSuchPlace) ∷ ((sym c.has.ensures ∙ c.if-has.true) j, NodeLost) ∷ []) in
    (bar, shows)

pub returns-clause-came : goal.returns-clause-came
returns-clause-came g c = λ config w shows.
    let lost = lost_in c.args.self.now.losses in
    let stays = sym c.has.ensures ∙ c.if-has.false in
    let bar : put_bar (crossing_of c.args.self.now) lost c.args.from c.args.to ≡ None = λ j. first_that_holds (
    (not ((sym c.has_pair.ensures ∙ c.if-not-has_pair.false) j), NoSuchPlace) ∷ (stays j, NodeLost) ∷ []) in (
      bar,
      record {
        traffic = c.put_some.ensures.shown config lost w stays shows.traffic;
        updates = subst (λ (a : Account). ShowsUpdates a w) (sym c.put_some.ensures.account) shows.updates;
      },
    )
