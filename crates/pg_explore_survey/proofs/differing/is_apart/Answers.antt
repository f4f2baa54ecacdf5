use Rattle.std.proofs.Common.{◌≡◌, ap, sym, ◌∙◌}
use Rattle.pg_term.specs.declared.term.Term.{Term}
use Rattle.pg_script.specs.PgWorldPackets.FrameWorlds.{lost_of, traffic_of}
use Rattle.pg_script.specs.PgWorldConfig.Seen.{seen_of}
use Rattle.pg_explore_survey.proofs.Looking.{apart_at}
use Rattle.pg_explore_survey.proofs.differing.is_apart.Goals as goal

pub returns-in_ok-same-in-Some : goal.returns-in_ok-same-in-Some
returns-in_ok-same-in-Some c =
    let name = c.args.name.now in
    let here = ap (λ t. t name) c.table.ensures in
    let there = ap (λ t. t name) c.table-in-Some.ensures in
    let same = c.in_ok-same-in-Some.ensures in
    apart_at (traffic_of c.args.world.now).nodes (lost_of c.args.world.now) name (seen_of c.args.first.now) (seen_of c.in-Some.node.now) c.args.place c.in_ok-same-in-Some.same c.in-Some.ensures
    (λ e. sym here ∙ same.0 e ∙ there) (λ e. same.1 (here ∙ e ∙ sym there))
