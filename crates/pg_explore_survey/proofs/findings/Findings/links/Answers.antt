use Rattle.std.proofs.Common.{◌<◌, arith, length}
use Rattle.pg_explore_survey.specs.Findings.{led_in, links_from}
use Rattle.pg_explore_survey.proofs.Leading.{links_led}
use Rattle.pg_explore_survey.proofs.findings.Findings.links.Goals as goal

pub loop-from-preserved : goal.loop-from-preserved
loop-from-preserved c =
    let i = c.loop-from.from in
    let led = c.args.self.now.ways.led.items in
    let within : i < length led = omega (arith, c.loop-from-test.true, c.len-from-end.ensures, c.args.self.now.ways.led.ok.0) in
    links_led led i c.index-led.result.now c.as_slice.result.now c.loop-from.links.items c.add_links.new.links.items (links_from 0 (led_in c.args.self.now))
    within c.index-led.ensures c.as_slice.ensures.value c.in_ok-add_links.ensures c.loop-from.invariant
