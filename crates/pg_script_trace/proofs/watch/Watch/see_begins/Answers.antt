use Rattle.std.proofs.Common.{◌++◌, ◌-◌, length, map, ap, ◌∙◌}
use Rattle.std.specs.List.{range_with_len}
use Rattle.pg_script_trace.specs.Watched.{sent_on}
use Rattle.pg_script_trace.proofs.Sending.{sees_joined}
use Rattle.pg_script_trace.proofs.watch.Watch.see_begins.Goals as goal

pub loop-node-preserved : goal.loop-node-preserved
loop-node-preserved g c =
    let held = c.loop-node.invariant in
    let before = length c.loop-node.self.letters.items in
    let after = length c.see_begin.new.self.letters.items in (
      c.see_begin.ensures.names ∙ held.0,
      c.see_begin.ensures.line ∙ held.1,
      sees_joined (sent_on 0) c.loop-node.self.sights.items c.see_begin.new.self.sights.items before after c.see_begin.ensures.grows held.2
          (c.in_ok-see_begin.ensures.seen ∙ ap (λ n. c.loop-node.self.sights.items ++ map (sent_on n) (range_with_len before (after - before))) held.1),
    )
