use Rattle.std.proofs.Common.{◌∙◌}
use Rattle.pg_talk.specs.Servings.{ports_of}
use Rattle.pg_talk.proofs.Opening.{more_desks, new_desks}
use Rattle.pg_talk.proofs.service.serving.open_ports.Goals as goal

pub loop-port-preserved : goal.loop-port-preserved
loop-port-preserved c =
    let d = c.loop-port.desks.items in
    let x = c.new.result in (
      more_desks d c.push.new.self.items x (ports_of c.args.desks.now.items) c.args.node c.args.start.now.name c.loop-port.port c.in_ok-push.ensures.items c.new.ensures.node
          (c.new.ensures.name ∙ c.in_ok-name.ensures) c.new.ensures.port c.loop-port.invariant.0,
      λ all. new_desks d c.push.new.self.items x c.in_ok-push.ensures.items (record { empty = c.new.ensures.waiting; idle = c.new.ensures.asked; replied = c.new.ensures.replied })
          (c.loop-port.invariant.1 all),
    )
