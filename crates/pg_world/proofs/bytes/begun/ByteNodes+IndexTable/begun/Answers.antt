use Rattle.std.proofs.Common.{◌-◌, length, map}
use Rattle.pg_node.specs.Nodes.{links_of}
use Rattle.pg_world.proofs.over_bytes.Opened.{all_known, all_links_fit, idle_begins, begins_as, opens_bytes}
use Rattle.pg_world.proofs.bytes.begun.ByteNodes+IndexTable.begun.Goals as goal

pub idle-requires-clause-known : goal.idle-requires-clause-known
idle-requires-clause-known c = all_known c.args.starts.now c.in-Ok.nodes.items c.in-Ok.ensures.nodes

pub returns-in_ok-idle-in-Ok-clause-fits : goal.returns-in_ok-idle-in-Ok-clause-fits
returns-in_ok-idle-in-Ok-clause-fits c = all_links_fit c.args.starts.now (map links_of c.in-Ok.nodes.items) (length c.args.starts.now - 1) c.in-Ok.ensures.opened

pub returns-in_ok-idle-in-Ok-clause-begins : goal.returns-in_ok-idle-in-Ok-clause-begins
returns-in_ok-idle-in-Ok-clause-begins c =
    let begins = idle_begins c.args.starts.now c.in-Ok.nodes.items c.in-Ok.ensures.nodes c.in-Ok.ensures.opened c.requires.ready.apart in
    begins_as c.args.starts.now _ _ _ _ c.in_ok-idle-in-Ok.ensures.crossing c.in_ok-idle-in-Ok.ensures.account begins

pub returns-in_ok-idle-in-Ok-clause-opens : goal.returns-in_ok-idle-in-Ok-clause-opens
returns-in_ok-idle-in-Ok-clause-opens c = opens_bytes c.args.starts.now c.in-Ok.nodes.items _ c.in-Ok.ensures.nodes c.in-Ok.ensures.opened c.in_ok-idle-in-Ok.ensures.crossing
