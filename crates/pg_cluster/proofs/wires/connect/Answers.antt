use Rattle.std.proofs.Common.{rules}
use Rattle.pg_cluster.proofs.JoiningRows.{joined_here, room_joined}
use Rattle.pg_cluster.proofs.wires.connect.Goals as goal

pub returns-clause-joined : goal.returns-clause-joined
returns-clause-joined c =
    let a = c.in_ok-to_j.ensures in
    let b = c.in_ok-to_i.ensures in
    joined_here c.args.rows.now.items c.args.i c.args.j c.index_mut.result.now c.push.new.self c.index_mut-2.result.now c.push-2.new.self _ _
    c.requires.0 (let n = c.requires.1 in search rules) c.index_mut.ensures.value c.in-Ok.ensures.items c.index_mut-2.ensures.value c.in-Ok-push.ensures.items
    (record {
      there = a.ends;
      back = b.ends;
      sent = (a.unsent, b.unsent);
      got = (b.unreceived, a.unreceived);
    })

pub returns-clause-room : goal.returns-clause-room
returns-clause-room c =
    let a = c.in_ok-to_j.ensures in
    let b = c.in_ok-to_i.ensures in
    room_joined c.args.ring c.args.rows.now.items c.args.i c.args.j c.index_mut.result.now c.push.new.self c.index_mut-2.result.now c.push-2.new.self _ _
    c.requires.0 (let n = c.requires.1 in search rules) c.index_mut.ensures.value c.in-Ok.ensures.items c.index_mut-2.ensures.value c.in-Ok-push.ensures.items a.room b.room
