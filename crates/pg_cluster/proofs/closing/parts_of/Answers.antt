use Rattle.std.proofs.Common.{rules, arith, ◌≡◌, ◌∷◌, [], length, map, vec_len, ap, sym, refl, ◌∙◌, length-append}
use Rattle.std.specs.Prelude.{vec_capacity}
use Rattle.std.specs.Vec.Iter.{into_iter_items}
use Rattle.std.proofs.lemmas.List.{length-map, map-append, nil_from_length}
use Rattle.pg_cluster_judges.specs.PgNodeRun.Follows.{node_of, peers_of, log_of}
use Rattle.pg_cluster_judges.specs.PgNodeRun.Runs.{notices_at}
use Rattle.pg_cluster.specs.Clients.{ports_ended}
use Rattle.pg_cluster.specs.Threads.{node_in, row_in, log_in, turns_in, rows_ended, notices_ended}
use Rattle.pg_cluster.proofs.Opening.{ports_none_moved, ports_moved, ports_all_moved, room_for_one}
use Rattle.pg_cluster.proofs.Starts.{all_of_it, all_moved, none_moved, pushed_moves}
use Rattle.pg_cluster.proofs.closing.parts_of.Goals as goal

pub loop-ran-init : goal.loop-ran-init
loop-ran-init g c =
    let room = c.args.room in
    let has = c.requires in
    let rans = c.args.rans.items in
    let left = into_iter_items c.into_iter-ran-iterator.result in
    let same : left ≡ rans = search rules in
    let no_node : room.nodes.items ≡ [] = nil_from_length room.nodes.items (sym room.nodes.ok.0 ∙ has.nodes.0) in
    let no_row : room.rows.items ≡ [] = nil_from_length room.rows.items (sym room.rows.ok.0 ∙ has.rows.0) in
    let no_log : room.logs.items ≡ [] = nil_from_length room.logs.items (sym room.logs.ok.0 ∙ has.logs.0) in
    let no_port : room.ports.items ≡ [] = nil_from_length room.ports.items (sym room.ports.ok.0 ∙ has.ports.0) in
    let no_notice : room.notices.items ≡ [] = nil_from_length room.notices.items (sym room.notices.ok.0 ∙ has.notices.0) in
    let no_turn : room.turns.items ≡ [] = nil_from_length room.turns.items (sym room.turns.ok.0 ∙ has.turns.0) in (
      tt,
      tt,
      search rules,
      search rules,
      search rules,
      none_moved (λ ran. node_in ran.run) room.nodes.items left rans no_node same,
      none_moved (λ ran. row_in ran.run) (map (λ v. v.items) room.rows.items) left rans (ap (map (λ v. v.items)) no_row) same,
      none_moved (λ ran. log_in ran.run) (map (λ v. v.items) room.logs.items) left rans (ap (map (λ v. v.items)) no_log) same,
      search rules,
      search rules,
      ports_none_moved room.ports.items left rans no_port same,
      search rules,
      none_moved (λ ran. notices_at ran.run) room.notices.items left rans no_notice same,
      search rules,
      none_moved turns_in room.turns.items left rans no_turn same,
    )

pub loop-ran-preserved : goal.loop-ran-preserved
loop-ran-preserved g c =
    let was = c.loop-ran.invariant in
    let ports = c.loop-ran.parts.ports in
    let ports2 = c.move_ports.new.all in
    let own = c.into_parts-linked.result.1.items in
    let ran = c.in-Some.ran in
    let rest = into_iter_items c.next.new.self in
    let old = into_iter_items c.loop-ran.ran-iterator in
    let at = c.into_parts-linked.ensures.ports in
    let step = c.in-Some.ensures.steps.0 in
    let items = c.move_ports.ensures.items in
    let linked = c.into_parts-linked.ensures.linked in
    let parts = c.into_parts-node.ensures in (
      tt,
      tt,
      search rules,
      search rules,
      search rules,
      pushed_moves (λ ran. node_in ran.run) c.loop-ran.parts.nodes.items c.push_reserved.new.self.items c.into_parts-node.result.0 old rest ran _ c.push_reserved.ensures.items
          (parts.node ∙ ap node_of linked) step was.5,
      pushed_moves (λ ran. row_in ran.run) (map (λ v. v.items) c.loop-ran.parts.rows.items) (map (λ v. v.items) c.push_reserved-in-loop-ran.new.self.items) c.into_parts-node.result.1.items old rest ran _
          (ap (map (λ v. v.items)) c.push_reserved-in-loop-ran.ensures.items ∙ map-append (λ v. v.items) c.loop-ran.parts.rows.items (c.into_parts-node.result.1 ∷ [])) (parts.peers ∙ ap peers_of linked) step was.6,
      pushed_moves (λ ran. log_in ran.run) (map (λ v. v.items) c.loop-ran.parts.logs.items) (map (λ v. v.items) c.push_reserved-in-loop-ran-2.new.self.items) c.into_parts-node.result.2.items old rest ran _
          (ap (map (λ v. v.items)) c.push_reserved-in-loop-ran-2.ensures.items ∙ map-append (λ v. v.items) c.loop-ran.parts.logs.items (c.into_parts-node.result.2 ∷ [])) (parts.log ∙ ap log_of linked) step was.7,
      search rules,
      (let room = room_for_one own ran rest old (vec_len ports) (vec_capacity ports) at step was.9 in
          let more = ap length items ∙ length-append ports.items own in
          let a = ports.ok.0 in
          let b = ports2.ok.0 in
          let d = c.move_ports.ensures.capacity in
          omega arith),
      ports_moved ports.items ports2.items own ran rest old (ports_ended c.args.rans.items) items at step was.10,
      search rules,
      pushed_moves (λ ran. notices_at ran.run) c.loop-ran.parts.notices.items c.push_reserved-in-loop-ran-3.new.self.items c.into_parts-linked.result.3 old rest ran _ c.push_reserved-in-loop-ran-3.ensures.items
          c.into_parts-linked.ensures.notices step was.12,
      search rules,
      pushed_moves turns_in c.loop-ran.parts.turns.items c.push_reserved-in-loop-ran-4.new.self.items _ old rest ran _ c.push_reserved-in-loop-ran-4.ensures.items refl step was.14,
    )

pub returns-clause-rows : goal.returns-clause-rows
returns-clause-rows g c =
    let rows = c.loop-ran.parts.rows.items in
    let rans = c.args.rans.items in
    let was = c.loop-ran.invariant in
    let size = was.8 in
    let n = c.in-None.ensures.steps.0 in
    let whole : length rows ≡ length rans = omega arith in
    let lengths : length (map (λ v. v.items) rows) ≡ length (rows_ended rans) = length-map rows (λ v. v.items) ∙ (whole ∙ sym (length-map rans (λ ran. row_in ran.run))) in
    all_of_it (map (λ v. v.items) rows) _ (rows_ended rans) was.6 lengths

pub returns-clause-ports : goal.returns-clause-ports
returns-clause-ports g c =
    let left = c.loop-ran.ran-iterator.rest in
    let none : left.items ≡ [] = nil_from_length left.items (sym left.ok.0 ∙ c.in-None.ensures.steps.0) in
    ports_all_moved c.loop-ran.parts.ports.items left.items (ports_ended c.args.rans.items) none c.loop-ran.invariant.10

pub returns-clause-notices : goal.returns-clause-notices
returns-clause-notices g c =
    let left = c.loop-ran.ran-iterator.rest in
    let none : left.items ≡ [] = nil_from_length left.items (sym left.ok.0 ∙ c.in-None.ensures.steps.0) in
    all_moved (λ ran. notices_at ran.run) c.loop-ran.parts.notices.items left.items (notices_ended c.args.rans.items) none c.loop-ran.invariant.12

pub returns-clause-nodes : goal.returns-clause-nodes
returns-clause-nodes g c =
    let left = c.loop-ran.ran-iterator.rest in
    let none : left.items ≡ [] = nil_from_length left.items (sym left.ok.0 ∙ c.in-None.ensures.steps.0) in
    all_moved (λ ran. node_in ran.run) c.loop-ran.parts.nodes.items left.items (map (λ ran. node_in ran.run) c.args.rans.items) none c.loop-ran.invariant.5

pub returns-clause-logs : goal.returns-clause-logs
returns-clause-logs g c =
    let left = c.loop-ran.ran-iterator.rest in
    let none : left.items ≡ [] = nil_from_length left.items (sym left.ok.0 ∙ c.in-None.ensures.steps.0) in
    all_moved (λ ran. log_in ran.run) (map (λ v. v.items) c.loop-ran.parts.logs.items) left.items (map (λ ran. log_in ran.run) c.args.rans.items) none c.loop-ran.invariant.7

pub returns-clause-turns : goal.returns-clause-turns
returns-clause-turns g c =
    let left = c.loop-ran.ran-iterator.rest in
    let none : left.items ≡ [] = nil_from_length left.items (sym left.ok.0 ∙ c.in-None.ensures.steps.0) in
    all_moved turns_in c.loop-ran.parts.turns.items left.items (map turns_in c.args.rans.items) none c.loop-ran.invariant.14
