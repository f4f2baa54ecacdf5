use Rattle.std.proofs.Common.{◌≡◌, true, false, List, [], not, refl, sym, subst, ◌∙◌}
use Rattle.std.proofs.lemmas.List.{nil_from_length}
use Rattle.pg_term.specs.declared.pid.Pid.{Pid}
use Rattle.pg_node_state.specs.PgEnds.Numbers.{ended_among}
use Rattle.pg_world_packets.specs.Pending.{has_end, is_untaken, lent_as, own_of}
use Rattle.pg_world_config.specs.Seen.{Seen, seen_of}
use Rattle.pg_world_packets.proofs.Listed.{Added, all_added, any_map, none_more, one_added}
use Rattle.pg_world_packets.proofs.pending.add_pending.Goals as goal

pub returns : goal.returns
returns g c =
    let home = seen_of c.args.home.now in
    let left = c.loop-pid.pid-iterator.rest in
    let none : left.items ≡ [] = nil_from_length left.items (sym left.ok.0 ∙ c.in-None.ensures.steps.0) in
    all_added (lent_as c.args.left.now) home c.args.pids.now.items c.loop-pid.pids.items left.items
    (ended_among (own_of home) home.state.state.processes (has_end home)) none refl c.loop-pid.invariant

pub loop-pid-preserved-in-Continue-branch-2 : goal.loop-pid-preserved-in-Continue-branch-2
loop-pid-preserved-in-Continue-branch-2 g c =
    let home = seen_of c.args.home.now in
    let left = lent_as c.args.left.now in
    let pid = c.in-Some.pid in
    let ended = ended_among (own_of home) home.state.state.processes (has_end home) in
    let rest = c.next.new.self.rest.items in
    let told : is_untaken left pid ≡ true = sym (any_map (λ node. seen_of node.now) (λ (node : Seen). not (has_end node pid)) c.args.left.now) ∙ sym c.is_untaken.ensures ∙ c.if-is_untaken.true in
    subst (λ (now : List Pid). Added left c.args.pids.now.items now rest ended) (sym c.in_ok-push.ensures.items)
    (one_added left c.args.pids.now.items c.loop-pid.pids.items c.loop-pid.pid-iterator.rest.items rest ended pid c.in-Some.ensures.steps.0 told c.loop-pid.invariant)

pub loop-pid-preserved : goal.loop-pid-preserved
loop-pid-preserved g c =
    let home = seen_of c.args.home.now in
    let left = lent_as c.args.left.now in
    let pid = c.in-Some.pid in
    let told : is_untaken left pid ≡ false = sym (any_map (λ node. seen_of node.now) (λ (node : Seen). not (has_end node pid)) c.args.left.now) ∙ sym c.is_untaken.ensures ∙ c.if-is_untaken.false in
    none_more left c.args.pids.now.items c.loop-pid.pids.items c.loop-pid.pid-iterator.rest.items c.next.new.self.rest.items (ended_among (own_of home) home.state.state.processes (has_end home)) pid
    c.in-Some.ensures.steps.0 told c.loop-pid.invariant
