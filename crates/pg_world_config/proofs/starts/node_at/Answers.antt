use Rattle.std.proofs.Common.{◌≤◌, ◌^◌, ◌∙◌, false, subst}
use Rattle.pg_node_state.specs.PgEnds.Limits.{max_processes}
use Rattle.pg_node_state.specs.PgExchange.GroupList.{all_merged}
use Rattle.pg_node_state.specs.PgMessageTypes.Members.{HasFewMembers}
use Rattle.pg_world_config.proofs.Starting.{groups_here, made_here, apart_here, peers_here, seen_here, few_here}
use Rattle.pg_world_config.proofs.starts.node_at.Goals as goal

pub started-requires-clause-apart : goal.started-requires-clause-apart
started-requires-clause-apart c =
    apart_here c.args.starts.now c.args.place c.requires.place c.in_ok-peers.peers.items c.remove-own.new.self.items c.remove-own.result c.in_ok-peers.ensures c.remove-own.ensures.value c.remove-own.ensures.items c.requires.apart

pub started-requires-clause-peers : goal.started-requires-clause-peers
started-requires-clause-peers c =
    peers_here c.args.starts.now c.args.place c.requires.place c.in_ok-peers.peers.items c.remove-own.new.self.items c.remove-own.result c.in_ok-peers.ensures c.remove-own.ensures.value c.remove-own.ensures.items c.requires.nodes

pub started-requires-clause-made : goal.started-requires-clause-made
started-requires-clause-made c = subst (λ n. n ≤ max_processes) (made_here c.args.starts.now c.args.place c.index-starts-place.result c.requires.place c.index-starts-place.is) c.requires.made

pub started-requires-clause-few : goal.started-requires-clause-few
started-requires-clause-few c =
    few_here _ c.index-starts-place.result.groups (subst (HasFewMembers (2 ^ 32)) (groups_here c.args.starts.now c.args.place c.index-starts-place.result c.requires.place c.index-starts-place.is) c.requires.few)
    (c.in_ok-table.ensures ∙ (λ j. all_merged (c.new.ensures j) (c.as_slice.ensures j) (λ pid. false)))

pub returns : goal.returns
returns c =
    seen_here c.args.starts.now c.args.place c.requires.place c.in_ok-peers.peers.items c.remove-own.new.self.items c.remove-own.result c.in_ok-peers.ensures c.remove-own.ensures.value c.remove-own.ensures.items c.index-starts-place.result _ c.started.result c.index-starts-place.is
    (c.in_ok-table.ensures ∙ (λ j. all_merged (c.new.ensures j) (c.as_slice.ensures j) (λ pid. false))) c.started.ensures.names c.started.ensures.state c.started.ensures.ports c.started.ensures.answers
