use Rattle.std.proofs.Common.{ap, ◌∙◌}
use Rattle.std.specs.BTreeSet.{insert_key}
use Rattle.pg_term.specs.Same.{atom_cmp}
use Rattle.pg_group.specs.Ended.{ended_of, ended_with}
use Rattle.pg_group.specs.Ends.{Ends, all_pids}
use Rattle.pg_group.proofs.EndedSets.{node_put}
use Rattle.pg_group.proofs.ended.Ended.add_node.Goals as goal

pub returns-clause-ok : goal.returns-clause-ok
returns-clause-ok c =
    node_put c.self.inside.nodes.keys c.insert.new.self.keys (all_pids c.self.inside.numbers.entries) c.args.node.now
    (c.in_ok-insert.ensures.keys ∙ ap (insert_key atom_cmp c.self.inside.nodes.keys) c.in_ok-copy.ensures)
    ∙ ap (λ (e : Ends). ended_with (ended_of e) c.args.node.now) c.self.view_is
