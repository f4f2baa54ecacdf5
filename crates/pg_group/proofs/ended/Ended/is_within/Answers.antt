use Rattle.std.proofs.Common.{◌≡◌, Bool, sym, ap, subst, ◌∙◌}
use Rattle.std.specs.Prelude.{IsTrue, ◌↔◌}
use Rattle.std.specs.List.{list_all}
use Rattle.pg_term.specs.declared.pid.Pid.{Pid}
use Rattle.pg_group.specs.Ended.{ended_of, IsWithin}
use Rattle.pg_group.specs.Ends.{Ends, all_pids}
use Rattle.pg_group.proofs.EndedSets.{either_of}
use Rattle.pg_group.proofs.EndedWithin.{all_entries, within, pids_within, nodes_within}
use Rattle.pg_group.proofs.ended.Ended.is_within.Goals as goal

-- what holds of what is inside holds of the sets
seen : (one other : Ends) (nodes others : Pid → Bool) (b : Bool) → nodes ≡ ended_of one → others ≡ ended_of other → (IsTrue b ↔ IsWithin nodes others) → (IsTrue b ↔ IsWithin (ended_of one) (ended_of other))
seen one other nodes others b is others_is h =
    subst (λ (t : Pid → Bool). IsTrue b ↔ IsWithin t (ended_of other)) is (subst (λ (t : Pid → Bool). IsTrue b ↔ IsWithin nodes t) others_is h)

pub returns-then-is_subset : goal.returns-then-is_subset
returns-then-is_subset c =
    let nodes = c.self.inside.nodes.keys in
    let others = c.other.inside.nodes.keys in
    let pids = all_pids c.self.inside.numbers.entries in
    let members = all_pids c.other.inside.numbers.entries in
    let all : c.has_each.result ≡ list_all (either_of others members) pids =
    c.has_each.ensures ∙ all_entries (ended_of c.args.other.now) c.self.inside.numbers.entries ∙ ap (λ (e : Ends). list_all (ended_of e) pids) (sym c.other.view_is) in
    seen c.args.self.now c.args.other.now (either_of nodes pids) (either_of others members) c.has_each.result (ap ended_of c.self.view_is) (ap ended_of c.other.view_is)
    (λ e. within nodes others pids members (c.is_subset.ensures.0 c.if-is_subset.true) (sym all ∙ e), λ h. all ∙ pids_within nodes others pids members h)

pub returns-else-is_subset : goal.returns-else-is_subset
returns-else-is_subset c =
    let nodes = c.self.inside.nodes.keys in
    let others = c.other.inside.nodes.keys in
    let pids = all_pids c.self.inside.numbers.entries in
    let members = all_pids c.other.inside.numbers.entries in
    seen c.args.self.now c.args.other.now (either_of nodes pids) (either_of others members) c.is_subset.result (ap ended_of c.self.view_is) (ap ended_of c.other.view_is)
    (λ e. absurd (cc (sym e ∙ c.if-is_subset.false)), λ h. c.is_subset.ensures.1 (nodes_within nodes others pids members h))
