use Rattle.std.proofs.Common.{◌≡◌, ◌∙◌, ◌+◌, ◌||◌, Bool, not, true, false, refl, sym, ap}
use Rattle.std.proofs.lemmas.Option.{get_or_from_slice_get}
use Rattle.pg_node_ports.specs.PgNodeOpens.Places.{name_at}
use Rattle.pg_term.specs.Same.{same_atom}
use Rattle.pg_node_state.specs.States.{names_of}
use Rattle.pg_node_state.proofs.Merged.{merged_at}
use Rattle.pg_node_state.proofs.state.NodeState.is_exchange_refused.Goals as goal

not_false : (b : Bool) → not b ≡ false → b ≡ true
not_false true e = refl
not_false false e = absurd (cc)

pub returns-else-ne : goal.returns-else-ne
returns-else-ne g c =
    let old = c.args.self.now in
    let p = name_at (names_of old) (c.args.peer + 1) in
    let is : same_atom c.args.node.now p ≡ true = ap (same_atom c.args.node.now) (sym c.name.ensures) ∙ not_false (same_atom c.args.node.now c.name.result.now) (sym c.ne.ensures ∙ c.if-ne.false) in
    let merged = merged_at (names_of old) old.formation c.args.peer old.opens.apart old.peers c.requires.place
    ∙ get_or_from_slice_get old.formation c.args.peer c.is_merged.result false c.is_merged.ensures in
    sym (λ i. not (is i) || merged i)
