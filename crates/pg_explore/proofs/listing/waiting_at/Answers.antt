use Rattle.std.proofs.Common.{◌≡◌, ◌≢◌, ◌<◌, ◌≤◌, ℕ, ◌+◌, ◌-◌, Bool, true, false, List, [], ◌∷◌, ◌++◌, length}
use Rattle.std.proofs.Common.{map, take, get_or, max, refl, sym, ap, ap₂, ◌∙◌, inl, inr, subst, arith}
use Rattle.std.proofs.lemmas.Result.{IfOk-weaker}
use Rattle.std.specs.Prelude.{option_map, slice_get, is_some, Option, Some, None}
use Rattle.std.specs.Option.{option_copied, option_map_or}
use Rattle.pg_world_packets.specs.PgNodeOpens.Places.{whole_in}
use Rattle.pg_world_packets.specs.PgStep.Attempts.{waits}
use Rattle.pg_world_packets.specs.PgStep.State.{live_nodes}
use Rattle.pg_world_packets.specs.FrameWorlds.{traffic_of}
use Rattle.pg_world_packets.specs.PgWorldConfig.Seen.{Seen, seen_of}
use Rattle.pg_explore.proofs.Opening.{among}
use Rattle.pg_explore.proofs.Optional.{inside_some}
use Rattle.pg_explore.proofs.Sized.{many_nodes}
use Rattle.pg_explore.proofs.listing.waiting_at.Goals as goal

pub unwrap-state-requires : goal.unwrap-state-requires
unwrap-state-requires c =
    let moment = c.args.moment.now in
    let at = inside_some (traffic_of moment.world).nodes c.args.node (omega (arith, many_nodes moment c.requires.sized, c.requires.there)) in
    elim c.node.result as (λ o. option_map seen_of (option_copied o) ≡ Some at.0 → is_some o ≡ true) [ None ↦ λ e. absurd (cc) | Some x ↦ λ e. refl ] (c.node.ensures ∙ at.1)

pub returns : goal.returns
returns c =
    let moment = c.args.moment.now in
    let nodes = (traffic_of moment.world).nodes in
    let at : slice_get nodes c.args.node ≡ Some (seen_of c.unwrap-state.result.now) = sym c.node.ensures ∙ (λ i. option_map seen_of (option_copied (c.unwrap-state.ensures i))) in
    IfOk-weaker c.waiting.result _ _ (λ ops h op.
    let e = (λ i. option_map_or (λ (node : Seen). waits (live_nodes (whole_in node.names) node.state.state) (node.state.state.stages op) node.state.state) (at i) false) ∙ sym (h.each op) in
    (λ t. e ∙ (among ops.items op).0 t, λ t. (among ops.items op).1 (sym e ∙ t))) c.waiting.ensures.each
