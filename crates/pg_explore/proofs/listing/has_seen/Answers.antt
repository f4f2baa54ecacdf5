use Rattle.std.proofs.Common.{◌≡◌, ◌≢◌, ◌<◌, ◌≤◌, ℕ, ◌+◌, ◌-◌, Bool, true, false, List, [], ◌∷◌, ◌++◌, length}
use Rattle.std.proofs.Common.{map, take, get_or, max, refl, sym, ap, ap₂, ◌∙◌, inl, inr, subst, arith}
use Rattle.std.specs.Prelude.{option_map, slice_get, Option, Some}
use Rattle.std.specs.Option.{option_copied}
use Rattle.pg_world_packets.specs.FrameWorlds.{traffic_of}
use Rattle.pg_world_packets.specs.PgWorldConfig.Seen.{seen_of}
use Rattle.pg_explore.proofs.Sized.{many_names, pair_is}
use Rattle.pg_explore.proofs.listing.has_seen.Goals as goal
use Rattle.pg_explore.proofs.listing.has_seen.Goals.{then-peer-node, else-peer-node}

pub is_lost-requires : goal.is_lost-requires
is_lost-requires c =
    let moment = c.args.moment.now in
    let seen = seen_of c.in-Some.state.now in
    let at : slice_get (traffic_of moment.world).nodes c.args.node ≡ Some seen = sym c.node.ensures ∙ (λ i. option_map seen_of (option_copied (c.in-Some.is i))) in
    let many = many_names moment c.args.node seen c.requires.sized at in
    let pair = pair_is (length moment.strands.items) c.args.peer c.args.node c.requires.pair in
    record {
      place = elim c.if-peer-node.branch as (λ _. c.if-peer-node.place + 1 < length seen.names) [
        | then-peer-node w ↦ omega (arith, many, pair.0, pair.1, w.if-peer-node.true, w.place-is)
        | else-peer-node w ↦ omega (arith, many, pair.0, pair.1, pair.2, w.if-peer-node.false, w.place-is)
      ];
    }
