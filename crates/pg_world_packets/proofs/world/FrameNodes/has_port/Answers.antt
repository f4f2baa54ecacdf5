use Rattle.std.proofs.Common.{◌≡◌, Some, None, false, Option, map, ap, ap₂, sym, subst, ◌∙◌, nat_lt}
use Rattle.std.specs.Prelude.{option_map, slice_get}
use Rattle.std.specs.Option.{option_map_or}
use Rattle.std.proofs.lemmas.Option.{slice_get-map, slice_get-get_or, slice_get_past}
use Rattle.pg_world_config.specs.Seen.{Seen, seen_of}
use Rattle.pg_world_packets.proofs.world.FrameNodes.has_port.Goals as goal

pub returns-in-Some : goal.returns-in-Some
returns-in-Some g c =
    let nodes = c.deref.result.now in
    let node = c.in-Some.state.now in
    let there = c.in-Some.ensures.lookup in
    let here : slice_get nodes c.args.node ≡ Some node = slice_get-get_or nodes c.args.node node there.3.0 ∙ ap Some (sym there.1) in
    let seen = subst (λ ns. slice_get (map seen_of ns) c.args.node ≡ Some (seen_of node)) c.deref.ensures.value (slice_get-map seen_of nodes c.args.node ∙ ap (option_map seen_of) here) in
    ap₂ nat_lt c.from.ensures c.port_count.ensures ∙ sym (ap (λ (o : Option Seen). option_map_or (λ n. nat_lt c.args.port n.ports) o false) seen)

pub returns-in-None : goal.returns-in-None
returns-in-None g c =
    let nodes = c.deref.result.now in
    let past = c.in-None.ensures.lookup.3 in
    let seen = subst (λ ns. slice_get (map seen_of ns) c.args.node ≡ None) c.deref.ensures.value (slice_get-map seen_of nodes c.args.node ∙ ap (option_map seen_of) (slice_get_past nodes c.args.node past)) in
    sym (ap (λ (o : Option Seen). option_map_or (λ n. nat_lt c.args.port n.ports) o false) seen)
