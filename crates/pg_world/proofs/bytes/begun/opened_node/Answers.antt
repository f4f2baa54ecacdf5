use Rattle.std.proofs.Common.{◌≡◌, ◌<◌, ◌+◌, ◌-◌, ℕ, length, ap, sym, ◌∙◌, arith, subst}
use Rattle.pg_world_packets.specs.PgNodeOpens.Places.{name_at}
use Rattle.pg_node.specs.Begun.{CantBegin}
use Rattle.pg_node.specs.Nodes.{links_of}
use Rattle.pg_world_packets.specs.PgNodeState.States.{names_of}
use Rattle.pg_world.specs.BytesStart.{OpensLinks}
use Rattle.pg_world_packets.specs.Openings.{CantOpen}
use Rattle.pg_world_packets.specs.PgWorldConfig.Firsts.{seen_first}
use Rattle.pg_world_packets.specs.PgWorldConfig.Seen.{Seen, seen_of}
use Rattle.pg_world_packets.proofs.Peering.{known}
use Rattle.pg_world.proofs.over_bytes.Opened.{cant_open_so, named_first}
use Rattle.pg_world.proofs.bytes.begun.opened_node.Goals as goal

one_less : (n i : ℕ) → i < n → n - 1 + 1 ≡ n
one_less n i l = omega (arith, l)

pub returns-in-Ok-clause-node : goal.returns-in-Ok-clause-node
returns-in-Ok-clause-node c = ap seen_of c.in-Ok.ensures.state ∙ c.in_ok-state.ensures

pub returns-in-Ok-clause-opened : goal.returns-in-Ok-clause-opened
returns-in-Ok-clause-opened c =
    let starts = c.args.starts.now in
    let i = c.args.place in
    let state = c.in_ok-state.state in
    let size : length starts - 1 + 1 ≡ length (names_of state) = one_less (length starts) i c.requires.place ∙ sym (ap (λ (s : Seen). length s.names) c.in_ok-state.ensures ∙ known starts i c.requires.place) in
    subst (λ (s : Seen). OpensLinks (length starts - 1) s (links_of c.in-Ok.node)) c.in_ok-state.ensures (c.in-Ok.ensures.begun (length starts - 1) size)

pub returns-in-Err-clause-fault : goal.returns-in-Err-clause-fault
returns-in-Err-clause-fault c =
    let starts = c.args.starts.now in
    let i = c.args.place in
    let fault = c.in-Err.fault in
    subst (CantOpen (seen_first starts i)) (sym c.opening_fault.ensures)
    (cant_open_so (seen_first starts i) fault (named_first starts i c.requires.ready) (subst (λ (s : Seen). CantBegin s.state.state.table (name_at s.names 0) fault) c.in_ok-state.ensures c.in-Err.ensures.fault))
