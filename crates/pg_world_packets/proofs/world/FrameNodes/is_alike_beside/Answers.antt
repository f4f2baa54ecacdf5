use Rattle.std.proofs.Common.{◌≡◌, ◌∙◌, ℕ, List, length, map, sym, subst, arith}
use Rattle.std.proofs.lemmas.List.{length-map}
use Rattle.pg_term.specs.declared.term.Term.{Term}
use Rattle.pg_node_state.proofs.PgNodeOpens.Named.{clash}
use Rattle.pg_world_packets.specs.declared.ways.Ways.{Ways}
use Rattle.pg_world_packets.specs.Alike.{without_stamps}
use Rattle.pg_world_account.specs.Agreeing.{HaveSameUpdates}
use Rattle.pg_world_account.specs.Histories.{account_of}
use Rattle.pg_world_config.specs.Seen.{seen_of}
use Rattle.pg_world_packets.specs.Views.{ways_of}
use Rattle.pg_world_packets.proofs.world.FrameNodes.is_alike_beside.Goals as goal
use Rattle.pg_world_packets.proofs.world.FrameNodes.is_alike_beside.Goals.{then-same, else-same}

all_said : (outgoing others : List Ways) → outgoing ≡ others → map without_stamps (map ways_of outgoing) ≡ map without_stamps (map ways_of others)
all_said outgoing others same = λ i. map without_stamps (map ways_of (same i))

pub returns-then-same_ways : goal.returns-then-same_ways
returns-then-same_ways g c =
    let nodes = c.args.self.now.nodes in
    let ok = nodes.ok in
    let count : c.len.result ≡ length (map seen_of nodes.items) = omega (arith, c.len.ensures, ok, length-map nodes.items seen_of) in
    let Same = λ (n : ℕ). (name : Term) → HaveSameUpdates n (account_of c.args.self.now.histories) (account_of c.args.other.now.histories) name in
    elim c.if-same.branch [
      | then-same w ↦
          let mine = all_said w.deref.result.now c.args.self.now.outgoing.items w.deref.ensures.value in
          let theirs = all_said w.deref-then-same.result.now c.args.other.now.outgoing.items w.deref-then-same.ensures.value in (
            λ t. record {
              ways = sym mine ∙ (w.same_ways.ensures.0 (sym w.value-is ∙ c.if-same_ways.true) ∙ theirs);
              updates = subst Same count (c.agree.ensures.0 t);
              losses = c.same.ensures.0 w.if-same.true;
            },
            λ h. c.agree.ensures.1 (subst Same (sym count) h.updates),
          )
      | else-same w ↦ absurd (clash (sym c.if-same_ways.true ∙ (w.value-is ∙ w.if-same.false)))
    ]
