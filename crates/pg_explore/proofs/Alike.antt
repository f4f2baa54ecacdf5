-- Moments that are the same but for clocks and stamps.
use Rattle.std.proofs.Common.{◌≡◌, ◌<◌, ℕ, List, length, map, refl, sym, ap, ◌∙◌, subst, arith}
use Rattle.std.proofs.Props.{props}
use Rattle.std.proofs.lemmas.List.{length-map}
use Rattle.std.specs.Prelude.{fold}
use mathlib.Core.Logic.{∥∥₁_elim}
use Rattle.pg_world_packets.specs.PgGroup.declared.table.GroupTable.{Ghosts}
use Rattle.pg_world_packets.proofs.Ordered.{ordered_length}
use Rattle.pg_world_packets.specs.declared.frame_world.FrameWorld.{FrameWorld}
use Rattle.pg_world_packets.specs.Alike.{AreAlikeWorlds, without_clock, without_stamps}
use Rattle.pg_world_packets.specs.PgWorldAccount.Agreeing.{HaveSameUpdates}
use Rattle.pg_world_packets.specs.FrameWorlds.{traffic_of, given_of}
use Rattle.pg_world_packets.specs.PgWorldConfig.Seen.{Seen}
use Rattle.pg_world_packets.specs.Views.{View}
use Rattle.pg_world_packets.specs.PgWorldAccount.Histories.{Account}
use Rattle.pg_term.specs.declared.term.Term.{Term}
use Rattle.pg_explore.specs.Moments.{AreAlike, Sight}
use Rattle.pg_explore.specs.Numbers.{mixed_node, mixed_progress, mixed_row, number_in}

-- a world has as many nodes as its configuration
pub as_many : {T : Type 0} {g : Ghosts T} (world : FrameWorld T g) → length (traffic_of world).nodes ≡ length (given_of world)
as_many world = ∥∥₁_elim world.past (hlevel props) (λ past. past.is.shows.shows.traffic.nodes.size ∙ ordered_length _ _ past.is.orders)

same_length : (nodes others : List Seen) → map without_clock nodes ≡ map without_clock others → length nodes ≡ length others
same_length nodes others e = sym (length-map nodes without_clock) ∙ ap length e ∙ length-map others without_clock

updates_back : (count many : ℕ) (one other : Account) (name : Term) → count ≡ many → HaveSameUpdates count one other name → HaveSameUpdates many other one name
updates_back count many one other name e h = record {
  history = sym h.history;
  applied = λ i inside. sym (h.applied i (omega (arith, inside, e)));
}

pub alike_back : (one other : Sight) → AreAlike one other → AreAlike other one
alike_back one other h = record {
  worlds = record {
    nodes = sym h.worlds.nodes;
    ways = sym h.worlds.ways;
    updates = λ name. updates_back _ _ _ _ name (same_length one.view.traffic.nodes other.view.traffic.nodes h.worlds.nodes) (h.worlds.updates name);
    losses = λ node. sym (h.worlds.losses node);
  };
  progress = sym h.progress;
}

pub same_number : (one other : Sight) → AreAlike one other → number_in one ≡ number_in other
same_number one other h = λ i. fold mixed_node (fold mixed_row (fold mixed_progress 0 (h.progress i)) (h.worlds.ways i)) (h.worlds.nodes i)

pub alike_self : (sight : Sight) → AreAlike sight sight
alike_self sight = record {
  worlds = record {
    nodes = refl;
    ways = refl;
    updates = λ name. record { history = refl; applied = λ i inside. refl };
    losses = λ node. refl;
  };
  progress = refl;
}
