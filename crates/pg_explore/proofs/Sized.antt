-- How many nodes, ways and plans a moment has.
use Rattle.std.proofs.Common.{◌≡◌, ◌≢◌, ◌<◌, ◌≤◌, ℕ, ◌+◌, ◌-◌, Bool, true, false, not, ◌&&◌, cond, nat_lt}
use Rattle.std.proofs.Common.{nat_eq, List, [], length, get_or, Option, Some, refl, sym, ap, ◌∙◌, arith, subst}
use Rattle.std.proofs.lemmas.Bool.{lt-ltb, ltb-true, ne_eqb, eq-eqb}
use Rattle.std.proofs.lemmas.Option.{slice_get_within}
use Rattle.std.specs.Prelude.{slice_get}
use Rattle.pg_world_packets.specs.PgStep.Machines.Places.{is_pair}
use Rattle.pg_world_packets.specs.FrameWorlds.{traffic_of}
use Rattle.pg_world_packets.specs.PgWorldConfig.Seen.{Seen}
use Rattle.pg_world_packets.specs.Views.{peer_place}
use Rattle.pg_explore.specs.declared.moment.Moment.{Moment}
use Rattle.pg_explore.specs.Moments.{IsSized}
use Rattle.pg_explore.proofs.Alike.{as_many}

pub many_nodes : (m : Moment) → IsSized m → length (traffic_of m.world).nodes ≡ length m.strands.items
many_nodes m sized = as_many m.world ∙ sym sized

pub many_rows : (m : Moment) → IsSized m → length (traffic_of m.world).ways ≡ length m.strands.items
many_rows m sized = m.world.frames.whole.rows ∙ many_nodes m sized

pub many_ways : (m : Moment) (i : ℕ) → IsSized m → i < length m.strands.items → length (get_or (traffic_of m.world).ways i []) + 1 ≡ length m.strands.items
many_ways m i sized inside =
    let many = many_nodes m sized in
    m.world.frames.whole.others i (omega (arith, inside, many)) ∙ many

pub many_names : (m : Moment) (i : ℕ) (node : Seen) → IsSized m → slice_get (traffic_of m.world).nodes i ≡ Some node → length node.names ≡ length m.strands.items
many_names m i node sized at = m.world.frames.whole.known i node at ∙ many_nodes m sized

-- ---- pairs

pub lt_false : (a b : ℕ) → b ≤ a → nat_lt a b ≡ false
lt_false a b le = go (nat_lt a b) (ltb-true a b)
  where
    go : (t : Bool) → (t ≡ true → a < b) → t ≡ false
    go true h = let l : a < b = h refl in absurd (omega arith)
    go false h = refl

pub is_pair_so : (size x y : ℕ) → x < size → y < size → x ≢ y → is_pair size x y ≡ true
is_pair_so size x y a b n = (λ j. lt-ltb x size a j && (lt-ltb y size b j && not (ne_eqb x y n j)))

pub pair_is : (size x y : ℕ) → is_pair size x y ≡ true → (x < size) × (y < size) × (x ≢ y)
pair_is size x y e = go (nat_lt x size) (nat_lt y size) (nat_eq x y) (ltb-true x size) (ltb-true y size) (eq-eqb x y) e
  where
    go : (a b c : Bool) → (a ≡ true → x < size) → (b ≡ true → y < size) → (x ≡ y → c ≡ true) → (a && (b && not c)) ≡ true → (x < size) × (y < size) × (x ≢ y)
    go true true true f g h e = absurd (cc)
    go true true false f g h e = (f refl, g refl, λ d. let k : false ≡ true = h d in absurd (cc))
    go true false c f g h e = absurd (cc)
    go false b c f g h e = absurd (cc)

pub no_pair : (size x : ℕ) → is_pair size x x ≡ true → ⊥
no_pair size x e = (pair_is size x x e).2 refl

pub place_low : (i y : ℕ) → y < i → peer_place i y ≡ y
place_low i y l = ap (λ b. cond b y (y - 1)) (lt-ltb y i l)

pub place_high : (i y : ℕ) → i ≤ y → peer_place i y ≡ y - 1
place_high i y l = ap (λ b. cond b y (y - 1)) (lt_false y i l)

-- the peer above is at the place before it
pub place_next : (i k : ℕ) → i ≤ k → peer_place i (k + 1) ≡ k
place_next i k l = place_high i (k + 1) (omega (arith, l)) ∙ omega arith
