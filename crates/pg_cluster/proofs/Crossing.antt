-- The rings of nodes whose threads have ended.
use Rattle.std.proofs.Common.{◌≡◌, ◌<◌, true, ℕ, List, [], ◌∷◌, length, get_or, ◌∙◌, subst, arith}
use Rattle.std.proofs.lemmas.List.{get_or-map, length-map}
use Rattle.pg_cluster_judges.specs.PgStep.Machines.Places.{is_pair}
use Rattle.pg_ring.specs.Ends.{AreEnds, Sends, Receives}
use Rattle.pg_ring.specs.EndsLaws.{AreEnds-later}
use Rattle.pg_cluster_judges.specs.Apart.{End, Crossed}
use Rattle.pg_cluster_judges.proofs.PgWorldPackets.Peering.{place_within}
use Rattle.pg_cluster_judges.proofs.PgWorldPackets.Turning.{pair_is, pair_turned}
use Rattle.pg_cluster_judges.specs.PgWorldPackets.Views.{peer_place}
use Rattle.pg_cluster.specs.Ended.{Arrived, AreJoined, AreWired, AllArrived, AllCrossed, row_at, end_at}
use Rattle.pg_cluster.specs.Promises.{RanAs}
use Rattle.pg_cluster.specs.Threads.{Thread, RanOf, Joined, row_in, begun_by, limit_of, rows_begun, rows_ended}

module _ {K : Type 0} (threads : List (Thread K)) (rans : List (RanOf K)) (joined : Joined threads rans) where
  -- the links of one node
  module _ (thread : Thread K) (ran : RanOf K) where
    begun_row : (x : ℕ) → x < length threads → row_at (rows_begun threads) x ≡ row_in (begun_by (get_or threads x thread))
    begun_row x low = get_or-map (λ (t : Thread K). row_in (begun_by t)) threads x thread [] low

    ended_row : (x : ℕ) → x < length threads → row_at (rows_ended rans) x ≡ row_in (get_or rans x ran).run
    ended_row x low = get_or-map (λ (r : RanOf K). row_in r.run) rans x ran [] (let e = joined.0 in omega arith)

    kept : (x : ℕ) → x < length threads → RanAs (begun_by (get_or threads x thread)) (limit_of (get_or threads x thread)) (get_or rans x ran)
    kept x low = joined.1 x thread ran (let e = joined.0 in omega arith)

    same_length : (x : ℕ) → x < length threads → length (row_at (rows_ended rans) x) ≡ length (row_at (rows_begun threads) x)
    same_length x low = rw (begun_row x low, ended_row x low) ((kept x low).runs.serves.follows.moved.len)

    moved : (x place : ℕ) (none : End) → x < length threads → place < length (row_at (rows_begun threads) x)
        → (put given : List ℕ) × Sends (get_or (row_at (rows_begun threads) x) place none).link put (get_or (row_at (rows_ended rans) x) place none).link
        × Receives (get_or (row_at (rows_begun threads) x) place none).inlet given (get_or (row_at (rows_ended rans) x) place none).inlet
    moved x place none low within =
        let m = (kept x low).runs.serves.follows.moved.each place none (subst (λ (es : List End). place < length es) (begun_row x low) within) in
        (m.put, m.given, rw (begun_row x low, ended_row x low) m.accepted, rw (begun_row x low, ended_row x low) m.gave)

    -- the ends of the ring from one node to another, as they began and as they ended
    module _ (n : ℕ) (size : length threads ≡ n) (wired : AreWired n (rows_begun threads)) (x y : ℕ) (none : End) (pair : is_pair n x y ≡ true) where
      places : (x < n) × (y < n)
      places = let p = pair_is n x y pair in (p.0, p.1)

      from_moved : (put given : List ℕ) × Sends (end_at (rows_begun threads) x y none).link put (end_at (rows_ended rans) x y none).link
          × Receives (end_at (rows_begun threads) x y none).inlet given (end_at (rows_ended rans) x y none).inlet
      from_moved = moved x (peer_place x y) none (let p = places in omega (arith, p.0, size))
          (let p = pair_is n x y pair in let e = wired.joined.each x p.0 in let w = place_within x y n p.0 p.1 p.2 in omega (arith, e, w))

      to_moved : (put given : List ℕ) × Sends (end_at (rows_begun threads) y x none).link put (end_at (rows_ended rans) y x none).link
          × Receives (end_at (rows_begun threads) y x none).inlet given (end_at (rows_ended rans) y x none).inlet
      to_moved = moved y (peer_place y x) none (let p = places in omega (arith, p.1, size))
          (let q = pair_is n y x (pair_turned n x y pair) in let e = wired.joined.each y q.0 in let w = place_within y x n q.0 q.1 q.2 in omega (arith, e, w))

      ends_after : AreEnds (end_at (rows_ended rans) x y none).link (end_at (rows_ended rans) y x none).inlet
      ends_after = AreEnds-later (end_at (rows_begun threads) x y none).link (end_at (rows_ended rans) x y none).link (end_at (rows_begun threads) y x none).inlet
          (end_at (rows_ended rans) y x none).inlet (wired.joined.ends x y none pair) from_moved.2.same to_moved.3.same

      crossed_here : Arrived (end_at (rows_ended rans) x y none) (end_at (rows_ended rans) y x none)
          → Crossed (end_at (rows_begun threads) x y none) (end_at (rows_begun threads) y x none) (end_at (rows_ended rans) x y none) (end_at (rows_ended rans) y x none)
      crossed_here arrived = record {
        unsent = wired.unsent x y none pair;
        unreceived = wired.unreceived x y none pair;
        left = arrived.left;
        sent = arrived.sent;
      }

-- what holds of a place of a list that is not empty
some_of : {X Y : Type 0} (xs : List X) (ys : List Y) (x : ℕ) → x < length xs → length ys ≡ length xs → X × Y
some_of [] ys x low e = absurd (omega (arith, low))
some_of (a ∷ xs) [] x low e = absurd (omega (arith, e))
some_of (a ∷ xs) (b ∷ ys) x low e = (a, b)

module _ {K : Type 0} (n : ℕ) (threads : List (Thread K)) (rans : List (RanOf K)) (size : length threads ≡ n) (wired : AreWired n (rows_begun threads)) (joined : Joined threads rans) where
  some : (x : ℕ) → x < n → Thread K × RanOf K
  some x low = some_of threads rans x (omega (arith, low, size)) joined.0

  pub joined_after : AreJoined n (rows_ended rans)
  joined_after = record {
    count = length-map rans (λ ran. row_in ran.run) ∙ (joined.0 ∙ size);
    each = λ x low. let s = some x low in let e = same_length threads rans joined s.0 s.1 x (omega (arith, low, size)) in let m = wired.joined.each x low in omega (arith, e, m);
    ends = λ x y none pair. let s = some x (pair_is n x y pair).0 in ends_after threads rans joined s.0 s.1 n size wired x y none pair;
  }

  pub crossed_after : AllArrived n (rows_ended rans) → AllCrossed n (rows_begun threads) (rows_ended rans)
  crossed_after arrived x y none pair = let s = some x (pair_is n x y pair).0 in crossed_here threads rans joined s.0 s.1 n size wired x y none pair (arrived x y none pair)
