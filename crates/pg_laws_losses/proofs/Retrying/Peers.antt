-- The live peers of a node, by their places, and sums over them.
use Rattle.std.proofs.Common.{◌≡◌, ◌⊎◌, inl, inr, ℕ, ◌+◌, ◌*◌, ◌<◌, Bool, true, false, not, ◌&&◌}
use Rattle.std.proofs.Common.{cond, length, List, [], ◌∷◌, refl, ap, sym, ◌∙◌, subst, arith}
use Rattle.std.specs.Cmp.{first_so, second_so}
use Rattle.std.specs.List.{IsDistinct, filter, list_all}
use Rattle.std.proofs.lemmas.Bool.{and_from, cases_eq}
use Rattle.std.proofs.lemmas.Bool.Decides.{Decides-ltb}
use Rattle.pg_term.specs.Same.{same_atom}
use Rattle.pg_laws.specs.PgStep.Machines.Places.{is_pair}
use Rattle.pg_laws.proofs.PgStep.Machines.Steps.{pair_apart}
use Rattle.pg_laws.specs.PgStep.Config.{Config, name_at, names_of, nodes_at}
use Rattle.pg_laws.specs.PgStep.Nodes.{Node, Nodes, is_peer}
use Rattle.pg_laws.proofs.ends.Apart.{pair_second, place_below}
use Rattle.pg_laws.proofs.places.Shown.{IsHere}
use Rattle.pg_laws.proofs.quiet.Home.{Knows}
use Rattle.pg_laws.proofs.quiet.Rest.{each_peer, pair_of}
use Rattle.pg_laws.proofs.quiet.Solo.{knows as knows_all}
use Rattle.pg_laws.proofs.quiet.Sums.{but, but_here, but_other, total, total_change, total_same, total_scale}
use Rattle.pg_laws.proofs.tables.Formed.{all_others}
use Rattle.pg_laws_losses.proofs.Bridge.{any_filter}
use Rattle.pg_laws_losses.proofs.Retries.{every_left}

-- ---- those of a list that count

-- a test that all pass that count
all_left : (f test : Node → Bool) (xs : List Node) → list_all test (filter f xs) ≡ true
    → list_all (λ q. cond (f q) (test q) true) xs ≡ true
all_left f test [] all = refl
all_left f test (x ∷ xs) all = go (f x) all (all_left f test xs)
  where
    go : (b : Bool) → list_all test (cond b (x ∷ filter f xs) (filter f xs)) ≡ true
        → (list_all test (filter f xs) ≡ true → list_all (λ q. cond (f q) (test q) true) xs ≡ true)
        → (cond b (test x) true && list_all (λ q. cond (f q) (test q) true) xs) ≡ true
    go true here rest = and_from (test x) _ (first_so (test x) (list_all test (filter f xs)) here)
        (rest (second_so (test x) (list_all test (filter f xs)) here))
    go false here rest = rest here

-- where all pass a test, those do that count
pub some_pass : (f test : Node → Bool) (xs : List Node) → list_all test xs ≡ true → list_all test (filter f xs) ≡ true
some_pass f test [] all = refl
some_pass f test (x ∷ xs) all =
    go (f x) (first_so (test x) (list_all test xs) all) (some_pass f test xs (second_so (test x) (list_all test xs) all))
  where
    go : (b : Bool) → test x ≡ true → list_all test (filter f xs) ≡ true
        → list_all test (cond b (x ∷ filter f xs) (filter f xs)) ≡ true
    go true here rest = and_from (test x) (list_all test (filter f xs)) here rest
    go false here rest = rest

-- ---- the peers of a node

module _ (config : Config) (apart : IsDistinct same_atom (names_of config)) (h : ℕ) (here : IsHere config h)
    (gone : ℕ → Bool) (lost : Node → Bool) (known : (q : ℕ) → IsHere config q → lost (name_at config q) ≡ gone q) where
  -- the node, and the peers that it does not see lost
  abbrev pub m : Nodes
  m = record { own = name_at config h; peers = filter (λ q. not (lost q)) (nodes_at config h).peers }

  abbrev pub Peer : ℕ → Type 0
  Peer q = (is_pair (length config) h q ≡ true) × (gone q ≡ false)

  abbrev of_all : Knows (nodes_at config h) (name_at config) (λ q. is_pair (length config) h q ≡ true)
  of_all = knows_all config apart h here

  counts : (q : ℕ) → Peer q → not (lost (name_at config q)) ≡ true
  counts q there = ap not (known q (pair_second (length config) h q there.0) ∙ there.1)

  is_there : (q : ℕ) → Peer q → is_peer m (name_at config q) ≡ true
  is_there q there = any_filter (λ z. not (lost z)) (name_at config q) (nodes_at config h).peers
      ∙ and_from (is_peer (nodes_at config h) (name_at config q)) (not (lost (name_at config q))) (of_all.peer q there.0) (counts q there)

  each : (test : Node → Bool) → ((q : ℕ) → Peer q → test (name_at config q) ≡ true)
      → (p : ℕ) → is_pair (length config) h p ≡ true → cond (not (lost (name_at config p))) (test (name_at config p)) true ≡ true
  each test all p pair = go (gone p) refl
    where
      go : (b : Bool) → gone p ≡ b → cond (not (lost (name_at config p))) (test (name_at config p)) true ≡ true
      go true away = ap (λ b. cond (not b) (test (name_at config p)) true) (known p (pair_second (length config) h p pair) ∙ away)
      go false alive = ap (λ b. cond b (test (name_at config p)) true) (counts p (pair, alive)) ∙ all p (pair, alive)

  pub knows : Knows m (name_at config) Peer
  knows = record {
    peer = is_there;
    apart = λ q there. of_all.apart q there.0;
    others = λ p q this that n. of_all.others p q this.0 that.0 n;
    every_of = λ test own all. and_from (test m.own) (list_all test m.peers) own
        (every_left (λ q. not (lost q)) test (nodes_at config h).peers
        (each_peer config h here (λ q. cond (not (lost q)) (test q) true) (each test all)));
    of_every = λ test all q there.
        sym (ap (λ b. cond b (test (name_at config q)) true) (counts q there))
        ∙ all_others (λ z. cond (not (lost z)) (test z) true) (names_of config) h q
        (place_below config q (pair_second (length config) h q there.0)) (pair_apart (length config) h q there.0)
        (all_left (λ z. not (lost z)) test (nodes_at config h).peers (second_so (test m.own) (list_all test m.peers) all));
  }

  -- ---- sums over them

  -- a number for each
  abbrev pub of_peers : (ℕ → ℕ) → ℕ → ℕ
  of_peers f q = cond (gone q) 0 (but h f q)

  pub of_peer : (f : ℕ → ℕ) (q : ℕ) → Peer q → of_peers f q ≡ f q
  of_peer f q there = ap (λ b. cond b 0 (but h f q)) there.1 ∙ but_other h f q (pair_apart (length config) h q there.0)

  -- and for no other place
  pub data Placed (q : ℕ) : Type 0 where
    IsPeer : Peer q → Placed q
    IsNone : ((f : ℕ → ℕ) → of_peers f q ≡ 0) → Placed q

  pub placed : (q : ℕ) → q < length config → Placed q
  placed q below = go (gone q) refl (cases_eq h q)
    where
      go : (b : Bool) → gone q ≡ b → (h ≡ q) ⊎ (h ≡ q → ⊥) → Placed q
      go true away _ = IsNone (λ f. ap (λ b. cond b 0 (but h f q)) away)
      go false alive (inl e) = IsNone (λ f. ap (λ b. cond b 0 (but h f q)) alive ∙ subst (λ z. but h f z ≡ 0) e (but_here h f))
      go false alive (inr n) = IsPeer (pair_of config h q here ((Decides-ltb q (length config)).1 below) n, alive)

  -- the same number for each
  pub sum_of : (k : ℕ) → gone h ≡ false → total (length config) (of_peers (λ q. k)) + k ≡ k * total (length config) (λ q. cond (gone q) 0 1)
  sum_of k lives =
      let low : h < length config = (Decides-ltb h (length config)).0 here in
      let own : of_peers (λ q. k) h ≡ 0 = ap (λ b. cond b 0 (but h (λ q. k) h)) lives ∙ but_here h (λ q. k) in
      let full : cond {A = ℕ} (gone h) 0 k ≡ k = ap (λ b. cond b 0 k) lives in
      let change : total (length config) (of_peers (λ q. k)) + k ≡ total (length config) (λ q. cond (gone q) 0 k) + 0 =
      total_change (length config) h (λ q. cond (gone q) 0 k) (of_peers (λ q. k)) 0 k low (omega (arith, own, full))
      (λ q _ other. ap (λ z. cond (gone q) 0 z) (but_other h (λ p. k) q (λ e. other (sym e)))) in
      let each_is : total (length config) (λ q. cond (gone q) 0 k) ≡ total (length config) (λ q. k * cond (gone q) 0 1) =
      total_same (length config) (λ q. cond (gone q) 0 k) (λ q. k * cond (gone q) 0 1) (λ q _. times (gone q)) in
      let scale : total (length config) (λ q. k * cond (gone q) 0 1) ≡ k * total (length config) (λ q. cond (gone q) 0 1) =
      total_scale (length config) k (λ q. cond (gone q) 0 1) in
      omega (arith, change, each_is, scale)
    where
      times : (b : Bool) → cond b 0 k ≡ k * cond b 0 1
      times true = omega arith
      times false = omega arith
