-- A node and its peers: all other nodes, and to whom it sends.
use Rattle.std.proofs.Common.{◌≡◌, ◌≢◌, Bool, true, false, not, ◌&&◌, ◌||◌, cond}
use Rattle.std.proofs.Common.{List, [], ◌∷◌, refl, ap, sym, ◌∙◌, inl, inr, ◌⊎◌}
use Rattle.std.specs.List.{list_all, list_any}
use Rattle.std.specs.Cmp.{first_so, second_so}
use Rattle.pg_term.specs.Same.{same_atom}
use Rattle.pg_step.specs.PgMessageTypes.declared.message.Message.{Message}
use Rattle.pg_step.specs.Nodes.{Node, Nodes, is_peer, is_node, every, to_peers}
use Rattle.pg_laws.proofs.references.Keys.{atoms, split, differ, same_is}
use Rattle.pg_laws.proofs.locks.Kept.{Near}

-- node a, with these peers
abbrev pub seated : Node → List Node → Nodes
seated a peers = record { own = a; peers = peers }

-- the peers of node a are the other nodes whose loss it has not seen
pub record Sits (nodes : List Node) (seen : Node → Node → Bool) (a : Node) (peers : List Node) : Type 0 where
  pub peer : (q : Node) → list_any (same_atom q) peers ≡ ((list_any (same_atom q) nodes && not (same_atom a q)) && not (seen a q))

pub false_right : (b : Bool) {c : Bool} → c ≡ false → (b && c) ≡ false
false_right true e = e
false_right false e = refl

pub true_both : {b c : Bool} → b ≡ true → c ≡ true → (b && c) ≡ true
true_both e f = λ i. e i && f i

module _ (nodes : List Node) (seen : Node → Node → Bool) (a : Node) (peers : List Node) (sits : Sits nodes seen a peers) where
  pub no_peer : is_peer (seated a peers) a ≡ false
  no_peer = sits.peer a ∙ ap (λ b. b && not (seen a a)) (false_right (list_any (same_atom a) nodes) (ap not (atoms.refl a)))

  pub is_near : (p : Node) → Near nodes seen a p → p ≢ a → is_peer (seated a peers) p ≡ true
  is_near p m n = sits.peer p ∙ true_both (true_both m.peer (ap not (differ same_atom atoms a p (λ e. n (sym e))))) (ap not m.counts)

  pub node_near : (p : Node) → Near nodes seen a p → is_node (seated a peers) p ≡ true
  node_near p m = go (split same_atom atoms p a)
    where
      right : (b c : Bool) → c ≡ true → (b || c) ≡ true
      right true c e = refl
      right false c e = e

      go : (p ≡ a) ⊎ (p ≢ a) → is_node (seated a peers) p ≡ true
      go (inl e) = ap (λ b. b || list_any (same_atom p) peers) (same_is same_atom atoms p a e)
      go (inr n) = right (same_atom p a) (list_any (same_atom p) peers) (is_near p m n)

  -- a node sends nothing to itself
  pub to_own : (test : Node → Bool) (x : Message) → to_peers (seated a peers) test x a ≡ []
  to_own test x = ap (λ b. cond (b && test a) (x ∷ []) []) no_peer

  pub to_own_at : (test : Node → Bool) (x : Message) (p : Node) → p ≡ a → to_peers (seated a peers) test x p ≡ []
  to_own_at test x p e = ap (to_peers (seated a peers) test x) e ∙ to_own test x

  -- to each other node that passes the test
  pub to_near : (test : Node → Bool) (x : Message) (p : Node) → Near nodes seen a p → p ≢ a → test p ≡ true → to_peers (seated a peers) test x p ≡ x ∷ []
  to_near test x p m n e = ap (λ b. cond b (x ∷ []) []) (true_both (is_near p m n) e)

  pub to_untold : (test : Node → Bool) (x : Message) (p : Node) → test p ≡ false → to_peers (seated a peers) test x p ≡ []
  to_untold test x p e = ap (λ b. cond b (x ∷ []) []) (false_right (is_peer (seated a peers) p) e)

  any_all : (f : Node → Bool) (p : Node) (xs : List Node) → list_all f xs ≡ true → list_any (same_atom p) xs ≡ true → f p ≡ true
  any_all f p [] all any = absurd (cc)
  any_all f p (x ∷ xs) all any = go (same_atom p x) refl any (any_all f p xs (second_so (f x) (list_all f xs) all))
    where
      go : (b : Bool) → same_atom p x ≡ b → (b || list_any (same_atom p) xs) ≡ true → (list_any (same_atom p) xs ≡ true → f p ≡ true) → f p ≡ true
      go true e d later = ap f (atoms.is p x e) ∙ first_so (f x) (list_all f xs) all
      go false e d later = later d

  -- what all pass, each does that is near
  pub every_near : (f : Node → Bool) → every (seated a peers) f ≡ true → (p : Node) → Near nodes seen a p → f p ≡ true
  every_near f all p m = go (split same_atom atoms p a)
    where
      go : (p ≡ a) ⊎ (p ≢ a) → f p ≡ true
      go (inl e) = ap f e ∙ first_so (f a) (list_all f peers) all
      go (inr n) = any_all f p peers (second_so (f a) (list_all f peers) all) (is_near p m n)
