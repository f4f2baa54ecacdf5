-- Lists that are compared place by place, sets of places, and what is kept of groups that are named.
use Rattle.std.proofs.Common.{◌≡◌, ℕ, ◌+◌, ◌<◌, ◌≤◌, Bool, true, false, ◌||◌, nat_eq, List}
use Rattle.std.proofs.Common.{[], ◌∷◌, map, take, get_or, length, refl, sym, ap, ◌∙◌, arith}
use Rattle.std.specs.Cmp.{first_so, second_so}
use Rattle.std.specs.List.{list_all}
use Rattle.std.proofs.lemmas.Bool.{eqb-true, eq-eqb}
use Rattle.std.proofs.lemmas.List.{take_more_same, take_all, length-map, get_or-map}
use Rattle.pg_node_opens.proofs.Alike.{both_true}
use Rattle.pg_node_opens.proofs.Named.{clash}
use Rattle.pg_world_account.specs.Agreeing.{AreSameLost}
use Rattle.pg_world_account.specs.Losses.{is_lost}

-- Lists of A, of which F tells one thing for each place, that h tells of what stands there.
module _ {A C : Type 0} (h : A → C) (F : List A → List C) (len : (xs : List A) → length (F xs) ≡ length xs) (at : (xs : List A) (k : ℕ) (d : A) (e : C) → k < length xs → get_or (F xs) k e ≡ h (get_or xs k d)) where
  -- two of them at one place
  module _ (xs ys : List A) (k : ℕ) (x y : A) (within : k < length xs) (beside : k < length ys) (here : x ≡ get_or xs k x) (there : y ≡ get_or ys k y) where
    told_here : get_or (F xs) k (h x) ≡ h x
    told_here = at xs k x (h x) within ∙ ap h (sym here)

    told_there : get_or (F ys) k (h x) ≡ h y
    told_there = at ys k y (h x) beside ∙ ap h (sym there)

    pub same_more : h x ≡ h y → take k (F xs) ≡ take k (F ys) → take (k + 1) (F xs) ≡ take (k + 1) (F ys)
    same_more same before = take_more_same (F xs) (F ys) k (h x) (omega (arith, len xs, within)) (omega (arith, len ys, beside)) before (told_here ∙ (same ∙ sym told_there))

    pub same_at : F xs ≡ F ys → h x ≡ h y
    same_at same = sym told_here ∙ (ap (λ (zs : List C). get_or zs k (h x)) same ∙ told_there)

  pub same_all : (xs ys : List A) (k : ℕ) → length xs ≡ length ys → length xs ≤ k → take k (F xs) ≡ take k (F ys) → F xs ≡ F ys
  same_all xs ys k count past below = sym (take_all k (F xs) (omega (arith, len xs, past))) ∙ (below ∙ take_all k (F ys) (omega (arith, len ys, count, past)))

  pub same_length : (xs ys : List A) → F xs ≡ F ys → length xs ≡ length ys
  same_length xs ys same = sym (len xs) ∙ (ap (λ (zs : List C). length zs) same ∙ len ys)

-- what f tells, and what g tells of that
module _ {A B C : Type 0} (f : A → B) (g : B → C) where
  pub twice_length : (xs : List A) → length (map g (map f xs)) ≡ length xs
  twice_length xs = length-map (map f xs) g ∙ length-map xs f

  pub twice_at : (xs : List A) (k : ℕ) (d : A) (e : C) → k < length xs → get_or (map g (map f xs)) k e ≡ g (f (get_or xs k d))
  twice_at xs k d e within = get_or-map g (map f xs) k (f d) e (omega (arith, length-map xs f, within)) ∙ ap g (get_or-map f xs k d (f d) within)

-- ---- the nodes that are lost

among_all : (others places : List ℕ) → list_all (is_lost others) places ≡ true → (node : ℕ) → is_lost places node ≡ true → is_lost others node ≡ true
among_all others [] all node lost = absurd (clash (sym lost))
among_all others (place ∷ places) all node lost =
    go (nat_eq place node) refl lost (among_all others places (second_so (is_lost others place) (list_all (is_lost others) places) all) node)
  where
    go : (b : Bool) → nat_eq place node ≡ b → (b || is_lost places node) ≡ true → (is_lost places node ≡ true → is_lost others node ≡ true) → is_lost others node ≡ true
    go true e l later = ap (is_lost others) (sym (eqb-true place node e)) ∙ first_so (is_lost others place) (list_all (is_lost others) places) all
    go false e l later = later l

all_among : (others places : List ℕ) → ((node : ℕ) → is_lost places node ≡ true → is_lost others node ≡ true) → list_all (is_lost others) places ≡ true
all_among others [] h = refl
all_among others (place ∷ places) h =
    both_true (is_lost others place) (list_all (is_lost others) places) (h place (ap (λ b. b || is_lost places place) (eq-eqb place place refl)))
    (all_among others places (λ node lost. h node (either (nat_eq place node) (is_lost places node) lost)))
  where
    either : (b c : Bool) → c ≡ true → (b || c) ≡ true
    either true c e = refl
    either false c e = e

both_ways : (b c : Bool) → (b ≡ true → c ≡ true) → (c ≡ true → b ≡ true) → b ≡ c
both_ways true c f g = sym (f refl)
both_ways false true f g = g refl
both_ways false false f g = refl

pub lost_in_both : (lost others : List ℕ) → list_all (is_lost others) lost ≡ true → list_all (is_lost lost) others ≡ true → AreSameLost lost others
lost_in_both lost others there back = λ node. both_ways (is_lost lost node) (is_lost others node) (among_all others lost there node) (among_all lost others back node)

pub same_lost_there : (lost others : List ℕ) → AreSameLost lost others → list_all (is_lost others) lost ≡ true
same_lost_there lost others same = all_among others lost (λ node is. sym (same node) ∙ is)

pub same_lost_back : (lost others : List ℕ) → AreSameLost lost others → list_all (is_lost lost) others ≡ true
same_lost_back lost others same = all_among lost others (λ node is. same node ∙ is)
