-- One event that happens, taken apart and put together.
use Rattle.std.proofs.Common.{◌≡◌, ◌≢◌, ◌↔◌, ℕ, Bool, true, false, not, ◌&&◌, cond, nat_eq, nat_lt}
use Rattle.std.proofs.Common.{drop, List, [], ◌∷◌, ◌++◌, Option, Some, None, refl, ap, sym, ◌∙◌, subst}
use Rattle.std.specs.Prelude.{option_map, option_and_then, is_some}
use Rattle.std.proofs.lemmas.Bool.{eq-eqb}
use Rattle.pg_step.specs.Machines.Machine.{Input, Turn, Machine, Event, World, Taken, Own, Take, Do, node_of}
use Rattle.pg_step.specs.Machines.Machine.{is_there, first_from, input_of, without_input, turn_of, perform, happens}
use Rattle.pg_step.specs.Machines.Places.{is_pair, set_at, set_way}
use Rattle.pg_step.specs.Machines.Happened.{Happened, Took, Did, Changes}
use Rattle.pg_step.proofs.Machines.Options.{some_is, cond_is_some, map_is_some, then_is_some}
use Rattle.pg_step.proofs.Machines.Places.{set_at_here, set_at_other, set_way_here, set_way_other}

module _ {S P C O : Type 0} (m : Machine S P C O) where
  pub happened : (w v : World S P O) (e : Event C) → happens m w e ≡ Some v → Happened m w e v
  unfolding happens
  happened w v e h =
      let there = cond_is_some (is_there m.size e) (option_map (perform (without_input w e) (node_of e)) (turn_of m w e)) v h in
      let turn = map_is_some (perform (without_input w e) (node_of e)) (turn_of m w e) v there.1 in
      let input = then_is_some (m.step (node_of e) (w.node (node_of e))) (input_of w e) turn.0 turn.1 in
      record { there = there.0; input = input.0; given = input.1; turn = turn.0; made = input.2; leaves = turn.2 }

  pub turn_made : (w v : World S P O) (e : Event C) (h : Happened m w e v) → turn_of m w e ≡ Some h.turn
  turn_made w v e h = ap (option_and_then (m.step (node_of e) (w.node (node_of e)))) h.given ∙ h.made

  pub happens_so : (w v : World S P O) (e : Event C) → Happened m w e v → happens m w e ≡ Some v
  unfolding happens
  happens_so w v e h =
      ap (λ b. cond b (option_map (perform (without_input w e) (node_of e)) (turn_of m w e)) None) h.there
      ∙ ap (option_map (perform (without_input w e) (node_of e))) (turn_made w v e h) ∙ ap Some h.leaves

-- two places of a pair are apart
pub pair_apart : (size i p : ℕ) → is_pair size i p ≡ true → i ≢ p
pair_apart size i p there e = go (nat_lt i size) (nat_lt p size) (nat_eq i p) (eq-eqb i p e) there
  where
    go : (a b c : Bool) → c ≡ true → (a && (b && not c)) ≡ true → ⊥
    go true true true e h = absurd (cc)
    go true true false e h = absurd (cc)
    go true false c e h = absurd (cc)
    go false b c e h = absurd (cc)

-- a packet that is taken stood first
first_was : {P C : Type 0} (p : ℕ) (xs : List P) (input : Input P C) → first_from p xs ≡ Some input → (x : P) × (xs ≡ x ∷ drop 1 xs) × (input ≡ Taken p x)
first_was p [] input e = absurd (cc)
first_was p (x ∷ rest) input e = let same : input ≡ Taken p x = cc in (x, refl, same)

module _ {S P C O : Type 0} (m : Machine S P C O) (w v : World S P O) where
  took_so : (i p : ℕ) → Happened m w (Take i p) v → Took m w i p v
  took_so i p h =
      let first = first_was p (w.wire p i) h.input h.given in
      record {
        pair = h.there;
        packet = first.0;
        rest = drop 1 (w.wire p i);
        first = first.1;
        turn = h.turn;
        made = ap (m.step i (w.node i)) (sym first.2) ∙ h.made;
        leaves = h.leaves;
      }

  so_took : (i p : ℕ) → Took m w i p v → Happened m w (Take i p) v
  so_took i p t = record {
    there = t.pair;
    input = Taken p t.packet;
    given = ap (first_from p) t.first;
    turn = t.turn;
    made = t.made;
    leaves = ap (λ rest. perform (record w { wire = set_way w.wire p i rest }) i t.turn) (ap (drop 1) t.first) ∙ t.leaves;
  }

  did_so : (i : ℕ) (c : C) → Happened m w (Do i c) v → Did m w i c v
  did_so i c h = record {
    place = h.there;
    turn = h.turn;
    made = ap (m.step i (w.node i)) (some_is h.given) ∙ h.made;
    leaves = h.leaves;
  }

  so_did : (i : ℕ) (c : C) → Did m w i c v → Happened m w (Do i c) v
  so_did i c d = record { there = d.place; input = Own c; given = refl; turn = d.turn; made = d.made; leaves = d.leaves }

  pub took : (i p : ℕ) → (happens m w (Take i p) ≡ Some v) ↔ Took m w i p v
  took i p = (λ h. took_so i p (happened m w v (Take i p) h), λ t. happens_so m w v (Take i p) (so_took i p t))

  pub did : (i : ℕ) (c : C) → (happens m w (Do i c) ≡ Some v) ↔ Did m w i c v
  did i c = (λ h. did_so i c (happened m w v (Do i c) h), λ d. happens_so m w v (Do i c) (so_did i c d))

-- what a turn changes behind its event
pub turn_changes : {S P C O : Type 0} (size : ℕ) (w : World S P O) (e : Event C) (input : Input P C) (t : Turn S P O)
    → is_there size e ≡ true → input_of w e ≡ Some input → Changes e t w (perform (without_input w e) (node_of e) t)
turn_changes {S} {P} size w (Do i c) input t there given = record {
  state = set_at_here w.node i t.state i refl;
  states = λ j n. set_at_other w.node i t.state j n;
  taken = λ x y never. absurd never;
  sent = λ y. ap (λ (row : ℕ → List P). row y) (set_at_here w.wire i (λ z. w.wire i z ++ t.sends z) i refl);
  ways = λ x y n _. ap (λ (row : ℕ → List P). row y) (set_at_other w.wire i (λ z. w.wire i z ++ t.sends z) x n);
  reported = refl;
}
turn_changes {S} {P} size w (Take i p) input t there given =
    let apart : i ≢ p = pair_apart size i p there in
    let first = first_was p (w.wire p i) input given in
    let ways = set_way w.wire p i (drop 1 (w.wire p i)) in
    let row : ℕ → List P = λ z. ways i z ++ t.sends z in
    record {
      state = set_at_here w.node i t.state i refl;
      states = λ j n. set_at_other w.node i t.state j n;
      taken = λ x y both.
          let gone : set_at ways i row p i ≡ drop 1 (w.wire p i) =
          ap (λ (g : ℕ → List P). g i) (set_at_other ways i row p (λ e. apart (sym e))) ∙ set_way_here w.wire p i (drop 1 (w.wire p i)) in
          let here : w.wire p i ≡ first.0 ∷ set_at ways i row p i = first.1 ∙ ap (λ xs. first.0 ∷ xs) (sym gone) in
          (first.0, subst (λ z. w.wire x z ≡ first.0 ∷ set_at ways i row x z) both.1 (subst (λ z. w.wire z i ≡ first.0 ∷ set_at ways i row z i) both.0 here));
      sent = λ y. ap (λ (g : ℕ → List P). g y) (set_at_here ways i row i refl)
          ∙ ap (λ xs. xs ++ t.sends y) (set_way_other w.wire p i (drop 1 (w.wire p i)) i y (λ both. apart (sym both.0)));
      ways = λ x y n untaken. ap (λ (g : ℕ → List P). g y) (set_at_other ways i row x n)
          ∙ set_way_other w.wire p i (drop 1 (w.wire p i)) x y untaken;
      reported = refl;
    }

pub changes : {S P C O : Type 0} (m : Machine S P C O) (w v : World S P O) (e : Event C) (h : Happened m w e v) → Changes e h.turn w v
changes m w v e h = subst (Changes e h.turn w) h.leaves (turn_changes m.size w e h.input h.turn h.there h.given)

-- an event looks at its node and at what it gives it
module _ {S P C O : Type 0} (m : Machine S P C O) (w u : World S P O) (e : Event C) where
  pub same_turn : w.node (node_of e) ≡ u.node (node_of e) → input_of w e ≡ input_of u e → turn_of m w e ≡ turn_of m u e
  same_turn state input =
      ap (λ s. option_and_then (m.step (node_of e) s) (input_of w e)) state ∙ ap (option_and_then (m.step (node_of e) (u.node (node_of e)))) input

  there_or_not : (b : Bool) (f g : Turn S P O → World S P O) (r : Option (Turn S P O)) → is_some (cond b (option_map f r) None) ≡ is_some (cond b (option_map g r) None)
  there_or_not false f g r = refl
  there_or_not true f g None = refl
  there_or_not true f g (Some t) = refl

  pub same_whether : w.node (node_of e) ≡ u.node (node_of e) → input_of w e ≡ input_of u e → is_some (happens m w e) ≡ is_some (happens m u e)
  unfolding happens
  same_whether state input =
      ap (λ r. is_some (cond (is_there m.size e) (option_map (perform (without_input w e) (node_of e)) r) None)) (same_turn state input)
      ∙ there_or_not (is_there m.size e) (perform (without_input w e) (node_of e)) (perform (without_input u e) (node_of e)) (turn_of m u e)
