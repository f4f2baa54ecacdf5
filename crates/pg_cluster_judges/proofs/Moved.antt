-- What one turn of a node changes in the world.
use Rattle.std.proofs.Common.{◌≡◌, ◌≢◌, ℕ, true, cond, List, [], ◌∷◌, ◌++◌, Some, refl, ap, sym, ◌∙◌, inl, inr, ◌⊎◌}
use Rattle.std.proofs.lemmas.Bool.{cases_eq, eq-eqb, ne_eqb}
use Rattle.pg_world.specs.PgStep.Machines.Machine.{Input, Turn, Machine, World, Taken, Own, Take, Do}
use Rattle.pg_world.specs.PgStep.Machines.Machine.{is_there, first_from, without_input, perform, happens}
use Rattle.pg_world.specs.PgStep.Machines.Happened.{Happened, Changes}
use Rattle.pg_world.proofs.PgStep.Machines.Steps.{happens_so, changes}
use Rattle.pg_cluster_judges.specs.Logs.{event_of, packet_from}

pub record Moved {S P C O : Type 0} (m : Machine S P C O) (w v : World S P O) (i : ℕ) (input : Input P C) (turn : Turn S P O) : Type 0 where
  pub happens_ : happens m w (event_of i input) ≡ Some v
  pub state : v.node i ≡ turn.state
  pub states : (j : ℕ) → j ≢ i → v.node j ≡ w.node j
  pub taken : (p : ℕ) → p ≢ i → w.wire p i ≡ packet_from p input ++ v.wire p i
  pub sent : (q : ℕ) → v.wire i q ≡ w.wire i q ++ turn.sends q
  pub ways : (p q : ℕ) → p ≢ i → q ≢ i → v.wire p q ≡ w.wire p q
  pub reported : v.reported ≡ w.reported ++ (i, turn.reported) ∷ []

module _ {S P C O : Type 0} (m : Machine S P C O) (w : World S P O) (i : ℕ) where
  pub own_moved : (c : C) (turn : Turn S P O) → is_there m.size (Do i c) ≡ true → m.step i (w.node i) (Own c) ≡ Some turn
      → Moved m w (perform w i turn) i (Own c) turn
  own_moved c turn there made =
      let h : Happened m w (Do i c) (perform w i turn) = record { there = there; input = Own c; given = refl; turn = turn; made = made; leaves = refl } in
      let change : Changes (Do i c) turn w (perform w i turn) = changes m w (perform w i turn) (Do i c) h in
      record {
        happens_ = happens_so m w (perform w i turn) (Do i c) h;
        state = change.state;
        states = change.states;
        taken = λ p apart. sym (change.ways p i apart (λ never. never));
        sent = change.sent;
        ways = λ p q apart _. change.ways p q apart (λ never. never);
        reported = change.reported;
      }

  pub take_moved : (p : ℕ) (x : P) (xs : List P) (turn : Turn S P O) → is_there {C = C} m.size (Take i p) ≡ true → m.step i (w.node i) (Taken p x) ≡ Some turn → w.wire p i ≡ x ∷ xs
      → Moved m w (perform (without_input {C = C} w (Take i p)) i turn) i (Taken p x) turn
  take_moved p x xs turn there made first =
      let v : World S P O = perform (without_input {C = C} w (Take i p)) i turn in
      let h : Happened m w (Take i p) v = record { there = there; input = Taken p x; given = ap (first_from p) first; turn = turn; made = made; leaves = refl } in
      let change : Changes {C = C} (Take i p) turn w v = changes m w v (Take i p) h in
      record {
        happens_ = happens_so m w v (Take i p) h;
        state = change.state;
        states = change.states;
        taken = λ k apart. from_or_not v change k apart (cases_eq p k);
        sent = change.sent;
        ways = λ k q apart other. change.ways k q apart (λ both. other (sym both.1));
        reported = change.reported;
      }
    where
      from_or_not : (v : World S P O) → Changes {C = C} (Take i p) turn w v → (k : ℕ) → k ≢ i → (p ≡ k) ⊎ (p ≡ k → ⊥) → w.wire k i ≡ packet_from {C = C} k (Taken p x) ++ v.wire k i
      from_or_not v change k apart (inl same) =
          let gone = change.taken k i (same, refl) in
          let both : gone.0 ∷ v.wire k i ≡ x ∷ xs = sym gone.1 ∙ ap (λ z. w.wire z i) (sym same) ∙ first in
          let packet : gone.0 ≡ x = cc in
          gone.1 ∙ ap (λ z. z ∷ v.wire k i) packet ∙ ap (λ b. cond b (x ∷ []) [] ++ v.wire k i) (sym (eq-eqb p k same))
      from_or_not v change k apart (inr other) =
          sym (change.ways k i apart (λ both. other both.0)) ∙ ap (λ b. cond b (x ∷ []) [] ++ v.wire k i) (sym (ne_eqb p k other))
