-- The peers of a node of a configuration whose names differ: not itself, and each other node.
use Rattle.std.proofs.Common.{◌≡◌, ◌≢◌, ℕ, ◌<◌, ◌≤◌, zero, suc, Bool, true, false, not, ◌&&◌, ◌||◌, cond, nat_eq}
use Rattle.std.proofs.Common.{length, List, [], ◌∷◌, Some, Result, Ok, Err, refl, ap, sym, subst, ◌∙◌, arith}
use Rattle.std.specs.Prelude.{unwrap_or, slice_get}
use Rattle.std.specs.List.{AllByRecursion, IsDistinct, list_any, filter, remove}
use Rattle.std.proofs.lemmas.Bool.{eqb-false}
use Rattle.std.proofs.lemmas.Bool.Decides.{Decides-ltb}
use Rattle.std.proofs.lemmas.List.{length-map}
use Rattle.std.proofs.lemmas.Map.Keys.{IsDistinct-head, IsDistinct-tail}
use Rattle.std.specs.Cmp.{first_so, second_so}
use Rattle.pg_term.specs.Same.{same_atom}
use Rattle.pg_message_types.specs.declared.message.Message.{Message}
use Rattle.pg_step.specs.Machines.Places.{is_place, is_pair}
use Rattle.pg_step.specs.Machines.Machine.{Input, Turn, Event, Taken, Own, Take, Do, node_of, first_from}
use Rattle.pg_step.specs.Machines.Happened.{Happened}
use Rattle.pg_step.specs.Nodes.{Node, Nodes, is_peer}
use Rattle.pg_step.specs.State.{State, live_nodes}
use Rattle.pg_step.specs.Turns.{NodeTurn, Report}
use Rattle.pg_step.specs.Step.{Action, taken, node_takes, node_acts}
use Rattle.pg_step.specs.Config.{Config, names_of, name_at, nodes_at, ports_at}
use Rattle.pg_step.specs.FrameMachine.{placed, node_step, machine_of, FrameWorld}
use Rattle.pg_step.specs.declared.refusal.Refusal.{Refusal}
use Rattle.pg_step.specs.declared.refusal.Refusal.TheVariants.{NodeLost}
use Rattle.pg_step.specs.StepLaws.{comes_from_there, SendsOne}
use Rattle.pg_step.proofs.Machines.Options.{some_is}
use Rattle.pg_step.proofs.Once.{same_is, is_same, clash, OnceIfOk, acts_once, takes_once}

-- ---- lists of names

abbrev name_of_place : List Node → ℕ → Node
name_of_place names i = unwrap_or (slice_get names i) []

all_at : (P : Node → Type 0) (xs : List Node) (i : ℕ) → i < length xs → AllByRecursion P xs → P (name_of_place xs i)
all_at P [] i lt h = absurd (omega arith)
all_at P (x ∷ xs) zero lt h = h.0
all_at P (x ∷ xs) (suc i) lt h = all_at P xs i (omega arith) h.1

any_at : (test : Node → Bool) (xs : List Node) (i : ℕ) → i < length xs → test (name_of_place xs i) ≡ true → list_any test xs ≡ true
any_at test [] i lt h = absurd (omega arith)
any_at test (x ∷ xs) zero lt h = ap (λ b. b || list_any test xs) h
any_at test (x ∷ xs) (suc i) lt h = later (test x) (list_any test xs) (any_at test xs i (omega arith) h)
  where
    later : (b d : Bool) → d ≡ true → (b || d) ≡ true
    later true d e = refl
    later false d e = e

none_of : (test : Node → Bool) (xs : List Node) → AllByRecursion (λ y. test y ≡ false) xs → list_any test xs ≡ false
none_of test [] h = refl
none_of test (x ∷ xs) h = ap (λ b. b || list_any test xs) h.0 ∙ none_of test xs h.1

-- no other place has the name of this one
own_apart : (names : List Node) (i : ℕ) → i < length names → IsDistinct same_atom names → list_any (same_atom (name_of_place names i)) (remove names i) ≡ false
own_apart [] i lt apart = absurd (omega arith)
own_apart (x ∷ xs) zero lt apart = none_of (same_atom x) xs (IsDistinct-head same_atom x xs apart)
own_apart (x ∷ xs) (suc i) lt apart = ap (λ b. b || list_any (same_atom (name_of_place xs i)) (remove xs i)) first ∙ own_apart xs i (omega arith) (IsDistinct-tail same_atom x xs apart)
  where
    there : same_atom x (name_of_place xs i) ≡ false
    there = all_at (λ y. same_atom x y ≡ false) xs i (omega arith) (IsDistinct-head same_atom x xs apart)

    first : same_atom (name_of_place xs i) x ≡ false
    first = go (same_atom (name_of_place xs i) x) refl
      where
        go : (b : Bool) → same_atom (name_of_place xs i) x ≡ b → same_atom (name_of_place xs i) x ≡ false
        go false is = is
        go true is = absurd (clash (sym (is_same x) ∙ sym (ap (same_atom x) (same_is (name_of_place xs i) x is)) ∙ there))

-- and each other place has a name among the others
other_there : (names : List Node) (i p : ℕ) → p < length names → i ≢ p → list_any (same_atom (name_of_place names p)) (remove names i) ≡ true
other_there [] i p lt ne = absurd (omega arith)
other_there (x ∷ xs) zero zero lt ne = absurd (ne refl)
other_there (x ∷ xs) zero (suc p) lt ne = any_at (same_atom (name_of_place xs p)) xs p (omega arith) (is_same (name_of_place xs p))
other_there (x ∷ xs) (suc i) zero lt ne = ap (λ b. b || list_any (same_atom x) (remove xs i)) (is_same x)
other_there (x ∷ xs) (suc i) (suc p) lt ne =
    later (same_atom (name_of_place xs p) x) (list_any (same_atom (name_of_place xs p)) (remove xs i)) (other_there xs i p (omega arith) (λ e. ne (ap suc e)))
  where
    later : (b d : Bool) → d ≡ true → (b || d) ≡ true
    later true d e = refl
    later false d e = e

not_so : (b : Bool) → not b ≡ true → b ≡ false
not_so true e = absurd (cc)
not_so false e = refl

-- ---- those that are live

none_kept : (test keep : Node → Bool) (xs : List Node) → list_any test xs ≡ false → list_any test (filter keep xs) ≡ false
none_kept test keep [] none = refl
none_kept test keep (x ∷ xs) none = go (test x) (keep x) refl none (none_kept test keep xs)
  where
    go : (b d : Bool) → test x ≡ b → (b || list_any test xs) ≡ false → (list_any test xs ≡ false → list_any test (filter keep xs) ≡ false)
        → list_any test (cond d (x ∷ filter keep xs) (filter keep xs)) ≡ false
    go true d is e rest = absurd (cc)
    go false true is e rest = ap (λ b. b || list_any test (filter keep xs)) is ∙ rest e
    go false false is e rest = rest e

-- a peer that is not lost is live
still_there : (lost : Node → Bool) (p : Node) (xs : List Node) → lost p ≡ false → list_any (same_atom p) xs ≡ true → list_any (same_atom p) (filter (λ q. not (lost q)) xs) ≡ true
still_there lost p [] lives there = there
still_there lost p (x ∷ xs) lives there = go (same_atom p x) (lost x) refl refl there (still_there lost p xs lives)
  where
    rest : List Node
    rest = filter (λ q. not (lost q)) xs

    go : (b d : Bool) → same_atom p x ≡ b → lost x ≡ d → (b || list_any (same_atom p) xs) ≡ true → (list_any (same_atom p) xs ≡ true → list_any (same_atom p) rest ≡ true)
        → list_any (same_atom p) (cond (not d) (x ∷ rest) rest) ≡ true
    go true true is gone e later = absurd (clash (sym gone ∙ (ap lost (sym (same_is p x is)) ∙ lives)))
    go true false is gone e later = ap (λ b. b || list_any (same_atom p) rest) is
    go false true is gone e later = later e
    go false false is gone e later = ap (λ b. b || list_any (same_atom p) rest) is ∙ later e

-- ---- places of a configuration

module _ (config : Config) (apart : IsDistinct same_atom (names_of config)) (i : ℕ) where
  place_below : (j : ℕ) → is_place (length config) j ≡ true → j < length (names_of config)
  place_below j there = subst (λ n. j < n) (sym (length-map config (λ start. start.name))) ((Decides-ltb j (length config)).0 there)

  pub alone : is_place (length config) i ≡ true → is_peer (nodes_at config i) (name_at config i) ≡ false
  alone there = own_apart (names_of config) i (place_below i there) apart

  peer_there : (p : ℕ) → is_pair (length config) i p ≡ true → is_peer (nodes_at config i) (name_at config p) ≡ true
  peer_there p pair =
      let both : (is_place (length config) p && not (nat_eq i p)) ≡ true = second_so (is_place (length config) i) _ pair in
      other_there (names_of config) i p (place_below p (first_so (is_place (length config) p) _ both))
      (eqb-false i p (not_so (nat_eq i p) (second_so (is_place (length config) p) _ both)))

  alone_left : (s : State) → is_place (length config) i ≡ true → is_peer (live_nodes (nodes_at config i) s) (name_at config i) ≡ false
  alone_left s there = none_kept (same_atom (name_at config i)) (λ q. not (s.lost q)) (nodes_at config i).peers (alone there)

  sends_one : (s : State) (r : Result NodeTurn Refusal) (t : Turn State Message Report) (there : is_place (length config) i ≡ true)
      → ((q : Node) → OnceIfOk (live_nodes (nodes_at config i) s) (alone_left s there) q r) → placed config r ≡ Some t → SendsOne i t
  sends_one s (Err f) t there each made = absurd (cc)
  sends_one s (Ok n) t there each made = subst (SendsOne i) (some_is made) (record {
    one = λ q. below (is_place (length config) q) q;
    none_to_itself = nothing (is_place (length config) i);
  })
    where
      below : (b : Bool) (q : ℕ) → length (cond b (n.sends (name_at config q)) []) ≤ 1
      below true q = (each (name_at config q)).one
      below false q = omega arith

      nothing : (b : Bool) → cond b (n.sends (name_at config i)) [] ≡ []
      nothing true = (each (name_at config i)).peers (alone_left s there)
      nothing false = refl

  pub step_sends_one : (s : State) (input : Input Message Action) (t : Turn State Message Report) → comes_from_there (length config) i input ≡ true
      → node_step config i s input ≡ Some t → SendsOne i t
  step_sends_one s (Taken p x) t pair made =
      let there : is_place (length config) i ≡ true = first_so (is_place (length config) i) _ pair in
      sends_one s (node_takes (nodes_at config i) (name_at config p) x s) t there (λ q. go there q (s.lost (name_at config p)) refl) made
    where
      m : Nodes
      m = live_nodes (nodes_at config i) s

      go : (there : is_place (length config) i ≡ true) (q : Node) (b : Bool) → s.lost (name_at config p) ≡ b → OnceIfOk m (alone_left s there) q (cond b (Err NodeLost) (taken m (name_at config p) x s))
      go there q true _ = tt
      go there q false lives =
          takes_once m (alone_left s there) q (name_at config p) (still_there s.lost (name_at config p) (nodes_at config i).peers lives (peer_there p pair)) x s
  step_sends_one s (Own action) t there made =
      sends_one s (node_acts (nodes_at config i) (ports_at config i) action s) t there
      (λ q. acts_once (live_nodes (nodes_at config i) s) (alone_left s there) q (nodes_at config i) (ports_at config i) action s) made

pub event_sends_one : (config : Config) (w v : FrameWorld) (e : Event Action) (h : Happened (machine_of config) w e v) → IsDistinct same_atom (names_of config) → SendsOne (node_of e) h.turn
event_sends_one config w v (Do i action) h apart =
    step_sends_one config apart i (w.node i) h.input h.turn
    (subst (λ x. comes_from_there (length config) i x ≡ true) (some_is h.given) h.there) h.made
event_sends_one config w v (Take i p) h apart = go (w.wire p i) h.given
  where
    go : (xs : List Message) → first_from p xs ≡ Some h.input → SendsOne i h.turn
    go [] given = absurd (cc)
    go (x ∷ xs) given = step_sends_one config apart i (w.node i) h.input h.turn
        (subst (λ y. comes_from_there (length config) i y ≡ true) (some_is given) h.there) h.made
