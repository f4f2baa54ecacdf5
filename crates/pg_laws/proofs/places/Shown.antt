-- A world that keeps its nodes by their places shows one that keeps them by their names, before and after each turn.
use Rattle.std.proofs.Common.{◌≡◌, ℕ, Bool, true, false, cond, nat_eq, length, map, List}
use Rattle.std.proofs.Common.{[], ◌∷◌, ◌++◌, Option, Some, None, refl, ap, sym, ◌∙◌}
use Rattle.std.specs.List.{IsDistinct}
use Rattle.std.proofs.lemmas.Bool.{eqb-true}
use Rattle.std.proofs.lemmas.List.{map-append, append-nil}
use Rattle.pg_term.specs.declared.term.Term.{Term}
use Rattle.pg_term.specs.Same.{same_atom}
use Rattle.pg_step.specs.PgGroup.declared.update.Update.{Update}
use Rattle.pg_step.specs.PgGroup.Functions.{upd}
use Rattle.pg_step.specs.PgMessageTypes.declared.message.Message.{Message}
use Rattle.pg_step.specs.declared.command.OpId.{OpId}
use Rattle.pg_step.specs.Machines.Places.{is_place, set_at, set_way}
use Rattle.pg_step.specs.Machines.Machine.{perform as perform_at}
use Rattle.pg_step.specs.Nodes.{Node, Nodes}
use Rattle.pg_step.specs.Turns.{NodeTurn, Report}
use Rattle.pg_step.specs.Config.{Config, names_of, name_at, nodes_at}
use Rattle.pg_step.specs.FrameMachine.{place_turn, FrameWorld}
use Rattle.pg_laws.specs.History.{Entry as Begun, entries, entry_of as begun_by}
use Rattle.pg_laws.specs.History.{all_reported, update_of, update_by, applied_by}
use Rattle.pg_laws.proofs.steps.Ways.{told_append}
use Rattle.pg_laws.proofs.steps.Grows.{entries_append}
use Rattle.pg_laws.proofs.locks.Telling.{on-append}
use Rattle.pg_laws.proofs.places.Located.{same_names}
use Rattle.pg_laws.proofs.locks.Named.{World, Entry, perform, popped, listed, entry_of, answer_of, on}

abbrev pub IsHere : Config → ℕ → Type 0
IsHere config i = is_place (length config) i ≡ true

-- an entry, with its node by name
abbrev pub by_name : Config → Begun → Entry
by_name config e = record { node = name_at config e.node; op = e.op; update = e.update }

-- the commands that were answered behind their locks, each with its node's name
abbrev pub answers : Config → List (ℕ × Report) → List (Node × OpId)
answers config reported = all_reported (λ (t : ℕ × Report). answer_of (name_at config t.0) t.1.answered) reported

-- with nodes that know one another, and have seen losses, as these say
pub record ShowsAs (config : Config) (seats : ℕ → Nodes) (saw : Node → Node → Bool) (v : FrameWorld) (w : World) : Type 0 where
  pub nodes : w.nodes ≡ names_of config
  pub seen : w.seen ≡ saw
  pub seat : (i : ℕ) → IsHere config i → w.seat (name_at config i) ≡ seats i
  pub node : (i : ℕ) → IsHere config i → w.node (name_at config i) ≡ v.node i
  pub wire : (x y : ℕ) → IsHere config x → IsHere config y → w.wire (name_at config x) (name_at config y) ≡ v.wire x y
  pub log : (i : ℕ) (N : Term) → IsHere config i → on N (w.log (name_at config i)) ≡ applied_by i N v.reported
  pub history : w.history ≡ map (by_name config) (entries v.reported)
  pub answered : w.answered ≡ answers config v.reported

-- where nobody has seen a loss
abbrev pub Shows : Config → FrameWorld → World → Type 0
Shows config v w = ShowsAs config (nodes_at config) (λ x y. false) v w

-- ---- what is told

on_one : (N : Term) (o : Option Update) → on N (listed o) ≡ update_of N o
on_one N None = refl
on_one N (Some u) = refl

entry_by_name : (config : Config) (i : ℕ) (o : Option (OpId × Update)) → map (by_name config) (begun_by i o ++ []) ≡ entry_of (name_at config i) o
entry_by_name config i None = refl
entry_by_name config i (Some x) = refl

module _ (config : Config) (apart : IsDistinct same_atom (names_of config)) where
  -- ---- functions changed at a place, and at its name

  put : {A : Type 0} (f : ℕ → A) (g : Node → A) (x y : A) (i j : ℕ) → IsHere config i → IsHere config j → x ≡ y → g (name_at config j) ≡ f j
      → upd same_atom g (name_at config i) x (name_at config j) ≡ set_at f i y j
  unfolding upd
  put f g x y i j there here e d = λ k. cond (same_names config apart i j there here k) (e k) (d k)

  put_row : {A : Type 0} (f : ℕ → ℕ → A) (g : Node → Node → A) (row : Node → A) (places : ℕ → A) (i j z : ℕ) → IsHere config i → IsHere config j
      → (i ≡ j → row (name_at config z) ≡ places z) → g (name_at config j) (name_at config z) ≡ f j z
      → upd {A = Node → A} same_atom g (name_at config i) row (name_at config j) (name_at config z) ≡ set_at {A = ℕ → A} f i places j z
  unfolding upd
  put_row {A} f g row places i j z there here e d =
      ap (λ b. cond {A = Node → A} b row (g (name_at config j)) (name_at config z)) (same_names config apart i j there here) ∙ go (nat_eq i j) (λ is. e (eqb-true i j is))
    where
      go : (b : Bool) → (b ≡ true → row (name_at config z) ≡ places z)
          → cond {A = Node → A} b row (g (name_at config j)) (name_at config z) ≡ cond {A = ℕ → A} b places (f j) z
      go true e = e refl
      go false e = d

  -- ---- a packet is gone

  pub shows_popped : {seat : ℕ → Nodes} {seen : Node → Node → Bool} (v : FrameWorld) (w : World) (p i : ℕ) (rest : List Message) → IsHere config p → IsHere config i → ShowsAs config seat seen v w
      → ShowsAs config seat seen (record v { wire = set_way v.wire p i rest }) (popped w (name_at config p) (name_at config i) rest)
  shows_popped v w p i rest from to shows = record {
    nodes = shows.nodes;
    seen = shows.seen;
    seat = shows.seat;
    node = shows.node;
    wire = λ x y hx hy. put_row v.wire w.wire (upd same_atom (w.wire (name_at config p)) (name_at config i) rest) (set_at (v.wire p) i rest) p x y from hx
        (λ _. put (v.wire p) (w.wire (name_at config p)) rest rest i y to hy refl (shows.wire p y from hy)) (shows.wire x y hx hy);
    log = shows.log;
    history = shows.history;
    answered = shows.answered;
  }

  -- ---- a turn

  module _ {seat : ℕ → Nodes} {seen : Node → Node → Bool} (v : FrameWorld) (w : World) (i : ℕ) (there : IsHere config i) (t : NodeTurn) (shows : ShowsAs config seat seen v w) where
    abbrev pub a : Node
    a = name_at config i

    sent : (y : ℕ) → IsHere config y → t.sends (name_at config y) ≡ (place_turn config t).sends y
    sent y here = ap (λ b. cond b (t.sends (name_at config y)) []) (sym here)

    log_after : (j : ℕ) (N : Term) → IsHere config j → on N ((perform w a t).log (name_at config j)) ≡ applied_by j N (v.reported ++ (i, t.reported) ∷ [])
    unfolding upd
    log_after j N here =
        ap (λ b. on N (cond b (w.log a ++ listed t.reported.applied) (w.log (name_at config j)))) (same_names config apart i j there here)
        ∙ go (nat_eq i j) (λ is. eqb-true i j is)
        ∙ ap (λ us. applied_by j N v.reported ++ us) (sym (append-nil (cond (nat_eq i j) (update_of N t.reported.applied) [])))
        ∙ sym (told_append (update_by j N) v.reported ((i, t.reported) ∷ []))
      where
        go : (b : Bool) → (b ≡ true → i ≡ j) → on N (cond b (w.log a ++ listed t.reported.applied) (w.log (name_at config j))) ≡ applied_by j N v.reported ++ cond b (update_of N t.reported.applied) []
        go true own = on-append N (w.log a) (listed t.reported.applied) ∙ (λ k. (shows.log i N there ∙ ap (λ z. applied_by z N v.reported) (own refl)) k ++ on_one N t.reported.applied k)
        go false own = shows.log j N here ∙ sym (append-nil (applied_by j N v.reported))

    pub shows_performed : ShowsAs config seat seen (perform_at v i (place_turn config t)) (perform w a t)
    shows_performed = record {
      nodes = shows.nodes;
      seen = shows.seen;
      seat = shows.seat;
      node = λ j here. put v.node w.node t.state t.state i j there here refl (shows.node j here);
      wire = λ x y hx hy. put_row v.wire w.wire (λ z. w.wire a z ++ t.sends z) (λ z. v.wire i z ++ (place_turn config t).sends z) i x y there hx
          (λ _. λ k. shows.wire i y there hy k ++ sent y hy k) (shows.wire x y hx hy);
      log = log_after;
      history = (λ k. shows.history k ++ sym (entry_by_name config i t.reported.began) k)
          ∙ sym (ap (map (by_name config)) (entries_append v.reported ((i, t.reported) ∷ [])) ∙ map-append (by_name config) (entries v.reported) (entries ((i, t.reported) ∷ [])));
      answered = ap (λ xs. xs ++ answer_of a t.reported.answered) shows.answered
          ∙ ap (λ xs. answers config v.reported ++ xs) (sym (append-nil (answer_of a t.reported.answered)))
          ∙ sym (told_append (λ (t : ℕ × Report). answer_of (name_at config t.0) t.1.answered) v.reported ((i, t.reported) ∷ []));
    }
