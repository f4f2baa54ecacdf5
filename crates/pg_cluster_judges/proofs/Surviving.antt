-- Nodes that were not lost, looked at by their places.
use Rattle.std.proofs.Common.{◌≡◌, ◌<◌, ◌+◌, ℕ, zero, suc, List, [], ◌∷◌, length}
use Rattle.std.proofs.Common.{get_or, refl, sym, ap, ap₂, subst, ◌∙◌, arith, inl, inr}
use Rattle.std.specs.Prelude.{Bool, true, false, ◌||◌, ◌&&◌, not, is_some, slice_index_or, Some, None}
use Rattle.std.specs.List.{All, list_all, list_any}
use Rattle.std.proofs.lemmas.Bool.{cases_eq}
use Rattle.std.proofs.lemmas.List.{get_or-map, get_or_default}
use Rattle.pg_term.specs.declared.term.Term.{Term}
use Rattle.pg_world.specs.PgGroup.declared.table.GroupTable.{Ghosts}
use Rattle.pg_world.specs.PgGroup.Table.{AreNames, Table}
use Rattle.pg_world.specs.PgGroup.Value.{Value}
use Rattle.pg_world.specs.PgNode.declared.node.Node.{Node}
use Rattle.pg_world.specs.PgWorldPackets.Views.{peer_place}
use Rattle.pg_node_run.specs.declared.log.NodeEvent.{NodeEvent}
use Rattle.pg_cluster_judges.specs.Judges.{HasAs, formed_in, state_in}
use Rattle.pg_cluster_judges.specs.Survivors.{AgreesOf, AreOneOf, Log, any_before, has_event}
use Rattle.pg_cluster_judges.specs.Survivors.{is_compared, log_at, survivors, was_lost}
use Rattle.pg_cluster_judges.proofs.Agreeing.{named_all, of_named}

-- ---- places

or_true : (b : Bool) → (b || true) ≡ true
or_true true = refl
or_true false = refl

pub or_right : (b c : Bool) → c ≡ true → (b || c) ≡ true
or_right true c e = refl
or_right false c e = e

and_false : (b c : Bool) → c ≡ false → (b && c) ≡ false
and_false true c e = e
and_false false c e = refl

pub any_found : (f : ℕ → Bool) (k n : ℕ) → k < n → f k ≡ true → any_before f n ≡ true
any_found f k zero low is = absurd (omega (arith, low))
any_found f k (suc n) low is = elim (cases_eq k n) [
  | inl e ↦ or_right (any_before f n) (f n) (subst (λ i. f i ≡ true) e is)
  | inr apart ↦ ap (λ b. b || f n) (any_found f k n (omega (arith, low, apart)) is)
]

pub any_none : (f : ℕ → Bool) (n : ℕ) → ((k : ℕ) → k < n → f k ≡ false) → any_before f n ≡ false
any_none f zero none = refl
any_none f (suc n) none = ap₂ (λ a b. a || b) (any_none f n (λ k low. none k (omega (arith, low)))) (none n (omega arith))

-- one more place
pub more_places : (Q : ℕ → Type 0) (place : ℕ) → ((k : ℕ) → k < place → Q k) → Q place → (k : ℕ) → k < place + 1 → Q k
more_places Q place before here k low = elim (cases_eq k place) [
  | inl e ↦ subst Q (sym e) here
  | inr apart ↦ before k (omega (arith, low, apart))
]

-- ---- logs

pub log_here : (logs : List Log) (place : ℕ) (log : Log) (entries : List (ℕ × NodeEvent)) → place < length logs → log ≡ get_or logs place log → entries ≡ log.items → entries ≡ log_at logs place
log_here logs place log entries low is same = same ∙ (ap (λ (l : Log). l.items) is ∙ sym (get_or-map (λ (l : Log). l.items) logs place log [] low))

-- whether a node that was not lost lacks an event, by whether its log has it
pub missing_here : (wanted : ℕ → NodeEvent → Bool) (lost : List Bool) (logs : List Log) (node place peer : ℕ) (log : Log) (entries : List (ℕ × NodeEvent)) (has : Bool) → place < length logs
    → log ≡ get_or logs place log → entries ≡ log.items → peer ≡ peer_place place node → has ≡ has_event (wanted peer) entries → was_lost lost place ≡ false
    → (not (was_lost lost place) && not (has_event (wanted (peer_place place node)) (log_at logs place))) ≡ not has
missing_here wanted lost logs node place peer log entries has low is same at told kept =
    ap₂ (λ a b. not a && not b) kept (sym (told ∙ ap₂ (λ p es. has_event (wanted p) es) at (log_here logs place log entries low is same)))

-- ---- those that were not lost

module _ {A : Type 0} where
  pub survivors_all : (P : A → Type 0) (lost : List Bool) (xs : List A) → ((k : ℕ) (d : A) → k < length xs → was_lost lost k ≡ false → P (get_or xs k d)) → All P (survivors lost xs)
  survivors_all P lost [] h k d low = absurd (omega (arith, low))
  survivors_all P [] (x ∷ xs) h zero d low = h 0 d (omega arith) refl
  survivors_all P [] (x ∷ xs) h (suc k) d low = survivors_all P [] xs (λ j e l kept. h (suc j) e (omega (arith, l)) refl) k d (omega (arith, low))
  survivors_all P (true ∷ lost) (x ∷ xs) h k d low = survivors_all P lost xs (λ j e l kept. h (suc j) e (omega (arith, l)) kept) k d low
  survivors_all P (false ∷ lost) (x ∷ xs) h zero d low = h 0 d (omega arith) refl
  survivors_all P (false ∷ lost) (x ∷ xs) h (suc k) d low = survivors_all P lost xs (λ j e l kept. h (suc j) e (omega (arith, l)) kept) k d (omega (arith, low))

  pub all_survivors : (P : A → Type 0) (lost : List Bool) (xs : List A) → All P (survivors lost xs) → (k : ℕ) (d : A) → k < length xs → was_lost lost k ≡ false → P (get_or xs k d)
  all_survivors P lost [] all k d low kept = absurd (omega (arith, low))
  all_survivors P [] (x ∷ xs) all zero d low kept = all 0 d (omega arith)
  all_survivors P [] (x ∷ xs) all (suc k) d low kept = all_survivors P [] xs (λ j e l. all (suc j) e (omega (arith, l))) k d (omega (arith, low)) refl
  all_survivors P (true ∷ lost) (x ∷ xs) all zero d low kept = absurd (cc)
  all_survivors P (true ∷ lost) (x ∷ xs) all (suc k) d low kept = all_survivors P lost xs all k d (omega (arith, low)) kept
  all_survivors P (false ∷ lost) (x ∷ xs) all zero d low kept = all 0 d (omega arith)
  all_survivors P (false ∷ lost) (x ∷ xs) all (suc k) d low kept = all_survivors P lost xs (λ j e l. all (suc j) e (omega (arith, l))) k d (omega (arith, low)) kept

  pub any_not : (f : A → Bool) (xs : List A) → All (λ x. f x ≡ false) xs → list_any f xs ≡ false
  any_not f [] all = refl
  any_not f (x ∷ xs) all = ap₂ (λ a b. a || b) (all 0 x (omega arith)) (any_not f xs (λ j e l. all (suc j) e (omega (arith, l))))

  pub all_so : (f : A → Bool) (xs : List A) → All (λ x. f x ≡ true) xs → list_all f xs ≡ true
  all_so f [] all = refl
  all_so f (x ∷ xs) all = ap₂ (λ a b. a && b) (all 0 x (omega arith)) (all_so f xs (λ j e l. all (suc j) e (omega (arith, l))))

  pub no_survivor : (f : A → Bool) (lost : List Bool) (xs : List A) → ((k : ℕ) (d : A) → k < length xs → was_lost lost k ≡ false → f (get_or xs k d) ≡ false) → list_any f (survivors lost xs) ≡ false
  no_survivor f lost xs h = any_not f (survivors lost xs) (survivors_all (λ x. f x ≡ false) lost xs h)

  pub each_survivor : (f : A → Bool) (lost : List Bool) (xs : List A) → ((k : ℕ) (d : A) → k < length xs → was_lost lost k ≡ false → f (get_or xs k d) ≡ true) → list_all f (survivors lost xs) ≡ true
  each_survivor f lost xs h = all_so f (survivors lost xs) (survivors_all (λ x. f x ≡ true) lost xs h)

  pub any_survivor : (f : A → Bool) (lost : List Bool) (xs : List A) (k : ℕ) (d : A) → k < length xs → was_lost lost k ≡ false → f (get_or xs k d) ≡ true → list_any f (survivors lost xs) ≡ true
  any_survivor f lost [] k d low kept is = absurd (omega (arith, low))
  any_survivor f [] (x ∷ xs) zero d low kept is = ap (λ b. b || list_any f (survivors [] xs)) is
  any_survivor f [] (x ∷ xs) (suc k) d low kept is = or_right (f x) (list_any f (survivors [] xs)) (any_survivor f [] xs k d (omega (arith, low)) refl is)
  any_survivor f (true ∷ lost) (x ∷ xs) zero d low kept is = absurd (cc)
  any_survivor f (true ∷ lost) (x ∷ xs) (suc k) d low kept is = any_survivor f lost xs k d (omega (arith, low)) kept is
  any_survivor f (false ∷ lost) (x ∷ xs) zero d low kept is = ap (λ b. b || list_any f (survivors lost xs)) is
  any_survivor f (false ∷ lost) (x ∷ xs) (suc k) d low kept is = or_right (f x) (list_any f (survivors lost xs)) (any_survivor f lost xs k d (omega (arith, low)) kept is)

  pub not_each : (f : A → Bool) (lost : List Bool) (xs : List A) (k : ℕ) (d : A) → k < length xs → was_lost lost k ≡ false → f (get_or xs k d) ≡ false → list_all f (survivors lost xs) ≡ false
  not_each f lost [] k d low kept is = absurd (omega (arith, low))
  not_each f [] (x ∷ xs) zero d low kept is = ap (λ b. b && list_all f (survivors [] xs)) is
  not_each f [] (x ∷ xs) (suc k) d low kept is = and_false (f x) (list_all f (survivors [] xs)) (not_each f [] xs k d (omega (arith, low)) refl is)
  not_each f (true ∷ lost) (x ∷ xs) zero d low kept is = absurd (cc)
  not_each f (true ∷ lost) (x ∷ xs) (suc k) d low kept is = not_each f lost xs k d (omega (arith, low)) kept is
  not_each f (false ∷ lost) (x ∷ xs) zero d low kept is = ap (λ b. b && list_all f (survivors lost xs)) is
  not_each f (false ∷ lost) (x ∷ xs) (suc k) d low kept is = and_false (f x) (list_all f (survivors lost xs)) (not_each f lost xs k d (omega (arith, low)) kept is)

  -- one more node
  pub more_nodes : (P : A → Type 0) (lost : List Bool) (xs : List A) (place : ℕ) (d : A) → ((k : ℕ) (e : A) → k < place → was_lost lost k ≡ false → P (get_or xs k e)) → place < length xs
      → P (get_or xs place d) → (k : ℕ) (e : A) → k < place + 1 → was_lost lost k ≡ false → P (get_or xs k e)
  more_nodes P lost xs place d before low here k e less kept = elim (cases_eq k place) [
    | inl at ↦ subst (λ (i : ℕ). P (get_or xs i e)) (sym at) (subst P (get_or_default xs place d e low) here)
    | inr apart ↦ before k e (omega (arith, less, apart)) kept
  ]

  -- a node that was lost
  pub more_lost : (P : A → Type 0) (lost : List Bool) (xs : List A) (place : ℕ) → ((k : ℕ) (e : A) → k < place → was_lost lost k ≡ false → P (get_or xs k e)) → was_lost lost place ≡ true
      → (k : ℕ) (e : A) → k < place + 1 → was_lost lost k ≡ false → P (get_or xs k e)
  more_lost P lost xs place before gone k e less kept = elim (cases_eq k place) [
    | inl at ↦ let clash : true ≡ false = sym gone ∙ (ap (was_lost lost) (sym at) ∙ kept) in absurd (cc)
    | inr apart ↦ before k e (omega (arith, less, apart)) kept
  ]

-- ---- one opinion

-- the nodes that were not lost are of one opinion
abbrev pub AreOneAmong : {T : Type 0} {g : Ghosts T} → List (Node T g) → List Bool → List Log → Type 0
AreOneAmong nodes lost logs = AreOneOf (is_compared (survivors lost nodes) lost logs) (survivors lost nodes)

pub among_same : {T : Type 0} {g : Ghosts T} (nodes nodes2 : List (Node T g)) (lost lost2 : List Bool) (logs logs2 : List Log) → nodes ≡ nodes2 → lost ≡ lost2 → logs ≡ logs2
    → AreOneAmong nodes lost logs → AreOneAmong nodes2 lost2 logs2
among_same {T} {g} nodes nodes2 lost lost2 logs logs2 a b d one =
    subst (λ (ns : List (Node T g)). AreOneAmong ns lost2 logs2) a (subst (λ (ls : List Bool). AreOneAmong nodes ls logs2) b (subst (λ (gs : List Log). AreOneAmong nodes lost gs) d one))

module _ {T : Type 0} {g : Ghosts T} (compared : Term → Bool) (nodes : List (Node T g)) where
  -- a node, if it is formed, has of its groups what the others have
  abbrev pub IsAgreed : Node T g → Type 0
  IsAgreed x = formed_in x ≡ true → AgreesOf compared nodes x

  -- formed nodes have the same, where each has of its own groups what the others have
  pub one_so : All IsAgreed nodes → AreOneOf compared nodes
  one_so all k x low formed name there_is = λ j y lower formed2. same k x low formed name there_is j y lower formed2
    where
      same : (k : ℕ) (x : Node T g) → k < length nodes → formed_in (slice_index_or nodes k x) ≡ true → (name : Term) → compared name ≡ true
          → (j : ℕ) (y : Node T g) → j < length nodes → formed_in (slice_index_or nodes j y) ≡ true
          → (state_in (slice_index_or nodes k x)).table name ≡ (state_in (slice_index_or nodes j y)).table name
      same k x low formed name there_is j y lower formed2 = go ((state_in (slice_index_or nodes k x)).table name) refl ((state_in (slice_index_or nodes j y)).table name) refl
        where
          go : (v : Value) → (state_in (slice_index_or nodes k x)).table name ≡ v → (w : Value) → (state_in (slice_index_or nodes j y)).table name ≡ w
              → (state_in (slice_index_or nodes k x)).table name ≡ (state_in (slice_index_or nodes j y)).table name
          go (Some m) e w f = all k x low formed name (ap is_some e) there_is j y lower formed2
          go None e (Some n) f = sym (all j y lower formed2 name (ap is_some f) there_is k x low formed)
          go None e None f = e ∙ sym f

  -- and so each has
  pub so_one : AreOneOf compared nodes → All IsAgreed nodes
  so_one one k x low formed name there there_is = one k x low formed name there_is

module _ {T : Type 0} {g : Ghosts T} (compared : Term → Bool) (nodes : List (Node T g)) (x : Node T g) where
  -- it agrees on a group
  abbrev pub IsAgreedOn : Term → Type 0
  IsAgreedOn name = compared name ≡ true → All (HasAs x name) nodes

  -- it agrees on the groups that it tells, which are all that it has
  module _ (table : Table) (names others : List Term) (is : table ≡ (state_in x).table) (are : AreNames table names) (same : others ≡ names) where
    pub agreed_forth : All IsAgreedOn others → AgreesOf compared nodes x
    agreed_forth all name there there_is =
        of_named IsAgreedOn names (subst (All IsAgreedOn) same all) name (are.each name ∙ (ap (λ (t : Table). is_some (t name)) is ∙ there)) there_is

    pub agreed_back : AgreesOf compared nodes x → All IsAgreedOn others
    agreed_back agree =
        subst (All IsAgreedOn) (sym same) (named_all IsAgreedOn names (λ name e. agree name (ap (λ (t : Table). is_some (t name)) (sym is) ∙ (sym (are.each name) ∙ e))))
