-- What is looked for among nodes and groups.
use Rattle.std.proofs.Common.{◌≡◌, ◌≢◌, ◌<◌, ◌≤◌, ℕ, ◌+◌, Bool, true, false, not, List, [], ◌∷◌, ◌++◌, Option}
use Rattle.std.proofs.Common.{Some, None, length, get_or, take, refl, sym, ap, ◌∙◌, subst, arith, ◌⊎◌, inl, inr}
use Rattle.std.specs.Prelude.{slice_get, is_some}
use Rattle.std.specs.List.{Contains}
use Rattle.std.specs.Option.{option_map_or}
use Rattle.std.proofs.Math.Nat.{eq-or-lt_of_le}
use Rattle.std.proofs.lemmas.Bool.{cases_lt}
use Rattle.std.proofs.lemmas.List.Elements.{Contains-push_cases}
use Rattle.pg_term.specs.declared.term.Term.{Term}
use Rattle.pg_script.specs.PgWorldAccount.Losses.{is_lost}
use Rattle.pg_script.specs.PgWorldConfig.Seen.{Seen}
use Rattle.pg_explore_survey.specs.Differing.{DifferOn, IsApartOrSame, IsLive, IsLiveAt, IsOtherOrSame, IsSameAt}
use Rattle.pg_explore_survey.specs.Differing.{IsSomeLive, LiveOf, SeesAt, Decides, is_held_at}
use Rattle.pg_script.specs.PgWorldPackets.Losing.{is_formed}

-- ---- places and names

-- none of the first places
abbrev pub NoPlace : (ℕ → Type 0) → ℕ → Type 0
NoPlace P count = (place : ℕ) → place < count → P place → ⊥

pub no_place : (P : ℕ → Type 0) → NoPlace P 0
no_place P place l h = omega arith

pub no_more_place : (P : ℕ → Type 0) (count : ℕ) → NoPlace P count → (P count → ⊥) → NoPlace P (count + 1)
no_more_place P count h n place l p = elim (cases_lt place count) as (λ _. ⊥) [
  | inl m ↦ h place m p
  | inr m ↦ n (subst P (at place count (omega arith) m) p)
]
  where
    at : (a b : ℕ) → a < b + 1 → b ≤ a → a ≡ b
    at a b l m = omega arith

-- none of the names so far
abbrev pub NoName : (Term → Type 0) → List Term → Type 0
NoName P names = (name : Term) → Contains names name → P name → ⊥

pub no_name : (P : Term → Type 0) → NoName P []
no_name P name c h = omega (arith, c.1)

pub no_more_name : (P : Term → Type 0) (names : List Term) (name : Term) → NoName P names → (P name → ⊥) → NoName P (names ++ name ∷ [])
no_more_name P names name h n other c p = elim (Contains-push_cases names name other c) as (λ _. ⊥) [
  | inl before ↦ h other before p
  | inr this ↦ n (subst P (sym this) p)
]

-- ---- nodes

some_node : (a b : Seen) → Some a ≡ Some b → a ≡ b
some_node a b e = cc

pub live_at : (nodes : List Seen) (lost : List ℕ) (place : ℕ) (node : Seen) (found : Option Seen) → slice_get nodes place ≡ Some node → LiveOf node (is_lost lost place) found → IsLiveAt nodes lost place found
live_at nodes lost place node None at h = λ other l. h (ap is_formed (some_node node other (sym at ∙ l.at)) ∙ l.formed) l.alive
live_at nodes lost place node (Some found) at h = record { at = at ∙ ap Some (sym h.0); formed = ap is_formed h.0 ∙ h.1; alive = h.2 }

pub none_at : (nodes : List Seen) (lost : List ℕ) (place : ℕ) → slice_get nodes place ≡ None → IsLiveAt nodes lost place None
none_at nodes lost place e = λ node l. clash node (sym e ∙ l.at)
  where
    clash : (node : Seen) → None ≡ Some node → ⊥
    clash node e = absurd (cc)

-- a node is a live one
abbrev pub HasLive : List Seen → List ℕ → ℕ → Type 0
HasLive nodes lost place = (node : Seen) × IsLive nodes lost place node

pub no_live : (nodes : List Seen) (lost : List ℕ) (place : ℕ) → IsLiveAt nodes lost place None → HasLive nodes lost place → ⊥
no_live nodes lost place h l = h l.0 l.1

pub none_live : (nodes : List Seen) (lost : List ℕ) (count place : ℕ) → count ≤ place → NoPlace (HasLive nodes lost) place → IsSomeLive nodes lost count None
none_live nodes lost count place l h other node m live = h other (omega arith) (node, live)

-- whether it has the same of a group
pub apart_at : (nodes : List Seen) (lost : List ℕ) (name : Term) (first node : Seen) (place : ℕ) (same : Bool) → IsLive nodes lost place node
    → (same ≡ true → node.state.state.table name ≡ first.state.state.table name) → (node.state.state.table name ≡ first.state.state.table name → same ≡ true)
    → IsApartOrSame nodes lost name first place (not same)
apart_at nodes lost name first node place true live h k = λ other l. subst (λ (s : Seen). s.state.state.table name ≡ first.state.state.table name) (some_node node other (sym live.at ∙ l.at)) (h refl)
apart_at nodes lost name first node place false live h k = record { node = node; live = live; apart = λ e. clash (k e) }
  where
    clash : false ≡ true → ⊥
    clash e = absurd (cc)

pub none_apart : (nodes : List Seen) (lost : List ℕ) (name : Term) (first : Seen) (place : ℕ) → IsLiveAt nodes lost place None → IsApartOrSame nodes lost name first place false
none_apart nodes lost name first place h = λ node l. absurd (h node l)

-- the first nodes have the same
abbrev pub SameBefore : List Seen → List ℕ → Term → Seen → ℕ → Type 0
SameBefore nodes lost name first count = (place : ℕ) → place < count → IsSameAt nodes lost name first place

pub same_first : (nodes : List Seen) (lost : List ℕ) (name : Term) (first : Seen) → SameBefore nodes lost name first 0
same_first nodes lost name first place l = absurd (omega arith)

pub same_more : (nodes : List Seen) (lost : List ℕ) (name : Term) (first : Seen) (count : ℕ) → SameBefore nodes lost name first count → IsSameAt nodes lost name first count → SameBefore nodes lost name first (count + 1)
same_more nodes lost name first count h k place l = elim (cases_lt place count) as (λ _. IsSameAt nodes lost name first place) [
  | inl m ↦ h place m
  | inr m ↦ subst (λ (p : ℕ). IsSameAt nodes lost name first p) (at place count (omega arith) m) k
]
  where
    at : (a b : ℕ) → a < b + 1 → b ≤ a → b ≡ a
    at a b l m = omega arith

pub same_all : (nodes : List Seen) (lost : List ℕ) (name : Term) (first : Seen) (count place : ℕ) → count ≤ place → SameBefore nodes lost name first place → IsOtherOrSame nodes lost count name first false
same_all nodes lost name first count place l h other m = h other (omega arith)

-- two differ where one has not what the first has
pub differ_from : (nodes : List Seen) (lost : List ℕ) (count : ℕ) (name : Term) (first : Seen) (b : Bool) → IsSomeLive nodes lost count (Some first) → IsOtherOrSame nodes lost count name first b
    → Decides (DifferOn nodes lost count name) b
differ_from nodes lost count name first true some h = record { place = some.0; within = some.1; node = first; live = some.2; other = h }
differ_from nodes lost count name first false some h = λ d.
    d.other.is.apart (h d.other.place d.other.within d.other.is.node d.other.is.live ∙ sym (h d.place d.within d.node d.live))

pub differ_none : (nodes : List Seen) (lost : List ℕ) (count : ℕ) (name : Term) → IsSomeLive nodes lost count None → DifferOn nodes lost count name → ⊥
differ_none nodes lost count name none d = none d.place d.node d.within d.live

-- ---- locks

pub sees_by : (nodes : List Seen) (lost : List ℕ) (name : Term) (place : ℕ) (held is : Bool) → is_lost lost place ≡ false → is ≡ is_held_at nodes place name → Decides (SeesAt nodes lost true name place) is
sees_by nodes lost name place held true alive e = record { alive = alive; sees = sym e }
sees_by nodes lost name place held false alive e = λ s. clash (e ∙ s.sees)
  where
    clash : false ≡ true → ⊥
    clash e = absurd (cc)

pub sees_not : (nodes : List Seen) (lost : List ℕ) (name : Term) (place : ℕ) (is : Bool) → is_lost lost place ≡ false → is ≡ is_held_at nodes place name → Decides (SeesAt nodes lost false name place) (not is)
sees_not nodes lost name place false alive e = record { alive = alive; sees = sym e }
sees_not nodes lost name place true alive e = λ s. clash (e ∙ s.sees)
  where
    clash : true ≡ false → ⊥
    clash e = absurd (cc)

pub lost_sees : (nodes : List Seen) (lost : List ℕ) (held : Bool) (name : Term) (place : ℕ) → is_lost lost place ≡ true → SeesAt nodes lost held name place → ⊥
lost_sees nodes lost held name place e s = clash (sym e ∙ s.alive)
  where
    clash : true ≡ false → ⊥
    clash e = absurd (cc)
