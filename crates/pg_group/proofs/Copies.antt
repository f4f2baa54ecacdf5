-- Maps that are copied entry by entry.
use Rattle.std.proofs.Common.{◌≡◌, ℕ, suc, Bool, true, false, cond, Option, Some}
use Rattle.std.proofs.Common.{None, List, [], ◌∷◌, refl, sym, ap, subst, ◌∙◌, arith}
use Rattle.std.proofs.Math.Path.{fun_ext}
use Rattle.std.specs.Prelude.{unwrap_or}
use Rattle.std.specs.Option.{option_or, option_map}
use Rattle.std.specs.List.{All}
use Rattle.std.specs.Map.{lookup}
use Rattle.std.specs.BTreeMap.{BTreeMap, is_at, get, UpdatesBy}
use Rattle.std.specs.Ordering.{is_eq}
use Rattle.std.specs.declared.cmp.Ordering.{Ordering}
use Rattle.pg_term.specs.declared.pid.Pid.{Pid}
use Rattle.pg_term.specs.declared.term.Term.{Term}
use Rattle.pg_term.specs.Same.{pid_cmp, term_cmp}
use Rattle.pg_term.specs.contracts.pid.PidOrd.TheImpl.Laws as pid_order
use Rattle.pg_term.specs.contracts.pid.PidEq.TheImpl.Laws as pid_equality
use Rattle.pg_term.specs.contracts.term.TermOrd.TheImpl.Laws as term_order
use Rattle.pg_term.specs.contracts.term.TermEq.TheImpl.Laws as term_equality
use Rattle.pg_term.proofs.Same as decided
use Rattle.pg_group.specs.declared.members.Members.{Members}
use Rattle.pg_group.specs.Counted.{CountMap, counts_in, NoneIsZero}
use Rattle.pg_group.specs.Rows.{counts_of, table_of}

all_first : {X : Type 0} (P : X → Type 0) (x : X) (xs : List X) → All P (x ∷ xs) → P x
all_first P x xs h = h 0 x (omega arith)

all_rest : {X : Type 0} (P : X → Type 0) (x : X) (xs : List X) → All P (x ∷ xs) → All P xs
all_rest P x xs h = λ k d below. h (suc k) d (omega arith)

or_none : {Y : Type 0} (o : Option Y) → option_or o None ≡ o
or_none None = refl
or_none (Some y) = refl

map_same : {Y : Type 0} (o : Option Y) → option_map (λ y. y) o ≡ o
map_same None = refl
map_same (Some y) = refl

module _ {K X Y : Type 0} (cmp : K → K → Ordering) (f : X → Y) (whole : K → Option Y) where
  -- what was copied, and the entries that are left, are the whole
  abbrev pub Overlaid : (K → Option Y) → List (K × X) → Type 0
  Overlaid done left = (q : K) → option_or (done q) (option_map f (lookup (is_at (cmp q)) left)) ≡ whole q

  -- one more entry
  overlaid_more : (decides : (x y : K) → is_eq (cmp x y) ≡ true → x ≡ y) (flips : (x y : K) → is_eq (cmp x y) ≡ is_eq (cmp y x)) (old new : K → Option Y) (k : K) (v : X) (left : List (K × X)) → Overlaid old ((k, v) ∷ left) → whole k ≡ Some (f v) → ((q : K) → new q ≡ cond (is_at (cmp k) q) (Some (f v)) (old q)) → Overlaid new left
  overlaid_more decides flips old new k v left before is after q = ap (λ o. option_or o (option_map f (lookup (is_at (cmp q)) left))) (after q) ∙ go (is_eq (cmp k q)) refl
    where
      go : (b : Bool) → is_eq (cmp k q) ≡ b → option_or (cond b (Some (f v)) (old q)) (option_map f (lookup (is_at (cmp q)) left)) ≡ whole q
      go true t = sym is ∙ ap whole (decides k q t)
      go false t = ap (λ b. option_or (old q) (option_map f (cond b (Some v) (lookup (is_at (cmp q)) left)))) (sym (flips q k ∙ t)) ∙ before q

  overlaid_all : (new : K → Option Y) → Overlaid new [] → (q : K) → new q ≡ whole q
  overlaid_all new h q = sym (or_none (new q)) ∙ h q

-- ---- members and rows

pids_decide : (x y : Pid) → is_eq (pid_cmp x y) ≡ true → x ≡ y
pids_decide x y e = decided.pid_is x y (pid_order.matches_eq-law x y ∙ e)

pids_flip : (x y : Pid) → is_eq (pid_cmp x y) ≡ is_eq (pid_cmp y x)
pids_flip x y = sym (pid_order.matches_eq-law x y) ∙ pid_equality.laws-law.symm x y ∙ pid_order.matches_eq-law y x

names_decide : (x y : Term) → is_eq (term_cmp x y) ≡ true → x ≡ y
names_decide x y e = decided.same_term x y (term_order.matches_eq-law x y ∙ e)

names_flip : (x y : Term) → is_eq (term_cmp x y) ≡ is_eq (term_cmp y x)
names_flip x y = sym (term_order.matches_eq-law x y) ∙ term_equality.laws-law.symm x y ∙ term_order.matches_eq-law y x

-- members that were copied in part: what was copied, and the entries that are left
pub record PidsCopied (whole done : CountMap) (left : List (Pid × ℕ)) : Type 0 where
  pub overlaid : Overlaid pid_cmp (λ n. n) (get pid_cmp whole) (get pid_cmp done) left
  pub found : All (λ e. get pid_cmp whole e.0 ≡ Some e.1) left

pub pids_begun : (whole done : CountMap) (left : List (Pid × ℕ)) → left ≡ whole.entries → All (λ e. get pid_cmp whole e.0 ≡ Some e.1) whole.entries → done.entries ≡ [] → PidsCopied whole done left
pids_begun whole done left is all empty = record {
  overlaid = λ q. ap (λ (es : List (Pid × ℕ)). option_or (get pid_cmp done q) (option_map (λ n. n) (lookup (is_at (pid_cmp q)) es))) is
      ∙ ap (λ (es : List (Pid × ℕ)). option_or (lookup (is_at (pid_cmp q)) es) (option_map (λ n. n) (get pid_cmp whole q))) empty ∙ map_same (get pid_cmp whole q);
  found = subst (All (λ e. get pid_cmp whole e.0 ≡ Some e.1)) (sym is) all;
}

pub pids_more : (whole old new : CountMap) (pid key : Pid) (n : ℕ) (before left : List (Pid × ℕ)) → before ≡ (pid, n) ∷ left → key ≡ pid → PidsCopied whole old before → UpdatesBy pid_cmp (pid_cmp key) old new (Some n) → PidsCopied whole new left
pids_more whole old new pid key n before left is same copied h =
    let here = subst (λ (l : List (Pid × ℕ)). PidsCopied whole old l) is copied in
    record {
      overlaid = overlaid_more pid_cmp (λ n. n) (get pid_cmp whole) pids_decide pids_flip (get pid_cmp old) (get pid_cmp new) pid n left here.overlaid
          (all_first (λ e. get pid_cmp whole e.0 ≡ Some e.1) (pid, n) left here.found)
          (subst (λ (k : Pid). UpdatesBy pid_cmp (pid_cmp k) old new (Some n)) same h).0;
      found = all_rest (λ e. get pid_cmp whole e.0 ≡ Some e.1) (pid, n) left here.found;
    }

pub pids_all : (whole new : CountMap) (left : List (Pid × ℕ)) → left ≡ [] → PidsCopied whole new left → counts_in new ≡ counts_in whole
pids_all whole new left is copied =
    let here = subst (λ (l : List (Pid × ℕ)). PidsCopied whole new l) is copied in
    fun_ext (λ q. ap (λ o. unwrap_or o 0) (overlaid_all pid_cmp (λ n. n) (get pid_cmp whole) (get pid_cmp new) here.overlaid q))

pub pids_living : (whole new : CountMap) (left : List (Pid × ℕ)) → left ≡ [] → PidsCopied whole new left → NoneIsZero whole → NoneIsZero new
pids_living whole new left is copied living q zero =
    let here = subst (λ (l : List (Pid × ℕ)). PidsCopied whole new l) is copied in
    living q (sym (overlaid_all pid_cmp (λ n. n) (get pid_cmp whole) (get pid_cmp new) here.overlaid q) ∙ zero)

abbrev pub Rows : Type 0
Rows = BTreeMap Term Members

-- rows that were copied in part
pub record NamesCopied (whole done : Rows) (left : List (Term × Members)) : Type 0 where
  pub overlaid : Overlaid term_cmp counts_of (table_of whole) (table_of done) left
  pub found : All (λ e. get term_cmp whole e.0 ≡ Some e.1) left

pub names_begun : (whole done : Rows) (left : List (Term × Members)) → left ≡ whole.entries → All (λ e. get term_cmp whole e.0 ≡ Some e.1) whole.entries → done.entries ≡ [] → NamesCopied whole done left
names_begun whole done left is all empty = record {
  overlaid = λ q. ap (λ (es : List (Term × Members)). option_or (table_of done q) (option_map counts_of (lookup (is_at (term_cmp q)) es))) is
      ∙ ap (λ (es : List (Term × Members)). option_or (option_map counts_of (lookup (is_at (term_cmp q)) es)) (table_of whole q)) empty;
  found = subst (All (λ e. get term_cmp whole e.0 ≡ Some e.1)) (sym is) all;
}

pub names_more : (whole old new : Rows) (name key : Term) (row copy : Members) (before left : List (Term × Members)) → before ≡ (name, row) ∷ left → key ≡ name → counts_of copy ≡ counts_of row → NamesCopied whole old before → UpdatesBy term_cmp (term_cmp key) old new (Some copy) → NamesCopied whole new left
names_more whole old new name key row copy before left is same alike copied h =
    let here = subst (λ (l : List (Term × Members)). NamesCopied whole old l) is copied in
    let update = subst (λ (k : Term). UpdatesBy term_cmp (term_cmp k) old new (Some copy)) same h in
    record {
      overlaid = overlaid_more term_cmp counts_of (table_of whole) names_decide names_flip (table_of old) (table_of new) name row left here.overlaid
          (ap (option_map counts_of) (all_first (λ e. get term_cmp whole e.0 ≡ Some e.1) (name, row) left here.found))
          (λ q. ap (option_map counts_of) (update.0 q) ∙ mapped (is_at (term_cmp name) q) (get term_cmp old q));
      found = all_rest (λ e. get term_cmp whole e.0 ≡ Some e.1) (name, row) left here.found;
    }
  where
    mapped : (b : Bool) (o : Option Members) → option_map counts_of (cond b (Some copy) o) ≡ cond b (Some (counts_of row)) (option_map counts_of o)
    mapped true o = ap Some alike
    mapped false o = refl

pub names_all : (whole new : Rows) (left : List (Term × Members)) → left ≡ [] → NamesCopied whole new left → table_of new ≡ table_of whole
names_all whole new left is copied =
    let here = subst (λ (l : List (Term × Members)). NamesCopied whole new l) is copied in
    fun_ext (overlaid_all term_cmp counts_of (table_of whole) (table_of new) here.overlaid)
