-- What a node that is not lost has applied of a group: its history, but for at most one entry of each node whose loss it saw.
use Rattle.std.proofs.Common.{◌≡◌, ◌⊎◌, inl, inr, ℕ, ◌<◌, ◌≤◌, Bool, true, false, not, ◌&&◌, cond}
use Rattle.std.proofs.Common.{nat_eq, map, List, [], ◌∷◌, ◌++◌, None, refl, ap, sym, ◌∙◌, subst, arith}
use Rattle.std.specs.List.{IsDistinct}
use Rattle.std.proofs.lemmas.Bool.{eqb-true}
use Rattle.pg_term.specs.declared.term.Term.{Term}
use Rattle.pg_term.specs.Same.{same_atom}
use Rattle.pg_laws.specs.PgRefs.Numbered.{numbered}
use Rattle.pg_laws.specs.PgLock.Locks.{is_holder}
use Rattle.pg_laws.specs.PgStep.Config.{Config, names_of, name_at}
use Rattle.pg_laws.specs.PgStep.LossLaws.{LosingFrameWorld}
use Rattle.pg_laws.specs.PgStep.State.{State}
use Rattle.pg_laws.specs.PgStep.Nodes.{Node}
use Rattle.pg_laws.specs.History.{Entry, answered_count, history, updates_of}
use Rattle.pg_laws.specs.WithLosses.{Marked, all_entries, has_seen, left_of, left_out}
use Rattle.pg_laws.proofs.locks.Kept.{Excused, Tale, answers_of}
use Rattle.pg_laws.proofs.locks.Named.{World, Entry as Named, of_name, on, updates}
use Rattle.pg_laws.proofs.locks.Thins.{EachMissed, Marks, Thin, kept_of, misses}
use Rattle.pg_laws.proofs.locks.Thins.{all_entries as all_named}
use Rattle.pg_laws.proofs.locks.Unique.{update_holds, update_is}
use Rattle.pg_laws.proofs.places.Prefixes.{answers_shown, group_shown, node_here}
use Rattle.pg_laws.proofs.places.Shown.{IsHere, by_name}
use Rattle.pg_laws.proofs.references.Keys.{atoms}
use Rattle.pg_laws_losses.specs.Thinned.{AppliesThinned}
use Rattle.pg_laws_losses.proofs.Bridge.{Has, live_at, whole_of}
use Rattle.pg_laws_losses.proofs.Bridges.{Bridged}
use Rattle.pg_laws_losses.proofs.Lossy.{bare}
use Rattle.pg_laws_losses.proofs.Parting.{unanswered}

-- what holds of each entry that is left out
abbrev pub EachOut : (Entry → Type 0) → Marked → Type 0
EachOut F [] = Unit {0}
EachOut F (m ∷ ms) = cond m.1 (Unit {0}) (F m.0) × EachOut F ms

module _ (config : Config) where
  -- marks of entries by names, of entries by places
  record Unnamed (F : Named → Type 0) (ms : Marks) (es : List Entry) : Type 0 where
    marked : Marked
    all : all_entries marked ≡ es
    kept : updates_of (left_of marked) ≡ updates (kept_of ms)
    few : (node : ℕ) → left_out node marked ≤ misses (name_at config node) ms
    each : EachOut (λ e. F (by_name config e)) marked

  one_out : (node : ℕ) (e : Entry) (b : Bool) → cond {A = ℕ} (nat_eq e.node node && cond b false true) 1 0 ≤ cond {A = ℕ} (same_atom (name_at config node) (name_at config e.node) && not b) 1 0
  one_out node e true = go (nat_eq e.node node) (same_atom (name_at config node) (name_at config e.node))
    where
      go : (b d : Bool) → cond {A = ℕ} (b && false) 1 0 ≤ cond {A = ℕ} (d && false) 1 0
      go true true = omega arith
      go true false = omega arith
      go false true = omega arith
      go false false = omega arith
  one_out node e false = go (nat_eq e.node node) refl
    where
      go : (b : Bool) → nat_eq e.node node ≡ b → cond {A = ℕ} (b && true) 1 0 ≤ cond {A = ℕ} (same_atom (name_at config node) (name_at config e.node) && true) 1 0
      go false is = omega arith
      go true is =
          let same : same_atom (name_at config node) (name_at config e.node) ≡ true = ap (λ k. same_atom (name_at config node) (name_at config k)) (eqb-true e.node node is) ∙ atoms.refl (name_at config node) in
          subst (λ b. 1 ≤ cond {A = ℕ} (b && true) 1 0) (sym same) (omega arith)

  unnamed : (F : Named → Type 0) (ms : Marks) (es : List Entry) → all_named ms ≡ map (by_name config) es → EachMissed F ms → Unnamed F ms es
  unnamed F [] [] same each = record { marked = []; all = refl; kept = refl; few = λ node. omega arith; each = tt }
  unnamed F [] (e ∷ es) same each = absurd (cc)
  unnamed F (m ∷ ms) [] same each = absurd (cc)
  unnamed F (m ∷ ms) (e ∷ es) same each =
      let head : m.0 ≡ by_name config e = cc in
      let tail : all_named ms ≡ map (by_name config) es = cc in
      let rest = unnamed F ms es tail each.1 in
      record {
        marked = (e, m.1) ∷ rest.marked;
        all = ap (λ xs. e ∷ xs) rest.all;
        kept = kept m.1 head (left_of rest.marked) rest.kept;
        few = λ node.
            let now : cond {A = ℕ} (nat_eq e.node node && cond m.1 false true) 1 0 ≤ cond {A = ℕ} (same_atom (name_at config node) m.0.node && not m.1) 1 0 =
            subst (λ (x : Named). cond {A = ℕ} (nat_eq e.node node && cond m.1 false true) 1 0 ≤ cond {A = ℕ} (same_atom (name_at config node) x.node && not m.1) 1 0) (sym head) (one_out node e m.1) in
            let later : left_out node rest.marked ≤ misses (name_at config node) ms = rest.few node in
            omega (arith, now, later);
        each = (subst (λ (x : Named). cond m.1 (Unit {0}) (F x)) head each.0, rest.each);
      }
    where
      kept : (b : Bool) → m.0 ≡ by_name config e → (xs : List Entry) → updates_of xs ≡ updates (kept_of ms) → updates_of (cond b (e ∷ xs) xs) ≡ updates (cond b (m.0 ∷ kept_of ms) (kept_of ms))
      kept true head xs same = (λ k. sym (ap (λ (x : Named). x.update) head) k ∷ same k)
      kept false head xs same = same

  -- an entry is the last by its place that is the last by its name
  last_of : (es : List Entry) (before : List Named) (last : Named) → map (by_name config) es ≡ before ++ last ∷ []
      → (first : List Entry) × (e : Entry) × (first ++ e ∷ [] ≡ es) × (map (by_name config) first ≡ before) × (by_name config e ≡ last)
  last_of [] [] last same = absurd (cc)
  last_of [] (b ∷ before) last same = absurd (cc)
  last_of (e ∷ []) [] last same = let head : by_name config e ≡ last = cc in ([], e, refl, refl, head)
  last_of (e ∷ d ∷ es) [] last same = absurd (cc)
  last_of (e ∷ es) (b ∷ before) last same =
      let head : by_name config e ≡ b = cc in
      let tail : map (by_name config) es ≡ before ++ last ∷ [] = cc in
      more head (last_of es before last tail)
    where
      more : by_name config e ≡ b → (first : List Entry) × (d : Entry) × (first ++ d ∷ [] ≡ es) × (map (by_name config) first ≡ before) × (by_name config d ≡ last)
          → (first : List Entry) × (d : Entry) × (first ++ d ∷ [] ≡ e ∷ es) × (map (by_name config) first ≡ b ∷ before) × (by_name config d ≡ last)
      more head (first, d, all, named, is) = (e ∷ first, d, ap (λ xs. e ∷ xs) all, (λ k. head k ∷ named k), is)

-- an entry that has no excuse stays
stays_there : (F : Entry → Type 0) (marked : Marked) (first rest : List Entry) (e : Entry) → all_entries marked ≡ first ++ e ∷ rest → EachOut F marked → (F e → ⊥)
    → (kept : List Entry) × (later : List Entry) × (left_of marked ≡ kept ++ e ∷ later)
stays_there F [] [] rest e same each none = absurd (cc)
stays_there F [] (x ∷ first) rest e same each none = absurd (cc)
stays_there F (m ∷ ms) [] rest e same each none = go m.1 each.0
  where
    head : m.0 ≡ e
    head = cc same

    go : (b : Bool) → cond b (Unit {0}) (F m.0) → (kept : List Entry) × (later : List Entry) × (cond b (m.0 ∷ left_of ms) (left_of ms) ≡ kept ++ e ∷ later)
    go true _ = ([], left_of ms, ap (λ x. x ∷ left_of ms) head)
    go false out = absurd (none (subst F head out))
stays_there F (m ∷ ms) (x ∷ first) rest e same each none =
    let tail : all_entries ms ≡ first ++ e ∷ rest = cc same in
    let later = stays_there F ms first rest e tail each.1 none in
    go m.1 later.0 later.1 later.2
  where
    go : (b : Bool) (kept later : List Entry) → left_of ms ≡ kept ++ e ∷ later → (kept : List Entry) × (later : List Entry) × (cond b (m.0 ∷ left_of ms) (left_of ms) ≡ kept ++ e ∷ later)
    go true kept later is = (m.0 ∷ kept, later, ap (λ xs. m.0 ∷ xs) is)
    go false kept later is = (kept, later, is)

-- an entry in a list, or the one behind it
in_or_last : (before first rest : List Entry) (last e : Entry) → before ++ last ∷ [] ≡ first ++ e ∷ rest → (e ≡ last) ⊎ ((more : List Entry) × (before ≡ first ++ e ∷ more))
in_or_last [] [] rest last e same = inl (let one : last ≡ e = cc in sym one)
in_or_last [] (x ∷ []) rest last e same = absurd (cc)
in_or_last [] (x ∷ y ∷ first) rest last e same = absurd (cc)
in_or_last (b ∷ before) [] rest last e same = let one : b ≡ e = cc in inr (before, ap (λ x. x ∷ before) one)
in_or_last (b ∷ before) (x ∷ first) rest last e same =
    let head : b ≡ x = cc in
    let tail : before ++ last ∷ [] ≡ first ++ e ∷ rest = cc in
    go head (in_or_last before first rest last e tail)
  where
    go : b ≡ x → (e ≡ last) ⊎ ((more : List Entry) × (before ≡ first ++ e ∷ more)) → (e ≡ last) ⊎ ((more : List Entry) × (b ∷ before ≡ x ∷ (first ++ e ∷ more)))
    go head (inl is) = inl is
    go head (inr more) = inr (more.0, (λ k. head k ∷ more.1 k))

module _ (config : Config) (apart : IsDistinct same_atom (names_of config)) (w : LosingFrameWorld) (b : Bridged config apart (bare w)) (i : ℕ) (name : Term) (here : IsHere config i) (lives : w.gone i ≡ false) where
  abbrev has : Has config apart (bare w)
  has = b.has

  abbrev W : World
  W = b.has.world

  abbrev a : Node
  a = name_at config i

  group : of_name name W.history ≡ map (by_name config) (history name w.world.reported)
  group = group_shown config apart (whole_of config apart (bare w) b.has.ways) b.has.world b.has.shows b.places name

  counted : (node : ℕ) (e : Entry) → e.node ≡ node → IsHere config e.node → answers_of (name_at config e.node) e.op W.answered ≡ answered_count e.node e.op w.world.reported
  counted node e same there = answers_shown config apart (whole_of config apart (bare w) b.has.ways) b.has.world b.has.shows b.places e.node e.op there

  there_is : (first rest : List Entry) (e : Entry) → history name w.world.reported ≡ first ++ e ∷ rest → IsHere config e.node
  there_is first rest e is = node_here config apart (whole_of config apart (bare w) b.has.ways) b.has.world b.has.shows b.places name first rest e is

  -- who is excused is not answered
  no_excuse : (first rest : List Entry) (e : Entry) → history name w.world.reported ≡ first ++ e ∷ rest → 0 < answered_count e.node e.op w.world.reported → Excused W a (by_name config e) → ⊥
  no_excuse first rest e is some excuse =
      let none : answered_count e.node e.op w.world.reported ≡ 0 = sym (counted e.node e refl (there_is first rest e is)) ∙ excuse.1 in
      absurd (omega (arith, none, some))

  few_seen : (ms : Marks) (marked : Marked) → ((x : Node) → misses x ms ≤ cond {A = ℕ} (W.seen a x) 1 0) → ((node : ℕ) → left_out node marked ≤ misses (name_at config node) ms)
      → (node : ℕ) → left_out node marked ≤ cond (has_seen config w i node) 1 0
  few_seen ms marked few fewer node =
      let one : left_out node marked ≤ misses (name_at config node) ms = fewer node in
      let two : misses (name_at config node) ms ≤ cond {A = ℕ} (has_seen config w i node) 1 0 =
      subst (λ c. misses (name_at config node) ms ≤ cond {A = ℕ} c 1 0) (b.has.sees i (name_at config node) here) (few (name_at config node)) in
      omega (arith, one, two)

  applies_thin : (before : List Entry) → (before ≡ history name w.world.reported) ⊎ ((last : Entry) × (before ++ last ∷ [] ≡ history name w.world.reported))
      → Thin (Excused W a) (W.seen a) (on name (W.log a)) (map (by_name config) before)
      → ((e : Entry) (first rest : List Entry) → history name w.world.reported ≡ first ++ e ∷ rest → 0 < answered_count e.node e.op w.world.reported → (more : List Entry) × (before ≡ first ++ e ∷ more))
      → ((w.world.node i).state.locks name ≡ None → before ≡ history name w.world.reported)
      → AppliesThinned config w i name
  applies_thin before whole t within free =
      let u = unnamed config (Excused W a) t.marks before t.every t.each in
      record {
        before = before;
        whole = whole;
        thin = left_of u.marked;
        thinned = record { marked = u.marked; all = u.all; stay = refl; few = few_seen t.marks u.marked t.few u.few };
        free = free;
        applied = u.kept ∙ (sym t.log_is ∙ b.has.shows.log i name here);
        answered = λ e first rest is some.
            let place = within e first rest is some in
            stays_there (λ x. Excused W a (by_name config x)) u.marked first place.0 e (u.all ∙ place.1) u.each (no_excuse first rest e is some);
      }

  applies_so : Tale W name a → AppliesThinned config w i name
  applies_so (inl f) = applies_thin (history name w.world.reported) (inl refl) (subst (Thin (Excused W a) (W.seen a) (on name (W.log a))) group f.thin) (λ e first rest is some. (rest, is)) (λ _. refl)
  applies_so (inr d) =
      let l = last_of config (history name w.world.reported) d.before d.last (sym group ∙ d.is) in
      applies_thin l.0 (inr (l.1, l.2)) (subst (Thin (Excused W a) (W.seen a) (on name (W.log a))) (sym l.3) d.thin) (λ e first rest is some. go l.0 l.1 l.2 l.4 e first rest is some (in_or_last l.0 first rest l.1 e (l.2 ∙ is))) (λ free. absurd (locked free))
    where
      -- an update that is on the way to the node holds its lock
      locked : (w.world.node i).state.locks name ≡ None → ⊥
      locked free =
          let u = update_is name ((b.has.world.node d.i).uses d.n) d.update in
          let held : is_holder ((b.has.world.node (name_at config i)).locks name) (numbered d.i u.lock) ≡ true = update_holds b.has.world b.has.inv d.i d.n name (name_at config i) d.near_it u in
          let none : (b.has.world.node (name_at config i)).locks name ≡ None = ap (λ (s : State). s.locks name) (b.has.shows.node i here) ∙ free in
          let no : false ≡ true = sym (ap (λ o. is_holder o (numbered d.i u.lock)) none) ∙ held in
          cc

      go : (before : List Entry) (last : Entry) → before ++ last ∷ [] ≡ history name w.world.reported → by_name config last ≡ d.last
          → (e : Entry) (first rest : List Entry) → history name w.world.reported ≡ first ++ e ∷ rest → 0 < answered_count e.node e.op w.world.reported
          → (e ≡ last) ⊎ ((more : List Entry) × (before ≡ first ++ e ∷ more)) → (more : List Entry) × (before ≡ first ++ e ∷ more)
      go before last all named e first rest is some (inr more) = more
      go before last all named e first rest is some (inl same) =
          let open_ : answers_of d.last.node d.last.op W.answered ≡ 0 = unanswered W a a (W.seat a) b.has.inv name d.i d.n d.last d.node d.update d.command in
          let it : by_name config e ≡ d.last = ap (by_name config) same ∙ named in
          let none : answers_of (name_at config e.node) e.op W.answered ≡ 0 = subst (λ (x : Named). answers_of x.node x.op W.answered ≡ 0) (sym it) open_ in
          let zero : answered_count e.node e.op w.world.reported ≡ 0 = sym (counted e.node e refl (there_is first rest e is)) ∙ none in
          absurd (omega (arith, zero, some))

  pub applies : AppliesThinned config w i name
  applies = applies_so (b.has.inv.tales name a (live_at config apart (bare w) b.has i here lives))
