-- A loss is seen.
use Rattle.std.proofs.Common.{◌≡◌, ◌≢◌, ℕ, ◌<◌, ◌≤◌, ◌+◌, ◌==◌, zero, suc, Bool, true, false, cond, nat_eq, get_or, length, List, [], ◌∷◌}
use Rattle.std.proofs.Common.{Option, Some, None, refl, ap, sym, ◌∙◌, subst, arith, get_or-set_other, length-set}
use Rattle.std.specs.Prelude.{slice_get, slice_set}
use Rattle.std.specs.List.{IsDistinct}
use Rattle.std.proofs.lemmas.Bool.{eqb-true, eq-eqb}
use Rattle.std.proofs.lemmas.Option.{slice_get_read}
use Rattle.std.proofs.Math.Path.{fun_ext}
use Rattle.pg_term.specs.Same.{same_atom}
use Rattle.pg_step.specs.PgGroup.Functions.{upd}
use Rattle.pg_step.specs.PgGroup.Value.{name_of}
use Rattle.pg_step.specs.declared.command.OpId.{OpId}
use Rattle.pg_step.specs.Nodes.{Node}
use Rattle.pg_step.specs.State.{State, Use}
use Rattle.pg_step.specs.State.Status.{Unasked}
use Rattle.pg_step.specs.State.Use.{Fresh, Spent, Locking, Owning, Updating}
use Rattle.pg_step.specs.State.Stage.{Closed}
use Rattle.pg_step.specs.Attempts.{same_op}
use Rattle.pg_step.specs.Losses.{forgets, see_loss}
use Rattle.pg_node_opens.specs.declared.mark.Mark.{Mark}
use Rattle.pg_node_opens.specs.declared.mark.Mark.TheVariants as mark
use Rattle.pg_node_opens.specs.Marks.{status_of, has_yes}
use Rattle.pg_node_opens.specs.declared.command.Phase.{Phase}
use Rattle.pg_node_opens.specs.declared.command.Phase.TheVariants as phase
use Rattle.pg_node_opens.specs.declared.command.OpenCommand.{OpenCommand}
use Rattle.pg_node_opens.specs.Layers.{over, or_as, seek, answers}
use Rattle.pg_node_opens.specs.Places.{name_at, lost_in, ArePlaces}
use Rattle.pg_node_opens.specs.Named.{statuses, replies}
use Rattle.pg_node_opens.specs.Commands.{use_in, use_at, stage_in, stage_at, is_made}
use Rattle.pg_node_opens.specs.Commands.{unused, first_in, AreKnown, Turns, Forgets}
use Rattle.pg_node_opens.specs.Opens.{Says}
use Rattle.pg_node_opens.proofs.Layered.{Apart, apart_of, alone_of, one_item}
use Rattle.pg_node_opens.proofs.Named.{clash, reads_set}
use Rattle.pg_node_opens.proofs.Uses.{has_is, use_as}

abbrev mapped : (Use → Use) → Option Use → Option Use
mapped f None = None
mapped f (Some v) = Some (f v)

-- the one list goes into the other, command by command
abbrev pub Zip : (OpenCommand → OpenCommand → Type 0) → List OpenCommand → List OpenCommand → Type 0
Zip R [] [] = Unit {0}
Zip R [] (b ∷ bs) = ⊥
Zip R (a ∷ as') [] = ⊥
Zip R (a ∷ as') (b ∷ bs) = R a b × Zip R as' bs

zip_of : (R : OpenCommand → OpenCommand → Type 0) (xs ys : List OpenCommand) → length ys ≡ length xs → ((k : ℕ) (a b : OpenCommand) → slice_get xs k ≡ Some a → slice_get ys k ≡ Some b → R a b) → Zip R xs ys
zip_of R [] [] e h = tt
zip_of R [] (b ∷ bs) e h = no (length bs) e
  where
    no : (n : ℕ) → suc n ≡ zero → ⊥
    no n e = omega arith
zip_of R (a ∷ xs) [] e h = no (length xs) e
  where
    no : (n : ℕ) → zero ≡ suc n → ⊥
    no n e = omega arith
zip_of R (a ∷ xs) (b ∷ ys) e h = (h zero a b refl refl, zip_of R xs ys (one (length ys) (length xs) e) (λ k c d. h (suc k) c d))
  where
    one : (m n : ℕ) → suc m ≡ suc n → m ≡ n
    one m n e = omega arith

zip_get : (R : OpenCommand → OpenCommand → Type 0) (P Q : OpenCommand → Type 0) → ((a b : OpenCommand) → R a b → P a → Q b) → (xs ys : List OpenCommand) → Zip R xs ys
    → ((k : ℕ) (a : OpenCommand) → slice_get xs k ≡ Some a → P a) → (k : ℕ) (b : OpenCommand) → slice_get ys k ≡ Some b → Q b
zip_get R P Q step [] [] z h k b e = absurd (no b e)
  where
    no : (b : OpenCommand) → None ≡ Some b → ⊥
    no b e = cc
zip_get R P Q step [] (b ∷ ys) z h k c e = absurd z
zip_get R P Q step (a ∷ xs) [] z h k c e = absurd z
zip_get R P Q step (a ∷ xs) (b ∷ ys) z h zero c e = subst Q (one_item b c e) (step a b z.0 (h zero a refl))
zip_get R P Q step (a ∷ xs) (b ∷ ys) z h (suc k) c e = zip_get R P Q step xs ys z.1 (λ j d. h (suc j) d) k c e

module _ {K B : Type 0} (at : OpenCommand → K → Option B) (R : OpenCommand → OpenCommand → Type 0) (like : (a b : OpenCommand) → R a b → (x : K) → answers (at b x) ≡ answers (at a x)) where
  over_like : (a b c d : Option B) → answers b ≡ answers a → answers d ≡ answers c → answers (over b d) ≡ answers (over a c)
  over_like None None c d e f = f
  over_like None (Some w) c d e f = absurd (clash e)
  over_like (Some v) None c d e f = absurd (clash (sym e))
  over_like (Some v) (Some w) c d e f = refl

  seek_like : (xs ys : List OpenCommand) → Zip R xs ys → (x : K) → answers (seek at ys x) ≡ answers (seek at xs x)
  seek_like [] [] z x = refl
  seek_like [] (b ∷ ys) z x = absurd z
  seek_like (a ∷ xs) [] z x = absurd z
  seek_like (a ∷ xs) (b ∷ ys) z x = over_like (at a x) (at b x) (seek at xs x) (seek at ys x) (like a b z.0 x) (seek_like xs ys z.1 x)

  apart_like : (xs ys : List OpenCommand) → Zip R xs ys → Apart at xs → Apart at ys
  apart_like [] [] z h = tt
  apart_like [] (b ∷ ys) z h = absurd z
  apart_like (a ∷ xs) [] z h = absurd z
  apart_like (a ∷ xs) (b ∷ ys) z h = (λ x e. seek_like xs ys z.1 x ∙ h.0 x (sym (like a b z.0 x) ∙ e), apart_like xs ys z.1 h.1)

stage_forgot : (a b : OpenCommand) → Turns a b a.phase → (x : OpId) → stage_at b x ≡ stage_at a x
stage_forgot a b t x = λ i. cond (same_op (t.op i) x) (Some (stage_in (t.update i) (t.phase i))) None

module _ (names : List Node) (place : ℕ) (apart : IsDistinct same_atom names) (l : place < length names) where
  statuses_now : (marks : List Mark) → length marks ≡ length names → statuses names (slice_set marks place mark.Unasked) ≡ upd same_atom (statuses names marks) (name_at names place) Unasked
  unfolding upd
  statuses_now marks same = fun_ext (λ q. reads_set status_of Unasked names marks place mark.Unasked q apart same l)

  replies_now : (marks : List Mark) → length marks ≡ length names → replies names (slice_set marks place mark.Unasked) ≡ upd same_atom (replies names marks) (name_at names place) false
  unfolding upd
  replies_now marks same = fun_ext (λ q. reads_set has_yes false names marks place mark.Unasked q apart same l)

  uses_forgot : (a b : OpenCommand) → Forgets place a b → length a.marks ≡ length names → (x : ℕ) → use_at names b x ≡ mapped (forgets (name_at names place)) (use_at names a x)
  unfolding upd
  uses_forgot a b f same x = use_as names a b a.phase x f.turns ∙ (ap (λ z. use_in names a.op a.update a.phase z x) f.items ∙ go a.phase)
    where
      go : (ph : Phase) → use_in names a.op a.update ph (slice_set a.marks place mark.Unasked) x ≡ mapped (forgets (name_at names place)) (use_in names a.op a.update ph a.marks x)
      go phase.Waiting = refl
      go (phase.Asking lock first) = ap (λ z. cond (nat_eq lock x) (Some (Locking a.op a.update (name_at names first) z)) None) (statuses_now a.marks same) ∙ one (nat_eq lock x)
        where
          one : (b : Bool) → cond b (Some (Locking a.op a.update (name_at names first) (upd same_atom (statuses names a.marks) (name_at names place) Unasked))) None
              ≡ mapped (forgets (name_at names place)) (cond b (Some (Locking a.op a.update (name_at names first) (statuses names a.marks))) None)
          one true = refl
          one false = refl
      go (phase.Changing lock number) = ap (λ z. cond (nat_eq number x) (Some (Updating a.op a.update lock z)) (cond (nat_eq lock x) (Some (Owning (name_of a.update) number)) None)) (replies_now a.marks same) ∙ two (nat_eq number x) (nat_eq lock x)
        where
          two : (b c : Bool) → cond b (Some (Updating a.op a.update lock (upd same_atom (replies names a.marks) (name_at names place) false))) (cond c (Some (Owning (name_of a.update) number)) None)
              ≡ mapped (forgets (name_at names place)) (cond b (Some (Updating a.op a.update lock (replies names a.marks))) (cond c (Some (Owning (name_of a.update) number)) None))
          two true c = refl
          two false true = refl
          two false false = refl

  module _ (made : ℕ) (os os' : List OpenCommand) (known : AreKnown names made os) (len : length os' ≡ length os)
      (each : (k : ℕ) (a b : OpenCommand) → slice_get os k ≡ Some a → slice_get os' k ≡ Some b → Forgets place a b) where
    -- each one forgets, and has a mark for each node
    Went : OpenCommand → OpenCommand → Type 0
    Went a b = Forgets place a b × (length a.marks ≡ length names)

    went : Zip Went os os'
    unfolding Went
    went = zip_of Went os os' len (λ k a b ha hb. (each k a b ha hb, known.marked k a ha))

    use_like : (a b : OpenCommand) → Went a b → (x : ℕ) → answers (use_at names b x) ≡ answers (use_at names a x)
    unfolding Went
    use_like a b w x = ap answers (use_as names a b a.phase x w.0.turns) ∙ (has_is names a.op a.update a.phase b.marks x ∙ sym (has_is names a.op a.update a.phase a.marks x))

    stage_like : (a b : OpenCommand) → Went a b → (x : OpId) → answers (stage_at b x) ≡ answers (stage_at a x)
    unfolding Went
    stage_like a b w x = ap answers (stage_forgot a b w.0.turns x)

    seek_uses : (xs ys : List OpenCommand) → Zip Went xs ys → (x : ℕ) → seek (use_at names) ys x ≡ mapped (forgets (name_at names place)) (seek (use_at names) xs x)
    unfolding Went
    seek_uses [] [] z x = refl
    seek_uses [] (b ∷ ys) z x = absurd z
    seek_uses (a ∷ xs) [] z x = absurd z
    seek_uses (a ∷ xs) (b ∷ ys) z x = (λ i. over (uses_forgot a b z.0.0 z.0.1 x i) (seek_uses xs ys z.1 x i)) ∙ both (use_at names a x) (seek (use_at names) xs x)
      where
        both : (p r : Option Use) → over (mapped (forgets (name_at names place)) p) (mapped (forgets (name_at names place)) r) ≡ mapped (forgets (name_at names place)) (over p r)
        both None r = refl
        both (Some v) r = refl

    seek_stages : (xs ys : List OpenCommand) → Zip Went xs ys → (x : OpId) → seek stage_at ys x ≡ seek stage_at xs x
    unfolding Went
    seek_stages [] [] z x = refl
    seek_stages [] (b ∷ ys) z x = absurd z
    seek_stages (a ∷ xs) [] z x = absurd z
    seek_stages (a ∷ xs) (b ∷ ys) z x = λ i. over (stage_forgot a b z.0.0.turns x i) (seek_stages xs ys z.1 x i)

    pub lose_known : AreKnown names made os'
    unfolding Went
    lose_known = record {
      uses_alone = alone_of (use_at names) os' (apart_like (use_at names) Went use_like os os' went (apart_of (use_at names) os known.uses_alone));
      stages_alone = alone_of stage_at os' (apart_like stage_at Went stage_like os os' went (apart_of stage_at os known.stages_alone));
      uses_made = λ x e. seek_like (use_at names) Went use_like os os' went x ∙ known.uses_made x e;
      marked = zip_get Went (λ p. length p.marks ≡ length names) (λ p. length p.marks ≡ length names) (λ a b w h. w.0.turns.marks ∙ h) os os' went known.marked;
      first = zip_get Went (λ p. first_in p.phase < length names) (λ p. first_in p.phase < length names) (λ a b w h. subst (λ ph. first_in ph < length names) (sym w.0.turns.phase) h) os os' went known.first;
    }

    forgets_unused : (x : ℕ) (r : Option Use) → or_as (mapped (forgets (name_at names place)) r) (unused made x) ≡ forgets (name_at names place) (or_as r (unused made x))
    forgets_unused x None = go (is_made made x)
      where
        go : (b : Bool) → cond b Spent Fresh ≡ forgets (name_at names place) (cond b Spent Fresh)
        go true = refl
        go false = refl
    forgets_unused x (Some v) = refl

    pub lose_follows : (lost lost' : List Bool) → ArePlaces names lost → lost' ≡ slice_set lost place true → (s : State) → Says names lost made os s → Says names lost' made os' (see_loss (name_at names place) s).state
    unfolding upd
    lose_follows lost lost' places is s h = record {
      references = h.references;
      uses = fun_ext (λ x. ap (λ (f : ℕ → Use). forgets (name_at names place) (f x)) h.uses ∙ sym (ap (λ z. or_as z (unused made x)) (seek_uses os os' went x) ∙ forgets_unused x (seek (use_at names) os x)));
      opened = h.opened ∙ sym len;
      stages = h.stages ∙ fun_ext (λ x. ap (λ z. or_as z Closed) (sym (seek_stages os os' went x)));
      lost_peers = fun_ext (λ q. ap (λ (f : Node → Bool). cond (same_atom (name_at names place) q) true (f q)) h.lost_peers
          ∙ sym (ap (λ z. lost_in names z q) is ∙ reads_set (λ b. b) false names lost place true q apart places.flags l));
    }

pub lose_places : (names : List Node) (lost : List Bool) (place : ℕ) → ArePlaces names lost → 0 < place → ArePlaces names (slice_set lost place true)
lose_places names lost place places l = record {
  some = places.some;
  few = places.few;
  flags = length-set lost place true ∙ places.flags;
  own = let ne : 0 ≢ place = omega arith in rw get_or-set_other places.own;
}

-- a further command is changed
pub set_get_other : (xs : List OpenCommand) (i j : ℕ) (v : OpenCommand) → (i ≡ j → ⊥) → slice_get (slice_set xs i v) j ≡ slice_get xs j
set_get_other [] i j v n = refl
set_get_other (x ∷ xs) zero zero v n = absurd (n refl)
set_get_other (x ∷ xs) zero (suc j) v n = refl
set_get_other (x ∷ xs) (suc i) zero v n = refl
set_get_other (x ∷ xs) (suc i) (suc j) v n = set_get_other xs i j v (λ e. n (ap suc e))

set_get_same : (xs : List OpenCommand) (i : ℕ) (v : OpenCommand) → i < length xs → slice_get (slice_set xs i v) i ≡ Some v
set_get_same [] i v l = absurd (none_less i l)
  where
    none_less : (i : ℕ) → i < 0 → ⊥
    none_less i l = omega arith
set_get_same (x ∷ xs) zero v l = refl
set_get_same (x ∷ xs) (suc i) v l = set_get_same xs i v (less i (length xs) l)
  where
    less : (i n : ℕ) → suc i < suc n → i < n
    less i n l = omega arith

-- one more command forgets the node at a place
module _ (place k : ℕ) (first before : List OpenCommand) (o o' : OpenCommand) (within : k < length before) (is : o ≡ get_or before k o) (forgot : Forgets place o o')
    (done : (j : ℕ) (old new : OpenCommand) → j < k → slice_get first j ≡ Some old → slice_get before j ≡ Some new → Forgets place old new)
    (left : (j : ℕ) → k ≤ j → slice_get before j ≡ slice_get first j) where
  pub forgets_more : (j : ℕ) (old new : OpenCommand) → j < k + 1 → slice_get first j ≡ Some old → slice_get (slice_set before k o') j ≡ Some new → Forgets place old new
  forgets_more j old new l was now = go (k == j) refl
    where
      here : slice_get before k ≡ Some o
      here = slice_get_read before (length before) k o refl within is

      same_one : k ≡ j → Forgets place old new
      same_one e =
          let was_o : o ≡ old = one_item o old (sym here ∙ (left k (omega arith) ∙ (ap (slice_get first) e ∙ was))) in
          let now_o : o' ≡ new = one_item o' new (sym (set_get_same before k o' within) ∙ (ap (slice_get (slice_set before k o')) e ∙ now)) in
          subst (λ a. Forgets place a new) was_o (subst (Forgets place o) now_o forgot)

      go : (b : Bool) → (k == j) ≡ b → Forgets place old new
      go true e = same_one (eqb-true k j e)
      go false e =
          let apart : k ≢ j = λ same. clash (sym (eq-eqb k j same) ∙ e) in
          done j old new (omega (arith, l, apart)) was (sym (set_get_other before k j o' apart) ∙ now)

  pub left_more : (j : ℕ) → k + 1 ≤ j → slice_get (slice_set before k o') j ≡ slice_get first j
  left_more j l = let apart : k ≢ j = omega (arith, l) in set_get_other before k j o' apart ∙ left j (omega (arith, l))
