-- Where no packet is on the way each node is formed, no lock is held, and no command has an attempt under way.
use Rattle.std.proofs.Common.{◌≡◌, ◌≢◌, ◌⊎◌, inl, inr, ℕ, ◌<◌, zero, suc, Bool, true, false, not, length}
use Rattle.std.proofs.Common.{List, [], ◌∷◌, Option, Some, None, refl, ap, sym, ◌∙◌, subst, arith}
use Rattle.std.specs.List.{IsDistinct, list_all, remove}
use Rattle.std.proofs.lemmas.Bool.{and_from, cases_eq, ne_eqb}
use Rattle.std.proofs.lemmas.Bool.Decides.{Decides-ltb}
use Rattle.std.proofs.lemmas.List.{length-map}
use Rattle.pg_term.specs.declared.term.Term.{Term}
use Rattle.pg_term.specs.RefParts.{RefParts}
use Rattle.pg_term.specs.Same.{same_atom}
use Rattle.pg_step.specs.PgRefs.Numbered.{numbered}
use Rattle.pg_step.specs.PgGroup.declared.update.Update.{Update}
use Rattle.pg_step.specs.PgGroup.Value.{name_of}
use Rattle.pg_step.specs.PgLock.Locks.{is_holder}
use Rattle.pg_step.specs.Machines.Places.{is_place, is_pair}
use Rattle.pg_step.specs.declared.command.OpId.{OpId}
use Rattle.pg_step.specs.Nodes.{Node, every}
use Rattle.pg_step.specs.State.{State, Status, Use, Stage}
use Rattle.pg_step.specs.State.Status.{Unasked, Asked, Yes, No}
use Rattle.pg_step.specs.State.Use.{Fresh, Locking, Owning, Updating, Spent}
use Rattle.pg_step.specs.State.Stage.{Closed, Waiting, Asking, Changing}
use Rattle.pg_step.specs.Attempts.{is_asked, none_missing, is_complete, gathered}
use Rattle.pg_step.specs.Config.{Config, names_of, name_at, nodes_at}
use Rattle.pg_step.specs.FrameMachine.{FrameWorld}
use Rattle.pg_step.proofs.Once.{clash}
use Rattle.pg_laws.specs.Counted.{is_open}
use Rattle.pg_laws.specs.Sent.{exchanges_in}
use Rattle.pg_laws.specs.Quiet.{IsQuiet, AllFormed, NoLockHeld, NothingUnderWay, is_waiting}
use Rattle.pg_laws.proofs.ends.Apart.{name_of_place, pair_second, pair_swapped}
use Rattle.pg_laws.proofs.ends.Posts.{Posted, post}
use Rattle.pg_laws.proofs.locks.Kept.{Inv, talk}
use Rattle.pg_laws.proofs.locks.Lines.{Line, Fits, FitsStatus, FitsReply, outs, backs, holds}
use Rattle.pg_laws.proofs.locks.Lines.Line.{Quiet, Closing, Wanting, Giving, Refusing, Having, Telling, Confirming}
use Rattle.pg_laws.proofs.locks.Named.{World}
use Rattle.pg_laws.proofs.places.Bridged.{near_at}
use Rattle.pg_laws.proofs.places.Shown.{IsHere, Shows}
use Rattle.pg_laws.proofs.quiet.Linked.{HasReference, HasUpdate, IsLockingOf, IsUpdatingOf, IsUnder}
use Rattle.pg_laws.proofs.quiet.Runs.{IsOfNode, Rested}
use Rattle.pg_laws.proofs.references.References.{about, references}

-- ---- nodes

pub each_name : (test : Node → Bool) (names : List Node) → ((p : ℕ) → p < length names → test (name_of_place names p) ≡ true) → list_all test names ≡ true
each_name test [] each = refl
each_name test (x ∷ xs) each = and_from (test x) (list_all test xs) (each 0 (omega arith)) (each_name test xs (λ p below. each (suc p) (omega arith)))

pub each_other : (test : Node → Bool) (names : List Node) (i : ℕ) → ((p : ℕ) → p < length names → i ≢ p → test (name_of_place names p) ≡ true) → list_all test (remove names i) ≡ true
each_other test [] zero each = refl
each_other test [] (suc i) each = refl
each_other test (x ∷ xs) zero each = each_name test xs (λ p below. each (suc p) (omega arith) (λ e. absurd (omega arith)))
each_other test (x ∷ xs) (suc i) each = and_from (test x) (list_all test (remove xs i)) (each 0 (omega arith) (λ e. absurd (omega arith)))
    (each_other test xs i (λ p below apart. each (suc p) (omega arith) (λ e. apart (omega arith))))

module _ (config : Config) where
  pub place_there : (p : ℕ) → p < length (names_of config) → IsHere config p
  place_there p below = (Decides-ltb p (length config)).1 (subst (λ n. p < n) (length-map config (λ start. start.name)) below)

  pub pair_of : (x y : ℕ) → IsHere config x → IsHere config y → x ≢ y → is_pair (length config) x y ≡ true
  pair_of x y here there apart = and_from (is_place (length config) x) _ here (and_from (is_place (length config) y) _ there (ap not (ne_eqb x y apart)))

  pub each_peer : (i : ℕ) → IsHere config i → (test : Node → Bool) → ((p : ℕ) → is_pair (length config) i p ≡ true → test (name_at config p) ≡ true) → list_all test (nodes_at config i).peers ≡ true
  each_peer i here test each = each_other test (names_of config) i (λ p below apart. each p (pair_of i p here (place_there p below) apart))

  pub every_node : (i : ℕ) → IsHere config i → (test : Node → Bool) → ((p : ℕ) → IsHere config p → test (name_at config p) ≡ true) → every (nodes_at config i) test ≡ true
  every_node i here test each = and_from (test (name_at config i)) _ (each i here) (each_peer i here test (λ p pair. each p (pair_second (length config) i p pair)))

-- ---- references about which nothing is on the way

-- of no use, or of none any more
abbrev pub IsAtRest : Use → Type 0
IsAtRest Fresh = Unit {0}
IsAtRest Spent = Unit {0}
IsAtRest used = ⊥

pub not_asked : (N : Term) (status : Status) (r : RefParts) (line : Line) → FitsStatus N status line → [] ≡ outs r line → [] ≡ backs r line → not (is_asked status) ≡ true
not_asked N Unasked r line fits out back = refl
not_asked N Yes r line fits out back = refl
not_asked N No r line fits out back = refl
not_asked N Asked r Quiet fits out back = absurd fits
not_asked N Asked r (Closing M) fits out back = absurd fits
not_asked N Asked r (Wanting M) fits out back = absurd (cc)
not_asked N Asked r (Giving M) fits out back = absurd (cc)
not_asked N Asked r Refusing fits out back = absurd (cc)
not_asked N Asked r (Having M) fits out back = absurd fits
not_asked N Asked r (Telling u) fits out back = absurd fits
not_asked N Asked r Confirming fits out back = absurd fits

pub has_replied : (u : Update) (replied : Bool) (r : RefParts) (line : Line) → FitsReply u replied line → [] ≡ outs r line → [] ≡ backs r line → replied ≡ true
has_replied u true r line fits out back = refl
has_replied u false r Quiet fits out back = absurd fits
has_replied u false r (Closing M) fits out back = absurd fits
has_replied u false r (Wanting M) fits out back = absurd fits
has_replied u false r (Giving M) fits out back = absurd fits
has_replied u false r Refusing fits out back = absurd fits
has_replied u false r (Having M) fits out back = absurd fits
has_replied u false r (Telling v) fits out back = absurd (cc)
has_replied u false r Confirming fits out back = absurd (cc)

pub holds_nothing : (used : Use) (p : Node) (r : RefParts) (line : Line) (M : Term) → IsAtRest used → Fits used p line → [] ≡ outs r line → holds line M ≡ false
holds_nothing Fresh p r line M rests fits out = ap (λ l. holds l M) fits
holds_nothing Spent p r Quiet M rests fits out = refl
holds_nothing Spent p r (Closing N) M rests fits out = absurd (cc)
holds_nothing Spent p r (Wanting N) M rests fits out = absurd fits
holds_nothing Spent p r (Giving N) M rests fits out = absurd fits
holds_nothing Spent p r Refusing M rests fits out = absurd fits
holds_nothing Spent p r (Having N) M rests fits out = absurd fits
holds_nothing Spent p r (Telling u) M rests fits out = absurd fits
holds_nothing Spent p r Confirming M rests fits out = absurd fits
holds_nothing (Locking op u lead st) p r line M rests fits out = absurd rests
holds_nothing (Owning N n) p r line M rests fits out = absurd rests
holds_nothing (Updating op u c replied) p r line M rests fits out = absurd rests

rests_gathers_none : (used : Use) (q : Node) → IsAtRest used → gathered used q ≡ None
rests_gathers_none Fresh q rests = refl
rests_gathers_none Spent q rests = refl
rests_gathers_none (Locking op u lead st) q rests = absurd rests
rests_gathers_none (Owning N n) q rests = absurd rests
rests_gathers_none (Updating op u c replied) q rests = absurd rests

locking_works : (op : OpId) (used : Use) → IsLockingOf op used → IsAtRest used → ⊥
locking_works op Fresh asks rests = asks
locking_works op Spent asks rests = asks
locking_works op (Locking other u lead st) asks rests = rests
locking_works op (Owning N n) asks rests = rests
locking_works op (Updating other u c replied) asks rests = rests

updating_works : (op : OpId) (used : Use) → IsUpdatingOf op used → IsAtRest used → ⊥
updating_works op Fresh changes rests = changes
updating_works op Spent changes rests = changes
updating_works op (Locking other u lead st) changes rests = rests
updating_works op (Owning N n) changes rests = rests
updating_works op (Updating other u c replied) changes rests = rests

-- ---- a quiet world

module _ (config : Config) (apart : IsDistinct same_atom (names_of config)) (v : FrameWorld) (all : Rested config apart v) (quiet : IsQuiet config v) where
  abbrev w : World
  w = all.bridged.has.world

  abbrev inv : Inv w
  inv = all.bridged.has.inv

  abbrev shows : Shows config v w
  shows = all.bridged.has.shows

  -- nothing is on the way from a node to one that may be itself
  way_none : (x y : ℕ) → IsHere config x → IsHere config y → w.wire (name_at config x) (name_at config y) ≡ []
  way_none x y here there = go (cases_eq x y)
    where
      go : (x ≡ y) ⊎ (x ≡ y → ⊥) → w.wire (name_at config x) (name_at config y) ≡ []
      go (inl e) = subst (λ z. w.wire (name_at config x) (name_at config z) ≡ []) e (inv.tidy.own (name_at config x))
      go (inr n) = shows.wire x y here there ∙ quiet x y (pair_of config x y here there n)

  -- how far a reference has come
  module _ (i c p : ℕ) (here : IsHere config i) (there : IsHere config p) where
    abbrev r : RefParts
    r = numbered (name_at config i) c

    line : talk w (name_at config i) c (name_at config p)
    line = inv.lines (name_at config i) c (name_at config p) (near_at config apart v w p i shows there here)

    out_none : [] ≡ outs r line.line
    out_none = sym (ap (about r) (way_none i p here there)) ∙ line.out_is

    back_none : [] ≡ backs r line.line
    back_none = sym (ap (about r) (way_none p i there here)) ∙ line.back_is

    fits_as : (used : Use) → (v.node i).uses c ≡ used → Fits used (name_at config p) line.line
    fits_as used is = subst (λ x. Fits x (name_at config p) line.line) (ap (λ (s : State). s.uses c) (shows.node i here) ∙ is) line.fits

  -- a reference that asks for a lock has all answers, and one of an update all replies
  asking_complete : (i c : ℕ) → IsHere config i → (op : OpId) (u : Update) (lead : Node) (st : Node → Status) → (v.node i).uses c ≡ Locking op u lead st → none_missing (nodes_at config i) st ≡ true
  asking_complete i c here op u lead st is = every_node config i here (λ q. not (is_asked (st q)))
      (λ p there. not_asked (name_of u) (st (name_at config p)) (r i c p here there) (line i c p here there).line (fits_as i c p here there (Locking op u lead st) is) (out_none i c p here there) (back_none i c p here there))

  changing_complete : (i n : ℕ) → IsHere config i → (op : OpId) (u : Update) (c : ℕ) (replied : Node → Bool) → (v.node i).uses n ≡ Updating op u c replied → every (nodes_at config i) replied ≡ true
  changing_complete i n here op u c replied is = every_node config i here replied
      (λ p there. has_replied u (replied (name_at config p)) (r i n p here there) (line i n p here there).line (fits_as i n p here there (Updating op u c replied) is) (out_none i n p here there) (back_none i n p here there))

  -- so that it is none that asks, or under which an update goes out
  module _ (i : ℕ) (here : IsHere config i) where
    abbrev s : State
    s = v.node i

    not_complete : (c : ℕ) (used : Use) → s.uses c ≡ used → is_complete (nodes_at config i) used ≡ true → ⊥
    not_complete c used is complete = clash (sym complete ∙ ap (is_complete (nodes_at config i)) (sym is) ∙ (all.settled i here).gather c)

    no_update : (c : ℕ) (name : Term) (n : ℕ) (used : Use) → s.uses n ≡ used → IsUnder name c used → ⊥
    no_update c name n (Updating op u lock replied) is under = not_complete n (Updating op u lock replied) is (changing_complete i n here op u lock replied is)
    no_update c name n Fresh is under = under
    no_update c name n Spent is under = under
    no_update c name n (Locking op u lead st) is under = under
    no_update c name n (Owning other k) is under = under

    rests_as : (c : ℕ) (used : Use) → s.uses c ≡ used → IsAtRest used
    rests_as c Fresh is = tt
    rests_as c Spent is = tt
    rests_as c (Locking op u lead st) is = absurd (not_complete c (Locking op u lead st) is (asking_complete i c here op u lead st is))
    rests_as c (Updating op u lock replied) is = absurd (not_complete c (Updating op u lock replied) is (changing_complete i c here op u lock replied is))
    rests_as c (Owning name n) is = absurd (no_update c name n (s.uses n) refl (subst (λ x. HasUpdate c x s.uses) is ((all.linked i).links.owned c)))

    -- each reference is at rest
    pub at_rest : (c : ℕ) → IsAtRest (s.uses c)
    at_rest c = rests_as c (s.uses c) refl

    waits : (op : OpId) (stage : Stage) → HasReference op stage s.uses → is_waiting stage ≡ is_open stage
    waits op Closed has = refl
    waits op (Waiting u) has = refl
    waits op (Asking c) has = absurd (locking_works op (s.uses c) has (at_rest c))
    waits op (Changing n) has = absurd (updating_works op (s.uses n) has (at_rest n))

    pub nothing_under_way : NothingUnderWay s
    nothing_under_way = record {
      waits = λ op. waits op (s.stages op) ((all.linked i).links.asked op);
      none_gathered = λ c q. rests_gathers_none (s.uses c) q (at_rest c);
    }

  -- who holds a lock is one whose reference is not at rest
  pub no_lock_held : NoLockHeld config v
  no_lock_held i name here = go ((v.node i).locks name) refl
    where
      go : (holder : Option RefParts) → (v.node i).locks name ≡ holder → (v.node i).locks name ≡ None
      go None is = is
      go (Some held_by) is =
          let known : IsOfNode config held_by = (all.settled i here).known name held_by is in
          let h = known.place in
          let c = known.number in
          let home = known.here in
          let there : ((w.node (name_at config i)).locks name ≡ Some (r h c i home here)) = ap (λ (s : State). s.locks name) (shows.node i here) ∙ is ∙ ap Some known.is in
          let holds_it : is_holder ((w.node (name_at config i)).locks name) (r h c i home here) ≡ true = ap (λ o. is_holder o (r h c i home here)) there ∙ references.refl (r h c i home here) in
          let none : holds (line h c i home here).line name ≡ false =
          holds_nothing ((v.node h).uses c) (name_at config i) (r h c i home here) (line h c i home here).line name (at_rest h home c) (fits_as h c i home here ((v.node h).uses c) refl) (out_none h c i home here) in
          absurd (clash (sym holds_it ∙ (line h c i home here).hold_is name ∙ none))

  -- the exchange of each peer was taken
  pub all_formed : Posted config v → AllFormed config v
  all_formed posted i here = each_peer config i here (v.node i).merged (λ p pair. taken p (v.node i).merged (sym (posted p i pair) ∙ ap exchanges_in (quiet p i (pair_swapped (length config) i p pair))))
    where
      taken : (p : ℕ) (merged : Node → Bool) → post config p (merged (name_at config p)) ≡ [] → merged (name_at config p) ≡ true
      taken p merged none = go (merged (name_at config p)) refl none
        where
          go : (b : Bool) → merged (name_at config p) ≡ b → post config p b ≡ [] → merged (name_at config p) ≡ true
          go true is e = is
          go false is e = absurd (cc)
