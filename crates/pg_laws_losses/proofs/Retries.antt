-- Where nothing is on the way to a node that is not lost, each of its open commands waits for its retry.
use Rattle.std.proofs.Common.{◌≡◌, ◌≢◌, ℕ, Bool, true, false, not, cond, length}
use Rattle.std.proofs.Common.{map, List, [], ◌∷◌, ◌++◌, refl, ap, sym, ◌∙◌, subst}
use Rattle.std.specs.Cmp.{first_so, second_so}
use Rattle.std.specs.List.{IsDistinct, filter, list_all}
use Rattle.std.proofs.lemmas.Bool.{and_from}
use Rattle.pg_term.specs.declared.term.Term.{Term}
use Rattle.pg_term.specs.Same.{same_atom}
use Rattle.pg_laws.specs.PgRefs.Numbered.{numbered}
use Rattle.pg_laws.specs.PgGroup.Value.{name_of}
use Rattle.pg_laws.specs.PgMessageTypes.declared.message.Message.{Message}
use Rattle.pg_laws.specs.PgStep.Machines.Clocked.{packets_of}
use Rattle.pg_laws.specs.PgStep.Machines.Losing.{LosingEvent, Noticed, Sent, Last}
use Rattle.pg_laws.specs.PgStep.Machines.Machine.{node_of}
use Rattle.pg_laws.specs.PgStep.Machines.Places.{is_pair}
use Rattle.pg_laws.proofs.PgStep.Machines.Places.{by_place}
use Rattle.pg_laws.specs.PgStep.declared.command.OpId.{OpId}
use Rattle.pg_laws.specs.PgStep.Attempts.{is_asked, is_complete, waits}
use Rattle.pg_laws.specs.PgStep.Config.{Config, names_of, name_at, nodes_at}
use Rattle.pg_laws.specs.PgStep.FrameMachine.{FrameWorld, machine_of}
use Rattle.pg_laws.specs.PgStep.Losses.{forgets, see_loss}
use Rattle.pg_laws.specs.PgStep.LossLaws.{LosingFrameWorld}
use Rattle.pg_laws.specs.PgStep.Nodes.{Node, Nodes, every}
use Rattle.pg_laws.specs.PgStep.State.{State, Use, Stage, live_nodes}
use Rattle.pg_laws.specs.PgStep.State.Use.{Fresh, Locking, Owning, Updating, Spent}
use Rattle.pg_laws.specs.PgStep.State.Stage.{Closed, Waiting, Asking, Changing}
use Rattle.pg_laws.specs.PgStep.Step.{Action}
use Rattle.pg_laws.specs.Counted.{is_open}
use Rattle.pg_laws.proofs.locks.Kept.{live_own, talk}
use Rattle.pg_laws.proofs.locks.Lines.{Fits, backs, outs}
use Rattle.pg_laws.proofs.locks.Named.{World}
use Rattle.pg_laws.proofs.places.Shown.{IsHere}
use Rattle.pg_laws.proofs.quiet.Linked.{HasReference, HasUpdate, IsLockingOf, IsUnder}
use Rattle.pg_laws.proofs.quiet.Linked.{IsUpdatingOf, Linked, first_linked, step_linked}
use Rattle.pg_laws.proofs.quiet.Rest.{each_other, has_replied, not_asked, pair_of, place_there}
use Rattle.pg_laws.proofs.references.References.{about}
use Rattle.pg_laws.proofs.steps.Ways.{state_after}
use Rattle.pg_laws_losses.specs.Quiet.{IsQuietLive, WaitsForRetries}
use Rattle.pg_laws_losses.specs.Reached.{LosingReaches}
use Rattle.pg_laws_losses.proofs.Bridge.{Has, Left, live_at, near_at}
use Rattle.pg_laws_losses.proofs.Bridges.{bridged}
use Rattle.pg_laws_losses.proofs.Carried.{IsKept, carried_past}
use Rattle.pg_laws_losses.proofs.Lossy.{Lossy, bare}
use Rattle.pg_laws_losses.proofs.Standing.{loss_fits}

-- ---- commands and their references, where a loss is seen

forgets_locking : (peer : Node) (op : OpId) (used : Use) → IsLockingOf op used → IsLockingOf op (forgets peer used)
forgets_locking peer op (Locking other u lead st) asks = asks
forgets_locking peer op Fresh asks = absurd asks
forgets_locking peer op Spent asks = absurd asks
forgets_locking peer op (Owning name n) asks = absurd asks
forgets_locking peer op (Updating other u c replied) asks = absurd asks

forgets_updating : (peer : Node) (op : OpId) (used : Use) → IsUpdatingOf op used → IsUpdatingOf op (forgets peer used)
forgets_updating peer op (Updating other u c replied) changes = changes
forgets_updating peer op Fresh changes = absurd changes
forgets_updating peer op Spent changes = absurd changes
forgets_updating peer op (Owning name n) changes = absurd changes
forgets_updating peer op (Locking other u lead st) changes = absurd changes

forgets_reference : (peer : Node) (op : OpId) (stage : Stage) (uses : ℕ → Use) → HasReference op stage uses → HasReference op stage (λ c. forgets peer (uses c))
forgets_reference peer op (Asking c) uses has = forgets_locking peer op (uses c) has
forgets_reference peer op (Changing n) uses has = forgets_updating peer op (uses n) has
forgets_reference peer op (Waiting u) uses has = tt
forgets_reference peer op Closed uses has = tt

forgets_under : (peer : Node) (name : Term) (c : ℕ) (used : Use) → IsUnder name c used → IsUnder name c (forgets peer used)
forgets_under peer name c (Updating op u lock replied) under = under
forgets_under peer name c Fresh under = absurd under
forgets_under peer name c Spent under = absurd under
forgets_under peer name c (Owning other n) under = absurd under
forgets_under peer name c (Locking op u lead st) under = absurd under

forgets_update : (peer : Node) (c : ℕ) (used : Use) (uses : ℕ → Use) → HasUpdate c used uses → HasUpdate c (forgets peer used) (λ d. forgets peer (uses d))
forgets_update peer c (Owning name n) uses has = forgets_under peer name c (uses n) has
forgets_update peer c Fresh uses has = tt
forgets_update peer c Spent uses has = tt
forgets_update peer c (Locking op u lead st) uses has = tt
forgets_update peer c (Updating op u lock replied) uses has = tt

loss_linked : (peer : Node) (s : State) → Linked s → Linked (see_loss peer s).state
loss_linked peer s linked = record {
  fitting = loss_fits peer s linked.fitting;
  links = record {
    asked = λ op. forgets_reference peer op (s.stages op) s.uses (linked.links.asked op);
    owned = λ c. forgets_update peer c (s.uses c) s.uses (linked.links.owned c);
  };
}

AllLinked : FrameWorld → Type 0
AllLinked u = (i : ℕ) → Linked (u.node i)

linked_kept : (config : Config) → IsKept config AllLinked
unfolding AllLinked
linked_kept config = record {
  same = λ u v node reported all i. subst (λ (f : ℕ → State). Linked (f i)) (sym node) (all i);
  step = λ u v d h all i. state_after (machine_of config) u v d h Linked i
      (λ own. step_linked config (node_of d) (u.node (node_of d)) h.input h.turn h.made (all (node_of d))) (λ _. all i);
  loss = λ u i p all j. by_place u.node i (see_loss (name_at config p) (u.node i)).state Linked j (λ own. loss_linked (name_at config p) (u.node i) (all i)) (λ other. all j);
}

-- ---- what is on a way

nothing_sent : (all : List Message) → [] ≡ map Sent all → all ≡ []
nothing_sent [] e = refl
nothing_sent (x ∷ xs) e = absurd (cc)

no_last : (front : List Message) → [] ≡ map Sent front ++ Last ∷ [] → ⊥
no_last [] e = absurd (cc)
no_last (x ∷ xs) e = absurd (cc)

-- who is lost has a last notice on the way, until that is taken
pub lost_waits : (b : Bool) (all : List Message) → Left b [] all → b ≡ false
lost_waits false all left_over = refl
lost_waits true all left_over = absurd (no_last left_over.0 left_over.2)

-- nothing is left of what a node that is not lost has sent
none_left : (b : Bool) (way : List (Noticed Message)) (all : List Message) → way ≡ [] → b ≡ false → Left b way all → all ≡ []
none_left b way all none lives left_over = nothing_sent all (subst (λ z. z ≡ map Sent all) none (subst (λ z. Left z way all) lives left_over))

-- ---- the nodes that count

pub every_left : (f test : Node → Bool) (xs : List Node) → list_all (λ q. cond (f q) (test q) true) xs ≡ true → list_all test (filter f xs) ≡ true
every_left f test [] all = refl
every_left f test (x ∷ xs) all = go (f x) (first_so (cond (f x) (test x) true) (list_all (λ q. cond (f q) (test q) true) xs) all) (every_left f test xs (second_so (cond (f x) (test x) true) (list_all (λ q. cond (f q) (test q) true) xs) all))
  where
    go : (b : Bool) → cond b (test x) true ≡ true → list_all test (filter f xs) ≡ true → list_all test (cond b (x ∷ filter f xs) (filter f xs)) ≡ true
    go true here rest = and_from (test x) (list_all test (filter f xs)) here rest
    go false here rest = rest

module _ (config : Config) (apart : IsDistinct same_atom (names_of config)) (v : Lossy) (has : Has config apart v)
    (quiet : (x y : ℕ) → is_pair (length config) x y ≡ true → v.gone y ≡ false → v.world.wire x y ≡ []) (i : ℕ) (here : IsHere config i) (lives : v.gone i ≡ false) where
  abbrev s : State
  s = v.world.node i

  abbrev w : World
  w = has.world

  abbrev own : Node
  own = name_at config i

  abbrev m : Nodes
  m = live_nodes (nodes_at config i) s

  -- nobody has seen its loss
  unseen_at : (p : ℕ) → IsHere config p → (v.world.node p).lost own ≡ false
  unseen_at p there = sym (has.sees p own there) ∙ (live_at config apart v has i here lives).unseen (name_at config p)

  -- a peer that counts is not lost, since nothing is on the way from it
  module _ (p : ℕ) (there : IsHere config p) (other : i ≢ p) (counts : s.lost (name_at config p) ≡ false) where
    to_node : v.world.wire p i ≡ []
    to_node = quiet p i (pair_of config p i there here (λ e. other (sym e))) lives

    peer_lives : v.gone p ≡ false
    peer_lives = lost_waits (v.gone p) (has.ways p i) (subst (λ z. Left (v.gone p) z (has.ways p i)) to_node (has.cut p i there here (λ e. other (sym e)) counts))

    from_peer : has.ways p i ≡ []
    from_peer = none_left (v.gone p) (v.world.wire p i) (has.ways p i) to_node peer_lives (has.cut p i there here (λ e. other (sym e)) counts)

    to_peer : has.ways i p ≡ []
    to_peer = none_left (v.gone i) (v.world.wire i p) (has.ways i p) (quiet i p (pair_of config i p here there other) peer_lives) lives (has.cut i p here there other (unseen_at p there))

  -- a node that counts, which may be the node itself: how far a reference has come there
  pub record Reached (c p : ℕ) : Type 0 where
    pub line : talk w own c (name_at config p)
    pub out : [] ≡ outs (numbered own c) line.line
    pub back : [] ≡ backs (numbered own c) line.line

  at_own : (c : ℕ) → Reached c i
  at_own c =
      let line = has.inv.lines own c own (live_own w own (live_at config apart v has i here lives)) in
      let none = has.inv.tidy.own own in
      record { line = line; out = sym (ap (about (numbered own c)) none) ∙ line.out_is; back = sym (ap (about (numbered own c)) none) ∙ line.back_is }

  at_peer : (c p : ℕ) → IsHere config p → i ≢ p → s.lost (name_at config p) ≡ false → Reached c p
  at_peer c p there other counts =
      let line = has.inv.lines own c (name_at config p) (near_at config apart v has p i there here (peer_lives p there other counts) (unseen_at p there)) in
      record {
        line = line;
        out = sym (ap (about (numbered own c)) (has.shows.wire i p here there ∙ to_peer p there other counts)) ∙ line.out_is;
        back = sym (ap (about (numbered own c)) (has.shows.wire p i there here ∙ from_peer p there other counts)) ∙ line.back_is;
      }

  fits_as : (c p : ℕ) (r : Reached c p) (used : Use) → s.uses c ≡ used → Fits used (name_at config p) r.line.line
  fits_as c p r used is = subst (λ x. Fits x (name_at config p) r.line.line) (ap (λ (z : State). z.uses c) (has.shows.node i here) ∙ is) r.line.fits

  each_counts : (c : ℕ) (test : Node → Bool) → ((p : ℕ) → Reached c p → test (name_at config p) ≡ true) → every m test ≡ true
  each_counts c test each = and_from (test own) (list_all test m.peers) (each i (at_own c))
      (every_left (λ q. not (s.lost q)) test (nodes_at config i).peers
      (each_other (λ q. cond (not (s.lost q)) (test q) true) (names_of config) i (λ p low other. go p (place_there config p low) other (s.lost (name_at config p)) refl)))
    where
      go : (p : ℕ) → IsHere config p → i ≢ p → (b : Bool) → s.lost (name_at config p) ≡ b → cond (not b) (test (name_at config p)) true ≡ true
      go p there other true _ = refl
      go p there other false counts = each p (at_peer c p there other counts)

  asking_complete : (op : OpId) (c : ℕ) (used : Use) → s.uses c ≡ used → IsLockingOf op used → is_complete m used ≡ true
  asking_complete op c (Locking other u lead st) is asks = each_counts c (λ q. not (is_asked (st q)))
      (λ p r. not_asked (name_of u) (st (name_at config p)) (numbered own c) r.line.line (fits_as c p r (Locking other u lead st) is) r.out r.back)
  asking_complete op c Fresh is asks = absurd asks
  asking_complete op c Spent is asks = absurd asks
  asking_complete op c (Owning name n) is asks = absurd asks
  asking_complete op c (Updating other u lock replied) is asks = absurd asks

  changing_complete : (op : OpId) (n : ℕ) (used : Use) → s.uses n ≡ used → IsUpdatingOf op used → is_complete m used ≡ true
  changing_complete op n (Updating other u lock replied) is changes = each_counts n replied
      (λ p r. has_replied u (replied (name_at config p)) (numbered own n) r.line.line (fits_as n p r (Updating other u lock replied) is) r.out r.back)
  changing_complete op n Fresh is changes = absurd changes
  changing_complete op n Spent is changes = absurd changes
  changing_complete op n (Owning name k) is changes = absurd changes
  changing_complete op n (Locking other u lead st) is changes = absurd changes

  waits_as : (op : OpId) (stage : Stage) → HasReference op stage s.uses → waits m stage s ≡ is_open stage
  waits_as op Closed has_ = refl
  waits_as op (Waiting u) has_ = refl
  waits_as op (Asking c) has_ = asking_complete op c (s.uses c) refl has_
  waits_as op (Changing n) has_ = changing_complete op n (s.uses n) refl has_

pub waits_for_retries : (config : Config) → IsDistinct same_atom (names_of config) → (es : List (LosingEvent Action)) (w : LosingFrameWorld) → LosingReaches config es w → IsQuietLive config w
    → (i : ℕ) → IsHere config i → w.gone i ≡ false → WaitsForRetries config w i
unfolding AllLinked
waits_for_retries config apart es w l quiet i here lives op =
    let all = carried_past config AllLinked (linked_kept config) es w l (λ j. first_linked ((machine_of config).first j) refl refl) in
    waits_as config apart (bare w) ((bridged config apart es w l).has) (λ x y pair alive. ap packets_of (quiet x y pair alive)) i here lives op ((w.world.node i).state.stages op) ((all i).links.asked op)
