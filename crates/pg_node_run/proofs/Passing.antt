-- What a put and a pull have moved.
use Rattle.std.proofs.Common.{◌≡◌, ◌<◌, ◌≤◌, ◌+◌, ◌∙◌, ℕ, Bool, cond, nat_eq, get_or, take, drop, length, List, [], ◌++◌}
use Rattle.std.proofs.Common.{refl, sym, ap, subst, arith, length-append, length-drop, append-nil, inl}
use Rattle.std.proofs.Math.Nat.{min-zero}
use Rattle.std.proofs.Math.Path.{fun_ext}
use Rattle.std.proofs.lemmas.Bool.{eqb-true}
use Rattle.std.proofs.lemmas.Option.{slice_get-get_or}
use Rattle.std.specs.Prelude.{slice_get, slice_set, IfSome, Result, Ok, Err, IfOk, OnErr}
use Rattle.std.specs.Prelude.{true, false, eqb, min, Option, Some, None}
use Rattle.pg_node.specs.PgGroup.Functions.{upd}
use Rattle.pg_node.specs.PgNodeState.declared.state.fault.NodeFault.{NodeFault}
use Rattle.pg_node.specs.Links.{Link, at_link, without_front, with_fed}
use Rattle.pg_node_run.specs.declared.linked.Peer.{Peer}
use Rattle.pg_node_run.specs.Follows.{HaveMoved}
use Rattle.pg_node_run.proofs.Moving.{link_there, link_else, marks_kept, unmoved, put_moved, pull_moved, peer_set}

pub put_count : (links links2 : ℕ → Link) (k n : ℕ) → links2 ≡ at_link k (λ l. without_front l n) links → n ≤ length (links k).outbox
    → length (links2 k).outbox + n ≡ length (links k).outbox
put_count links links2 k n is some =
    let out : (links2 k).outbox ≡ drop n (links k).outbox = ap (λ (ls : ℕ → Link). (ls k).outbox) is ∙ ap (λ (l : Link). l.outbox) (link_there k (λ l. without_front l n) links) in
    let len = ap length out in
    omega (arith, len, some, length-drop n (links k).outbox)

pub pull_count : {I : Type 0} (gives : I → List ℕ → I → Type 0) (links links2 : ℕ → Link) (k : ℕ) (r : Result ℕ NodeFault) (inlet inlet2 : I)
    → IfOk r (λ count. (piece : List ℕ) × (length piece ≡ count) × gives inlet piece inlet2 × (links2 ≡ at_link k (λ l. with_fed l piece) links))
    → IfOk r (λ count. length (links2 k).unread ≡ length (links k).unread + count)
pull_count gives links links2 k (Ok count) inlet inlet2 fed =
    let came : (links2 k).unread ≡ (links k).unread ++ fed.0 = ap (λ (ls : ℕ → Link). (ls k).unread) fed.3 ∙ ap (λ (l : Link). l.unread) (link_there k (λ l. with_fed l fed.0) links) in
    ap length came ∙ (length-append (links k).unread fed.0 ∙ ap (λ n. length (links k).unread + n) fed.1)
pull_count gives links links2 k (Err fault) inlet inlet2 fed = tt

-- the peer of which bytes are moved, and what holds of it
pub peer_holds : {P : Type 0} (peers : List P) (k : ℕ) (peer : P) (Holds : P → Type 0) → k < length peers → peer ≡ get_or peers k peer → Holds peer → IfSome (slice_get peers k) Holds
peer_holds peers k peer Holds within is holds = subst (λ o. IfSome o Holds) (sym (slice_get-get_or peers k peer within)) (subst Holds is holds)

pub pull_many : {P : Type 0} (peers : List P) (k : ℕ) (peer : P) (Holds : ℕ → P → Type 0) (r : Result ℕ NodeFault) → k < length peers → peer ≡ get_or peers k peer
    → IfOk r (λ count. Holds count peer) → IfOk r (λ count. IfSome (slice_get peers k) (Holds count))
pull_many peers k peer Holds (Ok count) within is holds = peer_holds peers k peer (Holds count) within is holds
pull_many peers k peer Holds (Err fault) within is holds = tt

-- where nothing waits nothing is put, whichever the peer is
pub none_put : {L I : Type 0} (moves : L → ℕ → ℕ → Type 0) → ((a : L) → moves a 0 0) → (max : ℕ) (outbox : List ℕ) → eqb (length outbox) 0 ≡ true → (peer : Option (Peer L I))
    → IfSome peer (λ (of : Peer L I). moves of.link (min max (length outbox)) 0)
none_put moves idles max outbox none None = tt
none_put moves idles max outbox none (Some of) = subst (λ n. moves of.link n 0) (sym (ap (min max) (eqb-true (length outbox) 0 none) ∙ min-zero max)) (idles of.link)

-- then the link is as it was
pub unput : (links : ℕ → Link) (k : ℕ) → links ≡ at_link k (λ l. without_front l 0) links
unfolding upd
unput links k = fun_ext (λ place. go place (nat_eq k place) (eqb-true k place))
  where
    go : (place : ℕ) (b : Bool) → (b ≡ true → k ≡ place) → links place ≡ cond b (without_front (links k) 0) (links place)
    go place true is = ap links (sym (is refl))
    go place false is = refl

-- a put makes no mark, nor does a pull
pub put_marks : (links links2 : ℕ → Link) (k n : ℕ) → links2 ≡ at_link k (λ l. without_front l n) links → (place : ℕ) → (links2 place).damaged ≡ (links place).damaged
put_marks links links2 k n is place = ap (λ (ls : ℕ → Link). (ls place).damaged) is ∙ marks_kept k (λ l. without_front l n) (λ l. refl) links place

pub pull_marks : {I : Type 0} (gives : I → List ℕ → I → Type 0) (links links2 : ℕ → Link) (k : ℕ) (r : Result ℕ NodeFault) (inlet inlet2 : I)
    → IfOk r (λ count. (piece : List ℕ) × (length piece ≡ count) × gives inlet piece inlet2 × (links2 ≡ at_link k (λ l. with_fed l piece) links))
    → OnErr r (links2 ≡ links) → (place : ℕ) → (links2 place).damaged ≡ (links place).damaged
pull_marks gives links links2 k (Ok count) inlet inlet2 fed kept place =
    ap (λ (ls : ℕ → Link). (ls place).damaged) fed.3 ∙ marks_kept k (λ l. with_fed l fed.0) (λ l. refl) links place
pull_marks gives links links2 k (Err fault) inlet inlet2 fed kept place = ap (λ (ls : ℕ → Link). (ls place).damaged) kept

module _ {L I : Type 0} (accepts : L → List ℕ → L → Type 0) (gives : I → List ℕ → I → Type 0) (link_rests : (a : L) → accepts a [] a) (inlet_rests : (a : I) → gives a [] a)
    (links links2 : ℕ → Link) (peers : List (Peer L I)) (k : ℕ) where
  pub have_put : (n : ℕ) (peer peer2 : Peer L I) → k < length peers → peer ≡ get_or peers k peer → links2 ≡ at_link k (λ l. without_front l n) links
      → accepts peer.link (take n (links k).outbox) peer2.link → peer2.inlet ≡ peer.inlet → HaveMoved accepts gives [] links links2 peers (slice_set peers k peer2)
  have_put n peer peer2 within here is accepted same =
      let there : links2 k ≡ without_front (links k) n = ap (λ (ls : ℕ → Link). ls k) is ∙ link_there k (λ l. without_front l n) links in
      peer_set accepts gives [] links links2 peers k peer peer2 within here
      (put_moved accepts gives inlet_rests k n (links k) (links2 k) peer peer2 accepted same (ap (λ (l : Link). l.outbox) there) (ap (λ (l : Link). l.unread) there) (λ d. ap (λ (l : Link). l.damaged) there ∙ d))
      (λ place other apart.
      let else : links2 place ≡ links place = ap (λ (ls : ℕ → Link). ls place) is ∙ link_else k place (λ l. without_front l n) links apart in
      unmoved accepts gives link_rests inlet_rests place (links place) (links2 place) other (ap (λ (l : Link). l.outbox) else) (ap (λ (l : Link). l.unread) else) (λ d. ap (λ (l : Link). l.damaged) else ∙ d))

  pub have_pulled : (piece : List ℕ) (peer peer2 : Peer L I) → k < length peers → peer ≡ get_or peers k peer → links2 ≡ at_link k (λ l. with_fed l piece) links
      → gives peer.inlet piece peer2.inlet → peer2.link ≡ peer.link → HaveMoved accepts gives [] links links2 peers (slice_set peers k peer2)
  have_pulled piece peer peer2 within here is gave same =
      let there : links2 k ≡ with_fed (links k) piece = ap (λ (ls : ℕ → Link). ls k) is ∙ link_there k (λ l. with_fed l piece) links in
      peer_set accepts gives [] links links2 peers k peer peer2 within here
      (pull_moved accepts gives link_rests k piece (links k) (links2 k) peer peer2 gave same (ap (λ (l : Link). l.outbox) there) (ap (λ (l : Link). l.unread) there) (λ d. ap (λ (l : Link). l.damaged) there ∙ d))
      (λ place other apart.
      let else : links2 place ≡ links place = ap (λ (ls : ℕ → Link). ls place) is ∙ link_else k place (λ l. with_fed l piece) links apart in
      unmoved accepts gives link_rests inlet_rests place (links place) (links2 place) other (ap (λ (l : Link). l.outbox) else) (ap (λ (l : Link). l.unread) else) (λ d. ap (λ (l : Link). l.damaged) else ∙ d))

  -- what stays, whatever the inlet is written back as
  pub have_stayed : (peer peer2 : Peer L I) → k < length peers → peer ≡ get_or peers k peer → links2 ≡ links → peer2.link ≡ peer.link → peer2.inlet ≡ peer.inlet
      → HaveMoved accepts gives [] links links2 peers (slice_set peers k peer2)
  have_stayed peer peer2 within here is same_link same_inlet =
      peer_set accepts gives [] links links2 peers k peer peer2 within here
      (record {
        put = [];
        accepted = subst (λ l. accepts peer.link [] l) (sym same_link) (link_rests peer.link);
        sent = λ none. (ap (λ (ls : ℕ → Link). (ls k).outbox) is) ∙ sym (append-nil (links k).outbox);
        closed = inl refl;
        idle = λ e _. (refl, ap (λ (ls : ℕ → Link). (ls k).outbox) is ∙ e);
        given = [];
        gave = subst (λ i. gives peer.inlet [] i) (sym same_inlet) (inlet_rests peer.inlet);
        taken = append-nil (links k).unread ∙ sym (ap (λ (ls : ℕ → Link). (ls k).unread) is);
        lasts = λ d. ap (λ (ls : ℕ → Link). (ls k).damaged) is ∙ d;
        still = λ d. refl;
      })
      (λ place other apart. unmoved accepts gives link_rests inlet_rests place (links place) (links2 place) other (ap (λ (ls : ℕ → Link). (ls place).outbox) is) (ap (λ (ls : ℕ → Link). (ls place).unread) is) (λ d. ap (λ (ls : ℕ → Link). (ls place).damaged) is ∙ d))

  -- what a pull has moved, if anything
  pub have_tried : (r : Result ℕ NodeFault) (peer peer2 : Peer L I) → k < length peers → peer ≡ get_or peers k peer → peer2.link ≡ peer.link
      → IfOk r (λ count. (piece : List ℕ) × (length piece ≡ count) × gives peer.inlet piece peer2.inlet × (links2 ≡ at_link k (λ l. with_fed l piece) links))
      → OnErr r (links2 ≡ links) → OnErr r (peer2.inlet ≡ peer.inlet) → HaveMoved accepts gives [] links links2 peers (slice_set peers k peer2)
  have_tried (Ok count) peer peer2 within here same fed kept stays = have_pulled fed.0 peer peer2 within here fed.3 fed.2 same
  have_tried (Err fault) peer peer2 within here same fed kept stays = have_stayed peer peer2 within here kept same stays
