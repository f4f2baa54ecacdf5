-- What crossed between two nodes that ran apart: what the one took is the first of what the other had sent.
use Rattle.std.proofs.Common.{◌≡◌, ◌<◌, ◌∙◌, ℕ, true, drop, length, map, List}
use Rattle.std.proofs.Common.{[], ◌∷◌, ◌++◌, sym, ap, subst, append_assoc, arith}
use Rattle.std.proofs.Math.Seq.{drop-append_seam}
use Rattle.pg_world.specs.PgFrame.Laws.{PiecesContinue, WrittenIsRead}
use Rattle.pg_world.specs.PgGroup.declared.table.GroupTable.{Ghosts}
use Rattle.pg_world.specs.PgStep.Machines.Places.{is_pair}
use Rattle.pg_world.specs.PgStep.Machines.Clocked.{Stamped}
use Rattle.pg_world.specs.PgMessageTypes.declared.message.Message.{Message}
use Rattle.pg_cluster_judges.specs.Logs.{sent_to, taken_from}
use Rattle.pg_world.specs.PgNode.declared.node.Node.{Node}
use Rattle.pg_world.specs.PgNode.Nodes.{links_of}
use Rattle.pg_node_run.specs.Acts.{frames_sent, frames_taken}
use Rattle.pg_node_run.specs.Follows.{node_of, peers_of, standing_of}
use Rattle.pg_world.specs.PgStep.Config.{Config, nodes_at, ports_at}
use Rattle.pg_world.specs.PgStep.FrameMachine.{frame_machine}
use Rattle.pg_world.specs.PgStep.Nodes.{all_of}
use Rattle.pg_cluster_judges.specs.Apart.{End, Linked, HaveRun, Unseen}
use Rattle.pg_cluster_judges.proofs.Begun.{apart, leads, opened, place_there}
use Rattle.pg_cluster_judges.proofs.Came.{Leaves, all_acts, left_can_cross, packets_taken, taken_alike}
use Rattle.pg_cluster_judges.proofs.Sent.{CanAllCross, cross_join, frames_are, frames_join}
use Rattle.pg_cluster_judges.proofs.Sent.{frames_on, packets_sent, sent_alike, sent_can_cross}
use Rattle.pg_cluster_judges.proofs.Turns.{act_at}
use Rattle.pg_world.specs.PgWorldPackets.Views.{peer_place}
use Rattle.pg_world.proofs.PgWorldPackets.Turning.{pair_is, pair_turned}

-- one of a list that has a place
one_of : {A : Type 0} (xs : List A) (k : ℕ) → k < length xs → A
one_of [] k low = absurd (omega (arith, low))
one_of (x ∷ xs) k low = x

-- What had come in and was to go out are `all`; more is written, some of it is put, some of that is given, and what was taken is
-- what had come in and was given, but for what is unread.
seam : (unread outbox all written taken unread2 given left put outbox2 : List ℕ) → unread ++ outbox ≡ all → put ++ outbox2 ≡ outbox ++ written
    → unread ++ given ≡ taken ++ unread2 → given ++ left ≡ put → taken ++ (unread2 ++ (left ++ outbox2)) ≡ all ++ written
seam unread outbox all written taken unread2 given left put outbox2 is out came ring =
    sym (append_assoc taken unread2 (left ++ outbox2))
    ∙ (ap (λ w. w ++ (left ++ outbox2)) (sym came)
    ∙ (append_assoc unread given (left ++ outbox2)
    ∙ (ap (λ w. unread ++ w) (sym (append_assoc given left outbox2) ∙ (ap (λ w. w ++ outbox2) ring ∙ out))
    ∙ (sym (append_assoc unread outbox written) ∙ ap (λ w. w ++ written) is))))

-- what is behind the first
behind_first : {A : Type 0} (all first left : List A) → all ≡ first ++ left → all ≡ first ++ drop (length first) all
behind_first all first left e = e ∙ ap (λ w. first ++ w) (sym (ap (drop (length first)) e ∙ drop-append_seam first left))

module _ {T : Type 0} {g : Ghosts T} (config : Config) (nodes : List (Node T g)) (begun ended : ℕ → Linked T g) (ran : HaveRun config nodes begun ended) where
  -- what node x was to send to node y by its acts, its opening before them
  abbrev pub sent_on : ℕ → ℕ → List (Stamped Message)
  sent_on x y = (frame_machine config).opening x y ++ sent_to y (map (act_at config x) (ran.acts x))

  abbrev pub taken_on : ℕ → ℕ → List (Stamped Message)
  taken_on x y = taken_from x (map (act_at config y) (ran.acts y))

  -- what was not taken of it
  abbrev pub left_on : ℕ → ℕ → List (Stamped Message)
  left_on x y = drop (length (taken_on x y)) (sent_on x y)

  -- what came to node y from node x and was not taken
  abbrev pub unread_on : ℕ → ℕ → List ℕ
  unread_on x y = (links_of (node_of (ended y)) (peer_place y x)).unread

  -- What node x put on its ring to node y is the first of what waited there, and then of the frames that it sent.
  abbrev pub PutsFirst : ℕ → ℕ → Type 0
  PutsFirst x y = (within : x < length config) (none : End) (low : peer_place x y < length (peers_of (begun x)))
      → (rest : List ℕ) × (((ran.follows x within).moved.each (peer_place x y) none low).put ++ rest
      ≡ (links_of (node_of (begun x)) (peer_place x y)).outbox ++ frames_sent (peer_place x y) (ran.acts x))

  -- so it is where no loss was seen
  pub puts_all : Unseen config nodes begun ended ran → (x y : ℕ) → PutsFirst x y
  puts_all unseen x y within none low =
      ((links_of (node_of (ended x)) (peer_place x y)).outbox, ((ran.follows x within).moved.each (peer_place x y) none low).sent (unseen x within (peer_place x y)))

  module _ (x y : ℕ) (pair : is_pair (length config) x y ≡ true) (puts : PutsFirst x y) where
    pub bytes_cross : (behind : List ℕ) × (frames_taken (peer_place y x) (ran.acts y) ++ (unread_on x y ++ behind) ≡ frames_on ((frame_machine config).opening x y) ++ frames_sent (peer_place x y) (ran.acts x))
    bytes_cross =
        let p = pair_is (length config) x y pair in
        let turned = pair_turned (length config) x y pair in
        let from_there = place_there config nodes begun ended ran x y pair in
        let none : End = one_of (peers_of (begun x)) (peer_place x y) from_there in
        let from = (ran.follows x p.0).moved.each (peer_place x y) none from_there in
        let to = (ran.follows y p.1).moved.each (peer_place y x) none (place_there config nodes begun ended ran y x turned) in
        let ring = ran.crossed x y none pair in
        let put = from.accepted.grown ∙ ap (λ w. w ++ from.put) ring.unsent in
        let given = to.gave.grown ∙ ap (λ w. w ++ to.given) ring.unreceived in
        let more = puts p.0 none from_there in (
          ring.left ++ more.0,
          seam (links_of (node_of (begun y)) (peer_place y x)).unread (links_of (node_of (begun x)) (peer_place x y)).outbox
              (frames_on ((frame_machine config).opening x y)) (frames_sent (peer_place x y) (ran.acts x)) (frames_taken (peer_place y x) (ran.acts y))
              (unread_on x y) to.given ring.left from.put more.0
              (opened config nodes begun ended ran x y pair) more.1 to.taken
              (ap (λ w. w ++ ring.left) (sym given) ∙ (ring.sent ∙ put)),
        )

    -- what node x sent can cross
    abbrev packets_on : List (Stamped Message)
    packets_on = (frame_machine config).opening x y ++ packets_sent (peer_place x y) (ran.acts x)

    all_can_cross : CanAllCross packets_on
    all_can_cross =
        let p = pair_is (length config) x y pair in
        cross_join ((frame_machine config).opening x y) (packets_sent (peer_place x y) (ran.acts x)) (ran.starts.traffic.cross x y pair)
        (sent_can_cross (all_of (nodes_at config x)) (ports_at config x) (peer_place x y) (standing_of (node_of (begun x))) (ran.acts x) (standing_of (node_of (ended x)))
        (leads config nodes begun ended ran x p.0))

    module _ (more : PiecesContinue) (read : WrittenIsRead) where
      packets_cross : Leaves packets_on (packets_taken (peer_place y x) (ran.acts y)) (unread_on x y ++ bytes_cross.0)
      packets_cross =
          let p = pair_is (length config) x y pair in
          let opening = (frame_machine config).opening x y in
          let sent = packets_sent (peer_place x y) (ran.acts x) in
          all_acts more read (all_of (nodes_at config y)) (ports_at config y) (peer_place y x) (standing_of (node_of (begun y))) (ran.acts y) (standing_of (node_of (ended y)))
          (unread_on x y ++ bytes_cross.0) packets_on (leads config nodes begun ended ran y p.1) all_can_cross
          (bytes_cross.1 ∙ (ap (λ w. frames_on opening ++ w) (frames_are (peer_place x y) (ran.acts x)) ∙ sym (frames_join opening sent)))

      split : sent_on x y ≡ taken_on x y ++ packets_cross.left
      split =
          let p = pair_is (length config) x y pair in
          let sent = sent_alike config x y p.0 p.1 p.2 (apart config nodes begun ended ran) (standing_of (node_of (begun x))) (ran.acts x) (standing_of (node_of (ended x))) (leads config nodes begun ended ran x p.0) in
          let taken = taken_alike config x y (λ e. p.2 (sym e)) (ran.acts y) in
          ap (λ w. (frame_machine config).opening x y ++ w) sent ∙ (packets_cross.are ∙ ap (λ w. w ++ packets_cross.left) (sym taken))

      -- what was taken is the first of what was sent
      pub first_taken : sent_on x y ≡ taken_on x y ++ left_on x y
      first_taken = behind_first (sent_on x y) (taken_on x y) packets_cross.left split

      left_is : packets_cross.left ≡ left_on x y
      left_is = sym (ap (drop (length (taken_on x y))) split ∙ drop-append_seam (taken_on x y) packets_cross.left)

      -- what was not taken can cross, and its frames begin with what came of them
      pub left_crosses : CanAllCross (left_on x y)
      left_crosses = subst CanAllCross left_is (left_can_cross (packets_taken (peer_place y x) (ran.acts y)) packets_cross.left (subst CanAllCross packets_cross.are all_can_cross))

      pub left_frames : unread_on x y ++ bytes_cross.0 ≡ frames_on (left_on x y)
      left_frames = packets_cross.bytes_are ∙ ap frames_on left_is
