-- What is still to be taken is no more than twice what is on the way, and five packets for each peer of each open command.
use Rattle.std.proofs.Common.{◌≡◌, ◌⊎◌, inl, inr, ℕ, ◌+◌, ◌*◌, ◌-◌, ◌<◌, ◌≤◌, zero, suc, Bool, true, false}
use Rattle.std.proofs.Common.{not, cond, nat_eq, length, List, [], ◌∷◌, refl, ap, sym, ◌∙◌, subst, arith}
use Rattle.std.specs.List.{IsDistinct, list_any}
use Rattle.std.proofs.Math.Nat.{mul-le-mul_left}
use Rattle.std.proofs.lemmas.Bool.{cases_eq, cases_lt, eq-eqb}
use Rattle.std.proofs.lemmas.Bool.Decides.{Decides-ltb}
use Rattle.pg_term.specs.Same.{same_atom}
use Rattle.pg_step.specs.PgMessageTypes.declared.message.Message.{Message}
use Rattle.pg_step.specs.PgMessageTypes.declared.message.Message.TheVariants.{Call, Reply, DelLock, Exchange, Down}
use Rattle.pg_step.specs.Machines.Clocked.{plain}
use Rattle.pg_step.specs.Machines.Machine.{Event}
use Rattle.pg_step.specs.declared.command.OpId.{OpId}
use Rattle.pg_step.specs.Nodes.{Node, Nodes, is_peer}
use Rattle.pg_step.specs.State.{State, Status, Use, Stage}
use Rattle.pg_step.specs.State.Status.{Unasked, Asked, Yes, No}
use Rattle.pg_step.specs.State.Use.{Fresh, Locking, Owning, Updating, Spent}
use Rattle.pg_step.specs.State.Stage.{Closed, Waiting, Asking, Changing}
use Rattle.pg_step.specs.Step.{Action}
use Rattle.pg_step.specs.Config.{Config, names_of, name_at, nodes_at, ports_at}
use Rattle.pg_step.proofs.Once.{clash}
use Rattle.pg_laws.specs.Counted.{is_open, how_many, open_number, open_at, open_in}
use Rattle.pg_laws.specs.Quiet.{most_takes, open_commands, packets_on_the_way, peer_count}
use Rattle.pg_laws.specs.Reached.{TimedFrameWorld, Reaches}
use Rattle.pg_laws.proofs.commands.CountRuns.{all_counted}
use Rattle.pg_laws.proofs.commands.Counting.{Counts}
use Rattle.pg_laws.proofs.ends.Apart.{place_below}
use Rattle.pg_laws.proofs.locks.Seats.{false_right}
use Rattle.pg_laws.proofs.places.Located.{left_out}
use Rattle.pg_laws.proofs.places.Shown.{IsHere}
use Rattle.pg_laws.proofs.quiet.Sums.{but, but_other, total, total_all, total_but, total_le}
use Rattle.pg_laws.proofs.quiet.Sums.{total_one, total_same, total_scale, total_swap, total_term}
use Rattle.pg_laws.proofs.quiet.Weights.{node_weight, packet_weight, peers_at_most, status_weight, use_weight, weigh}
use Rattle.pg_laws.proofs.references.Fitting.{is_asking, is_changing}
use Rattle.pg_laws.proofs.references.Keys.{atoms}

-- ---- packets

pub at_most_two : (x : Message) → packet_weight x ≤ 2
at_most_two (Call r request) = omega arith
at_most_two (Reply r said) = omega arith
at_most_two (DelLock name r) = omega arith
at_most_two (Exchange node groups) = omega arith
at_most_two (Down pid) = omega arith

two_each : (xs : List Message) → weigh xs ≤ 2 * length xs
two_each [] = omega arith
two_each (x ∷ xs) =
    let one : packet_weight x ≤ 2 = at_most_two x in
    let rest : weigh xs ≤ 2 * length xs = two_each xs in
    omega (arith, one, rest)

-- ---- commands

pub how_many_total : (test : ℕ → Bool) (n : ℕ) → how_many test n ≡ total n (λ k. cond (test (suc k)) 1 0)
unfolding total
how_many_total test zero = refl
how_many_total test (suc n) = ap (λ k. cond (test (suc n)) 1 0 + k) (how_many_total test n)

pub open_in_total : (ports : ℕ) (s : State) → open_in ports s ≡ total ports (λ port. open_at port s)
unfolding total
open_in_total zero s = refl
open_in_total (suc port) s = ap (λ k. open_at port s + k) (open_in_total port s)

-- a reference that a command is about
abbrev works : Use → ℕ
works (Locking op u lead st) = 1
works (Updating op u c replied) = 1
works used = 0

-- whether a command in this stage is about that reference
abbrev serves : Stage → ℕ → ℕ
serves (Asking k) c = cond (nat_eq k c) 1 0
serves (Changing k) c = cond (nat_eq k c) 1 0
serves stage c = 0

serves_itself : (c : ℕ) → cond {A = ℕ} (nat_eq c c) 1 0 ≡ 1
serves_itself c = ap (λ b. cond b 1 0) (eq-eqb c c refl)

none_served : (n k : ℕ) → total n (λ c. 0) ≤ k
none_served n k = let none : total n (λ c. 0) ≡ 0 * n = total_all n 0 (λ c. 0) (λ c _. refl) in omega (arith, none)

one_served : (n : ℕ) (stage : Stage) → total n (serves stage) ≤ cond (is_open stage) 1 0
one_served n (Asking k) = total_one n k 1
one_served n (Changing k) = total_one n k 1
one_served n (Waiting u) = none_served n 1
one_served n Closed = none_served n 0

module _ (ports : ℕ) (s : State) (all : Counts ports s) where
  abbrev op_of : ℕ → ℕ → OpId
  op_of port number = record { port = port; number = number }

  abbrev served : ℕ → ℕ → ℕ → ℕ
  served c port k = serves (s.stages (op_of port (suc k))) c

  -- a command that is open has come in
  came_in : (op : OpId) → is_open (s.stages op) ≡ true → op.number ≤ s.counts op.port
  came_in op is = go (cases_lt (s.counts op.port) op.number)
    where
      go : (s.counts op.port < op.number) ⊎ (op.number ≤ s.counts op.port) → op.number ≤ s.counts op.port
      go (inl above) = absurd (clash (sym is ∙ ap is_open (all.fitting.closed op above)))
      go (inr low) = low

  -- a number of each open command is part of the sum over all
  pub part_of : (f : OpId → ℕ) (op : OpId) → is_open (s.stages op) ≡ true → f op ≤ total ports (λ port. total (s.counts port) (λ k. f (op_of port (suc k))))
  part_of f op is =
      let within = all.within op is in
      let some : 1 ≤ op.number = within.0 in
      let low : op.number ≤ s.counts op.port = came_in op is in
      let next : suc (op.number - 1) ≡ op.number = omega (arith, some) in
      let here : f (op_of op.port (suc (op.number - 1))) ≡ f op = ap (λ k. f (op_of op.port k)) next in
      let inner : f (op_of op.port (suc (op.number - 1))) ≤ total (s.counts op.port) (λ k. f (op_of op.port (suc k))) = total_term (s.counts op.port) (op.number - 1) (λ k. f (op_of op.port (suc k))) (omega (arith, some, low)) in
      let outer : total (s.counts op.port) (λ k. f (op_of op.port (suc k))) ≤ total ports (λ port. total (s.counts port) (λ k. f (op_of port (suc k)))) =
      total_term ports op.port (λ port. total (s.counts port) (λ k. f (op_of port (suc k)))) within.1 in
      omega (arith, here, inner, outer)

  each_works : (c : ℕ) (used : Use) → s.uses c ≡ used → works used ≤ total ports (λ port. total (s.counts port) (λ k. served c port k))
  each_works c (Locking op u lead st) is =
      let stage : s.stages op ≡ Asking c = is_asking all.fitting c op u lead st is in
      let one : serves (s.stages op) c ≡ 1 = ap (λ x. serves x c) stage ∙ serves_itself c in
      let part : serves (s.stages op) c ≤ total ports (λ port. total (s.counts port) (λ k. served c port k)) = part_of (λ o. serves (s.stages o) c) op (ap is_open stage) in
      omega (arith, one, part)
  each_works n (Updating op u c replied) is =
      let stage : s.stages op ≡ Changing n = is_changing all.fitting n op u c replied is in
      let one : serves (s.stages op) n ≡ 1 = ap (λ x. serves x n) stage ∙ serves_itself n in
      let part : serves (s.stages op) n ≤ total ports (λ port. total (s.counts port) (λ k. served n port k)) = part_of (λ o. serves (s.stages o) n) op (ap is_open stage) in
      omega (arith, one, part)
  each_works c (Owning name n) is = omega arith
  each_works c Fresh is = omega arith
  each_works c Spent is = omega arith

  all_open : total ports (λ port. total (s.counts port) (λ k. cond (open_number port s (suc k)) 1 0)) ≡ s.opened
  all_open = total_same ports (λ port. total (s.counts port) (λ k. cond (open_number port s (suc k)) 1 0)) (λ port. open_at port s) (λ port _. sym (how_many_total (open_number port s) (s.counts port)))
      ∙ sym (open_in_total ports s) ∙ sym all.all

  -- a command that is open counts
  pub some_open : (op : OpId) → is_open (s.stages op) ≡ true → 1 ≤ s.opened
  some_open op is =
      let one : cond {A = ℕ} (is_open (s.stages op)) 1 0 ≡ 1 = ap (λ b. cond b 1 0) is in
      let part : cond {A = ℕ} (is_open (s.stages op)) 1 0 ≤ total ports (λ port. total (s.counts port) (λ k. cond (open_number port s (suc k)) 1 0)) = part_of (λ o. cond (is_open (s.stages o)) 1 0) op is in
      omega (arith, one, part, all_open)

  -- no more references are worked on than commands are open
  pub works_few : (n : ℕ) → total n (λ c. works (s.uses c)) ≤ s.opened
  works_few n =
      let each : total n (λ c. works (s.uses c)) ≤ total n (λ c. total ports (λ port. total (s.counts port) (λ k. served c port k))) =
      total_le n (λ c. works (s.uses c)) (λ c. total ports (λ port. total (s.counts port) (λ k. served c port k))) (λ c _. each_works c (s.uses c) refl) in
      let swap : total n (λ c. total ports (λ port. total (s.counts port) (λ k. served c port k))) ≡ total ports (λ port. total (s.counts port) (λ k. total n (λ c. served c port k))) =
      total_swap n ports (λ c port. total (s.counts port) (λ k. served c port k))
      ∙ total_same ports (λ port. total n (λ c. total (s.counts port) (λ k. served c port k))) (λ port. total (s.counts port) (λ k. total n (λ c. served c port k))) (λ port _. total_swap n (s.counts port) (λ c k. served c port k)) in
      let few : total ports (λ port. total (s.counts port) (λ k. total n (λ c. served c port k))) ≤ total ports (λ port. total (s.counts port) (λ k. cond (open_number port s (suc k)) 1 0)) =
      total_le ports (λ port. total (s.counts port) (λ k. total n (λ c. served c port k))) (λ port. total (s.counts port) (λ k. cond (open_number port s (suc k)) 1 0))
      (λ port _. total_le (s.counts port) (λ k. total n (λ c. served c port k)) (λ k. cond (open_number port s (suc k)) 1 0) (λ k _. one_served n (s.stages (op_of port (suc k))))) in
      omega (arith, each, swap, few, all_open)

-- ---- a world

five_left : (v : Status) → status_weight v ≤ 5
five_left Unasked = omega arith
five_left Asked = omega arith
five_left Yes = omega arith
five_left No = omega arith

module _ (config : Config) (apart : IsDistinct same_atom (names_of config)) where
  abbrev n : ℕ
  n = length config

  abbrev name : ℕ → Node
  name = name_at config

  -- a node is none of its own peers
  pub own_no_peer : (i : ℕ) → IsHere config i → is_peer (nodes_at config i) (name i) ≡ false
  own_no_peer i here = left_out (names_of config) i (name i) (place_below config i here) apart ∙ false_right (list_any (same_atom (name i)) (names_of config)) (ap not (atoms.refl (name i)))

  -- of a node and those that count there as its peers
  module _ (i : ℕ) (here : IsHere config i) (m : Nodes) (not_own : is_peer m (name i) ≡ false) where
    -- five for each peer
    peers_few : (f : Node → ℕ) → ((q : Node) → f q ≤ 5) → total n (λ y. cond (is_peer m (name y)) (f (name y)) 0) ≤ 5 * peer_count config
    peers_few f five =
        let low : i < n = (Decides-ltb i n).0 here in
        let all : total n (but i (λ p. 5)) + 5 ≡ 5 * n = total_but n i 5 low in
        let few : total n (λ y. cond (is_peer m (name y)) (f (name y)) 0) ≤ total n (but i (λ p. 5)) =
        total_le n (λ y. cond (is_peer m (name y)) (f (name y)) 0) (but i (λ p. 5)) (λ y _. go y (cases_eq i y)) in
        omega (arith, low, all, few)
      where
        within : (b : Bool) (k : ℕ) → k ≤ 5 → cond b k 0 ≤ 5
        within true k few = few
        within false k few = omega arith

        go : (y : ℕ) → (i ≡ y) ⊎ (i ≡ y → ⊥) → cond (is_peer m (name y)) (f (name y)) 0 ≤ but i (λ p. 5) y
        go y (inl e) =
            let none : cond (is_peer m (name i)) (f (name i)) 0 ≡ 0 = ap (λ b. cond b (f (name i)) 0) not_own in
            subst (λ z. cond (is_peer m (name z)) (f (name z)) 0 ≤ but i (λ p. 5) z) e (omega (arith, none))
        go y (inr other) =
            let five_is : but i (λ p. 5) y ≡ 5 = but_other i (λ p. 5) y other in
            let low : cond (is_peer m (name y)) (f (name y)) 0 ≤ 5 = within (is_peer m (name y)) (f (name y)) (five (name y)) in
            omega (arith, five_is, low)

    use_light : (used : Use) → use_weight m n name used ≤ 5 * peer_count config * works used
    use_light (Locking op u lead st) =
        let few = peers_at_most m n name (λ q. status_weight (st q)) (5 * peer_count config) (peers_few (λ q. status_weight (st q)) (λ q. five_left (st q))) in omega (arith, few)
    use_light (Updating op u c replied) =
        let few = peers_at_most m n name (λ q. 1) (5 * peer_count config) (peers_few (λ q. 1) (λ q. omega arith)) in omega (arith, few)
    use_light (Owning group k) = omega arith
    use_light Fresh = omega arith
    use_light Spent = omega arith

    -- its references lead to five packets for each peer of each command that is open there
    pub node_light : (s : State) → Counts (ports_at config i) s → node_weight m n name s ≤ 5 * peer_count config * s.opened
    node_light s all =
        let k = 5 * peer_count config in
        let r = s.references + 1 in
        let each : node_weight m n name s ≤ total r (λ c. k * works (s.uses c)) = total_le r (λ c. use_weight m n name (s.uses c)) (λ c. k * works (s.uses c)) (λ c _. use_light (s.uses c)) in
        let scale : total r (λ c. k * works (s.uses c)) ≡ k * total r (λ c. works (s.uses c)) = total_scale r k (λ c. works (s.uses c)) in
        let few : k * total r (λ c. works (s.uses c)) ≤ k * s.opened = mul-le-mul_left k (works_few (ports_at config i) s all r) in
        omega (arith, each, scale, few)

  pub few_takes : (events : List (Event Action)) (w : TimedFrameWorld) → Reaches config events w
      → total n (λ i. node_weight (nodes_at config i) n name ((plain w).node i)) + total n (λ x. total n (λ y. weigh ((plain w).wire x y))) ≤ most_takes config (plain w)
  few_takes events w l =
      let k = 5 * peer_count config in
      let nodes : total n (λ i. node_weight (nodes_at config i) n name ((plain w).node i)) ≤ total n (λ i. k * ((plain w).node i).opened) =
      total_le n (λ i. node_weight (nodes_at config i) n name ((plain w).node i)) (λ i. k * ((plain w).node i).opened)
      (λ i under. let here = (Decides-ltb i n).1 under in node_light i here (nodes_at config i) (own_no_peer i here) ((plain w).node i) ((all_counted config w events i l).counts)) in
      let all : total n (λ i. k * ((plain w).node i).opened) ≡ k * open_commands config (plain w) = total_scale n k (λ i. ((plain w).node i).opened) in
      let ways : total n (λ x. total n (λ y. weigh ((plain w).wire x y))) ≤ total n (λ x. 2 * total n (λ y. length ((plain w).wire x y))) =
      total_le n (λ x. total n (λ y. weigh ((plain w).wire x y))) (λ x. 2 * total n (λ y. length ((plain w).wire x y))) (λ x _. row x) in
      let packets : total n (λ x. 2 * total n (λ y. length ((plain w).wire x y))) ≡ 2 * packets_on_the_way config (plain w) = total_scale n 2 (λ x. total n (λ y. length ((plain w).wire x y))) in
      omega (arith, nodes, all, ways, packets)
    where
      row : (x : ℕ) → total n (λ y. weigh ((plain w).wire x y)) ≤ 2 * total n (λ y. length ((plain w).wire x y))
      row x =
          let each : total n (λ y. weigh ((plain w).wire x y)) ≤ total n (λ y. 2 * length ((plain w).wire x y)) = total_le n (λ y. weigh ((plain w).wire x y)) (λ y. 2 * length ((plain w).wire x y)) (λ y _. two_each ((plain w).wire x y)) in
          let scale : total n (λ y. 2 * length ((plain w).wire x y)) ≡ 2 * total n (λ y. length ((plain w).wire x y)) = total_scale n 2 (λ y. length ((plain w).wire x y)) in
          omega (arith, each, scale)
