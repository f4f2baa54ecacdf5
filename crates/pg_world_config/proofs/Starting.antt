-- The nodes of a configuration as they start.
use Rattle.std.proofs.Common.{◌≡◌, ℕ, zero, suc, ◌+◌, ◌-◌, ◌<◌, ◌≤◌, ◌^◌, true, false, cond}
use Rattle.std.proofs.Common.{map, get_or, take, length, replicate, List, [], ◌∷◌, ◌++◌, Option}
use Rattle.std.proofs.Common.{Some, None, refl, sym, ap, ◌∙◌, inl, inr, ◌⊎◌, arith, subst}
use Rattle.std.specs.Prelude.{slice_get, option_map, Result, Ok, Err, IfOk}
use Rattle.std.specs.List.{All, AllByRecursion, IsDistinct, remove}
use Rattle.std.proofs.lemmas.List.Edits.{length-remove}
use Rattle.std.proofs.lemmas.Map.Keys.{IsDistinct-head, IsDistinct-tail}
use Rattle.std.proofs.lemmas.List.{get_or-map, get_or-replicate, length-replicate, length-map}
use Rattle.std.proofs.lemmas.List.{length-append, map-append, take_more, get_or_default}
use Rattle.std.proofs.lemmas.Option.{slice_get-map, slice_get-get_or, unwrap_or-slice_get}
use Rattle.pg_term.specs.Same.{same_atom, same_term}
use Rattle.pg_term.specs.declared.pid.Pid.{Pid}
use Rattle.pg_term.specs.declared.term.Term.{Term}
use Rattle.pg_node_state.specs.PgGroup.Value.{count_in}
use Rattle.pg_node_state.specs.PgGroup.Table.{Table}
use Rattle.pg_node_state.specs.PgStep.State.{new_state}
use Rattle.pg_node_state.specs.PgGroup.declared.table.GroupTable.{Ghosts}
use Rattle.pg_node_state.specs.PgExchange.GroupList.{GroupList, IsSnapshot, announced_names}
use Rattle.pg_node_state.specs.PgMessageTypes.declared.message.Message.{Message}
use Rattle.pg_node_state.specs.PgMessageTypes.declared.message.Message.TheVariants.{Exchange}
use Rattle.pg_node_state.specs.PgMessageTypes.Members.{HasFewMembers}
use Rattle.pg_node_state.specs.PgStep.Machines.Places.{is_pair}
use Rattle.pg_node_state.specs.PgStep.Machines.Machine.{start_of}
use Rattle.pg_node_state.specs.PgStep.Machines.Clocked.{Stamped, stamped}
use Rattle.pg_node_state.specs.PgStep.declared.start.Start.{Start}
use Rattle.pg_node_state.specs.PgStep.Nodes.{Node}
use Rattle.pg_node_state.specs.PgStep.Config.{Config, names_of, name_at, groups_at, made_at, ports_at, first_table}
use Rattle.pg_node_state.specs.PgStep.FrameMachine.{frame_machine}
use Rattle.pg_node_state.specs.PgNodeOpens.Places.{name_at as place_name}
use Rattle.pg_node_state.proofs.PgNodeOpens.Named.{names_differ}
use Rattle.pg_node_state.specs.declared.state.NodeState.{NodeState}
use Rattle.pg_node_state.specs.Issued.{ports_of}
use Rattle.pg_node_state.specs.States.{kept_by, state_of, answers_of, names_of as known_names}
use Rattle.pg_node_state.specs.PgNodeSends.Sent.{stamped_of}
use Rattle.pg_node_state.proofs.Counts.{few_merged}
use Rattle.pg_node_state.proofs.Apart.{few_in_none}
use Rattle.pg_world_config.specs.Seen.{Seen, seen_of}
use Rattle.pg_world_config.specs.Firsts.{seen_first, firsts}

-- ---- the nodes

-- what stands at a place of a list with one more behind it
at_end : {A : Type 0} (xs : List A) (x y : A) (i : ℕ) → slice_get (xs ++ x ∷ []) i ≡ Some y → (slice_get xs i ≡ Some y) ⊎ ((i ≡ length xs) × (x ≡ y))
at_end [] x y zero e = inr (refl, cc)
at_end [] x y (suc i) e = absurd (cc)
at_end (z ∷ zs) x y zero e = inl e
at_end (z ∷ zs) x y (suc i) e = go (at_end zs x y i e)
  where
    go : (slice_get zs i ≡ Some y) ⊎ ((i ≡ length zs) × (x ≡ y)) → (slice_get zs i ≡ Some y) ⊎ ((suc i ≡ suc (length zs)) × (x ≡ y))
    go (inl h) = inl h
    go (inr h) = inr (ap suc h.0, h.1)

pub firsts_length : (config : Config) (n : ℕ) → length (firsts config n) ≡ n
firsts_length config zero = refl
firsts_length config (suc n) = length-append (firsts config n) (seen_first config n ∷ []) ∙ (λ j. one (firsts_length config n j) j)
  where
    one : (k : ℕ) → k + 1 ≡ suc k
    one k = omega arith

pub firsts_are : (config : Config) (n i : ℕ) (node : Seen) → slice_get (firsts config n) i ≡ Some node → (i < n) × (node ≡ seen_first config i)
firsts_are config zero i node at = absurd (cc)
firsts_are config (suc n) i node at = go (firsts_are config n i node) (at_end (firsts config n) (seen_first config n) node i at)
  where
    go : (slice_get (firsts config n) i ≡ Some node → (i < n) × (node ≡ seen_first config i)) → (slice_get (firsts config n) i ≡ Some node) ⊎ ((i ≡ length (firsts config n)) × (seen_first config n ≡ node))
        → (i < suc n) × (node ≡ seen_first config i)
    go below (inl h) = let before = below h in (omega (arith, before.0), before.1)
    go below (inr h) = let last : i ≡ n = h.0 ∙ firsts_length config n in (omega (arith, last), sym h.1 ∙ ap (seen_first config) (sym last))

-- one more node
pub firsts_more : {T : Type 0} {g : Ghosts T} (config : Config) (nodes : List (NodeState T g)) (node : NodeState T g) (n : ℕ) → map seen_of nodes ≡ firsts config n → seen_of node ≡ seen_first config n
    → map seen_of (nodes ++ node ∷ []) ≡ firsts config (n + 1)
firsts_more config nodes node n before is = map-append seen_of nodes (node ∷ []) ∙ ((λ j. before j ++ is j ∷ []) ∙ ap (firsts config) (next n))
  where
    next : (k : ℕ) → suc k ≡ k + 1
    next k = omega arith

-- ---- one node of a configuration

module _ (config : Config) (i : ℕ) (start : Start) (within : i < length config) (here : start ≡ get_or config i start) where
  pub groups_here : groups_at config i ≡ start.groups
  groups_here = unwrap_or-slice_get (map (λ (s : Start). s.groups) config) i [] ∙ (get_or-map (λ (s : Start). s.groups) config i start [] within ∙ ap (λ (s : Start). s.groups) (sym here))

  pub made_here : made_at config i ≡ start.made
  made_here = unwrap_or-slice_get (map (λ (s : Start). s.made) config) i 0 ∙ (get_or-map (λ (s : Start). s.made) config i start 0 within ∙ ap (λ (s : Start). s.made) (sym here))

  pub ports_here : ports_at config i ≡ start.ports
  ports_here = unwrap_or-slice_get (map (λ (s : Start). s.ports) config) i 0 ∙ (get_or-map (λ (s : Start). s.ports) config i start 0 within ∙ ap (λ (s : Start). s.ports) (sym here))

-- no other place has the name of this one
none_other : (names : List Node) (i : ℕ) → i < length names → IsDistinct same_atom names → AllByRecursion (λ other. same_atom (get_or names i []) other ≡ false) (remove names i)
none_other [] i l apart = absurd (nowhere i l)
  where
    nowhere : (k : ℕ) → k < 0 → ⊥
    nowhere k l = omega (arith, l)
none_other (x ∷ xs) zero l apart = IsDistinct-head same_atom x xs apart
none_other (x ∷ xs) (suc i) l apart = (first, none_other xs i (before i (length xs) l) (IsDistinct-tail same_atom x xs apart))
  where
    before : (a b : ℕ) → suc a < suc b → a < b
    before a b l = omega (arith, l)

    first : same_atom (get_or xs i []) x ≡ false
    first = names_differ (x ∷ xs) (suc i) zero apart l (there (length xs)) (λ e. cc)
      where
        there : (n : ℕ) → 0 < suc n
        there n = omega arith

-- the others of some are as all of them
others_all : (P : Node → Type 0) (names : List Node) (i : ℕ) → AllByRecursion P names → AllByRecursion P (remove names i)
others_all P [] zero all = all
others_all P [] (suc i) all = all
others_all P (x ∷ xs) zero all = all.1
others_all P (x ∷ xs) (suc i) all = (all.0, others_all P xs i all.1)

others_apart : (names : List Node) (i : ℕ) → IsDistinct same_atom names → IsDistinct same_atom (remove names i)
unfolding IsDistinct
others_apart [] zero apart = apart
others_apart [] (suc i) apart = apart
others_apart (x ∷ xs) zero apart = apart.1
others_apart (x ∷ xs) (suc i) apart = (others_all (λ other. same_atom x other ≡ false) xs i apart.0, others_apart xs i apart.1)

pub apart_from : (names : List Node) (i : ℕ) → i < length names → IsDistinct same_atom names → IsDistinct same_atom (get_or names i [] ∷ remove names i)
unfolding IsDistinct
apart_from names i l apart = (none_other names i l apart, others_apart names i apart)

-- the names of all, of which one was taken out
module _ (config : Config) (i : ℕ) (within : i < length config) (names others : List Node) (own : Node) (are : names ≡ names_of config) (value : own ≡ get_or names i own) (rest : others ≡ remove names i) where
  inside : i < length (names_of config)
  inside = omega (arith, within, length-map config (λ (s : Start). s.name))

  names_here : own ∷ others ≡ get_or (names_of config) i [] ∷ remove (names_of config) i
  names_here =
      let first : own ≡ get_or (names_of config) i [] = value ∙ (ap (λ (ns : List Node). get_or ns i own) are ∙ get_or_default (names_of config) i own [] inside) in
      let more : others ≡ remove (names_of config) i = rest ∙ ap (λ (ns : List Node). remove ns i) are in
      λ j. first j ∷ more j

  pub apart_here : IsDistinct same_atom (names_of config) → IsDistinct same_atom (own ∷ others)
  apart_here apart = subst (IsDistinct same_atom) (sym names_here) (apart_from (names_of config) i inside apart)

  -- all but its own name
  pub peers_here : length config ≤ 16 → length others ≤ 15
  peers_here few = omega (
    arith,
    few,
    inside,
    length-map config (λ (s : Start). s.name),
    length-remove (names_of config) i inside,
    ap (λ (ns : List Node). length ns) (rest ∙ ap (λ (ns : List Node). remove ns i) are),
  )

  -- the node that was made
  pub seen_here : {T E : Type 0} {g : Ghosts T} (start : Start) (table : Table) (r : Result (NodeState T g) E) → start ≡ get_or config i start → table ≡ first_table start.groups
      → IfOk r (λ node. known_names node ≡ own ∷ others) → IfOk r (λ node. state_of node ≡ record { clock = 0; state = new_state table start.made }) → IfOk r (λ node. ports_of node ≡ start.ports)
      → IfOk r (λ node. answers_of node ≡ (λ port. [])) → IfOk r (λ node. seen_of node ≡ seen_first config i)
  seen_here start table (Err e) here is named stated ported answered = tt
  seen_here start table (Ok node) here is named stated ported answered =
      let names = named ∙ (names_here ∙ ap (λ (n : Node). n ∷ remove (names_of config) i) (sym (unwrap_or-slice_get (names_of config) i []))) in
      let groups = sym (groups_here config i start within here) in
      let tables = is ∙ ap first_table groups in
      let made = sym (made_here config i start within here) in
      let states = stated ∙ (λ j. record { clock = 0; state = new_state (tables j) (made j) }) in
      let ports = ported ∙ sym (ports_here config i start within here) in
      λ j. record { names = names j; ports = ports j; state = states j; answers = answered j }

itself_le : 2 ^ 32 ≤ 2 ^ 32
itself_le = omega arith

-- the counts of a table of groups with few members
pub few_here : (full : Table) (groups : GroupList) → HasFewMembers (2 ^ 32) groups → full ≡ first_table groups → (name : Term) (pid : Pid) → count_in (full name) pid ≤ 2 ^ 32
few_here full groups few is = few_merged (2 ^ 32) (2 ^ 32) (2 ^ 32) (λ name. None) full groups (λ pid. false) itself_le itself_le few (few_in_none (λ name. None) refl) is

-- one more name
pub names_more : (config : Config) (k : ℕ) (start : Start) (names after : List Node) (name : Node) → k < length config → start ≡ get_or config k start → names ≡ names_of (take k config) → after ≡ names ++ name ∷ [] → name ≡ start.name
    → after ≡ names_of (take (k + 1) config)
names_more config k start names after name within here before put is =
    put ∙ ((λ j. before j ++ (is ∙ ap (λ (s : Start). s.name) here) j ∷ [])
    ∙ (sym (map-append (λ (s : Start). s.name) (take k config) (get_or config k start ∷ [])) ∙ ap names_of (sym (take_more config k start within))))
