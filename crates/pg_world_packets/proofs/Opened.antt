-- What nodes tell as they begin: its names can be sent, and it fits, or a world can't begin.
use Rattle.std.proofs.Common.{◌≡◌, ◌≢◌, ◌≤◌, ◌<◌, ◌-◌, ◌^◌, ℕ, zero, suc, Bool, true, false, cond, ◌||◌}
use Rattle.std.proofs.Common.{◌&&◌, nat_le, inl, inr, map, get_or, length, List, [], ◌∷◌, Option}
use Rattle.std.proofs.Common.{Some, None, Result, Ok, Err, refl, sym, ap, ◌∙◌, subst, arith}
use Rattle.std.specs.Prelude.{slice_get, option_map, IfOk, IfErr, OnOk, is_some}
use Rattle.std.specs.List.{All, AllByRecursion, IsDistinct, list_any}
use Rattle.std.proofs.lemmas.Bool.{leb-true}
use Rattle.std.proofs.lemmas.Option.{slice_get-map, slice_get-get_or, same_Some}
use Rattle.pg_term.specs.declared.term.Term.{Term}
use Rattle.pg_term.specs.Same.{same_atom, same_term}
use Rattle.pg_term.specs.contracts.term.TermEq.TheImpl.Laws as term_laws
use Rattle.pg_term.proofs.Same.{same_term as term_is}
use Rattle.pg_node_state.specs.PgGroup.Value.{listed, merge}
use Rattle.pg_node_state.specs.PgGroup.declared.table.GroupTable.{Ghosts}
use Rattle.pg_node_state.specs.PgEnds.Limits.{max_processes}
use Rattle.pg_node_state.specs.PgExchange.GroupList.{GroupList, announced_names, announced_table}
use Rattle.pg_node_state.specs.PgStep.Machines.Clocked.{Stamped}
use Rattle.pg_node_state.specs.PgMessageTypes.Members.{HasFewMembers}
use Rattle.pg_node_state.specs.PgMessageTypes.Name.{is_name}
use Rattle.pg_node_state.specs.PgMessageTypes.declared.message.Message.{Message}
use Rattle.pg_node_state.specs.PgStep.Config.{Config, IsConfig, IsStart, names_of, groups_at, made_at, first_table}
use Rattle.pg_node_state.specs.declared.state.NodeState.{NodeState}
use Rattle.pg_node_state.specs.States.{kept_by}
use Rattle.pg_world_config.specs.declared.fault.WorldFault.{WorldFault}
use Rattle.pg_world_config.specs.declared.fault.WorldFault.TheVariants.{BadConfig, NameTooLarge}
use Rattle.pg_world_config.specs.declared.fault.WorldFault.TheVariants.{BadCapacity, TooLong, OutOfMemory}
use Rattle.pg_world_config.specs.Configs.{is_config, is_capacity, are_names, have_names, refusal_of, IsAsTold}
use Rattle.pg_world_packets.specs.Openings.{AreReady, SomeIsTooLong, are_few, have_few, TellsNames}
use Rattle.pg_world_packets.specs.Openings.{FitsOpening, IsTooLong, AllFit, SomeCantOpen, CanBegin, CantBegin, CantStart}
use Rattle.pg_world_config.specs.Firsts.{firsts, seen_first}
use Rattle.pg_world_packets.specs.Starts.{AllOpen}
use Rattle.pg_world_config.specs.Seen.{Seen, seen_of}
use Rattle.pg_world_config.proofs.Deciding.{both, left, right, passes, passed, names_passed}
use Rattle.pg_world_packets.proofs.Ordered.{first_told}
use Rattle.pg_world_config.proofs.Starting.{firsts_are, firsts_length}

-- ---- names

either_left : (b c : Bool) → b ≡ true → (b || c) ≡ true
either_left true c e = refl
either_left false c e = absurd cc

either_right : (b c : Bool) → c ≡ true → (b || c) ≡ true
either_right true c e = refl
either_right false c e = e

-- each name by which something is told is a name
named_in : (groups : GroupList) (name : Term) → are_names groups ≡ true → is_some (announced_table groups name) ≡ true → is_name name ≡ true
named_in [] name e there = absurd cc
named_in (group ∷ groups) name e there = go (same_term group.0 name) refl there (named_in groups name (right (is_name group.0) (are_names groups) e))
  where
    go : (b : Bool) → same_term group.0 name ≡ b → is_some (merge (cond b (listed group.1) None) (announced_table groups name)) ≡ true → (is_some (announced_table groups name) ≡ true → is_name name ≡ true) → is_name name ≡ true
    go true t here later = subst (λ n. is_name n ≡ true) (term_is group.0 name t) (left (is_name group.0) (are_names groups) e)
    go false t here later = later here

all_named : (groups : GroupList) → ((name : Term) → list_any (same_term name) (announced_names groups) ≡ true → is_name name ≡ true) → are_names groups ≡ true
all_named [] h = refl
all_named (group ∷ groups) h =
    both (is_name group.0) (are_names groups) (h group.0 (either_left (same_term group.0 group.0) (list_any (same_term group.0) (announced_names groups)) (term_laws.laws-law.refl group.0)))
    (all_named groups (λ name e. h name (either_right (same_term name group.0) (list_any (same_term name) (announced_names groups)) e)))

pub tells_names : (groups : GroupList) → are_names groups ≡ true → TellsNames (first_table groups)
tells_names groups names told is =
    all_named told (λ name e. named_in groups name names (ap is_some (sym (first_told groups name)) ∙ (sym (is.names.each name) ∙ e)))

pub names_at : (config : Config) (i : ℕ) → have_names config ≡ true → are_names (groups_at config i) ≡ true
names_at [] i e = refl
names_at (start ∷ starts) zero e = left (are_names start.groups) (have_names starts) e
names_at (start ∷ starts) (suc i) e = names_at starts i (right (are_names start.groups) (have_names starts) e)

-- ---- the code's nodes

pub seen_at : {T : Type 0} {g : Ghosts T} (nodes : List (NodeState T g)) (k : ℕ) (node : NodeState T g) → k < length nodes → node ≡ get_or nodes k node → slice_get (map seen_of nodes) k ≡ Some (seen_of node)
seen_at {T} {g} nodes k node within here =
    slice_get-map seen_of nodes k ∙ (ap (λ (o : Option (NodeState T g)). option_map seen_of o) (slice_get-get_or nodes k node within) ∙ ap (λ (x : NodeState T g). Some (seen_of x)) (sym here))

all_name : {T : Type 0} {g : Ghosts T} (config : Config) (nodes : List (NodeState T g)) → map seen_of nodes ≡ firsts config (length config) → have_names config ≡ true → All (λ (node : NodeState T g). TellsNames (kept_by node).table) nodes
all_name {T} {g} config nodes are names i d l =
    let node = get_or nodes i d in
    let at : slice_get (map seen_of nodes) i ≡ Some (seen_of node) = slice_get-map seen_of nodes i ∙ ap (λ (o : Option (NodeState T g)). option_map seen_of o) (slice_get-get_or nodes i d l) in
    let is = firsts_are config (length config) i (seen_of node) (ap (λ (xs : List Seen). slice_get xs i) (sym are) ∙ at) in
    subst TellsNames (sym (ap (λ (s : Seen). s.state.state.table) is.1)) (tells_names (groups_at config i) (names_at config i names))

pub all_name_slice : {T : Type 0} {g : Ghosts T} (config : Config) (nodes slice : List (NodeState T g)) → slice ≡ nodes → map seen_of nodes ≡ firsts config (length config) → have_names config ≡ true
    → All (λ (node : NodeState T g). TellsNames (kept_by node).table) slice
all_name_slice {T} {g} config nodes slice same are names = subst (λ (ns : List (NodeState T g)). All (λ (node : NodeState T g). TellsNames (kept_by node).table) ns) (sym same) (all_name config nodes are names)

-- ---- what fits

open_fits : (peers : ℕ) (nodes : List Seen) (rows : List (List (List (Stamped Message)))) (i : ℕ) (node : Seen) → AllOpen peers nodes rows → slice_get nodes i ≡ Some node → FitsOpening node
open_fits peers [] rows i node going at = absurd cc
open_fits peers (first ∷ nodes) [] i node going at = absurd going
open_fits peers (first ∷ nodes) (row ∷ rows) zero node going at = subst FitsOpening (same_Some first node at) (going.0.0, going.0.1, going.0.3)
open_fits peers (first ∷ nodes) (row ∷ rows) (suc i) node going at = open_fits peers nodes rows i node going.1 at

pub all_fit : (config : Config) (peers : ℕ) (nodes : List Seen) (rows : List (List (List (Stamped Message)))) → nodes ≡ firsts config (length config) → AllOpen peers nodes rows → AllFit config
all_fit config peers nodes rows are going i l =
    let first = seen_first config i in
    let size : length nodes ≡ length config = ap length are ∙ firsts_length config (length config) in
    let at : slice_get nodes i ≡ Some (get_or nodes i first) = slice_get-get_or nodes i first (omega (arith, l, size)) in
    let is = firsts_are config (length config) i (get_or nodes i first) (ap (λ (xs : List Seen). slice_get xs i) (sym are) ∙ at) in
    subst FitsOpening is.1 (open_fits peers nodes rows i (get_or nodes i first) going at)

pub cant_start : (config : Config) (nodes : List Seen) (fault : WorldFault) → nodes ≡ firsts config (length config) → SomeCantOpen nodes fault → CantStart config fault
cant_start config nodes OutOfMemory are cant = tt
cant_start config nodes TooLong are cant =
    let is = firsts_are config (length config) cant.0 cant.1 (ap (λ (xs : List Seen). slice_get xs cant.0) (sym are) ∙ cant.2) in
    (cant.0, is.0, inl (subst IsTooLong is.1 cant.3))
cant_start config nodes BadConfig are cant = absurd cant
cant_start config nodes NameTooLarge are cant = absurd cant
cant_start config nodes BadCapacity are cant = absurd cant

-- the same, where the slice is that of the nodes
module _ {T : Type 0} {g : Ghosts T} (config : Config) (nodes slice : List (NodeState T g)) where
  pub slice_fits : (rows : List (List (List (Stamped Message)))) → slice ≡ nodes → map seen_of nodes ≡ firsts config (length config) → AllOpen (length slice - 1) (map seen_of slice) rows → AllFit config
  slice_fits rows same are going = all_fit config (length slice - 1) (map seen_of slice) rows (ap (map seen_of) same ∙ are) going

  pub cant_start_slice : (fault : WorldFault) → slice ≡ nodes → map seen_of nodes ≡ firsts config (length config) → SomeCantOpen (map seen_of slice) fault → CantStart config fault
  cant_start_slice fault same are cant = cant_start config (map seen_of slice) fault (ap (map seen_of) same ∙ are) cant

-- ---- configurations

pub made_few : (config starts : Config) (i : ℕ) → AllByRecursion (IsStart config) starts → made_at starts i ≤ max_processes
made_few config [] i all = omega arith
made_few config (start ∷ starts) zero all = all.0.made
made_few config (start ∷ starts) (suc i) all = made_few config starts i all.1

pub named_apart : (config starts : Config) (i : ℕ) → AllByRecursion (IsStart config) starts → IsDistinct same_term (announced_names (groups_at starts i))
unfolding IsDistinct
named_apart config [] i all = tt
named_apart config (start ∷ starts) zero all = all.0.groups
named_apart config (start ∷ starts) (suc i) all = named_apart config starts i all.1

-- ---- members

few_pass : (groups : GroupList) → are_few groups ≡ true → HasFewMembers (2 ^ 32) groups
few_pass [] e = tt
few_pass (group ∷ groups) e = (leb-true (length group.1) 4294967296 (left (nat_le (length group.1) 4294967296) (are_few groups) e), few_pass groups (right (nat_le (length group.1) 4294967296) (are_few groups) e))

pub few_at : (config : Config) (i : ℕ) → have_few config ≡ true → HasFewMembers (2 ^ 32) (groups_at config i)
few_at [] i e = tt
few_at (start ∷ starts) zero e = few_pass start.groups (left (are_few start.groups) (have_few starts) e)
few_at (start ∷ starts) (suc i) e = few_at starts i (right (are_few start.groups) (have_few starts) e)

-- some node has a group with more
abbrev HasMany : Config → Type 0
HasMany config = (i : ℕ) × (i < length config) × (are_few (groups_at config i) ≡ false)

some_many : (config : Config) → have_few config ≡ false → HasMany config
some_many [] e = absurd cc
some_many (start ∷ starts) e = go (are_few start.groups) refl (some_many starts) e
  where
    go : (b : Bool) → are_few start.groups ≡ b → (have_few starts ≡ false → HasMany starts) → (b && have_few starts) ≡ false → HasMany (start ∷ starts)
    go false t later f = (0, omega arith, t)
    go true t later f = let found = later f in (suc found.0, omega (arith, found.1), found.2)

pub too_many : (config : Config) → have_few config ≡ false → SomeIsTooLong config
too_many config e = let found = some_many config e in (found.0, found.1, inr found.2)

-- ---- why a world can't begin

cant_either : (ring : ℕ) (config : Config) (fault : WorldFault) → refusal_of ring config ≡ None → have_few config ≡ true → CantStart config fault → CantBegin ring config fault
cant_either ring config OutOfMemory none few cant = (none, few)
cant_either ring config TooLong none few cant = (none, cant)
cant_either ring config BadConfig none few cant = absurd cant
cant_either ring config NameTooLarge none few cant = absurd cant
cant_either ring config BadCapacity none few cant = absurd cant

pub cant_begin : {X : Type 0} (ring : ℕ) (config : Config) (result : Result X WorldFault) → refusal_of ring config ≡ None → have_few config ≡ true → IfErr result (CantStart config) → IfErr result (CantBegin ring config)
cant_begin ring config (Ok x) none few cant = tt
cant_begin ring config (Err fault) none few cant = cant_either ring config fault none few cant

-- where it can begin, memory alone can be short
pub can_be_short : (ring : ℕ) (given : Config) → CanBegin ring given → CantBegin ring given OutOfMemory
can_be_short ring given can = (passed ring given (can.good, can.capacity), can.few)

pub of_ok : {X : Type 0} {P : Type 0} (result : Result X WorldFault) → P → IfOk result (λ x. P)
of_ok (Ok x) p = p
of_ok (Err fault) p = tt

never_long : (b c d : Bool) → cond b (cond c (cond d None (Some BadCapacity)) (Some NameTooLarge)) (Some BadConfig) ≡ Some TooLong → ⊥
never_long true true true e = absurd cc
never_long true true false e = absurd cc
never_long true false d e = absurd cc
never_long false c d e = absurd cc

same_fault : {X : Type 0} (a b : WorldFault) → ◌≡◌ {A = Result X WorldFault} (Err a) (Err b) → a ≡ b
same_fault a b e = cc

pub judged : {X : Type 0} (ring : ℕ) (config : Config) (fault : WorldFault) (result : Result X WorldFault) → result ≡ Err fault → IsAsTold (refusal_of ring config) result → result ≢ Err OutOfMemory → CantBegin ring config fault
judged {X} ring config fault (Ok x) e told never = absurd cc
judged {X} ring config fault (Err other) e told never = subst (CantBegin ring config) (same_fault {X = X} other fault e) (of_told other told (λ short. never (ap Err short)))
  where
    of_told : (f : WorldFault) → IsAsTold {X = X} (refusal_of ring config) (Err f) → f ≢ OutOfMemory → CantBegin ring config f
    of_told OutOfMemory t other = absurd (other refl)
    of_told TooLong t other = absurd (never_long (is_config config) (have_names config) (is_capacity ring) t)
    of_told BadConfig t other = t
    of_told NameTooLarge t other = t
    of_told BadCapacity t other = t

-- a configuration that has no fault, in a slice
module _ (ring : ℕ) (config slice : Config) (same : slice ≡ config) (none : refusal_of ring config ≡ None) where
  good : IsConfig slice
  good = subst IsConfig (sym same) (passes ring config none).0

  pub good_apart : IsDistinct same_atom (names_of slice)
  good_apart = good.apart

  pub good_made : (i : ℕ) → made_at slice i ≤ max_processes
  good_made i = made_few slice slice i good.starts

  pub good_once : (i : ℕ) → IsDistinct same_term (announced_names (groups_at slice i))
  good_once i = named_apart slice slice i good.starts

  pub good_names : have_names slice ≡ true
  good_names = ap have_names same ∙ names_passed ring config none

  pub good_fits : {X : Type 0} (result : Result X WorldFault) → IfOk result (λ x. AllFit slice) → IfOk result (λ x. AllFit config)
  good_fits {X} result fits = subst (λ (c : Config). IfOk result (λ (x : X). AllFit c)) same fits

  pub good_fault : {X : Type 0} (result : Result X WorldFault) → have_few config ≡ true → IfErr result (CantStart slice) → IfErr result (CantBegin ring config)
  good_fault result few cant = cant_begin ring config result none few (subst (λ (c : Config). IfErr result (CantStart c)) same cant)

  pub ready_so : {X : Type 0} (result : Result X WorldFault) → OnOk result (have_few slice ≡ true) → OnOk result (AreReady config)
  ready_so (Ok x) few = subst AreReady same (record { nodes = good.few; apart = good_apart; made = good_made; once = good_once; few = λ i. few_at slice i few; named = good_names })
  ready_so (Err fault) few = tt

  pub few_fault : {X : Type 0} (result : Result X WorldFault) → IfErr result (λ fault. (fault ≡ TooLong) × (have_few slice ≡ false)) → IfErr result (CantBegin ring config)
  few_fault (Ok x) told = tt
  few_fault (Err fault) told = subst (CantBegin ring config) (sym told.0) (none, subst SomeIsTooLong same (too_many slice told.1))

pub on_ok : {X : Type 0} {P : Type 0} (result : Result X WorldFault) → P → OnOk result P
on_ok (Ok x) p = p
on_ok (Err fault) p = tt

pub few_so : {X : Type 0} (config slice : Config) → slice ≡ config → (result : Result X WorldFault) → OnOk result (have_few slice ≡ true) → OnOk result (have_few config ≡ true)
few_so config slice same (Ok x) few = ap have_few (sym same) ∙ few
few_so config slice same (Err fault) few = tt
