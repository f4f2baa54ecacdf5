-- What the tests of a configuration decide.
use Rattle.std.proofs.Common.{◌≡◌, ℕ, Bool, true, false, not, ◌&&◌, ◌||◌, cond}
use Rattle.std.proofs.Common.{nat_le, length, List, [], ◌∷◌, Some, None, refl, ◌∙◌}
use Rattle.std.specs.List.{list_any, list_all, AllByRecursion, IsDistinct}
use Rattle.std.proofs.lemmas.Bool.{leb-true, le-leb}
use Rattle.pg_term.specs.declared.term.Term.{Term}
use Rattle.pg_term.specs.declared.pid.Pid.{Pid}
use Rattle.pg_term.specs.Same.{same_atom, same_term}
use Rattle.pg_term.specs.contracts.term.TermEq.TheImpl.Laws as term_laws
use Rattle.pg_step.specs.PgEnds.Limits.{max_processes}
use Rattle.pg_step.specs.PgExchange.GroupList.{GroupList, announced_names}
use Rattle.pg_step.specs.PgMessageTypes.Name.{is_name}
use Rattle.pg_step.specs.PgMessageTypes.Reading.{is_named_once}
use Rattle.pg_ring.specs.Capacity.{IsCapacity}
use Rattle.pg_step.specs.declared.start.Start.{Start}
use Rattle.pg_step.specs.Config.{Config, IsConfig, IsStart, names_of, was_made}
use Rattle.pg_world_config.specs.declared.fault.WorldFault.TheVariants.{BadConfig, NameTooLarge, BadCapacity}
use Rattle.pg_world_config.specs.Configs.{are_apart, are_made, is_start, is_config}
use Rattle.pg_world_config.specs.Configs.{are_names, have_names, is_capacity, refusal_of}

-- ---- tests

pub left : (b c : Bool) → (b && c) ≡ true → b ≡ true
left true c e = refl
left false c e = absurd cc

pub right : (b c : Bool) → (b && c) ≡ true → c ≡ true
right true c e = e
right false c e = absurd cc

pub both : (b c : Bool) → b ≡ true → c ≡ true → (b && c) ≡ true
both true c e f = f
both false c e f = absurd cc

is_not : (b : Bool) → not b ≡ true → b ≡ false
is_not true e = absurd cc
is_not false e = refl

not_is : (b : Bool) → b ≡ false → not b ≡ true
not_is true e = absurd cc
not_is false e = refl

neither : (b c : Bool) → b ≡ false → c ≡ false → (b || c) ≡ false
neither true c e f = absurd cc
neither false c e f = f

not_left : (b c : Bool) → (b || c) ≡ false → b ≡ false
not_left true c e = e
not_left false c e = refl

not_right : (b c : Bool) → (b || c) ≡ false → c ≡ false
not_right true c e = absurd cc
not_right false c e = e

all_pass : {X : Type 0} (p : X → Bool) (xs : List X) → list_all p xs ≡ true → AllByRecursion (λ x. p x ≡ true) xs
all_pass p [] e = tt
all_pass p (x ∷ xs) e = (left (p x) (list_all p xs) e, all_pass p xs (right (p x) (list_all p xs) e))

pass_all : {X : Type 0} (p : X → Bool) (xs : List X) → AllByRecursion (λ x. p x ≡ true) xs → list_all p xs ≡ true
pass_all p [] h = refl
pass_all p (x ∷ xs) h = both (p x) (list_all p xs) h.0 (pass_all p xs h.1)

-- what holds of each by another word
each : {X : Type 0} (P Q : X → Type 0) → ((x : X) → P x → Q x) → (xs : List X) → AllByRecursion P xs → AllByRecursion Q xs
each P Q f [] h = tt
each P Q f (x ∷ xs) h = (f x h.0, each P Q f xs h.1)

-- ---- names

others_differ : (start : Start) (starts : Config) → list_any (λ other. same_atom start.name other.name) starts ≡ false → AllByRecursion (λ name. same_atom start.name name ≡ false) (names_of starts)
others_differ start [] e = tt
others_differ start (other ∷ starts) e =
    (not_left (same_atom start.name other.name) (list_any (λ other. same_atom start.name other.name) starts) e, others_differ start starts (not_right (same_atom start.name other.name) (list_any (λ other. same_atom start.name other.name) starts) e))

differ_others : (start : Start) (starts : Config) → AllByRecursion (λ name. same_atom start.name name ≡ false) (names_of starts) → list_any (λ other. same_atom start.name other.name) starts ≡ false
differ_others start [] h = refl
differ_others start (other ∷ starts) h = neither (same_atom start.name other.name) (list_any (λ other. same_atom start.name other.name) starts) h.0 (differ_others start starts h.1)

pub apart_names : (config : Config) → are_apart config ≡ true → IsDistinct same_atom (names_of config)
unfolding IsDistinct
apart_names [] e = tt
apart_names (start ∷ starts) e =
    let alone = left (not (list_any (λ other. same_atom start.name other.name) starts)) (are_apart starts) e in
    (others_differ start starts (is_not _ alone), apart_names starts (right (not (list_any (λ other. same_atom start.name other.name) starts)) (are_apart starts) e))

names_apart : (config : Config) → IsDistinct same_atom (names_of config) → are_apart config ≡ true
unfolding IsDistinct
names_apart [] h = refl
names_apart (start ∷ starts) h = both (not (list_any (λ other. same_atom start.name other.name) starts)) (are_apart starts) (not_is _ (differ_others start starts h.0)) (names_apart starts h.1)

-- ---- groups

turned : (x y : Term) → same_term x y ≡ same_term y x
turned x y = term_laws.laws-law.symm x y

groups_differ : (group : Term × List Pid) (groups : GroupList) → list_any (λ other. same_term other.0 group.0) groups ≡ false → AllByRecursion (λ name. same_term group.0 name ≡ false) (announced_names groups)
groups_differ group [] e = tt
groups_differ group (other ∷ groups) e =
    (turned group.0 other.0 ∙ not_left (same_term other.0 group.0) (list_any (λ other. same_term other.0 group.0) groups) e, groups_differ group groups (not_right (same_term other.0 group.0) (list_any (λ other. same_term other.0 group.0) groups) e))

differ_groups : (group : Term × List Pid) (groups : GroupList) → AllByRecursion (λ name. same_term group.0 name ≡ false) (announced_names groups) → list_any (λ other. same_term other.0 group.0) groups ≡ false
differ_groups group [] h = refl
differ_groups group (other ∷ groups) h = neither (same_term other.0 group.0) (list_any (λ other. same_term other.0 group.0) groups) (turned other.0 group.0 ∙ h.0) (differ_groups group groups h.1)

pub once_named : (groups : GroupList) → is_named_once groups ≡ true → IsDistinct same_term (announced_names groups)
unfolding IsDistinct
once_named [] e = tt
once_named (group ∷ groups) e =
    let alone = left (not (list_any (λ other. same_term other.0 group.0) groups)) (is_named_once groups) e in
    (groups_differ group groups (is_not _ alone), once_named groups (right (not (list_any (λ other. same_term other.0 group.0) groups)) (is_named_once groups) e))

pub named_once : (groups : GroupList) → IsDistinct same_term (announced_names groups) → is_named_once groups ≡ true
unfolding IsDistinct
named_once [] h = refl
named_once (group ∷ groups) h = both (not (list_any (λ other. same_term other.0 group.0) groups)) (is_named_once groups) (not_is _ (differ_groups group groups h.0)) (named_once groups h.1)

names_pass : (groups : GroupList) → are_names groups ≡ true → AllByRecursion (λ name. is_name name ≡ true) (announced_names groups)
names_pass [] e = tt
names_pass (group ∷ groups) e = (left (is_name group.0) (are_names groups) e, names_pass groups (right (is_name group.0) (are_names groups) e))

pass_names : (groups : GroupList) → AllByRecursion (λ name. is_name name ≡ true) (announced_names groups) → are_names groups ≡ true
pass_names [] h = refl
pass_names (group ∷ groups) h = both (is_name group.0) (are_names groups) h.0 (pass_names groups h.1)

made_pass : (config : Config) (groups : GroupList) → are_made config groups ≡ true → AllByRecursion (λ group. AllByRecursion (λ pid. was_made config pid ≡ true) group.1) groups
made_pass config groups e = each _ _ (λ group h. all_pass (was_made config) group.1 h) groups (all_pass (λ group. list_all (was_made config) group.1) groups e)

pass_made : (config : Config) (groups : GroupList) → AllByRecursion (λ group. AllByRecursion (λ pid. was_made config pid ≡ true) group.1) groups → are_made config groups ≡ true
pass_made config groups h = pass_all (λ group. list_all (was_made config) group.1) groups (each _ _ (λ group g. pass_all (was_made config) group.1 g) groups h)

-- ---- nodes

start_passes : (config : Config) (start : Start) → is_start config start ≡ true → are_names start.groups ≡ true → IsStart config start
start_passes config start e names =
    let ports = nat_le start.ports 64 in
    let made = nat_le start.made max_processes in
    let once = is_named_once start.groups in
    let members = are_made config start.groups in
    let e1 = left (ports && made && once) members e in
    let e2 = left (ports && made) once e1 in
    record {
      ports = leb-true start.ports 64 (left ports made e2);
      made = leb-true start.made max_processes (right ports made e2);
      groups = once_named start.groups (right (ports && made) once e1);
      names = names_pass start.groups names;
      members = made_pass config start.groups (right (ports && made && once) members e);
    }

pass_start : (config : Config) (start : Start) → IsStart config start → is_start config start ≡ true
pass_start config start h =
    both _ (are_made config start.groups)
    (both _ (is_named_once start.groups) (both (nat_le start.ports 64) (nat_le start.made max_processes) (le-leb start.ports 64 h.ports) (le-leb start.made max_processes h.made)) (named_once start.groups h.groups))
    (pass_made config start.groups h.members)

starts_pass : (config starts : Config) → list_all (is_start config) starts ≡ true → have_names starts ≡ true → AllByRecursion (IsStart config) starts
starts_pass config [] e names = tt
starts_pass config (start ∷ starts) e names = (
  start_passes config start (left (is_start config start) _ e) (left (are_names start.groups) (have_names starts) names),
  starts_pass config starts (right (is_start config start) _ e) (right (are_names start.groups) (have_names starts) names),
)

-- ---- configurations

pub config_passes : (config : Config) → is_config config ≡ true → have_names config ≡ true → IsConfig config
config_passes config e names =
    let some = nat_le 1 (length config) in
    let few = nat_le (length config) 16 in
    let apart = are_apart config in
    let starts = list_all (is_start config) config in
    let e1 = left (some && few && apart) starts e in
    let e2 = left (some && few) apart e1 in
    record {
      some = leb-true 1 (length config) (left some few e2);
      few = leb-true (length config) 16 (right some few e2);
      apart = apart_names config (right (some && few) apart e1);
      starts = starts_pass config config (right (some && few && apart) starts e) names;
    }

pass_config : (config : Config) → IsConfig config → is_config config ≡ true
pass_config config h =
    both _ (list_all (is_start config) config)
    (both _ (are_apart config) (both (nat_le 1 (length config)) (nat_le (length config) 16) (le-leb 1 (length config) h.some) (le-leb (length config) 16 h.few)) (names_apart config h.apart))
    (pass_all (is_start config) config (each (IsStart config) (λ start. is_start config start ≡ true) (pass_start config) config h.starts))

pass_all_names : (config : Config) → IsConfig config → have_names config ≡ true
pass_all_names config h = pass_all (λ start. are_names start.groups) config (each (IsStart config) (λ start. are_names start.groups ≡ true) (λ start s. pass_names start.groups s.names) config h.starts)

-- ---- the first fault

unrefused : (b c d : Bool) → cond b (cond c (cond d None (Some BadCapacity)) (Some NameTooLarge)) (Some BadConfig) ≡ None → (b ≡ true) × (c ≡ true) × (d ≡ true)
unrefused true true true e = (refl, refl, refl)
unrefused true true false e = absurd cc
unrefused true false d e = absurd cc
unrefused false c d e = absurd cc

refused_not : (b c d : Bool) → b ≡ true → c ≡ true → d ≡ true → cond b (cond c (cond d None (Some BadCapacity)) (Some NameTooLarge)) (Some BadConfig) ≡ None
refused_not b c d e f g = (λ i. cond (e i) (cond (f i) (cond (g i) None (Some BadCapacity)) (Some NameTooLarge)) (Some BadConfig))

pub passes : (ring : ℕ) (config : Config) → refusal_of ring config ≡ None → IsConfig config × IsCapacity ring
passes ring config e =
    let h = unrefused (is_config config) (have_names config) (is_capacity ring) e in
    (config_passes config h.0 h.1, (leb-true 1 ring (left (nat_le 1 ring) (nat_le ring 65536) h.2), leb-true ring 65536 (right (nat_le 1 ring) (nat_le ring 65536) h.2)))

pub passed : (ring : ℕ) (config : Config) → IsConfig config × IsCapacity ring → refusal_of ring config ≡ None
passed ring config h =
    refused_not (is_config config) (have_names config) (is_capacity ring) (pass_config config h.0) (pass_all_names config h.0)
    (both (nat_le 1 ring) (nat_le ring 65536) (le-leb 1 ring h.1.0) (le-leb ring 65536 h.1.1))

pub names_passed : (ring : ℕ) (config : Config) → refusal_of ring config ≡ None → have_names config ≡ true
names_passed ring config e = (unrefused (is_config config) (have_names config) (is_capacity ring) e).1
