-- How long what a node announces is.
use Rattle.std.proofs.Common.{◌≡◌, ℕ, zero, suc, ◌+◌, ◌<◌, ◌≤◌, Some, None, List, [], ◌∷◌}
use Rattle.std.proofs.Common.{map, length, length-append, min, refl, sym, ap, ◌∙◌, arith, add-one}
use Rattle.std.specs.Prelude.{slice_get}
use Rattle.pg_term.specs.declared.pid.Pid.{Pid}
use Rattle.pg_term.specs.declared.term.Term.{List as Listed}
use Rattle.pg_term.specs.declared.term.Term.TheVariants.{Pid as Process}
use Rattle.pg_node_state.specs.PgTermIo.Writing.{item_bytes, all_bytes, pid_bytes, list_head}
use Rattle.pg_node_state.specs.PgGroup.Members.{IsMemberList}
use Rattle.pg_node_state.specs.PgGroup.Scope.{anywhere}
use Rattle.pg_node_state.specs.PgGroup.Value.{Value}
use Rattle.pg_message_writer.proofs.Words.{pid_is}
use Rattle.pg_message_writer.proofs.Listed.{made_len}
use Rattle.pg_node.specs.Announced.{too_long}

-- ---- the members of a group

pub pid_some : (pid : Pid) → 1 ≤ length (pid_bytes pid)
unfolding pid_bytes
pid_some pid = omega arith

-- how many bytes the first pids take
abbrev pub first_len : ℕ → List Pid → ℕ
first_len zero pids = 0
first_len (suc n) [] = 0
first_len (suc n) (pid ∷ pids) = length (pid_bytes pid) + first_len n pids

one_longer : (pid : Pid) (pids : List Pid) → length (all_bytes (map Process (pid ∷ pids))) ≡ length (pid_bytes pid) + length (all_bytes (map Process pids))
one_longer pid pids = length-append (item_bytes (Process pid)) (all_bytes (map Process pids)) ∙ ap (λ b. length b + length (all_bytes (map Process pids))) (pid_is pid)

first_next : (n : ℕ) (pids : List Pid) (pid : Pid) → Some pid ≡ slice_get pids n → (first_len (suc n) pids ≡ first_len n pids + length (pid_bytes pid)) × (suc n ≤ length pids)
first_next n [] pid e = absurd cc
first_next zero (p ∷ pids) pid e = (let same : pid ≡ p = cc in let l = ap (λ q. length (pid_bytes q)) same in omega (arith, l), omega arith)
first_next (suc n) (p ∷ pids) pid e = let more = first_next n pids pid e in (omega (arith, more.0), omega (arith, more.1))

pub first_more : (n : ℕ) (pids : List Pid) (pid : Pid) → Some pid ≡ slice_get pids n → (first_len (n + 1) pids ≡ first_len n pids + length (pid_bytes pid)) × (n + 1 ≤ length pids)
first_more n pids pid e = let next = first_next n pids pid e in (ap (λ m. first_len m pids) (add-one n) ∙ next.0, omega (arith, next.1))

pub first_within : (n : ℕ) (pids : List Pid) → first_len n pids ≤ length (all_bytes (map Process pids))
first_within zero pids = omega arith
first_within (suc n) [] = omega arith
first_within (suc n) (pid ∷ pids) = omega (arith, one_longer pid pids, first_within n pids)

pub first_all : (n : ℕ) (pids : List Pid) → n ≤ length pids → None ≡ slice_get pids n → (first_len n pids ≡ length (all_bytes (map Process pids))) × (length pids ≡ n)
first_all zero [] l e = (refl, refl)
first_all (suc n) [] l e = absurd (omega (arith, l))
first_all zero (pid ∷ pids) l e = absurd cc
first_all (suc n) (pid ∷ pids) l e = let all = first_all n pids (omega (arith, l)) e in (omega (arith, one_longer pid pids, all.0), omega (arith, all.1))

-- the first members are counted
pub record Counted (v : Value) (before len place : ℕ) : Type 0 where
  pub each : (pids : List Pid) → IsMemberList v anywhere pids → (place ≤ length pids) × (len ≡ min (before + first_len place pids) too_long)
  pub few : place ≤ len
  pub bound : len ≤ too_long

pub members_len : (before len place : ℕ) (pids : List Pid) → place ≤ length pids → len ≡ min (before + first_len place pids) too_long → None ≡ slice_get pids place
    → min (len + (length (list_head place) + 1)) too_long ≡ min (before + length (item_bytes (Listed (map Process pids)))) too_long
members_len before len place pids low e none =
    let all = first_all place pids low none in
    let head = ap (λ (n : ℕ). length (list_head n)) all.1 in
    omega (arith, made_len Process pids, all.0, head, e)

-- one more is counted
pub counted_more : (v : Value) (before len len' place : ℕ) (pid : Pid) (pids : List Pid) → ((others : List Pid) → IsMemberList v anywhere others → others ≡ pids)
    → Some pid ≡ slice_get pids place → len' ≡ min (len + length (pid_bytes pid)) too_long → Counted v before len place → len' < too_long → Counted v before len' (place + 1)
counted_more v before len len' place pid pids one at e was less =
    let some = pid_some pid in
    record {
      each = λ others is.
          let more = first_more place others pid (at ∙ ap (λ (ps : List Pid). slice_get ps place) (sym (one others is))) in
          (more.1, omega (arith, e, more.0, (was.each others is).1));
      few = omega (arith, e, some, was.few, less);
      bound = omega (arith, e);
    }

-- more than what is too long was counted
pub counted_past : (before len len' place : ℕ) (pid : Pid) (pids : List Pid) → Some pid ≡ slice_get pids place → len' ≡ min (len + length (pid_bytes pid)) too_long → len' ≡ too_long
    → len ≡ min (before + first_len place pids) too_long → too_long ≡ min (before + length (item_bytes (Listed (map Process pids)))) too_long
counted_past before len len' place pid pids at e past was =
    let more = first_more place pids pid at in
    let within = first_within (place + 1) pids in
    omega (arith, made_len Process pids, more.0, within, e, past, was)
