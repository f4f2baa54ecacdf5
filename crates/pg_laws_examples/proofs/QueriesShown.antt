-- What the queries of the example read.
use Rattle.std.proofs.Common.{◌≡◌, ℕ, Bool, true, false, cond, List, [], ◌∷◌, Some, None, refl, ap, sym, ◌∙◌, inl, inr}
use Rattle.std.specs.Prelude.{count_by}
use Rattle.pg_term.specs.declared.pid.Pid.{Pid}
use Rattle.pg_term.specs.declared.term.Term.{Term}
use Rattle.pg_term.specs.Same.{same_atom, same_pid}
use Rattle.pg_laws.specs.PgGroup.Members.{IsMemberList, count_among}
use Rattle.pg_laws.specs.PgGroup.Scope.{anywhere, at_node}
use Rattle.pg_laws.specs.PgGroup.Value.{nobody}
use Rattle.pg_laws_examples.specs.Examples.{a, b, c, a1, b1}
use Rattle.pg_laws_examples.specs.QueriesRead.{members, QueriesRead}
use Rattle.pg_laws_examples.proofs.Listed.{by_pid}

-- a process that is no member is none of a node either
none_there : (n : ℕ) (here : Bool) → n ≡ 0 → 0 ≡ cond here n 0
none_there n true e = sym e
none_there n false e = refl

not_among : (pid : Pid) → same_pid pid a1 ≡ false → same_pid pid b1 ≡ false → count_by (same_pid pid) (a1 ∷ a1 ∷ b1 ∷ []) ≡ 0
not_among pid an bn = simp (an, bn) refl

not_of_a : (pid : Pid) → same_pid pid a1 ≡ false → count_by (same_pid pid) (a1 ∷ a1 ∷ []) ≡ 0
not_of_a pid an = simp an refl

not_of_b : (pid : Pid) → same_pid pid b1 ≡ false → count_by (same_pid pid) (b1 ∷ []) ≡ 0
not_of_b pid bn = simp bn refl

at_a : IsMemberList members (at_node a) (a1 ∷ a1 ∷ [])
at_a = record {
  ordered = ((refl, tt), (tt, tt));
  each = by_pid (λ pid. count_by (same_pid pid) (a1 ∷ a1 ∷ []) ≡ count_among members (at_node a) pid) refl refl
      (λ pid an a_apart bn b_apart. not_of_a pid an ∙ (none_there (count_by (same_pid pid) (a1 ∷ a1 ∷ b1 ∷ [])) (same_atom a pid.node) (not_among pid an bn)));
}

at_b : IsMemberList members (at_node b) (b1 ∷ [])
at_b = record {
  ordered = (tt, tt);
  each = by_pid (λ pid. count_by (same_pid pid) (b1 ∷ []) ≡ count_among members (at_node b) pid) refl refl
      (λ pid an a_apart bn b_apart. not_of_b pid bn ∙ (none_there (count_by (same_pid pid) (a1 ∷ a1 ∷ b1 ∷ [])) (same_atom b pid.node) (not_among pid an bn)));
}

at_c : IsMemberList members (at_node c) []
at_c = record {
  ordered = tt;
  each = by_pid (λ pid. 0 ≡ count_among members (at_node c) pid) refl refl
      (λ pid an a_apart bn b_apart. none_there (count_by (same_pid pid) (a1 ∷ a1 ∷ b1 ∷ [])) (same_atom c pid.node) (not_among pid an bn));
}

everywhere : IsMemberList members anywhere (a1 ∷ a1 ∷ b1 ∷ [])
everywhere = record { ordered = ((refl, (refl, tt)), ((refl, tt), (tt, tt))); each = λ pid. refl }

nobody_there : IsMemberList (Some nobody) anywhere []
nobody_there = record { ordered = tt; each = λ pid. refl }

pub queries_read : (g : Term) → QueriesRead g
queries_read g = record {
  local_a = (a1 ∷ a1 ∷ [], at_a, refl);
  local_b = (b1 ∷ [], at_b, refl);
  local_c = ([], at_c, refl);
  local_none = refl;
  closest_a = record { among = a1 ∷ a1 ∷ []; nearest = inl at_a; place = refl };
  closest_b = record { among = b1 ∷ []; nearest = inl at_b; place = refl };
  closest_c = record { among = a1 ∷ a1 ∷ b1 ∷ []; nearest = inr (at_c, everywhere); place = refl };
  closest_c_last = record { among = a1 ∷ a1 ∷ b1 ∷ []; nearest = inr (at_c, everywhere); place = refl };
  closest_empty = (nobody_there, refl);
  closest_none = refl;
}
