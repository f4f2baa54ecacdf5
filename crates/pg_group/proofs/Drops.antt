-- Rows that each lose the pids of a set.
use Rattle.std.proofs.Common.{◌≡◌, Bool, true, false, cond, Some, List, [], ◌∷◌, ap, subst, ◌∙◌}
use Rattle.std.specs.Option.{option_map}
use Rattle.std.specs.Map.{lookup}
use Rattle.std.specs.Map.Calls.{RetainsPairs}
use Rattle.std.specs.BTreeMap.{is_at}
use Rattle.pg_term.specs.declared.pid.Pid.{Pid}
use Rattle.pg_term.specs.declared.term.Term.{Term}
use Rattle.pg_term.specs.Same.{term_cmp}
use Rattle.pg_group.specs.Value.{none_of, less}
use Rattle.pg_group.specs.declared.members.Members.{Members}
use Rattle.pg_group.specs.Rows.{counts_of}

-- each row is kept, less the pids
pub each_less : {F : Type 0} (T : F → Term → Members → Bool → Members → F → Type 0) (gone : Pid → Bool) (f : F)
    → ((k : Term) (v : Members) (b : Bool) (w : Members) (f' : F) → T f k v b w f' → (b ≡ true) × (counts_of w ≡ none_of gone (counts_of v)) × (f' ≡ f))
    → (es kept : List (Term × Members)) → RetainsPairs T f es kept → (name : Term)
    → option_map counts_of (lookup (is_at (term_cmp name)) kept) ≡ less (option_map counts_of (lookup (is_at (term_cmp name)) es)) gone
each_less T gone f each [] kept h name = ap (λ (l : List (Term × Members)). option_map counts_of (lookup (is_at (term_cmp name)) l)) h
each_less T gone f each (e ∷ es) kept (b, w, f', rest, t, r, is) name =
    let said = each e.0 e.1 b w f' t in
    let all : kept ≡ (e.0, w) ∷ rest = is ∙ ap (λ b. cond b ((e.0, w) ∷ rest) rest) said.0 in
    let more = each_less T gone f each es rest (subst (λ g. RetainsPairs T g es rest) said.2 r) name in
    ap (λ (l : List (Term × Members)). option_map counts_of (lookup (is_at (term_cmp name)) l)) all ∙ go (is_at (term_cmp name) e.0) said.1 more
  where
    go : (s : Bool) → counts_of w ≡ none_of gone (counts_of e.1)
        → option_map counts_of (lookup (is_at (term_cmp name)) rest) ≡ less (option_map counts_of (lookup (is_at (term_cmp name)) es)) gone
        → option_map counts_of (cond s (Some w) (lookup (is_at (term_cmp name)) rest)) ≡ less (option_map counts_of (cond s (Some e.1) (lookup (is_at (term_cmp name)) es))) gone
    go true c m = ap Some c
    go false c m = m
