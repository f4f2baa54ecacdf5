-- Each group of a node is what the node knows of the start, after the updates that it applied, less the ends it took.
use Rattle.std.proofs.Common.{◌≡◌, ℕ, Bool, true, false, ◌||◌, cond, length, List}
use Rattle.std.proofs.Common.{[], ◌∷◌, ◌++◌, Option, Some, None, refl, ap, sym, ◌∙◌}
use Rattle.std.specs.List.{IsDistinct}
use Rattle.std.proofs.Math.Path.{fun_ext}
use Rattle.std.proofs.lemmas.Bool.Decides.{Decides-ltb}
use Rattle.std.proofs.lemmas.List.{append-nil}
use Rattle.pg_term.specs.declared.pid.Pid.{Pid}
use Rattle.pg_term.specs.declared.term.Term.{Term}
use Rattle.pg_term.specs.Same.{same_atom, same_pid, same_term}
use Rattle.pg_term.specs.contracts.term.TermEq.TheImpl.Laws as term_laws
use Rattle.pg_term.proofs.Same.{same_term as term_is}
use Rattle.pg_step.specs.PgGroup.declared.update.Update.{Update}
use Rattle.pg_step.specs.PgGroup.Functions.{upd}
use Rattle.pg_step.specs.PgGroup.Value.{Value, less, merge, name_of}
use Rattle.pg_step.specs.PgGroup.Table.{Table, applied}
use Rattle.pg_step.proofs.PgGroup.Changes.{upd_by}
use Rattle.pg_step.specs.Machines.Places.{is_place, is_pair}
use Rattle.pg_step.specs.Machines.Machine.{start_of}
use Rattle.pg_step.specs.Nodes.{Node}
use Rattle.pg_step.specs.State.{State}
use Rattle.pg_step.specs.Turns.{NodeTurn}
use Rattle.pg_step.specs.Peers.{exchange}
use Rattle.pg_step.specs.Config.{Config, names_of, name_at, groups_at, first_table}
use Rattle.pg_step.specs.FrameMachine.{machine_of}
use Rattle.pg_laws.specs.History.{replay, known, update_of}
use Rattle.pg_step.proofs.Machines.Steps.{pair_apart}
use Rattle.pg_laws.proofs.ends.Apart.{same_place, pair_first, pair_second}
use Rattle.pg_laws.proofs.tables.Applied.{Tables, Applying, EndingOne}
use Rattle.pg_laws.specs.Lasting.{with_applied}
use Rattle.pg_laws.proofs.tables.Values.{applied_less, less_one, less_nobody, replay_append}
use Rattle.pg_laws.proofs.tables.Values.{merged_told, and_one, known_more, or_false}
use Rattle.pg_step.proofs.PgGroup.Merges.{less_merge}

-- whose groups a node has, by its state
abbrev pub has : Config → ℕ → State → Node → Bool
has config i s q = same_atom (name_at config i) q || s.merged q

-- The group of node i in this state, where it has applied these updates of it.
abbrev pub TableIs : Config → ℕ → Term → State → List Update → Type 0
TableIs config i name s us = s.table name ≡ less (replay (known (has config i s) name config) us) s.ended

module _ (config : Config) (i : ℕ) (name : Term) (s : State) (us : List Update) (is : TableIs config i name s us) where
  abbrev K : Value
  K = known (has config i s) name config

  -- after an update, or none
  applied_is : (o : Option Update) → with_applied s.table o s.ended name ≡ less (replay K (us ++ update_of name o)) s.ended
  applied_is None = is ∙ ap (λ xs. less (replay K xs) s.ended) (sym (append-nil us))
  applied_is (Some u) =
      upd_by same_term s.table (name_of u) (λ v. v ≡ less (replay K (us ++ cond (same_term name (name_of u)) (u ∷ []) [])) s.ended)
      (applied (s.table (name_of u)) u s.ended) name here there
    where
      here : same_term (name_of u) name ≡ true → applied (s.table (name_of u)) u s.ended ≡ less (replay K (us ++ cond (same_term name (name_of u)) (u ∷ []) [])) s.ended
      here same =
          ap (λ n. applied (s.table n) u s.ended) (term_is (name_of u) name same)
          ∙ ap (λ v. applied v u s.ended) is ∙ applied_less (replay K us) s.ended u
          ∙ ap (λ v. less v s.ended) (sym (replay_append K us u))
          ∙ ap (λ b. less (replay K (us ++ cond b (u ∷ []) [])) s.ended) (sym (term_laws.laws-law.symm name (name_of u) ∙ same))

      there : same_term (name_of u) name ≡ false → s.table name ≡ less (replay K (us ++ cond (same_term name (name_of u)) (u ∷ []) [])) s.ended
      there other =
          is ∙ ap (λ xs. less (replay K xs) s.ended) (sym (append-nil us))
          ∙ ap (λ b. less (replay K (us ++ cond b (u ∷ []) [])) s.ended) (sym (term_laws.laws-law.symm name (name_of u) ∙ other))

  -- the same peers and ends, told by another state
  same_peers : (t : State) (xs : List Update) (ended : Pid → Bool) → t.merged ≡ s.merged → t.ended ≡ ended
      → less (replay K xs) ended ≡ less (replay (known (has config i t) name config) xs) t.ended
  same_peers t xs ended merged ends =
      ap (λ (f : Node → Bool). less (replay (known (λ q. same_atom (name_at config i) q || f q) name config) xs) ended) (sym merged)
      ∙ ap (less (replay (known (has config i t) name config) xs)) (sym ends)

  pub tables_step : (t : NodeTurn) → Tables s t → TableIs config i name t.state (us ++ update_of name t.reported.applied)
  tables_step t (Applying table ended merged) =
      ap (λ (f : Table). f name) table ∙ applied_is t.reported.applied ∙ same_peers t.state (us ++ update_of name t.reported.applied) s.ended merged ended
  tables_step t (EndingOne pid table ended merged none) =
      ap (λ (f : Table). f name) table ∙ ap (λ v. less v (same_pid pid)) is ∙ less_one (replay K us) s.ended pid
      ∙ same_peers t.state us (upd same_pid s.ended pid true) merged ended
      ∙ ap (λ xs. less (replay (known (has config i t.state) name config) xs) t.state.ended) (sym (append-nil us) ∙ ap (λ o. us ++ update_of name o) (sym none))

-- ---- an exchange

or_last : (a b c : Bool) → (a || cond c true b) ≡ ((a || b) || c)
or_last true b c = refl
or_last false true true = refl
or_last false true false = refl
or_last false false true = refl
or_last false false false = refl

has_more : (config : Config) (i : ℕ) (s : State) (p : Node) (t : State) → t.merged ≡ upd same_atom s.merged p true → has config i t ≡ and_one (has config i s) p
unfolding upd
has_more config i s p t merged = fun_ext (λ q. ap (λ (f : Node → Bool). same_atom (name_at config i) q || f q) merged ∙ or_last (same_atom (name_at config i) q) (s.merged q) (same_atom p q))

module _ (config : Config) (apart : IsDistinct same_atom (names_of config)) (i p : ℕ) (pair : is_pair (length config) i p ≡ true) (s : State) (new : s.merged (name_at config p) ≡ false) where
  not_had : has config i s (name_at config p) ≡ false
  not_had = go (same_atom (name_at config i) (name_at config p)) refl
    where
      go : (b : Bool) → same_atom (name_at config i) (name_at config p) ≡ b → has config i s (name_at config p) ≡ false
      go true same = absurd (pair_apart (length config) i p pair (same_place config apart i p (pair_first (length config) i p pair) (pair_second (length config) i p pair) same))
      go false other = ap (λ b. b || s.merged (name_at config p)) other ∙ new

  pub exchange_step : (name : Term) → TableIs config i name s [] → TableIs config i name ((exchange (name_at config p) (groups_at config p) s).state) []
  exchange_step name is =
      let t = (exchange (name_at config p) (groups_at config p) s).state in
      let F = first_table (groups_at config p) name in
      merged_told s.table (groups_at config p) s.ended name
      ∙ ap (λ v. merge v (less F s.ended)) is
      ∙ sym (less_merge s.ended (known (has config i s) name config) F)
      ∙ ap (λ v. less v s.ended) (sym (known_more (has config i s) name config p ((Decides-ltb p (length config)).0 (pair_second (length config) i p pair)) apart not_had))
      ∙ ap (λ (f : Node → Bool). less (known f name config) s.ended) (sym (has_more config i s (name_at config p) t refl))

-- ---- the start

pub none_known : (name : Term) (config : Config) → known (λ q. false) name config ≡ None
none_known name [] = refl
none_known name (start ∷ starts) = none_known name starts

pub table_start : (config : Config) → IsDistinct same_atom (names_of config) → (i : ℕ) (name : Term) → is_place (length config) i ≡ true
    → TableIs config i name ((start_of (machine_of config)).node i) []
table_start config apart i name there =
    let F = first_table (groups_at config i) name in
    let more = known_more (λ q. false) name config i ((Decides-ltb i (length config)).0 there) apart refl in
    sym (less_nobody F)
    ∙ ap (λ v. less (merge v F) (λ pid. false)) (sym (none_known name config))
    ∙ ap (λ v. less v (λ pid. false)) (sym more)
    ∙ ap (λ (f : Node → Bool). less (known f name config) (λ pid. false)) (fun_ext (λ q. sym (or_false (same_atom (name_at config i) q))))
