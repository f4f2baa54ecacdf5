-- What ordered maps of groups and of counts say after a change at one key.
use Rattle.std.proofs.Common.{◌≡◌, ℕ, ◌+◌, ◌-◌, max, Bool, true, false, not, cond}
use Rattle.std.proofs.Common.{Option, Some, None, refl, sym, ap, ◌∙◌, arith}
use Rattle.std.specs.Prelude.{Result, Ok, Err, OnErr, unwrap_or, is_some}
use Rattle.std.specs.Option.{option_map}
use Rattle.std.specs.BTreeMap.{BTreeMap, get, is_at, UpdatesBy}
use Rattle.std.specs.Map.{lookup}
use Rattle.pg_term.specs.declared.pid.Pid.{Pid}
use Rattle.pg_term.specs.declared.term.Term.{Term}
use Rattle.pg_term.specs.Same.{same_pid, pid_cmp, same_term, term_cmp}
use Rattle.pg_term.specs.contracts.pid.PidOrd.TheImpl.Laws as pid_laws
use Rattle.pg_term.specs.contracts.term.TermOrd.TheImpl.Laws as term_laws
use Rattle.pg_term.proofs.Same as decided
use Rattle.pg_group.specs.declared.update.Update.{Update}
use Rattle.pg_group.specs.declared.update.Update.TheVariants.{Create, Join, Leave}
use Rattle.pg_group.specs.Functions.{upd}
use Rattle.pg_group.specs.Value.{Value, nobody, none_of, apply, with_one_more, with_one_less}
use Rattle.std.proofs.Math.Path.{fun_ext}
use Rattle.std.proofs.Common.{subst}
use Rattle.std.specs.Ordering.{eq_by_cmp}
use Rattle.std.specs.List.{IsDistinct, list_any, filter}
use Rattle.std.specs.BTreeMap.{keys, IsOrdered}
use Rattle.std.proofs.lemmas.Map.Entries.{lookup-filter-keys}
use Rattle.std.proofs.lemmas.Map.Keys.{IsDistinct-from_sorted}
use Rattle.pg_group.specs.Table.{Table, changed, AreNames}
use Rattle.pg_group.specs.declared.members.Members.{Members}
use Rattle.pg_group.specs.Counted.{CountMap, counts_in, NoneIsZero}
use Rattle.pg_group.specs.Rows.{counts_of, table_of}
use Rattle.pg_group.proofs.Changes.{upd_from, upd_same}

or_none : (b : Bool) (w x : Option ℕ) → unwrap_or (cond b w x) 0 ≡ cond b (unwrap_or w 0) (unwrap_or x 0)
or_none true w x = refl
or_none false w x = refl

counts_changed : (m n : CountMap) (pid : Pid) (w : Option ℕ) → ((q : Pid) → get pid_cmp n q ≡ cond (is_at (pid_cmp pid) q) w (get pid_cmp m q)) → counts_in n ≡ upd same_pid (counts_in m) pid (unwrap_or w 0)
counts_changed m n pid w h = upd_from same_pid (counts_in m) pid (counts_in n) (unwrap_or w 0)
    (λ q. ap (λ o. unwrap_or o 0) (h q) ∙ or_none (is_at (pid_cmp pid) q) w (get pid_cmp m q) ∙ ap (λ b. cond b (unwrap_or w 0) (counts_in m q)) (sym (pid_laws.matches_eq-law pid q)))

counts_updated : (m n : CountMap) (pid : Pid) (w : Option ℕ) → UpdatesBy pid_cmp (pid_cmp pid) m n w → counts_in n ≡ upd same_pid (counts_in m) pid (unwrap_or w 0)
counts_updated m n pid w h = counts_changed m n pid w h.0

-- the count that was there, and what is written over it
pub counted_more : (m n : CountMap) (pid : Pid) (k : ℕ) → get pid_cmp m pid ≡ Some k → UpdatesBy pid_cmp (pid_cmp pid) m n (Some (k + 1)) → counts_in n ≡ with_one_more (counts_in m) pid
counted_more m n pid k had h = counts_updated m n pid (Some (k + 1)) h ∙ ap (λ o. upd same_pid (counts_in m) pid (unwrap_or o 0 + 1)) (sym had)

-- a pid that was none
pub counted_first : (m n : CountMap) (pid : Pid) → get pid_cmp m pid ≡ None → UpdatesBy pid_cmp (pid_cmp pid) m n (Some 1) → counts_in n ≡ with_one_more (counts_in m) pid
counted_first m n pid had h = counts_updated m n pid (Some 1) h ∙ ap (λ o. upd same_pid (counts_in m) pid (unwrap_or o 0 + 1)) (sym had)

pub counted_less : (m n : CountMap) (pid : Pid) (k : ℕ) → get pid_cmp m pid ≡ Some k → UpdatesBy pid_cmp (pid_cmp pid) m n (Some (k - 1)) → counts_in n ≡ with_one_less (counts_in m) pid
counted_less m n pid k had h = counts_updated m n pid (Some (k - 1)) h ∙ ap (λ o. upd same_pid (counts_in m) pid (unwrap_or o 0 - 1)) (sym had)

twice : {A : Type 0} (b : Bool) (w v x : A) → cond b w (cond b v x) ≡ cond b w x
twice true w v x = refl
twice false w v x = refl

-- the last count goes with the pid, whatever was written over it before
pub counted_last : (m l n : CountMap) (pid : Pid) (k : ℕ) (v : Option ℕ) → get pid_cmp m pid ≡ Some k → k - 1 ≡ 0 → UpdatesBy pid_cmp (pid_cmp pid) m l v → UpdatesBy pid_cmp (pid_cmp pid) l n None → counts_in n ≡ with_one_less (counts_in m) pid
counted_last m l n pid k v had few f g =
    counts_changed m n pid None (λ q. g.0 q ∙ ap (cond (is_at (pid_cmp pid) q) None) (f.0 q) ∙ twice (is_at (pid_cmp pid) q) None v (get pid_cmp m q))
    ∙ ap (upd same_pid (counts_in m) pid) (sym few) ∙ ap (λ o. upd same_pid (counts_in m) pid (unwrap_or o 0 - 1)) (sym had)

-- nothing is taken from a pid that is no member
pub not_counted : (m : CountMap) (pid : Pid) → get pid_cmp m pid ≡ None → counts_in m ≡ with_one_less (counts_in m) pid
not_counted m pid had = sym (upd_same same_pid (counts_in m) pid (decided.pid_is pid) (counts_in m pid - 1) (ap (λ o. unwrap_or o 0 - 1) had ∙ ap (λ o. unwrap_or o 0) (sym had)))

-- ---- tables

mapped : {A B : Type 0} (f : A → B) (b : Bool) (w x : Option A) → option_map f (cond b w x) ≡ cond b (option_map f w) (option_map f x)
mapped f true w x = refl
mapped f false w x = refl

pub table_updated : (m n : BTreeMap Term Members) (name : Term) (w : Option Members) → UpdatesBy term_cmp (term_cmp name) m n w → table_of n ≡ upd same_term (table_of m) name (option_map counts_of w)
table_updated m n name w h = upd_from same_term (table_of m) name (table_of n) (option_map counts_of w)
    (λ q. ap (option_map counts_of) (h.0 q) ∙ mapped counts_of (is_at (term_cmp name) q) w (get term_cmp m q) ∙ ap (λ b. cond b (option_map counts_of w) (table_of m q)) (sym (term_laws.matches_eq-law name q)))

-- a group that stays as it is
pub table_kept : (table : Table) (name : Term) (v : Value) → v ≡ table name → table ≡ upd same_term table name v
table_kept table name v e = sym (upd_same same_term table name (decided.same_term name) v e)

abbrev Rows : Type 0
Rows = BTreeMap Term Members

-- a group that is there already
made_before : (o : Option Members) (name : Term) → is_some o ≡ true → apply (option_map counts_of o) (Create name) ≡ option_map counts_of o
made_before None name e = absurd cc
made_before (Some m) name e = refl

pub created_before : (m : Rows) (name : Term) → is_some (get term_cmp m name) ≡ true → table_of m ≡ upd same_term (table_of m) name (apply (table_of m name) (Create name))
created_before m name e = table_kept (table_of m) name (apply (table_of m name) (Create name)) (made_before (get term_cmp m name) name e)

-- a group that is made
made_now : (o : Option Members) (name : Term) → is_some o ≡ false → apply (option_map counts_of o) (Create name) ≡ Some nobody
made_now None name e = refl
made_now (Some m) name e = absurd cc

pub created_now : (m n : Rows) (name : Term) (fresh : Members) → is_some (get term_cmp m name) ≡ false → counts_of fresh ≡ nobody → UpdatesBy term_cmp (term_cmp name) m n (Some fresh) → table_of n ≡ upd same_term (table_of m) name (apply (table_of m name) (Create name))
created_now m n name fresh absent empty h =
    table_updated m n name (Some fresh) h ∙ ap (upd same_term (table_of m) name) (ap Some empty ∙ sym (made_now (get term_cmp m name) name absent))

-- a group whose members were changed
module _ (m n : Rows) (name : Term) (old new : Members) (had : get term_cmp m name ≡ Some old) (h : UpdatesBy term_cmp (term_cmp name) m n (Some new)) where
  pub joined : (pid : Pid) → counts_of new ≡ with_one_more (counts_of old) pid → table_of n ≡ upd same_term (table_of m) name (apply (table_of m name) (Join name pid))
  joined pid more = table_updated m n name (Some new) h ∙ ap (upd same_term (table_of m) name) (ap Some more ∙ ap (λ o. apply (option_map counts_of o) (Join name pid)) (sym had))

  pub left : (pid : Pid) → counts_of new ≡ with_one_less (counts_of old) pid → table_of n ≡ upd same_term (table_of m) name (apply (table_of m name) (Leave name pid))
  left pid fewer = table_updated m n name (Some new) h ∙ ap (upd same_term (table_of m) name) (ap Some fewer ∙ ap (λ o. apply (option_map counts_of o) (Leave name pid)) (sym had))

  pub unchanged : counts_of new ≡ counts_of old → table_of n ≡ table_of m
  unchanged same = table_updated m n name (Some new) h ∙ sym (table_kept (table_of m) name (Some (counts_of new)) (ap Some same ∙ ap (option_map counts_of) (sym had)))

-- nothing joins or leaves an absent group
pub absent : (m n : Rows) (name : Term) (update : Update) → n ≡ m → get term_cmp m name ≡ None → apply None update ≡ None → table_of n ≡ upd same_term (table_of m) name (apply (table_of m name) update)
absent m n name update same gone nothing =
    ap table_of same ∙ table_kept (table_of m) name (apply (table_of m name) update)
    (ap (λ o. apply (option_map counts_of o) update) gone ∙ nothing ∙ ap (option_map counts_of) (sym gone))

-- what holds in any case holds at an error
pub on_err : {T E P : Type 0} (r : Result T E) → P → OnErr r P
on_err (Ok x) p = tt
on_err (Err e) p = p

-- a join of an ended pid changes nothing
pub join_refused : (table : Table) (name : Term) (pid : Pid) (ended : Pid → Bool) → ended pid ≡ true → table ≡ changed table (Join name pid) ended
join_refused table name pid ended gone = table_kept table name (cond (ended pid) (table name) (apply (table name) (Join name pid))) (ap (λ b. cond b (table name) (apply (table name) (Join name pid))) gone)

there : {A B : Type 0} (f : A → B) (o : Option A) → is_some (option_map f o) ≡ is_some o
there f None = refl
there f (Some x) = refl

-- the test of names that the order makes
same_as_tied : same_term ≡ eq_by_cmp term_cmp
same_as_tied = fun_ext (λ x. fun_ext (λ y. term_laws.matches_eq-law x y))

-- the keys of an ordered map are the names of its groups
pub keys_are_names : (m : Rows) → IsOrdered term_cmp m → ((q : Term) → is_some (get term_cmp m q) ≡ list_any (eq_by_cmp term_cmp q) (keys m)) → AreNames (table_of m) (keys m)
keys_are_names m ordered has = record {
  each = λ name. ap (λ (test : Term → Term → Bool). list_any (test name) (keys m)) same_as_tied ∙ sym (has name) ∙ sym (there counts_of (get term_cmp m name));
  once = subst (λ (test : Term → Term → Bool). IsDistinct test (keys m)) (sym same_as_tied) (IsDistinct-from_sorted term_cmp (keys m) ordered);
}

-- a count that is written over another, and a first one
pub counted_at_least : (m n : CountMap) (pid : Pid) (k least written : ℕ) → get pid_cmp m pid ≡ Some k → written ≡ max k least → UpdatesBy pid_cmp (pid_cmp pid) m n (Some written) → counts_in n ≡ upd same_pid (counts_in m) pid (max (counts_in m pid) least)
counted_at_least m n pid k least written had is h = counts_updated m n pid (Some written) h ∙ ap (upd same_pid (counts_in m) pid) is ∙ ap (λ o. upd same_pid (counts_in m) pid (max (unwrap_or o 0) least)) (sym had)

pub counted_least : (m n : CountMap) (pid : Pid) (least : ℕ) → get pid_cmp m pid ≡ None → UpdatesBy pid_cmp (pid_cmp pid) m n (Some least) → counts_in n ≡ upd same_pid (counts_in m) pid (max (counts_in m pid) least)
counted_least m n pid least had h =
    let e : least ≡ max 0 least = omega arith in
    counts_updated m n pid (Some least) h ∙ ap (upd same_pid (counts_in m) pid) e ∙ ap (λ o. upd same_pid (counts_in m) pid (max (unwrap_or o 0) least)) (sym had)

pub counted_out : (m n : CountMap) (pid : Pid) → UpdatesBy pid_cmp (pid_cmp pid) m n None → counts_in n ≡ none_of (same_pid pid) (counts_in m)
unfolding upd
counted_out m n pid h = counts_updated m n pid None h

-- the pids of a set are taken out, and the others stay
module _ (m n : CountMap) (gone : Pid → Bool) (is : n.entries ≡ filter (λ e. not (gone e.0)) m.entries) where
  found : (pid : Pid) → get pid_cmp n pid ≡ cond (not (gone pid)) (get pid_cmp m pid) None
  found pid = ap (lookup (is_at (pid_cmp pid))) is
      ∙ lookup-filter-keys (is_at (pid_cmp pid)) (λ p. not (gone p)) (not (gone pid)) (λ p t. ap (λ q. not (gone q)) (sym (decided.pid_is pid p (pid_laws.matches_eq-law pid p ∙ t)))) m.entries

  pub filtered_out : counts_in n ≡ none_of gone (counts_in m)
  filtered_out = fun_ext (λ pid. ap (λ o. unwrap_or o 0) (found pid) ∙ left (gone pid) (get pid_cmp m pid))
    where
      left : (b : Bool) (o : Option ℕ) → unwrap_or (cond (not b) o None) 0 ≡ cond b 0 (unwrap_or o 0)
      left true o = refl
      left false o = refl

  pub filtered_living : NoneIsZero m → NoneIsZero n
  filtered_living living pid zero = left (gone pid) (get pid_cmp m pid) (living pid) (sym (found pid) ∙ zero)
    where
      left : (b : Bool) (o : Option ℕ) → (o ≡ Some 0 → ⊥) → cond (not b) o None ≡ Some 0 → ⊥
      left true o h e = cc
      left false o h e = h e
