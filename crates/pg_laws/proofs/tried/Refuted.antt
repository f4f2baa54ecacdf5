-- Wrong turns, and what each leaves: of that the invariant, or the law, says the contrary.
use Rattle.std.proofs.Common.{◌≡◌, ℕ, ◌+◌, ◌*◌, ◌<◌, ◌≤◌, Bool, true, false, cond, List, []}
use Rattle.std.proofs.Common.{◌∷◌, ◌++◌, Some, None, ap, sym, ◌∙◌, subst, inl, inr, arith}
use Rattle.pg_term.specs.declared.pid.Pid.{Pid}
use Rattle.pg_term.specs.declared.term.Term.{Term}
use Rattle.pg_term.specs.RefParts.{RefParts, ref_eq}
use Rattle.pg_term.specs.Same.{same_pid, same_term}
use Rattle.pg_step.specs.PgRefs.Numbered.{numbered}
use Rattle.pg_step.specs.PgGroup.declared.update.Update.{Update}
use Rattle.pg_step.specs.PgGroup.declared.update.Update.TheVariants.{Create, Join}
use Rattle.pg_step.specs.PgGroup.Functions.{upd}
use Rattle.pg_step.specs.PgGroup.Value.{Counts, greater, name_of, nobody, NoneEnded}
use Rattle.pg_step.specs.PgGroup.Table.{Table, applied, changed}
use Rattle.pg_step.proofs.PgGroup.Changes.{upd_at}
use Rattle.pg_step.specs.PgLock.Locks.{Locks, after_ask, held, is_free, is_holder}
use Rattle.pg_step.specs.PgMessageTypes.declared.message.Message.{Message}
use Rattle.pg_step.specs.PgMessageTypes.declared.message.Message.TheVariants.{Call, Reply, Exchange}
use Rattle.pg_step.specs.PgMessageTypes.declared.message.Request.TheVariants.{Change}
use Rattle.pg_step.specs.PgMessageTypes.declared.message.Said.TheVariants.{Applied, Denied}
use Rattle.pg_step.specs.declared.command.OpId.{OpId}
use Rattle.pg_step.specs.Attempts.{is_complete, none_missing}
use Rattle.pg_step.specs.Config.{Config, groups_at, name_at}
use Rattle.pg_step.specs.Nodes.{Node, Nodes}
use Rattle.pg_step.specs.State.{State, Status, Use}
use Rattle.pg_step.specs.State.Use.{Fresh, Spent, Locking, Owning, Updating}
use Rattle.pg_step.proofs.Once.{clash}
use Rattle.pg_laws.specs.ReferencesFit.{ReferencesFit}
use Rattle.pg_laws.specs.Sent.{exchanges_in}
use Rattle.pg_laws.proofs.ends.Posts.{post}
use Rattle.pg_laws.proofs.quiet.Gathering.{AllGather}
use Rattle.pg_laws.proofs.quiet.Phases.{Phase, backs}
use Rattle.pg_laws.proofs.quiet.Phases.Phase.{Ahead, Wanted, Given, Owned, Told, Confirmed, Done, Freed, Over}
use Rattle.pg_laws.proofs.quiet.Rest.{holds_nothing}
use Rattle.pg_laws.proofs.references.Keys.{terms}
use Rattle.pg_laws.proofs.references.References.{about}
use Rattle.pg_laws.proofs.locks.Lines.{Talk, shows, sent_has, IsIdle}
use Rattle.pg_laws.proofs.locks.Lines.Line.{Having}
use Rattle.pg_laws.proofs.locks.Moves.{change_line, applied_line}
use Rattle.pg_laws.proofs.locks.Named.{World, Entry, on, of_name, updates}
use Rattle.pg_laws.proofs.locks.Thins.{thin_whole}
use Rattle.pg_laws.proofs.locks.Kept.{Tale, carried}
use Rattle.pg_laws.proofs.places.Unlocked.{NoneHeld}
use Rattle.pg_laws.proofs.references.Fitting.{fit_at}

-- ---- locks

-- a reference that owns a lock holds it at each node
pub owner_holds : {N : Term} {n : ℕ} {p : Node} {r : RefParts} {out back : List Message} {locks : Locks} → Talk (Owning N n) p r out back locks → is_holder (locks N) r ≡ true
owner_holds {N} t = (shows t (Having N) t.fits).hold_is N ∙ terms.refl N

-- an update that begins though a node has denied the lock: its reference would own the lock, and does not hold it there
pub denied_owner : {N : Term} {n : ℕ} {p : Node} {r : RefParts} {out back : List Message} {locks : Locks} → is_holder (locks N) r ≡ false → Talk (Owning N n) p r out back locks → ⊥
denied_owner denied t = clash (sym (owner_holds t) ∙ denied)

-- a lock that is granted to a second reference: the first would own it, and holds it no more
pub second_holder : {N : Term} {n : ℕ} {p : Node} {r : RefParts} {out back : List Message} (locks : Locks) (second : RefParts) → ref_eq second r ≡ false
    → Talk (Owning N n) p r out back (held locks N (Some second)) → ⊥
unfolding held
second_holder {N} {n} {p} {r} locks second other = denied_owner (ap (λ b. is_holder (cond b (Some second) (locks N)) r) (terms.refl N) ∙ other)

-- a node that grants though it is not formed: it held no lock, and now holds one
pub unformed_holder : (locks : Locks) (N : Term) (r : RefParts) → NoneHeld locks → NoneHeld (after_ask (is_free (locks N)) locks N r) → ⊥
unfolding held
unformed_holder locks N r none later =
    let granted : after_ask (is_free (locks N)) locks N r N ≡ Some r = ap (λ o. after_ask (is_free o) locks N r N) (none N) ∙ ap (λ b. cond b (Some r) (locks N)) (terms.refl N) in
    let free : after_ask (is_free (locks N)) locks N r N ≡ None = later N in
    absurd (cc)

-- ---- updates

-- a command that ends at the first ok: its update would be of no use any more, and is still on the way to another node, or its ok back
pub ended_and_told : {p : Node} {r : RefParts} {u : Update} {out back : List Message} {locks : Locks} → Talk Spent p r (Call r (Change u) ∷ out) back locks → ⊥
ended_and_told {p} {r} {u} {out} t = subst IsIdle (change_line r u out t.line (sent_has t.out_is)).0 t.fits

pub ended_and_confirmed : {p : Node} {r : RefParts} {out back : List Message} {locks : Locks} → Talk Spent p r out (Reply r Applied ∷ back) locks → ⊥
ended_and_confirmed {p} {r} {out} {back} t = subst IsIdle (applied_line r back t.line (sent_has t.back_is)).0 t.fits

-- a node that has seen no loss, and to which no update is on the way, has applied all of the history
pub told_all : (w : World) (N : Term) (p : Node) → ((q : Node) → w.seen p q ≡ false) → Tale w N p → ((i : Node) (n : ℕ) → carried (about (numbered i n) (w.wire i p)) ≡ []) → on N (w.log p) ≡ updates (of_name N w.history)
told_all w N p nobody (inl full) none = thin_whole nobody full.thin
told_all w N p nobody (inr due) none = let way : carried (about (numbered due.i due.n) (w.wire due.i p)) ≡ due.last.update ∷ [] = due.way in let nothing : carried (about (numbered due.i due.n) (w.wire due.i p)) ≡ [] = none due.i due.n in absurd (cc)

one_short : (before : List Entry) (last : Entry) → updates before ≡ updates (before ++ last ∷ []) → ⊥
one_short [] last e = cc
one_short (x ∷ before) last e = one_short before last (cc)

-- a node that answers an update and does not apply it: nothing is on the way to it, and it has not applied the last entry
pub answered_unapplied : (w : World) (N : Term) (p : Node) (before : List Entry) (last : Entry) → of_name N w.history ≡ before ++ last ∷ [] → on N (w.log p) ≡ updates before
    → ((i : Node) (n : ℕ) → carried (about (numbered i n) (w.wire i p)) ≡ []) → ((q : Node) → w.seen p q ≡ false) → Tale w N p → ⊥
answered_unapplied w N p before last is short none nobody tale = one_short before last (sym short ∙ told_all w N p nobody tale none ∙ ap updates is)

-- ---- tables

-- a node that tells an update as applied and leaves its table: a group that was absent would have been made
pub told_unchanged : (table : Table) (name : Term) (ended : Pid → Bool) → table name ≡ None → table ≡ changed table (Create name) ended → ⊥
told_unchanged table name ended none same =
    let made : changed table (Create name) ended name ≡ Some nobody = upd_at same_term table name (applied (table name) (Create name) ended) (terms.refl name) ∙ ap (λ v. applied v (Create name) ended) none in
    let kept : table name ≡ changed table (Create name) ended name = ap (λ (f : Table). f name) same in
    absurd (cc)

-- an exchange that adds counts: a member that both nodes have would be one twice
pub added_twice : (f : Counts) (pid : Pid) → 0 < f pid → f pid + f pid ≡ greater f f pid → ⊥
added_twice f pid member e = go (f pid) member e
  where
    go : (n : ℕ) → 0 < n → n + n ≡ greater (λ q. n) (λ q. n) pid → ⊥
    go n some same = omega (arith, some, same)

-- a join that does not look who has ended: the process would be a member
pub ended_member : (counts : Counts) (name : Term) (pid : Pid) (ended : Pid → Bool) → ended pid ≡ true → same_pid pid pid ≡ true → NoneEnded (applied (Some counts) (Join name pid) (λ q. false)) ended → ⊥
ended_member counts name pid ended gone itself none =
    let one : upd same_pid counts pid (counts pid + 1) pid ≡ counts pid + 1 = upd_at same_pid counts pid (counts pid + 1) itself in
    let zero : upd same_pid counts pid (counts pid + 1) pid ≡ 0 = none pid gone in
    omega (arith, one, zero)

-- ---- references

-- an attempt that does not count its reference: the next one would have it again, and it is in use
pub uncounted : (s : State) (op : OpId) (u : Update) (lead : Node) (st : Node → Status) → s.uses (s.references + 1) ≡ Locking op u lead st → ReferencesFit s → ⊥
uncounted s op u lead st used fitting = let fresh : s.uses (s.references + 1) ≡ Fresh = fitting.fresh (s.references + 1) (omega arith) in absurd (cc)

-- an update that goes out under the reference of its lock: none owns the lock any more
pub owned_by_none : (s : State) (op : OpId) (u : Update) (c : ℕ) (replied : Node → Bool) → s.uses c ≡ Updating op u c replied → ReferencesFit s → ⊥
owned_by_none s op u c replied used fitting = let owns : s.uses c ≡ Owning (name_of u) c = (fit_at s fitting c (Updating op u c replied) used).1 in absurd (cc)

-- ---- what stays behind

-- an exchange that is merged and not noted: it is still on the way
pub unnoted : (config : Config) (p : ℕ) (rest : List Message) → exchanges_in (Exchange (name_at config p) (groups_at config p) ∷ rest) ≡ post config p false → exchanges_in rest ≡ post config p false → ⊥
unnoted config p rest before later = absurd (cc)

-- a lock that is given back and not freed: nothing is on the way about its reference, which is spent
pub kept_by_spent : (N : Term) {p : Node} {r : RefParts} {back : List Message} {locks : Locks} → is_holder (locks N) r ≡ true → Talk Spent p r [] back locks → ⊥
kept_by_spent N {p} {r} holder t = clash (sym holder ∙ t.hold_is N ∙ holds_nothing Spent p r t.line N tt t.fits t.out_is)

-- an attempt that is denied and not given up: all that it asks for has come
pub denied_and_open : (m : Nodes) (c : ℕ) (uses : ℕ → Use) (op : OpId) (u : Update) (lead : Node) (st : Node → Status) → none_missing m st ≡ true → uses c ≡ Locking op u lead st → AllGather m uses → ⊥
denied_and_open m c uses op u lead st all is gather = clash (sym all ∙ ap (is_complete m) (sym is) ∙ gather c)

-- a free lock that is denied: no such reply comes back to the one command that is tried
pub denied_back : (own : Node) (c : ℕ) (u : Update) (phase : Phase) → backs own c u phase ≡ Reply (numbered own c) Denied ∷ [] → ⊥
denied_back own c u Given e = cc
denied_back own c u (Confirmed n) e = cc
denied_back own c u Ahead e = cc
denied_back own c u Wanted e = cc
denied_back own c u Owned e = cc
denied_back own c u (Told n) e = cc
denied_back own c u Done e = cc
denied_back own c u Freed e = cc
denied_back own c u Over e = cc

-- an attempt that is denied and begins anew at once: what it frees and what the new one leads to are more than the old one led to
pub anew_is_more : (peers granted : ℕ) → 0 < peers → granted + 5 * peers ≤ 3 * peers → ⊥
anew_is_more peers granted some pays = absurd (omega (arith, some, pays))
