-- The moves of one line.
use Rattle.std.proofs.Common.{◌≡◌, ℕ, Bool, true, false, List, [], ◌∷◌, ◌++◌, Some, None, refl, ap, ◌∙◌, subst}
use Rattle.pg_term.specs.declared.term.Term.{Term}
use Rattle.pg_term.specs.RefParts.{RefParts}
use Rattle.pg_term.specs.Same.{same_term}
use Rattle.pg_step.specs.PgGroup.declared.update.Update.{Update}
use Rattle.pg_step.specs.PgGroup.Value.{name_of}
use Rattle.pg_step.specs.PgLock.Locks.{Locks, held, is_holder}
use Rattle.pg_step.specs.PgMessageTypes.declared.message.Message.{Message}
use Rattle.pg_step.specs.PgMessageTypes.declared.message.Message.TheVariants.{Call, Reply, DelLock}
use Rattle.pg_step.specs.PgMessageTypes.declared.message.Request.TheVariants.{SetLock, Change}
use Rattle.pg_step.specs.PgMessageTypes.declared.message.Said.TheVariants.{Granted, Denied, Applied}
use Rattle.pg_step.specs.declared.command.OpId.{OpId}
use Rattle.pg_step.specs.Nodes.{Node}
use Rattle.pg_step.specs.State.{Status, Use}
use Rattle.pg_step.specs.State.Status.{Unasked, Asked, Yes, No}
use Rattle.pg_step.specs.State.Use.{Fresh, Spent, Locking, Owning, Updating}
use Rattle.pg_laws.proofs.references.References.{lent_self, freed_self}
use Rattle.pg_laws.proofs.locks.Lines.{Line, Talk, shows, Fits, FitsStatus, FitsReply}
use Rattle.pg_laws.proofs.locks.Lines.{outs, backs, sent_all, sent_nil, sent_has}
use Rattle.pg_laws.proofs.locks.Lines.Line.{Quiet, Closing, Wanting, Giving, Refusing, Having, Telling, Confirming}

-- At the home

-- the line is as it was, and fits another use
pub refit : {how how' : Use} {p : Node} {r : RefParts} {out back : List Message} {locks : Locks} (t : Talk how p r out back locks) → Fits how' p t.line → Talk how' p r out back locks
refit t f = record { line = t.line; fits = f; out_is = t.out_is; back_is = t.back_is; hold_is = t.hold_is }

pub asked : {how how' : Use} {p : Node} {r : RefParts} {out back : List Message} {locks : Locks} (N : Term) (t : Talk how p r out back locks) → t.line ≡ Quiet → Fits how' p (Wanting N) → Talk how' p r (out ++ Call r (SetLock N) ∷ []) back locks
asked {r = r} N t q f =
    let s = shows t Quiet q in
    record { line = Wanting N; fits = f; out_is = sent_all (ap (λ o. o ++ Call r (SetLock N) ∷ []) (sent_nil s.out_is)); back_is = s.back_is; hold_is = s.hold_is }

pub asked_self : {how how' : Use} {p : Node} {r : RefParts} {out back : List Message} {locks : Locks} (N : Term) (t : Talk how p r out back locks) → t.line ≡ Quiet → Fits how' p (Having N) → Talk how' p r out back (held locks N (Some r))
asked_self {r = r} {locks = locks} N t q f =
    let s = shows t Quiet q in
    record { line = Having N; fits = f; out_is = s.out_is; back_is = s.back_is; hold_is = lent_self locks N r s.hold_is }

pub freed : {how how' : Use} {p : Node} {r : RefParts} {out back : List Message} {locks : Locks} (N : Term) (t : Talk how p r out back locks) → t.line ≡ Having N → Fits how' p (Closing N) → Talk how' p r (out ++ DelLock N r ∷ []) back locks
freed {r = r} N t q f =
    let s = shows t (Having N) q in
    record { line = Closing N; fits = f; out_is = sent_all (ap (λ o. o ++ DelLock N r ∷ []) (sent_nil s.out_is)); back_is = s.back_is; hold_is = s.hold_is }

pub freed_own : {how how' : Use} {p : Node} {r : RefParts} {out back : List Message} {locks : Locks} (N : Term) (t : Talk how p r out back locks) → t.line ≡ Having N → Fits how' p Quiet → Talk how' p r out back (held locks N None)
freed_own {r = r} {locks = locks} N t q f =
    let s = shows t (Having N) q in
    record { line = Quiet; fits = f; out_is = s.out_is; back_is = s.back_is; hold_is = freed_self locks N r s.hold_is }

pub reported : {how how' : Use} {p : Node} {r : RefParts} {out back : List Message} {locks : Locks} (u : Update) (t : Talk how p r out back locks) → t.line ≡ Quiet → Fits how' p (Telling u) → Talk how' p r (out ++ Call r (Change u) ∷ []) back locks
reported {r = r} u t q f =
    let s = shows t Quiet q in
    record { line = Telling u; fits = f; out_is = sent_all (ap (λ o. o ++ Call r (Change u) ∷ []) (sent_nil s.out_is)); back_is = s.back_is; hold_is = s.hold_is }

-- At the other node

-- what the first packet on the way says of the line
pub set_line : (r : RefParts) (N : Term) (xs : List Message) (l : Line) → Call r (SetLock N) ∷ xs ≡ outs r l → (l ≡ Wanting N) × (xs ≡ [])
set_line r N xs (Wanting M) e = (cc, cc)
set_line r N xs _ e = absurd (cc)

pub change_line : (r : RefParts) (u : Update) (xs : List Message) (l : Line) → Call r (Change u) ∷ xs ≡ outs r l → (l ≡ Telling u) × (xs ≡ [])
change_line r u xs (Telling v) e = (cc, cc)
change_line r u xs _ e = absurd (cc)

pub del_line : (r : RefParts) (N : Term) (xs : List Message) (l : Line) → DelLock N r ∷ xs ≡ outs r l → (l ≡ Closing N) × (xs ≡ [])
del_line r N xs (Closing M) e = (cc, cc)
del_line r N xs _ e = absurd (cc)

pub granted_line : (r : RefParts) (xs : List Message) (l : Line) → Reply r Granted ∷ xs ≡ backs r l → (N : Term) × (l ≡ Giving N) × (xs ≡ [])
granted_line r xs (Giving M) e = (M, refl, cc)
granted_line r xs _ e = absurd (cc)

pub denied_line : (r : RefParts) (xs : List Message) (l : Line) → Reply r Denied ∷ xs ≡ backs r l → (l ≡ Refusing) × (xs ≡ [])
denied_line r xs Refusing e = (refl, cc)
denied_line r xs _ e = absurd (cc)

pub applied_line : (r : RefParts) (xs : List Message) (l : Line) → Reply r Applied ∷ xs ≡ backs r l → (l ≡ Confirming) × (xs ≡ [])
applied_line r xs Confirming e = (refl, cc)
applied_line r xs _ e = absurd (cc)

wanting_status : (M N : Term) (v : Status) → FitsStatus M v (Wanting N) → FitsStatus M v (Giving N) × FitsStatus M v Refusing
wanting_status M N Asked f = (f, tt)
wanting_status M N Unasked f = absurd (cc)
wanting_status M N Yes f = absurd (cc)
wanting_status M N No f = absurd f

wanting_reply : (u : Update) (N : Term) (b : Bool) → FitsReply u b (Wanting N) → ⊥
wanting_reply u N true f = cc
wanting_reply u N false f = f

pub wanting_fits : (how : Use) (p : Node) (N : Term) → Fits how p (Wanting N) → Fits how p (Giving N) × Fits how p Refusing
wanting_fits Fresh p N f = absurd (cc)
wanting_fits Spent p N f = absurd f
wanting_fits (Locking op u lead st) p N f = wanting_status (name_of u) N (st p) f
wanting_fits (Owning M c) p N f = absurd (cc)
wanting_fits (Updating op u c rep) p N f = absurd (wanting_reply u N (rep p) f)

closing_status : (M N : Term) (v : Status) → FitsStatus M v (Closing N) → FitsStatus M v Quiet
closing_status M N No f = tt
closing_status M N Asked f = absurd f
closing_status M N Unasked f = absurd (cc)
closing_status M N Yes f = absurd (cc)

closing_reply : (u : Update) (N : Term) (b : Bool) → FitsReply u b (Closing N) → ⊥
closing_reply u N true f = cc
closing_reply u N false f = f

pub closing_fits : (how : Use) (p : Node) (N : Term) → Fits how p (Closing N) → Fits how p Quiet
closing_fits Fresh p N f = absurd (cc)
closing_fits Spent p N f = tt
closing_fits (Locking op u lead st) p N f = closing_status (name_of u) N (st p) f
closing_fits (Owning M c) p N f = absurd (cc)
closing_fits (Updating op u c rep) p N f = absurd (closing_reply u N (rep p) f)

telling_status : (M : Term) (u : Update) (v : Status) → FitsStatus M v (Telling u) → ⊥
telling_status M u Asked f = f
telling_status M u Unasked f = cc
telling_status M u Yes f = cc
telling_status M u No f = f

telling_reply : (v u : Update) (b : Bool) → FitsReply v b (Telling u) → FitsReply v b Confirming
telling_reply v u true f = absurd (cc)
telling_reply v u false f = tt

pub telling_fits : (how : Use) (p : Node) (u : Update) → Fits how p (Telling u) → Fits how p Confirming
telling_fits Fresh p u f = absurd (cc)
telling_fits Spent p u f = absurd f
telling_fits (Locking op v lead st) p u f = absurd (telling_status (name_of v) u (st p) f)
telling_fits (Owning M c) p u f = absurd (cc)
telling_fits (Updating op v c rep) p u f = telling_reply v u (rep p) f

pub set_yes : {how : Use} {p : Node} {r : RefParts} {out back : List Message} {locks : Locks} (N : Term)
    → Talk how p r (Call r (SetLock N) ∷ out) back locks → Talk how p r out (back ++ Reply r Granted ∷ []) (held locks N (Some r))
set_yes {how = how} {p = p} {r = r} {out = out} {locks = locks} N t =
    let l = set_line r N out t.line (sent_has t.out_is) in
    let s = shows t (Wanting N) l.0 in
    let f : Fits how p (Wanting N) = subst (Fits how p) l.0 t.fits in
    record {
      line = Giving N;
      fits = (wanting_fits how p N f).0;
      out_is = sent_all l.1;
      back_is = sent_all (ap (λ o. o ++ Reply r Granted ∷ []) (sent_nil s.back_is));
      hold_is = lent_self locks N r s.hold_is;
    }

pub set_no : {how : Use} {p : Node} {r : RefParts} {out back : List Message} {locks : Locks} (N : Term)
    → Talk how p r (Call r (SetLock N) ∷ out) back locks → Talk how p r out (back ++ Reply r Denied ∷ []) locks
set_no {how = how} {p = p} {r = r} {out = out} N t =
    let l = set_line r N out t.line (sent_has t.out_is) in
    let s = shows t (Wanting N) l.0 in
    let f : Fits how p (Wanting N) = subst (Fits how p) l.0 t.fits in
    record {
      line = Refusing;
      fits = (wanting_fits how p N f).1;
      out_is = sent_all l.1;
      back_is = sent_all (ap (λ o. o ++ Reply r Denied ∷ []) (sent_nil s.back_is));
      hold_is = s.hold_is;
    }

pub applied : {how : Use} {p : Node} {r : RefParts} {out back : List Message} {locks : Locks} (u : Update)
    → Talk how p r (Call r (Change u) ∷ out) back locks → Talk how p r out (back ++ Reply r Applied ∷ []) locks
applied {how = how} {p = p} {r = r} {out = out} u t =
    let l = change_line r u out t.line (sent_has t.out_is) in
    let s = shows t (Telling u) l.0 in
    let f : Fits how p (Telling u) = subst (Fits how p) l.0 t.fits in
    record {
      line = Confirming;
      fits = telling_fits how p u f;
      out_is = sent_all l.1;
      back_is = sent_all (ap (λ o. o ++ Reply r Applied ∷ []) (sent_nil s.back_is));
      hold_is = s.hold_is;
    }

pub del_holds : {how : Use} {p : Node} {r : RefParts} {out back : List Message} {locks : Locks} (N : Term)
    → Talk how p r (DelLock N r ∷ out) back locks → (M : Term) → is_holder (locks M) r ≡ same_term N M
del_holds {how = how} {p = p} {r = r} {out = out} N t = (shows t (Closing N) (del_line r N out t.line (sent_has t.out_is)).0).hold_is

pub del_done : {how : Use} {p : Node} {r : RefParts} {out back : List Message} {locks : Locks} (N : Term)
    → Talk how p r (DelLock N r ∷ out) back locks → Talk how p r out back (held locks N None)
del_done {how = how} {p = p} {r = r} {out = out} {locks = locks} N t =
    let l = del_line r N out t.line (sent_has t.out_is) in
    let s = shows t (Closing N) l.0 in
    let f : Fits how p (Closing N) = subst (Fits how p) l.0 t.fits in
    record {
      line = Quiet;
      fits = closing_fits how p N f;
      out_is = sent_all l.1;
      back_is = s.back_is;
      hold_is = freed_self locks N r s.hold_is;
    }

-- Back at the home

-- the use waits for a reply of p to its request for a lock
abbrev pub AwaitsLock : Use → Node → Type 0
AwaitsLock (Locking op u lead st) p = st p ≡ Asked
AwaitsLock _ p = ⊥

abbrev pub AwaitsUpdate : Use → Node → Type 0
AwaitsUpdate (Updating op u c rep) p = rep p ≡ false
AwaitsUpdate _ p = ⊥

giving_status : (M N : Term) (v : Status) → FitsStatus M v (Giving N) → v ≡ Asked
giving_status M N Asked f = refl
giving_status M N Unasked f = absurd (cc)
giving_status M N Yes f = absurd (cc)
giving_status M N No f = absurd f

refusing_status : (M : Term) (v : Status) → FitsStatus M v Refusing → v ≡ Asked
refusing_status M Asked f = refl
refusing_status M Unasked f = absurd (cc)
refusing_status M Yes f = absurd (cc)
refusing_status M No f = absurd f

confirming_status : (M : Term) (v : Status) → FitsStatus M v Confirming → ⊥
confirming_status M Asked f = f
confirming_status M Unasked f = cc
confirming_status M Yes f = cc
confirming_status M No f = f

giving_reply : (u : Update) (N : Term) (b : Bool) → FitsReply u b (Giving N) → ⊥
giving_reply u N true f = cc
giving_reply u N false f = f

refusing_reply : (u : Update) (b : Bool) → FitsReply u b Refusing → ⊥
refusing_reply u true f = cc
refusing_reply u false f = f

confirming_reply : (u : Update) (b : Bool) → FitsReply u b Confirming → b ≡ false
confirming_reply u true f = absurd (cc)
confirming_reply u false f = refl

giving_fits : (how : Use) (p : Node) (N : Term) → Fits how p (Giving N) → AwaitsLock how p
giving_fits Fresh p N f = cc
giving_fits Spent p N f = f
giving_fits (Locking op u lead st) p N f = giving_status (name_of u) N (st p) f
giving_fits (Owning M c) p N f = cc
giving_fits (Updating op u c rep) p N f = giving_reply u N (rep p) f

refusing_fits : (how : Use) (p : Node) → Fits how p Refusing → AwaitsLock how p
refusing_fits Fresh p f = cc
refusing_fits Spent p f = f
refusing_fits (Locking op u lead st) p f = refusing_status (name_of u) (st p) f
refusing_fits (Owning M c) p f = cc
refusing_fits (Updating op u c rep) p f = refusing_reply u (rep p) f

confirming_fits : (how : Use) (p : Node) → Fits how p Confirming → AwaitsUpdate how p
confirming_fits Fresh p f = cc
confirming_fits Spent p f = f
confirming_fits (Locking op u lead st) p f = confirming_status (name_of u) (st p) f
confirming_fits (Owning M c) p f = cc
confirming_fits (Updating op u c rep) p f = confirming_reply u (rep p) f

pub granted_awaited : {how : Use} {p : Node} {r : RefParts} {out back : List Message} {locks : Locks}
    → Talk how p r out (Reply r Granted ∷ back) locks → AwaitsLock how p
granted_awaited {how = how} {p = p} {r = r} {back = back} t =
    let l = granted_line r back t.line (sent_has t.back_is) in
    giving_fits how p l.0 (subst (Fits how p) l.1 t.fits)

pub denied_awaited : {how : Use} {p : Node} {r : RefParts} {out back : List Message} {locks : Locks}
    → Talk how p r out (Reply r Denied ∷ back) locks → AwaitsLock how p
denied_awaited {how = how} {p = p} {r = r} {back = back} t =
    let l = denied_line r back t.line (sent_has t.back_is) in
    refusing_fits how p (subst (Fits how p) l.0 t.fits)

pub applied_awaited : {how : Use} {p : Node} {r : RefParts} {out back : List Message} {locks : Locks}
    → Talk how p r out (Reply r Applied ∷ back) locks → AwaitsUpdate how p
applied_awaited {how = how} {p = p} {r = r} {back = back} t =
    let l = applied_line r back t.line (sent_has t.back_is) in
    confirming_fits how p (subst (Fits how p) l.0 t.fits)

giving_name : (M N : Term) (v : Status) → FitsStatus M v (Giving N) → N ≡ M
giving_name M N Asked f = f
giving_name M N Unasked f = absurd (cc)
giving_name M N Yes f = absurd (cc)
giving_name M N No f = absurd f

pub granted_back : {p : Node} {r : RefParts} {op : OpId} {u : Update} {lead : Node} {st st' : Node → Status} {out back : List Message} {locks : Locks}
    → Talk (Locking op u lead st) p r out (Reply r Granted ∷ back) locks → st' p ≡ Yes → Talk (Locking op u lead st') p r out back locks
granted_back {p = p} {r = r} {u = u} {st = st} {back = back} t e =
    let l = granted_line r back t.line (sent_has t.back_is) in
    let f : FitsStatus (name_of u) (st p) (Giving l.0) = subst (FitsStatus (name_of u) (st p)) l.1 t.fits in
    let q : t.line ≡ Giving (name_of u) = l.1 ∙ ap Giving (giving_name (name_of u) l.0 (st p) f) in
    let s = shows t (Giving (name_of u)) q in
    record { line = Having (name_of u); fits = rw e; out_is = s.out_is; back_is = sent_all l.2; hold_is = s.hold_is }

pub denied_back : {p : Node} {r : RefParts} {op : OpId} {u : Update} {lead : Node} {st st' : Node → Status} {out back : List Message} {locks : Locks}
    → Talk (Locking op u lead st) p r out (Reply r Denied ∷ back) locks → st' p ≡ No → Talk (Locking op u lead st') p r out back locks
denied_back {p = p} {r = r} {u = u} {st = st} {back = back} t e =
    let l = denied_line r back t.line (sent_has t.back_is) in
    let s = shows t Refusing l.0 in
    record { line = Quiet; fits = rw e tt; out_is = s.out_is; back_is = sent_all l.1; hold_is = s.hold_is }

pub applied_back : {p : Node} {r : RefParts} {op : OpId} {u : Update} {d : ℕ} {rep rep' : Node → Bool} {out back : List Message} {locks : Locks}
    → Talk (Updating op u d rep) p r out (Reply r Applied ∷ back) locks → rep' p ≡ true → Talk (Updating op u d rep') p r out back locks
applied_back {p = p} {r = r} {back = back} t e =
    let l = applied_line r back t.line (sent_has t.back_is) in
    let s = shows t Confirming l.0 in
    record { line = Quiet; fits = rw e; out_is = s.out_is; back_is = sent_all l.1; hold_is = s.hold_is }
