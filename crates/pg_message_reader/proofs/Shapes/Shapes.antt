-- What has not the shape of a packet, and so is none.
use Rattle.std.proofs.Common.{◌≡◌, ◌≢◌, ◌-◌, take, drop, ℕ, zero, suc, ◌≤◌, Bool, true, false, cond, eqb, List, []}
use Rattle.std.proofs.Common.{◌∷◌, length, Option, Some, None, Ok, Err, refl, sym, ap, subst, ◌∙◌, arith}
use Rattle.std.proofs.Math.Seq.{take-length}
use Rattle.pg_term.specs.declared.fault.TermFault.TheVariants.{BadVersion, TrailingBytes}
use Rattle.pg_term.specs.declared.term.Term.{Term, Tuple, out-Term}
use Rattle.pg_term.specs.declared.term.Term.TheOpen.{Term-F}
use Rattle.pg_term.specs.Order.{kind_step, kind_of}
use Rattle.pg_message_types.specs.PgTermIo.Reading.{Read, ◌>>=◌, items_at, item_at, as_term, term_of}
use Rattle.pg_message_types.specs.PgTermIo.Scanning.{past}
use Rattle.pg_message_types.specs.Parts.{tuple_in, elements_of, list_in, items_of}
use Rattle.pg_message_types.specs.Reading.{request_in}
use Rattle.pg_message_types.specs.Reading.{cast_in}
use Rattle.pg_message_types.specs.Reading.{message_in, packet_in}
use Rattle.pg_message_types.proofs.ReadBack.{elements_is}
use Rattle.pg_message_types.specs.declared.fault.MessageFault.TheVariants as faults

-- ---- items, one after the other

-- the first of some items, and those after it
pub record Splits (read : List ℕ → Read Term) (n : ℕ) (bytes : List ℕ) (ts : List Term) (rest : List ℕ) : Type 0 where
  pub first : Term
  pub others : List Term
  pub mid : List ℕ
  pub are : ts ≡ first ∷ others
  pub here : read bytes ≡ Ok (first, mid)
  pub after : items_at read n mid ≡ Ok (others, rest)

-- a term in front of those that are read
abbrev after_first : Term → Read (List Term) → Read (List Term)
after_first t read = read >>= λ others. Ok (t ∷ others.0, others.1)

-- the first, and then n more
abbrev and_others : (List ℕ → Read Term) → ℕ → Read Term → Read (List Term)
and_others read n first = first >>= λ x. after_first x.0 (items_at read n x.1)

module _ (read : List ℕ → Read Term) (n : ℕ) (bytes : List ℕ) (ts : List Term) (rest : List ℕ) where
  others_split : (t : Term) (mid : List ℕ) (o : Read (List Term)) → read bytes ≡ Ok (t, mid) → items_at read n mid ≡ o → after_first t o ≡ Ok (ts, rest) → Splits read n bytes ts rest
  others_split t mid (Ok x) here after e =
      let same : (t ∷ x.0, x.1) ≡ (ts, rest) = cc in
      record { first = t; others = x.0; mid = mid; are = ap (λ (p : List Term × List ℕ). p.0) (sym same); here = here; after = after ∙ ap (λ (p : List Term × List ℕ). Ok (x.0, p.1)) same }
  others_split t mid (Err f) here after e = absurd cc

  first_split : (r : Read Term) → read bytes ≡ r → and_others read n r ≡ Ok (ts, rest) → Splits read n bytes ts rest
  first_split (Ok x) here e = others_split x.0 x.1 (items_at read n x.1) here refl e
  first_split (Err f) here e = absurd cc

  pub splits : items_at read (suc n) bytes ≡ Ok (ts, rest) → Splits read n bytes ts rest
  unfolding items_at
  splits e = first_split (read bytes) refl e

no_more : (read : List ℕ → Read Term) (bytes : List ℕ) (ts : List Term) (rest : List ℕ) → items_at read 0 bytes ≡ Ok (ts, rest) → (ts ≡ []) × (bytes ≡ rest)
unfolding items_at
no_more read bytes ts rest e =
    let same : ([], bytes) ≡ (ts, rest) = cc in
    (ap (λ (p : List Term × List ℕ). p.0) (sym same), ap (λ (p : List Term × List ℕ). p.1) same)

-- two items, and three
pub record Two (read : List ℕ → Read Term) (bytes : List ℕ) (ts : List Term) (rest : List ℕ) : Type 0 where
  pub a : Term
  pub b : Term
  pub mid : List ℕ
  pub are : ts ≡ a ∷ b ∷ []
  pub first : read bytes ≡ Ok (a, mid)
  pub second : read mid ≡ Ok (b, rest)

pub two : (read : List ℕ → Read Term) (bytes : List ℕ) (ts : List Term) (rest : List ℕ) → items_at read 2 bytes ≡ Ok (ts, rest) → Two read bytes ts rest
two read bytes ts rest e =
    let p = splits read 1 bytes ts rest e in
    let q = splits read 0 p.mid p.others rest p.after in
    let end = no_more read q.mid q.others rest q.after in
    record {
      a = p.first;
      b = q.first;
      mid = p.mid;
      are = p.are ∙ ap (λ (us : List Term). p.first ∷ us) (q.are ∙ ap (λ (us : List Term). q.first ∷ us) end.0);
      first = p.here;
      second = q.here ∙ ap (λ (r : List ℕ). Ok (q.first, r)) end.1;
    }

pub record Three (read : List ℕ → Read Term) (bytes : List ℕ) (ts : List Term) (rest : List ℕ) : Type 0 where
  pub a : Term
  pub mid : List ℕ
  pub b : Term
  pub then : List ℕ
  pub c : Term
  pub are : ts ≡ a ∷ b ∷ c ∷ []
  pub first : read bytes ≡ Ok (a, mid)
  pub second : read mid ≡ Ok (b, then)
  pub third : read then ≡ Ok (c, rest)

pub three : (read : List ℕ → Read Term) (bytes : List ℕ) (ts : List Term) (rest : List ℕ) → items_at read 3 bytes ≡ Ok (ts, rest) → Three read bytes ts rest
three read bytes ts rest e =
    let p = splits read 2 bytes ts rest e in
    let q = two read p.mid p.others rest p.after in
    record {
      a = p.first;
      mid = p.mid;
      b = q.a;
      then = q.mid;
      c = q.b;
      are = p.are ∙ ap (λ (us : List Term). p.first ∷ us) q.are;
      first = p.here;
      second = q.first;
      third = q.second;
    }

-- what is no tuple has no elements
pub no_elements : (t : Term) → kind_of t ≢ 4 → elements_of t ≡ None
no_elements t other = at (out-Term t) other
  where
    at : (l : Term-F Term) → kind_step l ≢ 4 → tuple_in l ≡ None
    at (Term-F.Tuple ts) h = absurd (h refl)
    at (Term-F.Int z) h = refl
    at (Term-F.Atom a) h = refl
    at (Term-F.Ref r) h = refl
    at (Term-F.Pid p) h = refl
    at (Term-F.List ts) h = refl
    at (Term-F.Binary content) h = refl

-- nor has what is no list any
pub no_items : (t : Term) → kind_of t ≢ 5 → items_of t ≡ None
no_items t other = at (out-Term t) other
  where
    at : (l : Term-F Term) → kind_step l ≢ 5 → list_in l ≡ None
    at (Term-F.List ts) h = absurd (h refl)
    at (Term-F.Int z) h = refl
    at (Term-F.Atom a) h = refl
    at (Term-F.Ref r) h = refl
    at (Term-F.Pid p) h = refl
    at (Term-F.Tuple ts) h = refl
    at (Term-F.Binary content) h = refl

-- ---- ways that all lead to nothing

pub none_if : {A : Type 0} (b : Bool) (o p : Option A) → o ≡ None → p ≡ None → cond b o p ≡ None
none_if true o p h k = h
none_if false o p h k = k

-- ---- tuples

count_is : (read : List ℕ → Read Term) (n : ℕ) (bytes : List ℕ) (ts : List Term) (rest : List ℕ) → items_at read n bytes ≡ Ok (ts, rest) → length ts ≡ n
count_is read zero bytes ts rest e = ap length (no_more read bytes ts rest e).0
count_is read (suc n) bytes ts rest e =
    let p = splits read n bytes ts rest e in
    ap length p.are ∙ ap suc (count_is read n p.mid p.others rest p.after)

record IsTuple (room n : ℕ) (mid : List ℕ) (t : Term) (rest : List ℕ) : Type 0 where
  terms : List Term
  is : t ≡ Tuple terms
  read : items_at (item_at room) n mid ≡ Ok (terms, rest)

module _ (room n : ℕ) (bytes mid : List ℕ) (head : item_at (suc room) bytes ≡ as_term Tuple (items_at (item_at room) n mid)) (t : Term) (rest : List ℕ) (e : item_at (suc room) bytes ≡ Ok (t, rest)) where
  is_tuple : IsTuple room n mid t rest
  is_tuple = at (items_at (item_at room) n mid) refl (sym head ∙ e)
    where
      at : (r : Read (List Term)) → items_at (item_at room) n mid ≡ r → as_term Tuple r ≡ Ok (t, rest) → IsTuple room n mid t rest
      at (Ok x) k h =
          let same : (Tuple x.0, x.1) ≡ (t, rest) = cc in
          record { terms = x.0; is = ap (λ (p : Term × List ℕ). p.0) (sym same); read = k ∙ ap (λ (p : Term × List ℕ). Ok (x.0, p.1)) same }
      at (Err f) k h = absurd cc

  elements_are : elements_of t ≡ Some is_tuple.terms
  elements_are = ap elements_of is_tuple.is ∙ elements_is is_tuple.terms

  module _ (P : Option (List Term) → Type 0) where
    pub by_pair : n ≡ 2 → ((a b : Term) (then : List ℕ) → item_at room mid ≡ Ok (a, then) → item_at room then ≡ Ok (b, rest) → P (Some (a ∷ b ∷ []))) → P (elements_of t)
    by_pair count why =
        let p = two (item_at room) mid is_tuple.terms rest (subst (λ (n : ℕ). items_at (item_at room) n mid ≡ Ok (is_tuple.terms, rest)) count is_tuple.read) in
        subst P (sym (elements_are ∙ ap Some p.are)) (why p.a p.b p.mid p.first p.second)

    pub by_triple : n ≡ 3 → ((a b c : Term) (then last : List ℕ) → item_at room mid ≡ Ok (a, then) → item_at room then ≡ Ok (b, last) → item_at room last ≡ Ok (c, rest) → P (Some (a ∷ b ∷ c ∷ []))) → P (elements_of t)
    by_triple count why =
        let p = three (item_at room) mid is_tuple.terms rest (subst (λ (n : ℕ). items_at (item_at room) n mid ≡ Ok (is_tuple.terms, rest)) count is_tuple.read) in
        subst P (sym (elements_are ∙ ap Some p.are)) (why p.a p.b p.c p.mid p.then p.first p.second p.third)

    pub by_other : ((ts : List Term) → length ts ≡ n → P (Some ts)) → P (elements_of t)
    by_other why = subst P (sym elements_are) (why is_tuple.terms (count_is (item_at room) n mid is_tuple.terms rest is_tuple.read))

-- what is no tuple
pub by_none : (P : Option (List Term) → Type 0) (t : Term) → kind_of t ≢ 4 → P None → P (elements_of t)
by_none P t other why = subst P (sym (no_elements t other)) why

-- tuples of other lengths are nothing
pub packet_other : (ts : List Term) → length ts ≢ 2 → packet_in (Some ts) ≡ Err faults.NotAMessage
packet_other [] h = refl
packet_other (a ∷ []) h = refl
packet_other (a ∷ b ∷ []) h = absurd (h refl)
packet_other (a ∷ b ∷ c ∷ ts) h = refl

pub message_other : (ts : List Term) → length ts ≢ 2 → length ts ≢ 3 → message_in ts ≡ None
message_other [] h k = refl
message_other (a ∷ []) h k = refl
message_other (a ∷ b ∷ []) h k = absurd (h refl)
message_other (a ∷ b ∷ c ∷ []) h k = absurd (k refl)
message_other (a ∷ b ∷ c ∷ d ∷ ts) h k = refl

pub cast_other : (ts : List Term) → length ts ≢ 3 → cast_in ts ≡ None
cast_other [] h = refl
cast_other (a ∷ []) h = refl
cast_other (a ∷ b ∷ []) h = refl
cast_other (a ∷ b ∷ c ∷ []) h = absurd (h refl)
cast_other (a ∷ b ∷ c ∷ d ∷ ts) h = refl

pub request_other : (ts : List Term) → length ts ≢ 2 → length ts ≢ 3 → request_in ts ≡ None
request_other [] h k = refl
request_other (a ∷ []) h k = refl
request_other (a ∷ b ∷ []) h k = absurd (h refl)
request_other (a ∷ b ∷ c ∷ []) h k = absurd (k refl)
request_other (a ∷ b ∷ c ∷ d ∷ ts) h k = refl

-- ---- where parts end

pub end_is : {A : Type 0} (read : Read A) (a : A) (mid rest : List ℕ) → read ≡ Ok (a, mid) → past read ≡ Ok rest → mid ≡ rest
end_is read a mid rest e h = let k : past read ≡ Ok mid = ap past e in cc

-- the item behind the version byte
pub record IsItem (item : List ℕ) (t : Term) : Type 0 where
  pub rest : List ℕ
  pub read : item_at 64 item ≡ Ok (t, rest)

pub no_term : (body : List ℕ) (t : Term) → term_of body ≡ Ok t → 1 ≤ length body
unfolding term_of
no_term [] t e = absurd cc
no_term (b ∷ body) t e = omega arith

pub behind_version : (version : ℕ) (item : List ℕ) (t : Term) → term_of (version ∷ item) ≡ Ok t → IsItem item t
unfolding term_of
behind_version version item t e = versioned (eqb version 131) (item_at 64 item) refl e
  where
    last : (b : Bool) (x : Term × List ℕ) → item_at 64 item ≡ Ok x → cond b (Ok x.0) (Err TrailingBytes) ≡ Ok t → IsItem item t
    last true x k h = let same : x.0 ≡ t = cc in record { rest = x.1; read = k ∙ ap (λ (u : Term). Ok (u, x.1)) same }
    last false x k h = absurd cc

    versioned : (b : Bool) (r : Read Term) → item_at 64 item ≡ r → cond b (r >>= λ x. cond (eqb (length x.1) 0) (Ok x.0) (Err TrailingBytes)) (Err BadVersion) ≡ Ok t → IsItem item t
    versioned true (Ok x) k h = last (eqb (length x.1) 0) x k h
    versioned true (Err f) k h = absurd cc
    versioned false r k h = absurd cc

pub behind_first : (body : List ℕ) (t : Term) → term_of body ≡ Ok t → IsItem (take (length body - 1) (drop 1 body)) t
behind_first [] t e = absurd (omega (arith, no_term [] t e))
behind_first (version ∷ item) t e =
    let n : length (version ∷ item) - 1 ≡ length item = omega arith in
    rw (n, take-length item) (behind_version version item t e)
