-- Packets that were sent, one after another.
use Rattle.std.proofs.Common.{◌≡◌, ℕ, zero, suc, ◌+◌, ◌-◌, ◌≤◌, List, [], ◌∷◌}
use Rattle.std.proofs.Common.{◌++◌, map, append_assoc, ap, sym, ◌∙◌, refl, arith}
use Rattle.std.specs.List.{range_with_len}
use Rattle.std.proofs.lemmas.List.{append-nil}
use Rattle.std.proofs.lemmas.List.FromFn.{map-range_with_len_more}
use Rattle.pg_script_trace.specs.declared.seen.Sight.{Sight}

-- one more
pub one_more : (f : ℕ → Sight) (a n : ℕ) → map f (range_with_len a n) ++ f (a + n) ∷ [] ≡ map f (range_with_len a (n + 1))
one_more f a n = sym (map-range_with_len_more f a n (a + n) refl)

-- those from a number on, after those before it
pub joined : (f : ℕ → Sight) (a b : ℕ) → map f (range_with_len 0 a) ++ map f (range_with_len a b) ≡ map f (range_with_len 0 (a + b))
joined f a zero =
    let same : a ≡ a + 0 = omega arith in
    append-nil (map f (range_with_len 0 a)) ∙ ap (λ n. map f (range_with_len 0 n)) same
joined f a (suc b) =
    let first : suc b ≡ b + 1 = omega arith in
    let last : a + b + 1 ≡ a + suc b = omega arith in
    ap (λ n. map f (range_with_len 0 a) ++ map f (range_with_len a n)) first
    ∙ ap (λ xs. map f (range_with_len 0 a) ++ xs) (sym (one_more f a b))
    ∙ sym (append_assoc (map f (range_with_len 0 a)) (map f (range_with_len a b)) (f (a + b) ∷ []))
    ∙ ap (λ xs. xs ++ f (a + b) ∷ []) (joined f a b)
    ∙ sym (map-range_with_len_more f 0 (a + b) (a + b) (omega arith))
    ∙ ap (λ n. map f (range_with_len 0 n)) last

-- one packet more is seen
pub sees_more : (f : ℕ → Sight) (old seen new : List Sight) (first packet : ℕ) → first ≤ packet → seen ≡ old ++ map f (range_with_len first (packet - first))
    → new ≡ seen ++ f packet ∷ [] → new ≡ old ++ map f (range_with_len first (packet + 1 - first))
sees_more f old seen new first packet after so more =
    let here : packet ≡ first + (packet - first) = omega (arith, after) in
    let next : packet - first + 1 ≡ packet + 1 - first = omega (arith, after) in
    more ∙ ap (λ xs. xs ++ f packet ∷ []) so
    ∙ append_assoc old (map f (range_with_len first (packet - first))) (f packet ∷ [])
    ∙ ap (λ xs. old ++ xs)
    (ap (λ n. map f (range_with_len first (packet - first)) ++ f n ∷ []) here ∙ one_more f first (packet - first) ∙ ap (λ n. map f (range_with_len first n)) next)

-- the packets of one node more are seen
pub sees_joined : (f : ℕ → Sight) (seen new : List Sight) (before after : ℕ) → before ≤ after → seen ≡ map f (range_with_len 0 before)
    → new ≡ seen ++ map f (range_with_len before (after - before)) → new ≡ map f (range_with_len 0 after)
sees_joined f seen new before after grows so more =
    let all : before + (after - before) ≡ after = omega (arith, grows) in
    more ∙ ap (λ xs. xs ++ map f (range_with_len before (after - before))) so ∙ joined f before (after - before) ∙ ap (λ n. map f (range_with_len 0 n)) all
