-- The first frame of some bytes, alone.
use Rattle.std.proofs.Common.{◌≡◌, ◌≤◌, ◌+◌, ◌∙◌, ℕ, List, take, drop, length, ◌++◌, Some, Ok, sym, ap, inl, inr, arith}
use Rattle.std.specs.Int.{w32, from_be_bytes}
use Rattle.std.proofs.lemmas.List.{take-append-le, take-append-drop, length-take-le}
use Rattle.pg_node.specs.PgFrame.Frames.{front_of, after_front, size_at}
use Rattle.pg_node.proofs.PgFrame.Fronts.{Cases, whole, waiting, overlong, cases_of, front_is, front_fits, front_of-append}
use Rattle.pg_node.proofs.PgFrame.Bodies.{after_front-whole}

same_size : (b r : List ℕ) → 4 ≤ length b → size_at b ≡ size_at (b ++ r)
unfolding size_at
same_size b r some = ap (from_be_bytes w32) (sym (take-append-le 4 b r some))

-- its bytes read as it does
pub front_alone : (b body : List ℕ) → front_of b ≡ Ok (Some body) → front_of (take (4 + length body) b) ≡ Ok (Some body)
front_alone b body e = go (cases_of (take (4 + length body) b))
  where
    go : Cases (take (4 + length body) b) → front_of (take (4 + length body) b) ≡ Ok (Some body)
    go (whole f z i) =
        let more = front_of-append (take (4 + length body) b) (drop (4 + length body) b) f z in
        let all = ap front_of (take-append-drop (4 + length body) b) in
        let same : f ≡ body = cc in
        z ∙ ap (λ (x : List ℕ). Ok (Some x)) same
    go (waiting z (inl short)) =
        let len = length-take-le (4 + length body) b (front_fits b body e) in
        absurd (omega (arith, len, short))
    go (waiting z (inr cut)) =
        let len = length-take-le (4 + length body) b (front_fits b body e) in
        let front = front_is b body e in
        let size = same_size (take (4 + length body) b) (drop (4 + length body) b) (omega (arith, len)) ∙ ap size_at (take-append-drop (4 + length body) b) in
        absurd (omega (arith, len, size, front.size, cut.short))
    go (overlong z over) =
        let len = length-take-le (4 + length body) b (front_fits b body e) in
        let front = front_is b body e in
        let size = same_size (take (4 + length body) b) (drop (4 + length body) b) (omega (arith, len)) ∙ ap size_at (take-append-drop (4 + length body) b) in
        absurd (omega (arith, size, front.lawful, over.unlawful))

-- they are all that is taken
pub front_taken : (b body : List ℕ) → front_of b ≡ Ok (Some body) → b ≡ take (4 + length body) b ++ after_front b
front_taken b body e = sym (take-append-drop (4 + length body) b) ∙ ap (λ w. take (4 + length body) b ++ w) (sym (after_front-whole b body e))

pub front_alone_len : (b body : List ℕ) → front_of b ≡ Ok (Some body) → length (take (4 + length body) b) ≡ 4 + length body
front_alone_len b body e = length-take-le (4 + length body) b (front_fits b body e)
