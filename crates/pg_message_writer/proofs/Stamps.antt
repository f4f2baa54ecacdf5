-- The stamp as an integer.
use Rattle.std.proofs.Common.{◌≡◌, ℕ, ◌<◌, ◌≤◌, ◌^◌, ℤ, Bool, true, false, cond}
use Rattle.std.proofs.Common.{List, [], ◌∷◌, length, ap, sym, subst, ◌∙◌, arith}
use Rattle.std.specs.Prelude.{pos, nat_lt}
use Rattle.std.specs.Int.{w32, w64, to_be_bytes}
use Rattle.std.proofs.lemmas.Int.{to_z_pos}
use Rattle.std.proofs.lemmas.Bool.{lt-ltb}
use Rattle.pg_message_types.specs.PgTermIo.Writing.{int_bytes, big_bytes}
use mir.Val.{to_z, of_z}

pub stamp_is : (stamp : ℕ) (z : ℤ) → stamp < 2 ^ 32 → z ≡ pos stamp → to_z w64 (of_z w64 z) ≡ pos stamp
stamp_is stamp z small e = ap (λ (y : ℤ). to_z w64 (of_z w64 y)) e ∙ to_z_pos w64 stamp (omega arith)

-- how many bytes a clock takes
pub stamp_few : (stamp : ℕ) → stamp ≤ 1073741824 → length (int_bytes (pos stamp)) ≤ 5
stamp_few stamp h = by_test (nat_lt stamp 256) (97 ∷ stamp ∷ []) _ (omega arith)
    (subst (λ (b : Bool). length (cond b (98 ∷ to_be_bytes w32 stamp) (big_bytes 0 stamp)) ≤ 5) (sym (lt-ltb stamp 2147483648 (omega arith))) (omega arith))
  where
    by_test : (b : Bool) (x y : List ℕ) → length x ≤ 5 → length y ≤ 5 → length (cond b x y) ≤ 5
    by_test true x y p q = p
    by_test false x y p q = q
