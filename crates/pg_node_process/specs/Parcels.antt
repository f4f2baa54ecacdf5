-- A parcel as a link.
use Rattle.std.specs.Prelude.{◌≡◌, ◌⊎◌, ◌<◌, ℕ, List, [], ◌++◌, refl}
use Rattle.std.proofs.Common.{sym, append_assoc, ◌∙◌, ap, inl}
use Rattle.std.proofs.lemmas.List.{append-nil, append_cancel_left}
use Rattle.pg_node_process.specs.declared.pieces.Parcel.{Parcel}

-- the bytes were taken in behind those that were there
abbrev pub Gathers : Parcel → List ℕ → Parcel → Type 0
Gathers a bytes b = b.bytes.items ≡ a.bytes.items ++ bytes

-- all that are offered are taken in, or none, where there was no room for them
abbrev pub HasMemoryFor : Parcel → ℕ → ℕ → Type 0
HasMemoryFor a offered count = (count ≡ offered) ⊎ ((count ≡ 0) × (a.bytes.spare < offered))

-- nothing was taken in
pub Gathers-rests : (a : Parcel) → Gathers a [] a
Gathers-rests a = sym (append-nil a.bytes.items)

-- one run of bytes was taken in, and then another
pub Gathers-composes : (a b c : Parcel) (xs ys : List ℕ) → Gathers a xs b → Gathers b ys c → Gathers a (xs ++ ys) c
Gathers-composes a b c xs ys p q = q ∙ ap (λ w. w ++ ys) p ∙ append_assoc a.bytes.items xs ys

-- two runs that lead to the same parcel are one
pub Gathers-agrees : (a b : Parcel) (xs ys : List ℕ) → Gathers a xs b → Gathers a ys b → xs ≡ ys
Gathers-agrees a b xs ys p q = append_cancel_left a.bytes.items xs ys (sym p ∙ q)

-- of nothing that is offered nothing is taken in
pub HasMemoryFor-idles : (a : Parcel) → HasMemoryFor a 0 0
HasMemoryFor-idles a = inl refl
