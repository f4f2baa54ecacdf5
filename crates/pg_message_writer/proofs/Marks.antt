-- A reference that is appended part by part.
use Rattle.std.proofs.Common.{◌≡◌, ℕ, ◌+◌, ◌<◌, ◌^◌, List, [], ◌∷◌, ◌++◌, length}
use Rattle.std.proofs.Common.{get_or, refl, ap, ◌∙◌, append_assoc, arith}
use Rattle.std.specs.Int.{w32, to_be_bytes}
use Rattle.std.proofs.lemmas.List.{append-nil}
use Rattle.bytes.specs.Filled.{Filled}
use Rattle.pg_term.specs.declared.term.Term.TheVariants.{Ref}
use Rattle.pg_term.specs.RefParts.{RefParts}
use Rattle.pg_message_types.specs.PgTermIo.Spelling.{IsAtom}
use Rattle.pg_message_types.specs.PgTermIo.Writing.{item_bytes, atom_bytes, reference_bytes}
use Rattle.pg_message_types.proofs.PgTermIo.Spelled.{reference_spelled}
use Rattle.pg_message_types.proofs.PgTermIo.WrittenWords.{reference_len}
use Rattle.pg_message_writer.specs.Puts.{Puts}
use Rattle.pg_message_writer.proofs.Put.{leaf}
use Rattle.pg_message_writer.proofs.Words.{reference_is}

grouped : (o h a c x y z : List ℕ) → (((((o ++ h) ++ a) ++ c) ++ x) ++ y) ++ z ≡ o ++ (((h ++ a) ++ c) ++ (x ++ (y ++ (z ++ []))))
grouped o h a c x y z = simp (append_assoc, append-nil)

module _ (node : List ℕ) (creation first second third : ℕ) where
  abbrev pub parts : RefParts
  parts = record { node = node; creation = creation; words = first ∷ second ∷ third ∷ [] }

  parts_bytes : (((90 ∷ 0 ∷ 3 ∷ []) ++ atom_bytes node) ++ to_be_bytes w32 creation) ++ (to_be_bytes w32 first ++ (to_be_bytes w32 second ++ (to_be_bytes w32 third ++ []))) ≡ reference_bytes parts
  unfolding reference_bytes
  parts_bytes = refl

  reference_put : (a b c d e f g : Filled) → creation < 2 ^ 32 → first < 2 ^ 32 → second < 2 ^ 32 → third < 2 ^ 32 → IsAtom node (atom_bytes node)
      → b.items ≡ a.items ++ 90 ∷ 0 ∷ 3 ∷ [] → b.spare + 3 ≡ a.spare → c.items ≡ b.items ++ atom_bytes node → c.spare + length (atom_bytes node) ≡ b.spare
      → d.items ≡ c.items ++ to_be_bytes w32 creation → d.spare + 4 ≡ c.spare → e.items ≡ d.items ++ to_be_bytes w32 first → e.spare + 4 ≡ d.spare
      → f.items ≡ e.items ++ to_be_bytes w32 second → f.spare + 4 ≡ e.spare → g.items ≡ f.items ++ to_be_bytes w32 third → g.spare + 4 ≡ f.spare
      → Puts a g (Ref parts)
  reference_put a b c d e f g h i j k atom b_is b_room c_is c_room d_is d_room e_is e_room f_is f_room g_is g_room =
      let plus : (x : List ℕ) (y : List ℕ) → List ℕ = λ x y. y ++ x in
      leaf a g (Ref parts) (reference_bytes parts) (reference_is parts)
      (g_is ∙ ap (plus (to_be_bytes w32 third)) (f_is ∙ ap (plus (to_be_bytes w32 second)) (e_is ∙ ap (plus (to_be_bytes w32 first)) (d_is ∙ ap (plus (to_be_bytes w32 creation)) (c_is ∙ ap (plus (atom_bytes node)) b_is))))
      ∙ grouped a.items (90 ∷ 0 ∷ 3 ∷ []) (atom_bytes node) (to_be_bytes w32 creation) (to_be_bytes w32 first) (to_be_bytes w32 second) (to_be_bytes w32 third)
      ∙ ap (λ (x : List ℕ). a.items ++ x) parts_bytes)
      (omega (arith, b_room, c_room, d_room, e_room, f_room, g_room, reference_len parts))
      (reference_spelled parts atom (omega arith) (omega arith) (i, (j, (k, tt))) h)

-- how many bytes a reference of three words takes
pub mark_len : (node : List ℕ) (creation : ℕ) (ws : List ℕ) → length ws ≡ 3 → length (item_bytes (Ref (record { node = node; creation = creation; words = ws }))) ≡ 19 + length (atom_bytes node)
mark_len node creation ws three =
    let r : RefParts = record { node = node; creation = creation; words = ws } in
    omega (arith, ap length (reference_is r), reference_len r, three)

module _ (node : List ℕ) (creation : ℕ) (a b c d e f g : Filled) (k x y z : List ℕ) where
  pub mark_put : (ws : List ℕ) → length ws ≡ 3 → ((i : ℕ) → get_or ws i 0 < 2 ^ 32) → creation < 2 ^ 32 → IsAtom node (atom_bytes node)
      → k ≡ to_be_bytes w32 creation → x ≡ to_be_bytes w32 (get_or ws 0 0) → y ≡ to_be_bytes w32 (get_or ws 1 0) → z ≡ to_be_bytes w32 (get_or ws 2 0)
      → b.items ≡ a.items ++ 90 ∷ 0 ∷ 3 ∷ [] → b.spare + 3 ≡ a.spare → c.items ≡ b.items ++ atom_bytes node → c.spare + length (atom_bytes node) ≡ b.spare
      → d.items ≡ c.items ++ k → d.spare + length k ≡ c.spare → e.items ≡ d.items ++ x → e.spare + length x ≡ d.spare
      → f.items ≡ e.items ++ y → f.spare + length y ≡ e.spare → g.items ≡ f.items ++ z → g.spare + length z ≡ f.spare
      → Puts a g (Ref (record { node = node; creation = creation; words = ws }))
  mark_put (first ∷ second ∷ third ∷ []) three fits small atom k_is x_is y_is z_is b_is b_room c_is c_room d_is d_room e_is e_room f_is f_room g_is g_room =
      reference_put node creation first second third a b c d e f g small (fits 0) (fits 1) (fits 2) atom b_is b_room c_is c_room
      (d_is ∙ ap (λ (u : List ℕ). c.items ++ u) k_is) (omega (arith, d_room, ap length k_is)) (e_is ∙ ap (λ (u : List ℕ). d.items ++ u) x_is) (omega (arith, e_room, ap length x_is))
      (f_is ∙ ap (λ (u : List ℕ). e.items ++ u) y_is) (omega (arith, f_room, ap length y_is)) (g_is ∙ ap (λ (u : List ℕ). f.items ++ u) z_is) (omega (arith, g_room, ap length z_is))
  mark_put [] three _ _ _ _ _ _ _ _ _ _ _ _ _ _ _ _ _ _ _ = absurd (omega (arith, three))
  mark_put (u ∷ []) three _ _ _ _ _ _ _ _ _ _ _ _ _ _ _ _ _ _ _ = absurd (omega (arith, three))
  mark_put (u ∷ v ∷ []) three _ _ _ _ _ _ _ _ _ _ _ _ _ _ _ _ _ _ _ = absurd (omega (arith, three))
  mark_put (u ∷ v ∷ w ∷ t ∷ ws) three _ _ _ _ _ _ _ _ _ _ _ _ _ _ _ _ _ _ _ = absurd (omega (arith, three))
