-- Terms as text: which characters stand for a term.
use Rattle.std.specs.Prelude.{◌≡◌, ℕ, ◌/◌, ◌%◌, List, [], ◌∷◌, ◌++◌, Bool, false, ◌&&◌}
use Rattle.std.specs.Prelude.{◌||◌, ◌==◌, nat_lt, if◌then◌else◌, decimal, codes, map}
use Rattle.std.specs.Char.{is_ascii_alphanumeric, is_ascii_lowercase, digit_char}
use Rattle.std.specs.Fmt.{signed_decimal}
use Rattle.std.specs.List.{flat_map, list_all}
use Rattle.std.specs.Str.{encode_utf8_all}
use Rattle.pg_group.specs.declared.update.Update.{Update}
use Rattle.pg_group.specs.declared.update.Update.TheVariants.{Create, Delete, Join, Leave}
use Rattle.pg_term.specs.declared.pid.Pid.{Pid}
use Rattle.pg_term.specs.declared.term.Term.{Term, fold-Term}
use Rattle.pg_term.specs.declared.term.Term.TheOpen.{Term-F}
use Rattle.pg_term.specs.RefParts.{RefParts}

-- ---- atoms

-- a letter, a digit, `_` or `@`
abbrev pub is_word_byte : ℕ → Bool
is_word_byte c = is_ascii_alphanumeric c || (c == 95) || (c == 64)

-- the atom stands without quotes: a letter from a to z, and then letters, digits, `_` and `@`
abbrev pub begins_lower : List ℕ → Bool
begins_lower [] = false
begins_lower (c ∷ cs) = is_ascii_lowercase c

abbrev pub needs_no_quotes : List ℕ → Bool
needs_no_quotes cs = begins_lower cs && list_all is_word_byte cs

-- the hexadecimal digits of a number below 256, in lower case, with no leading zero
abbrev pub hex_text : ℕ → List ℕ
hex_text c = if nat_lt c 16 then digit_char c ∷ [] else digit_char (c / 16) ∷ digit_char (c % 16) ∷ []

-- `\x{H}`
abbrev pub escape_text : ℕ → List ℕ
escape_text c = 92 ∷ 120 ∷ 123 ∷ hex_text c ++ 125 ∷ []

-- a character within quotes: `\'`, `\\`, `\x{H}` for those below 32 and for 127, and each other one as it is
abbrev pub quoted_text : ℕ → List ℕ
quoted_text c = if (c == 39) || (c == 92) then 92 ∷ c ∷ [] else if nat_lt c 32 || (c == 127) then escape_text c else c ∷ []

unfoldable pub atom_text : List ℕ → List ℕ
atom_text cs = if needs_no_quotes cs then cs else 39 ∷ flat_map quoted_text cs ++ 39 ∷ []

-- ---- pids, references, binaries

-- a number, and what stands before it
abbrev pub part_text : ℕ → ℕ → List ℕ
part_text before n = before ∷ decimal n

-- the creation of a pid is told where it is not 1
abbrev pub creation_text : ℕ → List ℕ
creation_text n = if n == 1 then [] else part_text 47 n

-- `<NODE.ID.SERIAL>` or `<NODE.ID.SERIAL/CREATION>`
abbrev pub pid_with : List ℕ → Pid → List ℕ
pid_with node p = 60 ∷ node ++ part_text 46 p.id ++ part_text 46 p.serial ++ creation_text p.creation ++ 62 ∷ []

abbrev pub pid_text : Pid → List ℕ
pid_text p = pid_with (atom_text p.node) p

-- `#<NODE/CREATION.W..>`
abbrev pub reference_with : List ℕ → RefParts → List ℕ
reference_with node r = 35 ∷ 60 ∷ node ++ part_text 47 r.creation ++ flat_map (part_text 46) r.words ++ 62 ∷ []

abbrev pub reference_text : RefParts → List ℕ
reference_text r = reference_with (atom_text r.node) r

-- each of them behind a comma
abbrev pub more_text : {A : Type 0} → (A → List ℕ) → List A → List ℕ
more_text text xs = flat_map (λ x. 44 ∷ text x) xs

-- with commas between them
abbrev pub with_commas : {A : Type 0} → (A → List ℕ) → List A → List ℕ
with_commas text [] = []
with_commas text (x ∷ xs) = text x ++ more_text text xs

-- what stands before the element at a place
abbrev pub comma_text : ℕ → List ℕ
comma_text at = if at == 0 then [] else 44 ∷ []

-- `<<1,2>>`
abbrev pub binary_text : List ℕ → List ℕ
binary_text bytes = 60 ∷ 60 ∷ with_commas decimal bytes ++ 62 ∷ [] ++ 62 ∷ []

abbrev pub between_text : ℕ → List ℕ → ℕ → List ℕ
between_text first inside last = first ∷ inside ++ last ∷ []

-- ---- terms

-- one level of a term, with the text of each element in its place: `{T,..}` a tuple, `[T,..]` a list
abbrev pub term_step : Term-F (List ℕ) → List ℕ
term_step (Term-F.Int n) = signed_decimal n
term_step (Term-F.Atom a) = atom_text a
term_step (Term-F.Ref r) = reference_text r
term_step (Term-F.Pid p) = pid_text p
term_step (Term-F.Tuple parts) = between_text 123 (with_commas (λ part. part) parts) 125
term_step (Term-F.List parts) = between_text 91 (with_commas (λ part. part) parts) 93
term_step (Term-F.Binary bytes) = binary_text bytes

abbrev pub term_text : Term → List ℕ
term_text = fold-Term (List ℕ) term_step

abbrev pub terms_text : List Term → List ℕ
terms_text ts = with_commas (λ part. part) (map term_text ts)

-- ---- updates, as their tuples

abbrev pub change_text : List ℕ → Term → List ℕ
change_text head name = head ++ term_text name ++ 125 ∷ []

abbrev pub membership_text : List ℕ → Term → Pid → List ℕ
membership_text head name pid = head ++ term_text name ++ 44 ∷ [] ++ pid_text pid ++ 125 ∷ []

abbrev pub update_text : Update → List ℕ
update_text (Create name) = change_text (codes "{create,") name
update_text (Delete name) = change_text (codes "{delete,") name
update_text (Join name pid) = membership_text (codes "{join,") name pid
update_text (Leave name pid) = membership_text (codes "{leave,") name pid

-- ---- what a text becomes

-- the bytes grew at their end by these characters
pub record GrowsBy (text before after : List ℕ) : Type 0 where
  pub all : after ≡ before ++ encode_utf8_all text
