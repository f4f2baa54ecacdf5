-- What an answer of reading says of the bytes.
use Rattle.std.proofs.Common.{◌≡◌, ◌≢◌, ℕ, zero, suc, ◌<◌, ◌⊎◌, inl, inr, List}
use Rattle.std.proofs.Common.{[], ◌∷◌, Result, Ok, Err, refl, sym, subst, arith}
use Rattle.std.specs.Prelude.{IfOk, IfErr, IsOk}
use Rattle.std.specs.Int.{Width, w8, w32}
use Rattle.std.specs.List.{AllByRecursion}
use Rattle.pg_term.specs.declared.fault.TermFault.{TermFault}
use Rattle.pg_term.specs.declared.fault.TermFault.TheVariants.{Truncated, BadVersion, UnknownTag, TooDeep}
use Rattle.pg_term.specs.declared.fault.TermFault.TheVariants.{IntegerTooLarge, BadAtom, ImproperList}
use Rattle.pg_term.specs.declared.fault.TermFault.TheVariants.{BadReference, TrailingBytes, OutOfMemory, TooLong}
use Rattle.pg_term.specs.declared.term.Term.{Term}
use Rattle.pg_term.specs.Fault.{Fails, Gives}
use Rattle.pg_term_io.specs.Reading.{Read, item_at, pid_at, new_reference_at, term_of}
use Rattle.pg_term_io.specs.Scanning.{past, ScansAs, fault_or_memory, over_word, over_pid, over_reference}
use Rattle.pg_term_io.specs.Spelling.{Spells, Item, IsPid, IsRef}
use Rattle.pg_term_io.specs.Faults.{BreaksAtom, BreaksNode, BreaksPid, BreaksOldRef, BreaksRef}
use Rattle.pg_term_io.specs.Faults.{BreaksItem, BreaksItems, BreaksElements, BreaksTail, Breaks}
use Rattle.pg_term_io.specs.Faults as f
use Rattle.pg_term_io.proofs.Outcomes.{EachByte, Right, number_right}
use Rattle.pg_term_io.proofs.Identifiers.{pid_right, new_reference_right}
use Rattle.pg_term_io.proofs.Items.{Answers, levels, term_right}
use Rattle.pg_term_io.proofs.Again.{term_again}
use Rattle.pg_term_io.proofs.Scanned.{pid_end, reference_end, word_end}
use Rattle.pg_term_io.proofs.Broken.{term_fails}

fault_is : {A : Type 0} (e : TermFault) (read : Result A TermFault) → Fails e read → e ≢ OutOfMemory → read ≡ Err e
fault_is Truncated read h other = h
fault_is BadVersion read h other = h
fault_is UnknownTag read h other = h
fault_is TooDeep read h other = h
fault_is IntegerTooLarge read h other = h
fault_is BadAtom read h other = h
fault_is ImproperList read h other = h
fault_is BadReference read h other = h
fault_is TrailingBytes read h other = h
fault_is OutOfMemory read h other = absurd (other refl)
fault_is TooLong read h other = h

pub is_found : (bytes : List ℕ) (r : Result Term TermFault) → EachByte bytes → Gives (λ t. t) r (term_of bytes) → IfOk r (λ t. Spells t bytes)
is_found bytes (Ok t) fits given = subst (Answers bytes) given (term_right bytes fits)
is_found bytes (Err e) fits given = tt

abbrev ToldRight : List ℕ → Result Term TermFault → Type 0
ToldRight bytes r = IfErr r (λ e. e ≢ OutOfMemory → Breaks e bytes)

pub is_told : (bytes : List ℕ) (r : Result Term TermFault) → EachByte bytes → Gives (λ t. t) r (term_of bytes) → ToldRight bytes r
is_told bytes (Ok t) fits given = tt
is_told bytes (Err e) fits given = λ other. subst (Answers bytes) (fault_is e (term_of bytes) given other) (term_right bytes fits)

-- ---- the faults that reading tells

-- TooLong and OutOfMemory are told of no bytes
abbrev IsOfBytes : TermFault → Type 0
IsOfBytes OutOfMemory = ⊥
IsOfBytes TooLong = ⊥
IsOfBytes e = Unit {0}

atom_of_bytes : (e : TermFault) (b : List ℕ) → BreaksAtom e b → IsOfBytes e
atom_of_bytes _ _ (f.BreaksAtom.small_length_cut tag is) = tt
atom_of_bytes _ _ (f.BreaksAtom.length_cut tag b is short) = tt
atom_of_bytes _ _ (f.BreaksAtom.small_text_cut tag n b is short) = tt
atom_of_bytes _ _ (f.BreaksAtom.text_cut tag n b is lt short) = tt
atom_of_bytes _ _ (f.BreaksAtom.small_bad text rest lt bad) = tt
atom_of_bytes _ _ (f.BreaksAtom.bad text rest lt bad) = tt
atom_of_bytes _ _ (f.BreaksAtom.latin_bad text rest lt long) = tt

node_of_bytes : (e : TermFault) (b : List ℕ) → BreaksNode e b → IsOfBytes e
node_of_bytes _ _ f.BreaksNode.missing = tt
node_of_bytes _ _ (f.BreaksNode.no_atom tag b other) = tt
node_of_bytes _ _ (f.BreaksNode.atom e b h) = atom_of_bytes e b h

pid_of_bytes : (w : Width) (e : TermFault) (b : List ℕ) → BreaksPid w e b → IsOfBytes e
pid_of_bytes _ _ _ (f.BreaksPid.node w e b h) = node_of_bytes e b h
pid_of_bytes _ _ _ (f.BreaksPid.cut w a text b h short) = tt

old_ref_of_bytes : (e : TermFault) (b : List ℕ) → BreaksOldRef e b → IsOfBytes e
old_ref_of_bytes _ _ (f.BreaksOldRef.node e b h) = node_of_bytes e b h
old_ref_of_bytes _ _ (f.BreaksOldRef.cut a text b h short) = tt

ref_of_bytes : (w : Width) (e : TermFault) (b : List ℕ) → BreaksRef w e b → IsOfBytes e
ref_of_bytes _ _ _ (f.BreaksRef.length_cut w b short) = tt
ref_of_bytes _ _ _ (f.BreaksRef.bad_length w n b lt bad) = tt
ref_of_bytes _ _ _ (f.BreaksRef.node w n e b some less h) = node_of_bytes e b h
ref_of_bytes _ _ _ (f.BreaksRef.cut w n a text b some less h short) = tt

mutual
  item_of_bytes : (room : ℕ) (e : TermFault) (b : List ℕ) → BreaksItem room e b → IsOfBytes e
  item_of_bytes _ _ _ (f.BreaksItem.missing_item room) = tt
  item_of_bytes _ _ _ (f.BreaksItem.deep_item tag b) = tt
  item_of_bytes _ _ _ (f.BreaksItem.unknown_tag room tag b other) = tt
  item_of_bytes _ _ _ (f.BreaksItem.small_integer_cut room) = tt
  item_of_bytes _ _ _ (f.BreaksItem.integer_cut room b short) = tt
  item_of_bytes _ _ _ (f.BreaksItem.big_length_cut room) = tt
  item_of_bytes _ _ _ (f.BreaksItem.big_cut room n b short) = tt
  item_of_bytes _ _ _ (f.BreaksItem.too_large room sign digits rest large) = tt
  item_of_bytes _ _ _ (f.BreaksItem.atom room e b h) = atom_of_bytes e b h
  item_of_bytes _ _ _ (f.BreaksItem.pid room e b h) = pid_of_bytes w8 e b h
  item_of_bytes _ _ _ (f.BreaksItem.new_pid room e b h) = pid_of_bytes w32 e b h
  item_of_bytes _ _ _ (f.BreaksItem.old_reference room e b h) = old_ref_of_bytes e b h
  item_of_bytes _ _ _ (f.BreaksItem.reference room e b h) = ref_of_bytes w8 e b h
  item_of_bytes _ _ _ (f.BreaksItem.newer_reference room e b h) = ref_of_bytes w32 e b h
  item_of_bytes _ _ _ (f.BreaksItem.binary_length_cut room b short) = tt
  item_of_bytes _ _ _ (f.BreaksItem.binary_cut room n b lt short) = tt
  item_of_bytes _ _ _ (f.BreaksItem.small_arity_cut room) = tt
  item_of_bytes _ _ _ (f.BreaksItem.small_tuple room n e b h) = items_of_bytes room n e b h
  item_of_bytes _ _ _ (f.BreaksItem.arity_cut room b short) = tt
  item_of_bytes _ _ _ (f.BreaksItem.large_tuple room n e b lt h) = items_of_bytes room n e b h
  item_of_bytes _ _ _ (f.BreaksItem.list room e b h) = elements_of_bytes room e b h

  items_of_bytes : (room n : ℕ) (e : TermFault) (b : List ℕ) → BreaksItems room n e b → IsOfBytes e
  items_of_bytes _ _ _ _ (f.BreaksItems.here room n e b h) = item_of_bytes room e b h
  items_of_bytes _ _ _ _ (f.BreaksItems.later room n e t a b h k) = items_of_bytes room n e b k

  elements_of_bytes : (room : ℕ) (e : TermFault) (b : List ℕ) → BreaksElements room e b → IsOfBytes e
  elements_of_bytes _ _ _ (f.BreaksElements.string_length_cut room b short) = tt
  elements_of_bytes _ _ _ (f.BreaksElements.string_cut room n b lt short) = tt
  elements_of_bytes _ _ _ (f.BreaksElements.string_too_deep text rest lt some) = tt
  elements_of_bytes _ _ _ (f.BreaksElements.length_cut room b short) = tt
  elements_of_bytes _ _ _ (f.BreaksElements.element room n e b lt h) = items_of_bytes room n e b h
  elements_of_bytes _ _ _ (f.BreaksElements.tail room e ts a b lt items h) = tail_of_bytes room e b h

  tail_of_bytes : (room : ℕ) (e : TermFault) (b : List ℕ) → BreaksTail room e b → IsOfBytes e
  tail_of_bytes _ _ _ (f.BreaksTail.missing_tail room) = tt
  tail_of_bytes _ _ _ (f.BreaksTail.deep_tail tag b) = tt
  tail_of_bytes _ _ _ (f.BreaksTail.improper room tag b other) = tt
  tail_of_bytes _ _ _ (f.BreaksTail.list_tail room e b h) = elements_of_bytes room e b h

of_bytes : (e : TermFault) (b : List ℕ) → Breaks e b → IsOfBytes e
of_bytes _ _ f.Breaks.missing = tt
of_bytes _ _ (f.Breaks.bad_version version b other) = tt
of_bytes _ _ (f.Breaks.item e b h) = item_of_bytes 64 e b h
of_bytes _ _ (f.Breaks.trailing t a next b h) = tt

pub not_too_long : (bytes : List ℕ) (r : Result Term TermFault) → EachByte bytes → Gives (λ t. t) r (term_of bytes) → r ≢ Err TooLong
not_too_long bytes r fits given is =
    of_bytes TooLong bytes (subst (ToldRight bytes) is (is_told bytes r fits given) (λ h. absurd cc))

-- ---- where memory ran out

pub told_of : {A : Type 0} (read : Result A TermFault) → Fails (fault_or_memory read) read
told_of (Ok x) = tt
told_of (Err OutOfMemory) = tt
told_of (Err e) = refl

-- a walk tells there what reading does
pub walk_tells : {X A : Type 0} (view : X → List ℕ) (walked : Result X TermFault) (read : Read A) → ScansAs view walked (past read) → fault_or_memory walked ≡ fault_or_memory read
walk_tells view (Ok rest) (Ok x) h = refl
walk_tells view (Ok rest) (Err e) h = absurd cc
walk_tells view (Err d) (Ok x) h = absurd cc
walk_tells view (Err d) (Err e) h = cc

-- the walks over a pid and a reference
pub pid_tells : {X : Type 0} (view : X → List ℕ) (walked : Result X TermFault) (bytes : List ℕ) → ScansAs view walked (over_pid over_word bytes) → fault_or_memory walked ≡ fault_or_memory (pid_at w32 bytes)
pid_tells view walked bytes h = walk_tells view walked (pid_at w32 bytes) (subst (ScansAs view walked) (sym (pid_end w32 over_word word_end bytes)) h)

pub reference_tells : {X : Type 0} (view : X → List ℕ) (walked : Result X TermFault) (bytes : List ℕ) → ScansAs view walked (over_reference over_word bytes) → fault_or_memory walked ≡ fault_or_memory (new_reference_at w32 bytes)
reference_tells view walked bytes h = walk_tells view walked (new_reference_at w32 bytes) (subst (ScansAs view walked) (sym (reference_end w32 over_word word_end bytes)) h)

pub same_fault : {A : Type 0} (read : Result A TermFault) (d e : TermFault) → read ≡ Err d → read ≡ Err e → d ≡ e
same_fault read d e h k = cc

front_read : {A : Type 0} (P : A → List ℕ → Type 0) (Q : TermFault → List ℕ → Type 0) (bytes : List ℕ) (read : Read A) → ((e : TermFault) → Q e bytes → IsOfBytes e) → Right P Q bytes read → fault_or_memory read ≡ OutOfMemory → IsOk read
front_read P Q bytes (Ok x) faults h memory = refl
front_read P Q bytes (Err e) faults h memory = absurd (subst IsOfBytes memory (faults e h))

-- where running out of memory is told of what stands at the front, it is read
pub item_is_read : (room : ℕ) (bytes : List ℕ) → EachByte bytes → fault_or_memory (item_at room bytes) ≡ OutOfMemory → IsOk (item_at room bytes)
item_is_read room bytes fits = front_read (Item room) (BreaksItem room) bytes (item_at room bytes) (λ e h. item_of_bytes room e bytes h) ((levels room).0 bytes fits)

pub pid_is_read : (bytes : List ℕ) → EachByte bytes → fault_or_memory (pid_at w32 bytes) ≡ OutOfMemory → IsOk (pid_at w32 bytes)
pid_is_read bytes fits = front_read (IsPid w32) (BreaksPid w32) bytes (pid_at w32 bytes) (λ e h. pid_of_bytes w32 e bytes h) (pid_right w32 number_right bytes fits)

pub reference_is_read : (bytes : List ℕ) → EachByte bytes → fault_or_memory (new_reference_at w32 bytes) ≡ OutOfMemory → IsOk (new_reference_at w32 bytes)
reference_is_read bytes fits = front_read (IsRef w32) (BreaksRef w32) bytes (new_reference_at w32 bytes) (λ e h. ref_of_bytes w32 e bytes h) (new_reference_right w32 number_right bytes fits)

read_of : (bytes : List ℕ) (read : Result Term TermFault) → Answers bytes read → fault_or_memory read ≡ OutOfMemory → (t : Term) × (read ≡ Ok t)
read_of bytes (Ok t) h memory = (t, refl)
read_of bytes (Err e) h memory = absurd (of_bytes OutOfMemory bytes (subst (λ f. Breaks f bytes) memory h))

-- where running out of memory is told of bytes a term is read
pub is_read : (bytes : List ℕ) → EachByte bytes → fault_or_memory (term_of bytes) ≡ OutOfMemory → (t : Term) × (term_of bytes ≡ Ok t)
is_read bytes fits memory = read_of bytes (term_of bytes) (term_right bytes fits) memory

-- that term is spelled so
pub is_spelled : (bytes : List ℕ) (t : Term) → EachByte bytes → term_of bytes ≡ Ok t → Spells t bytes
is_spelled bytes t fits read = subst (Answers bytes) read (term_right bytes fits)

first_of : (r : Result Term TermFault) (e : TermFault) → Gives (λ t. t) r (Err e) → (r ≡ Err OutOfMemory → (t : Term) × (Err e ≡ Ok t)) → r ≡ Err e
first_of (Ok t) e given memory = absurd cc
first_of (Err OutOfMemory) e given memory = let read = (memory refl).1 in absurd cc
first_of (Err d) e given memory = sym given

-- the fault of the bytes is told
pub is_first : (bytes : List ℕ) (r : Result Term TermFault) (e : TermFault) → Gives (λ t. t) r (term_of bytes) → (r ≡ Err OutOfMemory → (t : Term) × (term_of bytes ≡ Ok t)) → Breaks e bytes → r ≡ Err e
is_first bytes r e given memory h =
    let P : Result Term TermFault → Type 0 = λ read. Gives (λ t. t) r read → (r ≡ Err OutOfMemory → (t : Term) × (read ≡ Ok t)) → r ≡ Err e in
    subst P (sym (term_fails e bytes h)) (first_of r e) given memory

-- ---- each list of bytes has one meaning

bytes_of : (bytes : List ℕ) → AllByRecursion (λ b. b < 256) bytes → EachByte bytes
bytes_of [] h i = omega arith
bytes_of (b ∷ bytes) h zero = h.0
bytes_of (b ∷ bytes) h (suc i) = bytes_of bytes h.1 i

answered : (bytes : List ℕ) (r : Result Term TermFault) → Answers bytes r → ((t : Term) × Spells t bytes) ⊎ ((e : TermFault) × Breaks e bytes)
answered bytes (Ok t) h = inl (t, h)
answered bytes (Err e) h = inr (e, h)

pub some_meaning : (bytes : List ℕ) → AllByRecursion (λ b. b < 256) bytes → ((t : Term) × Spells t bytes) ⊎ ((e : TermFault) × Breaks e bytes)
some_meaning bytes h = answered bytes (term_of bytes) (term_right bytes (bytes_of bytes h))

pub one_term : (bytes : List ℕ) (t u : Term) → Spells t bytes → Spells u bytes → t ≡ u
one_term bytes t u h k = let p = term_again t bytes h in let q = term_again u bytes k in cc

pub one_fault : (bytes : List ℕ) (e d : TermFault) → Breaks e bytes → Breaks d bytes → e ≡ d
one_fault bytes e d h k = let p = term_fails e bytes h in let q = term_fails d bytes k in cc

pub never_both : (bytes : List ℕ) (t : Term) (e : TermFault) → Spells t bytes → Breaks e bytes → ⊥
never_both bytes t e h k = let p = term_again t bytes h in let q = term_fails e bytes k in absurd cc
