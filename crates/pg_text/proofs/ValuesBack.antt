-- What is written of a value is read as it.
use Rattle.std.proofs.Common.{◌≡◌, ℕ, ◌<◌, ◌≤◌, ◌^◌, List, [], ◌∷◌, ◌++◌, Some, refl, sym, ap, ◌∙◌, arith}
use Rattle.std.proofs.lemmas.List.{append-nil}
use Rattle.std.specs.Prelude.{decimal}
use Rattle.pg_term.specs.declared.pid.Pid.{Pid}
use Rattle.pg_term.specs.declared.term.Term.{Term}
use Rattle.pg_text.specs.Again.{ReadsBack, ReadBack}
use Rattle.pg_text.specs.Reading.{whole, atom_at, pid_at, number_at, atom_from_text, pid_of, number_of}
use Rattle.pg_text.specs.Values.{IsName, IsPid, IsValue, AreValues}
use Rattle.pg_text.specs.Values as v
use Rattle.pg_text.specs.Writing.{atom_text, pid_text}
use Rattle.pg_text.proofs.AtomsBack.{atom_back}
use Rattle.pg_text.proofs.NumbersBack.{numeral_back}
use Rattle.pg_text.proofs.PartsBack.{pid_back}
use Rattle.pg_text.proofs.TermsBack.{int_reads_back, atom_reads_back, pid_reads_back, reference_reads_back}
use Rattle.pg_text.proofs.TermsBack.{binary_reads_back, tuple_reads_back, list_reads_back}

mutual
  pub value_back : (t : Term) → IsValue t → ReadsBack t
  value_back _ (v.IsValue.int n fits) = int_reads_back n fits
  value_back _ (v.IsValue.atom cs h) = atom_reads_back cs h.few h.characters
  value_back _ (v.IsValue.pid p h) = pid_reads_back p h.node.few h.node.characters h.id h.serial h.creation
  value_back _ (v.IsValue.reference r h) = reference_reads_back r h.node.few h.node.characters h.creation h.words h.few h.some
  value_back _ (v.IsValue.binary bytes h) = binary_reads_back bytes h
  value_back _ (v.IsValue.tuple ts h) = tuple_reads_back ts (values_back ts h)
  value_back _ (v.IsValue.list ts h) = list_reads_back ts (values_back ts h)

  values_back : (ts : List Term) → AreValues ts → ReadBack ts
  values_back _ v.AreValues.none = tt
  values_back _ (v.AreValues.more t ts h k) = (value_back t h, values_back ts k)

pub name_back : (cs : List ℕ) → IsName cs → atom_from_text (atom_text cs) ≡ Some cs
name_back cs h = ap whole (ap atom_at (sym (append-nil (atom_text cs))) ∙ atom_back cs [] h.few h.characters refl)

pub whole_pid_back : (p : Pid) → IsPid p → pid_of (pid_text p) ≡ Some p
whole_pid_back p h = ap whole (ap pid_at (sym (append-nil (pid_text p))) ∙ pid_back p [] h.node.few h.node.characters h.id h.serial h.creation)
