-- Pids behind one that they begin as.
use Rattle.std.proofs.Common.{◌≡◌, ℕ, suc, ◌-◌, ◌<◌, ◌≤◌, List, [], ◌∷◌, ◌++◌, map, length, get_or}
use Rattle.std.proofs.Common.{drop, Some, Ok, refl, sym, ap, subst, ◌∙◌, length-append, arith}
use Rattle.std.specs.List.{slice_get}
use Rattle.std.proofs.Math.Seq.{get_or-append_seam}
use Rattle.std.proofs.lemmas.Option.{get_or_from_slice_get, same_Some}
use Rattle.pg_term.specs.declared.pid.Pid.{Pid}
use Rattle.pg_term.specs.declared.term.Term.{Term}
use Rattle.pg_term.specs.declared.term.Term.TheVariants.{Pid as Process}
use Rattle.pg_term_io.specs.Reading.{Read, items_at, item_at, with_front, utf8_atom}
use Rattle.pg_message_types.specs.Parts.{pid_of}
use Rattle.pg_message_reader.specs.Shapes.Alike.{Heads}
use Rattle.pg_message_reader.proofs.Shapes.Alike.{named, numbered, alike_there, pid_is}
use Rattle.pg_message_reader.specs.Standing.{EndsWith}
use Rattle.pg_message_reader.proofs.Rows.{row_goes_on}

-- some pids, of which the last has the node that these bytes begin with
pub record LastAlike (pids : List Pid) (bytes : List ℕ) : Type 0 where
  pub front : List Pid
  pub pid : Pid
  pub are : pids ≡ front ++ pid ∷ []
  pub node : (text numbers : List ℕ) → bytes ≡ 88 ∷ 119 ∷ length text ∷ (text ++ numbers) → utf8_atom text ≡ Ok pid.node

pub ends_at : (pids : List Pid) (bytes : List ℕ) → EndsWith pids bytes → LastAlike pids bytes
ends_at pids bytes ends = record {
  front = ends.front;
  pid = ends.pid;
  are = ends.are;
  node = λ text numbers begins.
      let first = named text (Process ends.pid) ends.after 1 numbers (sym (ap (item_at 1) begins) ∙ ends.here 0) in
      let same : first.pid ≡ ends.pid = same_Some first.pid ends.pid (sym (pid_is first.pid) ∙ sym (ap pid_of first.is) ∙ pid_is ends.pid) in
      first.node ∙ ap (λ (p : Pid). Ok p.node) same;
}

pub ends_more : (pids : List Pid) (bytes : List ℕ) (last : LastAlike pids bytes) (p : Pid) → p.node ≡ last.pid.node → LastAlike (pids ++ p ∷ []) bytes
ends_more pids bytes last p same = record {
  front = pids;
  pid = p;
  are = refl;
  node = λ text numbers begins. last.node text numbers begins ∙ ap (λ (n : List ℕ). Ok n) (sym same);
}

-- the last of some pids
pub last_is : (pids front : List Pid) (pid last : Pid) → pids ≡ front ++ pid ∷ [] → slice_get pids (length pids - 1) ≡ Some last → last ≡ pid
last_is pids front pid last are found =
    sym (get_or_from_slice_get pids (length pids - 1) last pid found)
    ∙ ap (λ (ps : List Pid). get_or ps (length ps - 1) pid) are
    ∙ ap (λ (n : ℕ). get_or (front ++ pid ∷ []) n pid) {x = length (front ++ pid ∷ []) - 1} {y = length front} (omega (arith, length-append front (pid ∷ [])))
    ∙ get_or-append_seam front pid [] pid

-- one more that begins so
pub row_alike : (room more : ℕ) (pids : List Pid) (bytes head numbers rest after : List ℕ) (total : Read (List Term)) (last : LastAlike pids bytes) → Heads head bytes → rest ≡ head ++ numbers → 12 ≤ length numbers → after ≡ drop 12 numbers
    → (p : Pid) → p ≡ numbered last.pid.node numbers → 0 < more
    → with_front (map Process pids) (items_at (item_at (suc room)) more rest) ≡ total
    → with_front (map Process (pids ++ p ∷ [])) (items_at (item_at (suc room)) (more - 1) after) ≡ total
row_alike room more pids bytes head numbers rest after total last heads begins long ends p is some so_far =
    let read = item_at (suc room) in
    let here : read rest ≡ Ok (Process p, after) =
    ap read (begins ∙ ap (λ (x : List ℕ). x ++ numbers) heads.is)
    ∙ alike_there heads.text last.pid.node (last.node heads.text heads.numbers heads.first) numbers long room
    ∙ (λ i. Ok (Process (sym is i), sym ends i)) in
    row_goes_on Process read more pids 0 rest total p after some here (subst (λ (n : ℕ). with_front (map Process pids) (items_at read n rest) ≡ total) {x = more} {y = more - 0} (omega arith) so_far)
