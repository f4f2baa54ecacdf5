-- Pids that begin alike.
use Rattle.std.proofs.Common.{◌≡◌, ℕ, zero, suc, ◌+◌, ◌≤◌, Bool, true, cond, List, [], ◌∷◌, ◌++◌, length}
use Rattle.std.proofs.Common.{take, drop, Option, Some, Result, Ok, Err, refl, sym, ap, ◌∙◌, length-append}
use Rattle.std.proofs.Common.{length-drop, length-take-le, take-append-drop, drop-drop, rules, arith}
use Rattle.std.specs.Prelude.{is_some}
use Rattle.std.specs.Int.{w32, from_be_bytes}
use Rattle.std.proofs.Math.Seq.{take-append_seam, drop-append_seam, take-append-add}
use Rattle.std.proofs.lemmas.Bool.{le-ltb}
use Rattle.pg_term.specs.declared.fault.TermFault.{TermFault}
use Rattle.pg_term.specs.declared.fault.TermFault.TheVariants.{Truncated}
use Rattle.pg_term.specs.declared.pid.Pid.{Pid}
use Rattle.pg_term.specs.declared.term.Term.{Term, the_lemmas}
use Rattle.pg_term.specs.declared.term.Term.TheVariants.{Pid as Process}
use Rattle.pg_message_types.specs.PgTermIo.Reading.{Read, ◌>>=◌, number_at, named_at, utf8_atom, atom_behind, atom_at}
use Rattle.pg_message_types.specs.PgTermIo.Reading.{pid_at, as_term, readers, item_behind, leaf_behind, item_at}
use Rattle.pg_message_types.specs.Parts.{pid_of}
use Rattle.pg_message_reader.specs.Shapes.Alike.{Heads}
use Rattle.pg_message_reader.specs.Shapes.Lists.{EndsAlike}
use Rattle.pg_message_types.proofs.PgTermIo.Lists.{goes_on}
use Rattle.pg_message_reader.proofs.Shapes.ListShapes.{behind_first}

pub pid_is : (p : Pid) → pid_of (Process p) ≡ Some p
pid_is p = search (rules, the_lemmas)

-- the three numbers behind a node
abbrev number_of : List ℕ → ℕ
number_of bytes = from_be_bytes w32 (take 4 bytes)

abbrev pub numbered : List ℕ → List ℕ → Pid
numbered node bytes = record { node = node; serial = number_of (drop 4 bytes); id = number_of bytes; creation = number_of (drop 4 (drop 4 bytes)) }

number_there : (bytes : List ℕ) → 4 ≤ length bytes → number_at w32 bytes ≡ Ok (number_of bytes, drop 4 bytes)
number_there bytes h = ap (λ (b : Bool). cond b (Err Truncated) (Ok (number_of bytes, drop 4 bytes))) (le-ltb (length bytes) 4 h)

abbrev creation_behind : List ℕ → ℕ → ℕ → Read ℕ → Read Pid
creation_behind node id serial read = read >>= λ creation. Ok (record { node = node; serial = serial; id = id; creation = creation.0 }, creation.1)

abbrev serial_behind : List ℕ → ℕ → Read ℕ → Read Pid
serial_behind node id read = read >>= λ serial. creation_behind node id serial.0 (number_at w32 serial.1)

abbrev id_behind : List ℕ → Read ℕ → Read Pid
id_behind node read = read >>= λ id. serial_behind node id.0 (number_at w32 id.1)

abbrev node_behind : Read (List ℕ) → Read Pid
node_behind read = read >>= λ node. id_behind node.0 (number_at w32 node.1)

-- a node before these bytes, and one whose text is read first
abbrev ended : List ℕ → Result (List ℕ) TermFault → Read (List ℕ)
ended numbers name = name >>= λ node. Ok (node, numbers)

abbrev as_node : Read (List ℕ) → Read (List ℕ)
as_node read = read >>= λ text. ended text.1 (utf8_atom text.0)

module _ (text : List ℕ) where
  -- a node as it is written
  node_read : (numbers : List ℕ) → atom_at (119 ∷ length text ∷ (text ++ numbers)) ≡ ended numbers (utf8_atom text)
  unfolding atom_at atom_behind named_at
  node_read numbers =
      ap (λ (b : Bool). as_node (cond b (Err Truncated) (Ok (take (length text) (text ++ numbers), drop (length text) (text ++ numbers))))) (le-ltb (length (text ++ numbers)) (length text) (omega (arith, length-append text numbers)))
      ∙ (λ i. ended (drop-append_seam text numbers i) (utf8_atom (take-append_seam text numbers i)))

  pid_read : (numbers : List ℕ) → pid_at w32 (119 ∷ length text ∷ (text ++ numbers)) ≡ node_behind (ended numbers (utf8_atom text))
  unfolding pid_at
  pid_read numbers = ap node_behind (node_read numbers)

  -- what is read where a pid begins so
  pub record Named (t : Term) : Type 0 where
    pub pid : Pid
    pub is : t ≡ Process pid
    pub node : utf8_atom text ≡ Ok pid.node

  module _ (t : Term) (end : List ℕ) where
    by_creation : (node : List ℕ) (id serial : ℕ) (read : Read ℕ) → utf8_atom text ≡ Ok node → as_term Process (creation_behind node id serial read) ≡ Ok (t, end) → Named t
    by_creation node id serial (Ok x) is e =
        let same : (Process (record { node = node; serial = serial; id = id; creation = x.0 }), x.1) ≡ (t, end) = cc in
        record { pid = record { node = node; serial = serial; id = id; creation = x.0 }; is = ap (λ (p : Term × List ℕ). p.0) (sym same); node = is }
    by_creation node id serial (Err f) is e = absurd cc

    by_serial : (node : List ℕ) (id : ℕ) (read : Read ℕ) → utf8_atom text ≡ Ok node → as_term Process (serial_behind node id read) ≡ Ok (t, end) → Named t
    by_serial node id (Ok x) is e = by_creation node id x.0 (number_at w32 x.1) is e
    by_serial node id (Err f) is e = absurd cc

    by_id : (node : List ℕ) (read : Read ℕ) → utf8_atom text ≡ Ok node → as_term Process (id_behind node read) ≡ Ok (t, end) → Named t
    by_id node (Ok x) is e = by_serial node x.0 (number_at w32 x.1) is e
    by_id node (Err f) is e = absurd cc

    by_node : (numbers : List ℕ) (read : Result (List ℕ) TermFault) → utf8_atom text ≡ read → as_term Process (node_behind (ended numbers read)) ≡ Ok (t, end) → Named t
    by_node numbers (Ok node) is e = by_id node (number_at w32 numbers) is e
    by_node numbers (Err f) is e = absurd cc

    pub named : (room : ℕ) (numbers : List ℕ) → item_at room (88 ∷ 119 ∷ length text ∷ (text ++ numbers)) ≡ Ok (t, end) → Named t
    unfolding readers item_behind leaf_behind
    named zero numbers e = absurd cc
    named (suc room) numbers e = by_node numbers (utf8_atom text) refl (sym (ap (as_term Process) (pid_read numbers)) ∙ e)

  module _ (node : List ℕ) (is : utf8_atom text ≡ Ok node) (numbers : List ℕ) (long : 12 ≤ length numbers) where
    pid_there : pid_at w32 (119 ∷ length text ∷ (text ++ numbers)) ≡ Ok (numbered node numbers, drop 12 numbers)
    pid_there =
        pid_read numbers
        ∙ ap (λ (read : Result (List ℕ) TermFault). node_behind (ended numbers read)) is
        ∙ ap (id_behind node) (number_there numbers (omega arith))
        ∙ ap (serial_behind node (number_of numbers)) (number_there (drop 4 numbers) (omega (arith, length-drop 4 numbers)))
        ∙ ap (creation_behind node (number_of numbers) (number_of (drop 4 numbers))) (number_there (drop 4 (drop 4 numbers)) (omega (arith, length-drop 4 (drop 4 numbers), length-drop 4 numbers)))
        ∙ ap (λ (rest : List ℕ). Ok (numbered node numbers, rest)) (drop-drop 4 4 (drop 4 numbers) ∙ drop-drop 8 4 numbers)

    -- so another pid begins that is there whole
    pub alike_there : (room : ℕ) → item_at (suc room) (88 ∷ 119 ∷ length text ∷ (text ++ numbers)) ≡ Ok (Process (numbered node numbers), drop 12 numbers)
    unfolding readers item_behind leaf_behind
    alike_there room = ap (as_term Process) pid_there

    alike_is : (room : ℕ) (t : Term) (end : List ℕ) → item_at room (88 ∷ 119 ∷ length text ∷ (text ++ numbers)) ≡ Ok (t, end) → (is_some (pid_of t) ≡ true) × (end ≡ drop 12 numbers)
    unfolding readers
    alike_is zero t end e = absurd cc
    alike_is (suc room) t end e =
        let same : (t, end) ≡ (Process (numbered node numbers), drop 12 numbers) = let k = sym e ∙ alike_there room in cc in
        (ap (λ (p : Term × List ℕ). is_some (pid_of p.0)) same ∙ ap (λ (o : Option Pid). is_some o) (pid_is (numbered node numbers)), ap (λ (p : Term × List ℕ). p.1) same)

    -- one more of a list is passed
    pub one_alike : (levels count : ℕ) (left : List ℕ) (whole : Option (List Pid)) (rest : List ℕ) → left ≡ 88 ∷ 119 ∷ length text ∷ (text ++ numbers) → EndsAlike pid_of levels (suc count) left whole rest → EndsAlike pid_of levels count (drop 12 numbers) whole rest
    one_alike levels count left whole rest begins before =
        let goes = goes_on levels count left before.elements rest before.read in
        let first = alike_is levels goes.first goes.behind (sym (ap (item_at levels) begins) ∙ goes.here) in
        behind_first pid_of whole rest levels (suc count) left before levels count left goes first.0 (drop 12 numbers) first.1

-- what follows these bytes at the front, as a call strips them off
pub stripped : (front bytes rest : List ℕ) → take (length front) bytes ≡ front → rest ≡ drop (length front) bytes → bytes ≡ front ++ rest
stripped front bytes rest begins behind = sym (take-append-drop (length front) bytes) ∙ (λ i. begins i ++ sym behind i)

-- a node that is there whole
pub head_there : (len : ℕ) (bytes rest text : List ℕ) → bytes ≡ 88 ∷ 119 ∷ rest → rest ≡ len ∷ text → len ≤ length text → Heads (take (3 + len) bytes) bytes
head_there len bytes rest text tags first long =
    let all : bytes ≡ 88 ∷ 119 ∷ len ∷ text = tags ∙ ap (λ (x : List ℕ). 88 ∷ 119 ∷ x) first in
    let count : len ≡ length (take len text) = sym (length-take-le len text long) in
    record {
      text = take len text;
      numbers = drop len text;
      is = ap (take (3 + len)) all ∙ take-append-add (88 ∷ 119 ∷ len ∷ []) text len ∙ ap (λ (n : ℕ). 88 ∷ 119 ∷ n ∷ take len text) count;
      first = all ∙ (λ i. 88 ∷ 119 ∷ count i ∷ sym (take-append-drop len text) i);
    }
