-- The bytes of one assignment of what a process counts in a group.
use Rattle.std.proofs.Common.{◌≡◌, ℕ, ℤ, pos, ◌+◌, ◌≤◌, List, [], ◌∷◌, ◌++◌, length, length-append, append_assoc, append-nil, ap, refl, sym, ◌∙◌, arith, rules, Ok}
use Rattle.std.specs.Int.{w32, to_be_bytes}
use Rattle.pg_frame.specs.Frames.{frame}
use Rattle.pg_term.specs.Depth.{depth, greatest_depth}
use Rattle.pg_term.specs.declared.pid.Pid.{Pid}
use Rattle.pg_term.specs.declared.term.Term.{Term, Tuple, List as Listed, the_lemmas}
use Rattle.pg_term.specs.declared.term.Term.TheVariants.{Int, Pid as Process}
use Rattle.pg_term_io.proofs.Written.{tuple_is, list_is}
use Rattle.pg_term_io.proofs.Spelled.{list_spelled, none_spelled, spelled_last, tuple_spelled, written_spelled}
use Rattle.pg_term_io.proofs.Again.{term_again}
use Rattle.pg_term_io.specs.Reading.{term_of}
use Rattle.pg_term_io.specs.Writing.{AreSpelled, IsSpelled, int_bytes, item_bytes, pid_bytes, tuple_bytes, written}
use Rattle.pg_node_process.specs.Mirrors.{entry}

int_is : (n : ℤ) → item_bytes (Int n) ≡ int_bytes n
int_is n = search (rules, the_lemmas)

pid_is : (p : Pid) → item_bytes (Process p) ≡ pid_bytes p
pid_is p = search (rules, the_lemmas)

entry_is : (name : Term) (pid : Pid) (count : ℕ) → item_bytes (entry name pid count) ≡ 104 ∷ 3 ∷ (item_bytes name ++ (pid_bytes pid ++ (int_bytes (pos count) ++ [])))
entry_is name pid count = tuple_is (name ∷ Process pid ∷ Int (pos count) ∷ []) ∙ (λ i. 104 ∷ 3 ∷ (item_bytes name ++ (pid_is pid i ++ (int_is (pos count) i ++ []))))

list_of : (term : Term) → item_bytes (Listed (term ∷ [])) ≡ 108 ∷ 0 ∷ 0 ∷ 0 ∷ 1 ∷ ((item_bytes term ++ []) ++ 106 ∷ [])
list_of term = list_is (term ∷ [])

regrouped : (x y z : List ℕ) → ((104 ∷ 3 ∷ (x ++ (y ++ (z ++ [])))) ++ []) ++ 106 ∷ [] ≡ 104 ∷ 3 ∷ (x ++ (y ++ (z ++ (106 ∷ []))))
regrouped x y z = simp (append_assoc, append-nil)

-- the whole body, as it is written part by part
pub body_is : (name : Term) (pid : Pid) (count : ℕ)
    → 23 ∷ written (Listed (entry name pid count ∷ [])) ≡ 23 ∷ 131 ∷ 108 ∷ 0 ∷ 0 ∷ 0 ∷ 1 ∷ 104 ∷ 3 ∷ (item_bytes name ++ (pid_bytes pid ++ (int_bytes (pos count) ++ (106 ∷ []))))
body_is name pid count =
    ap (λ (bytes : List ℕ). 23 ∷ 131 ∷ bytes) (list_of (entry name pid count))
    ∙ ap (λ (bytes : List ℕ). 23 ∷ 131 ∷ 108 ∷ 0 ∷ 0 ∷ 0 ∷ 1 ∷ ((bytes ++ []) ++ 106 ∷ [])) (entry_is name pid count)
    ∙ ap (λ (bytes : List ℕ). 23 ∷ 131 ∷ 108 ∷ 0 ∷ 0 ∷ 0 ∷ 1 ∷ bytes) (regrouped (item_bytes name) (pid_bytes pid) (int_bytes (pos count)))

part_by_part : (x y z : List ℕ) → ((((23 ∷ 131 ∷ 108 ∷ 0 ∷ 0 ∷ 0 ∷ 1 ∷ 104 ∷ 3 ∷ []) ++ x) ++ y) ++ z) ++ 106 ∷ [] ≡ 23 ∷ 131 ∷ 108 ∷ 0 ∷ 0 ∷ 0 ∷ 1 ∷ 104 ∷ 3 ∷ (x ++ (y ++ (z ++ (106 ∷ []))))
part_by_part x y z = simp (append_assoc)

pub built : (body : List ℕ) (number : ℤ) (name : Term) (pid : Pid) (count : ℕ) → number ≡ pos count
    → body ≡ ((((23 ∷ 131 ∷ 108 ∷ 0 ∷ 0 ∷ 0 ∷ 1 ∷ 104 ∷ 3 ∷ []) ++ item_bytes name) ++ pid_bytes pid) ++ int_bytes number) ++ 106 ∷ [] → body ≡ 23 ∷ written (Listed (entry name pid count ∷ []))
built body number name pid count same is =
    is ∙ ap (λ (n : ℤ). ((((23 ∷ 131 ∷ 108 ∷ 0 ∷ 0 ∷ 0 ∷ 1 ∷ 104 ∷ 3 ∷ []) ++ item_bytes name) ++ pid_bytes pid) ++ int_bytes n) ++ 106 ∷ []) same
    ∙ part_by_part (item_bytes name) (pid_bytes pid) (int_bytes (pos count)) ∙ sym (body_is name pid count)

in_parts : (old head x y z : List ℕ) → (((((old ++ head) ++ 23 ∷ 131 ∷ 108 ∷ 0 ∷ 0 ∷ 0 ∷ 1 ∷ 104 ∷ 3 ∷ []) ++ x) ++ y) ++ z) ++ 106 ∷ []
    ≡ old ++ (head ++ (((((23 ∷ 131 ∷ 108 ∷ 0 ∷ 0 ∷ 0 ∷ 1 ∷ 104 ∷ 3 ∷ []) ++ x) ++ y) ++ z) ++ 106 ∷ []))
in_parts old head x y z = simp (append_assoc)

-- its frame: the length, and the parts
pub framed : (after old head : List ℕ) (name : Term) (pid : Pid) (count : ℕ) (number : ℤ) → number ≡ pos count → head ≡ to_be_bytes w32 (length (23 ∷ written (Listed (entry name pid count ∷ []))))
    → after ≡ (((((old ++ head) ++ 23 ∷ 131 ∷ 108 ∷ 0 ∷ 0 ∷ 0 ∷ 1 ∷ 104 ∷ 3 ∷ []) ++ item_bytes name) ++ pid_bytes pid) ++ int_bytes number) ++ 106 ∷ []
    → after ≡ old ++ frame (23 ∷ written (Listed (entry name pid count ∷ [])))
unfolding frame
framed after old head name pid count number same len is =
    let body = 23 ∷ written (Listed (entry name pid count ∷ [])) in
    is ∙ in_parts old head (item_bytes name) (pid_bytes pid) (int_bytes number)
    ∙ ap (λ (bytes : List ℕ). old ++ (head ++ bytes)) (built (((((23 ∷ 131 ∷ 108 ∷ 0 ∷ 0 ∷ 0 ∷ 1 ∷ 104 ∷ 3 ∷ []) ++ item_bytes name) ++ pid_bytes pid) ++ int_bytes number) ++ 106 ∷ []) number name pid count same refl)
    ∙ ap (λ (bytes : List ℕ). old ++ (bytes ++ body)) len

-- how long it is
pub body_len : (name : Term) (pid : Pid) (count : ℕ) → length (written (Listed (entry name pid count ∷ []))) ≡ 9 + length (item_bytes name) + length (pid_bytes pid) + length (int_bytes (pos count))
body_len name pid count =
    omega (arith, ap length (body_is name pid count), length-append (item_bytes name) (pid_bytes pid ++ (int_bytes (pos count) ++ (106 ∷ []))), length-append (pid_bytes pid) (int_bytes (pos count) ++ (106 ∷ [])), length-append (int_bytes (pos count)) (106 ∷ []))

-- how deep
deep_pid : (p : Pid) → depth (Process p) ≡ 1
deep_pid p = search (rules, the_lemmas)

deep_int : (n : ℤ) → depth (Int n) ≡ 1
deep_int n = search (rules, the_lemmas)

deep_tuple : (ts : List Term) → depth (Tuple ts) ≡ 1 + greatest_depth ts
deep_tuple ts = search (rules, the_lemmas)

deep_list : (ts : List Term) → depth (Listed ts) ≡ 1 + greatest_depth ts
deep_list ts = search (rules, the_lemmas)

shallow : (name : Term) (pid : Pid) (count : ℕ) → depth name ≤ 62 → depth (Listed (entry name pid count ∷ [])) ≤ 64
shallow name pid count low =
    omega (arith, deep_list (entry name pid count ∷ []), deep_tuple (name ∷ Process pid ∷ Int (pos count) ∷ []), deep_pid pid, deep_int (pos count))

-- it is read back as what it is
pub entry_again : (name : Term) (pid : Pid) (count : ℕ) → IsSpelled name → IsSpelled (Process pid) → IsSpelled (Int (pos count)) → depth name ≤ 62 → length (written (Listed (entry name pid count ∷ []))) ≤ 16777216
    → term_of (written (Listed (entry name pid count ∷ []))) ≡ Ok (Listed (entry name pid count ∷ []))
entry_again name pid count one two three low short =
    let parts = name ∷ Process pid ∷ Int (pos count) ∷ [] in
    let list = entry name pid count ∷ [] in
    let len = body_len name pid count in
    let held : length (tuple_bytes parts) ≤ 16777216 =
    omega (arith, short, len, ap length (sym (tuple_is parts)), ap length (entry_is name pid count), length-append (item_bytes name) (pid_bytes pid ++ (int_bytes (pos count) ++ [])), length-append (pid_bytes pid) (int_bytes (pos count) ++ []), length-append (int_bytes (pos count)) []) in
    let spelled : AreSpelled parts = spelled_last (name ∷ Process pid ∷ []) (Int (pos count)) (spelled_last (name ∷ []) (Process pid) (spelled_last [] name none_spelled one) two) three in
    let whole : AreSpelled list = spelled_last [] (entry name pid count) none_spelled (tuple_spelled parts held spelled) in
    term_again (Listed list) (written (Listed list)) (written_spelled (Listed list) (list_spelled list (omega (arith, short, ap length (sym (list_is list)))) whole) (shallow name pid count low))
