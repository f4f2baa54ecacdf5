use Rattle.std.proofs.Common.{◌≡◌, ◌≤◌, ◌+◌, List, ℕ, ◌++◌, ◌∷◌, [], length, take}
use Rattle.std.proofs.Common.{length-append, sym, ap, subst, ◌∙◌, append_assoc, arith, rules}
use Rattle.std.proofs.lemmas.List.{append-nil, take_all}
use Rattle.pg_term.specs.declared.term.Term.{Term, the_lemmas}
use Rattle.pg_term_io.specs.Writing.{item_bytes, all_bytes, tuple_head, list_head, AreSpelled}
use Rattle.pg_term_io.proofs.Written.{tuple_at, list_at, count_le, all_push, bytes_more, len_more, part_fits}
use Rattle.pg_term_io.proofs.Spelled.{spelled_more, spelled_last, none_spelled}
use Rattle.pg_term_io.proofs.Spelled.{name_spelled, tuple_spelled, list_spelled}
use Rattle.pg_term_io.proofs.writer.writing.+put.Goals as goal

pub put_tuple-overflow_cast-terms : goal.put_tuple-overflow_cast-terms
put_tuple-overflow_cast-terms t c =
    let ts = c.args.terms.now in
    omega (arith, count_le ts, length-append (tuple_head (length ts)) (all_bytes ts), c.requires.short)

pub put_list-overflow_cast-terms : goal.put_list-overflow_cast-terms
put_list-overflow_cast-terms t c =
    let ts = c.args.terms.now in
    omega (arith, count_le ts, length-append (list_head (length ts) ++ all_bytes ts) (106 ∷ []), length-append (list_head (length ts)) (all_bytes ts), c.requires.short)

-- all of them, and the last of them
all_of : (ts others : List Term) (last : Term) → ts ≡ others ++ last ∷ [] → all_bytes ts ≡ all_bytes others ++ item_bytes last
all_of ts others last e = ap all_bytes e ∙ all_push others last

len_of : (ts others : List Term) (last : Term) → ts ≡ others ++ last ∷ [] → length (all_bytes ts) ≡ length (all_bytes others) + length (item_bytes last)
len_of ts others last e = ap length (all_of ts others last e) ∙ length-append (all_bytes others) (item_bytes last)

no_terms : (ts : List Term) → length ts ≡ 0 → AreSpelled ts
no_terms [] e = none_spelled
no_terms (t ∷ ts) e = absurd (omega (arith, e))

pub put_all-returns-in_default-clause-spelled : goal.put_all-returns-in_default-clause-spelled
put_all-returns-in_default-clause-spelled t c = no_terms c.args.terms.now c.in_default.ensures.cases

pub put_all-loop-term-init : goal.put_all-loop-term-init
put_all-loop-term-init t c = (sym (append-nil c.args.out.now.items), omega arith, none_spelled)

pub put_all-put_item-requires : goal.put_all-put_item-requires
put_all-put_item-requires t c =
    let whole = len_of c.args.terms.now c.in-Some.others.now c.in-Some.last.now c.in-Some.ensures.cases.0 in
    let fits = part_fits c.in-Some.others.now c.loop-term.term-index c.term-item.result c.loop-term-test.true c.term-item.is in
    let short : length (item_bytes c.term-item.result) ≤ 16777216 = omega (arith, whole, fits, c.requires.short) in
    let room : length (item_bytes c.term-item.result) ≤ c.loop-term.out.spare = omega (arith, whole, fits, c.requires.room, c.loop-term.invariant.1) in
    search (rules, the_lemmas)

pub put_all-loop-term-preserved : goal.put_all-loop-term-preserved
put_all-loop-term-preserved t c =
    let ts = c.in-Some.others.now in
    let i = c.loop-term.term-index in
    let x = c.term-item.result in
    let more = bytes_more ts i x c.loop-term-test.true c.term-item.is in (
      c.put_item.ensures.items ∙ ap (λ (b : List ℕ). b ++ item_bytes x) c.loop-term.invariant.0 ∙ append_assoc c.args.out.now.items (all_bytes (take i ts)) (item_bytes x) ∙ ap (λ (b : List ℕ). c.args.out.now.items ++ b) (sym more),
      omega (arith, len_more ts i x c.loop-term-test.true c.term-item.is, c.put_item.ensures.spare, c.loop-term.invariant.1),
      spelled_more ts i x c.loop-term-test.true c.term-item.is c.loop-term.invariant.2 c.put_item.ensures.spelled,
    )

pub put_all-put_item-requires-2 : goal.put_all-put_item-requires-2
put_all-put_item-requires-2 t c =
    let others = c.in-Some.others.now in
    let last = c.in-Some.last.now in
    let whole = len_of c.args.terms.now others last c.in-Some.ensures.cases.0 in
    let done = ap (λ (ts : List Term). length (all_bytes ts)) (take_all c.loop-term.term-index others c.loop-term-test.false) in
    let short : length (item_bytes last) ≤ 16777216 = omega (arith, whole, c.requires.short) in
    let room : length (item_bytes last) ≤ c.loop-term.out.spare = omega (arith, whole, done, c.requires.room, c.loop-term.invariant.1) in
    search (rules, the_lemmas)

pub put_all-returns-clause-items : goal.put_all-returns-clause-items
put_all-returns-clause-items t c =
    let others = c.in-Some.others.now in
    let last = c.in-Some.last.now in
    let done = take_all c.loop-term.term-index others c.loop-term-test.false in
    c.put_item-2.ensures.items
    ∙ ap (λ (b : List ℕ). b ++ item_bytes last) (c.loop-term.invariant.0 ∙ ap (λ (ts : List Term). c.args.out.now.items ++ all_bytes ts) done)
    ∙ append_assoc c.args.out.now.items (all_bytes others) (item_bytes last)
    ∙ ap (λ (b : List ℕ). c.args.out.now.items ++ b) (sym (all_of c.args.terms.now others last c.in-Some.ensures.cases.0))

pub put_all-returns-clause-spare : goal.put_all-returns-clause-spare
put_all-returns-clause-spare t c =
    let others = c.in-Some.others.now in
    let last = c.in-Some.last.now in
    let whole = len_of c.args.terms.now others last c.in-Some.ensures.cases.0 in
    let done = ap (λ (ts : List Term). length (all_bytes ts)) (take_all c.loop-term.term-index others c.loop-term-test.false) in
    omega (arith, whole, done, c.put_item-2.ensures.spare, c.loop-term.invariant.1)

pub put_all-returns-clause-spelled : goal.put_all-returns-clause-spelled
put_all-returns-clause-spelled t c =
    let others = c.in-Some.others.now in
    let last = c.in-Some.last.now in
    let done = subst AreSpelled (take_all c.loop-term.term-index others c.loop-term-test.false) c.loop-term.invariant.2 in
    subst AreSpelled (sym c.in-Some.ensures.cases.0) (spelled_last others last done c.put_item-2.ensures.spelled)

pub put_item-returns-in-Atom-clause-spelled : goal.put_item-returns-in-Atom-clause-spelled
put_item-returns-in-Atom-clause-spelled t c = rw c.in-Atom.is (name_spelled c.in-Atom.atom c.put_atom.ensures.spelled)

pub put_item-returns-in-Tuple-clause-items : goal.put_item-returns-in-Tuple-clause-items
put_item-returns-in-Tuple-clause-items t c =
    c.put_tuple.ensures.items ∙ ap (λ (b : List ℕ). c.args.out.now.items ++ b) (sym (tuple_at c.args.term.now c.in-Tuple.items c.as_slice.result.now c.in-Tuple.is c.as_slice.ensures))

pub put_item-returns-in-Tuple-clause-spare : goal.put_item-returns-in-Tuple-clause-spare
put_item-returns-in-Tuple-clause-spare t c =
    omega (arith, c.put_tuple.ensures.spare, ap length (tuple_at c.args.term.now c.in-Tuple.items c.as_slice.result.now c.in-Tuple.is c.as_slice.ensures))

pub put_item-returns-in-List-clause-items : goal.put_item-returns-in-List-clause-items
put_item-returns-in-List-clause-items t c =
    c.put_list.ensures.items ∙ ap (λ (b : List ℕ). c.args.out.now.items ++ b) (sym (list_at c.args.term.now c.in-List.items c.as_slice-in-List.result.now c.in-List.is c.as_slice-in-List.ensures))

pub put_item-returns-in-List-clause-spare : goal.put_item-returns-in-List-clause-spare
put_item-returns-in-List-clause-spare t c =
    omega (arith, c.put_list.ensures.spare, ap length (list_at c.args.term.now c.in-List.items c.as_slice-in-List.result.now c.in-List.is c.as_slice-in-List.ensures))

pub put_list-returns-clause-spelled : goal.put_list-returns-clause-spelled
put_list-returns-clause-spelled t c = list_spelled c.args.terms.now c.requires.short c.put_all.ensures.spelled

pub put_tuple-returns-clause-spelled : goal.put_tuple-returns-clause-spelled
put_tuple-returns-clause-spelled t c = tuple_spelled c.args.terms.now c.requires.short c.put_all.ensures.spelled
