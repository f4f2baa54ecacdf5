use Rattle.std.proofs.Common.{◌∷◌, ℕ, ℤ, pos, length, ap, sym, ◌∙◌, arith}
use Rattle.std.specs.Int.{w32, cast_signed}
use Rattle.pg_term.specs.declared.term.Term.TheVariants.{Int}
use Rattle.pg_message_types.specs.PgTermIo.Numbers.{big_value}
use Rattle.pg_message_reader.proofs.Shapes.AtomNames.{int_there}
use Rattle.pg_message_reader.proofs.Shapes.Leaves.{byte_int, word_int, big_int, no_int, some_int, as_term}
use Rattle.pg_message_reader.proofs.shape.leaves.int_at.Goals as goal

pub returns-in_default-clause-int : goal.returns-in_default-clause-int
returns-in_default-clause-int c room t rest e none =
    let there = int_there room c.args.bytes.now t rest (λ i. omega (arith, c.type_inv.bytes i)) e none in
    some_int t there.text rest there.is (ap length (sym there.parts) ∙ c.in_default.ensures.cases)

pub returns-then-tag-eq97-clause-int : goal.returns-then-tag-eq97-clause-int
returns-then-tag-eq97-clause-int c room t rest e none =
    let there = int_there room c.args.bytes.now t rest (λ i. omega (arith, c.type_inv.bytes i)) e none in
    let by = byte_int t there.text c.in-Some.behind.now rest there.is (sym there.parts ∙ c.in-Some.ensures.cases.0 ∙ ap (λ (n : ℕ). n ∷ c.in-Some.behind.now) c.if-tag-eq97.true) in
    as_term Int (λ (z : ℤ). z) t (pos by.number) c.byte_at.result by.is (c.byte_at.ensures.int by.number rest by.behind)

pub returns-then-tag-eq98-clause-int : goal.returns-then-tag-eq98-clause-int
returns-then-tag-eq98-clause-int c room t rest e none =
    let there = int_there room c.args.bytes.now t rest (λ i. omega (arith, c.type_inv.bytes i)) e none in
    let by = word_int t there.text c.in-Some.behind.now rest there.is (sym there.parts ∙ c.in-Some.ensures.cases.0 ∙ ap (λ (n : ℕ). n ∷ c.in-Some.behind.now) c.if-tag-eq98.true) in
    as_term Int (λ (z : ℤ). z) t (cast_signed w32 by.number) c.word_at.result by.is (c.word_at.ensures.int by.number rest by.few by.behind)

pub returns-then-tag-eq110-clause-int : goal.returns-then-tag-eq110-clause-int
returns-then-tag-eq110-clause-int c room t rest e none =
    let there = int_there room c.args.bytes.now t rest (λ i. omega (arith, c.type_inv.bytes i)) e none in
    let by = big_int t there.text c.in-Some.behind.now rest there.is (sym there.parts ∙ c.in-Some.ensures.cases.0 ∙ ap (λ (n : ℕ). n ∷ c.in-Some.behind.now) c.if-tag-eq110.true) in
    as_term Int (λ (z : ℤ). z) t (big_value by.sign by.digits) c.big_at.result by.is (c.big_at.ensures.int by.sign by.digits rest by.fits by.behind)

pub returns-else-tag-eq110-clause-int : goal.returns-else-tag-eq110-clause-int
returns-else-tag-eq110-clause-int c room t rest e none =
    let there = int_there room c.args.bytes.now t rest (λ i. omega (arith, c.type_inv.bytes i)) e none in
    no_int t there.text c.in-Some.behind.now rest c.in-Some.tag.now there.is (sym there.parts ∙ c.in-Some.ensures.cases.0) c.if-tag-eq97.false c.if-tag-eq98.false c.if-tag-eq110.false
