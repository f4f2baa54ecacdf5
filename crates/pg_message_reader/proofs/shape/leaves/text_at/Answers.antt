use Rattle.std.proofs.Common.{◌∷◌, ℕ, length, ap, sym, subst, ◌∙◌, arith}
use Rattle.std.specs.Str.{chars, IsUtf8}
use Rattle.pg_term.specs.declared.term.Term.TheVariants.{Atom}
use Rattle.pg_message_reader.specs.Shapes.Leaves.{characters}
use Rattle.pg_message_reader.proofs.Shapes.AtomNames.{atom_there}
use Rattle.pg_message_reader.proofs.Shapes.Leaves.{short_utf8, long_utf8, short_latin, long_latin, no_text, some_text, as_term}
use Rattle.pg_message_reader.proofs.shape.leaves.text_at.Goals as goal

pub returns-in_default : goal.returns-in_default
returns-in_default c room t rest e one =
    let there = atom_there room c.args.bytes.now t rest (λ i. omega (arith, c.type_inv.bytes i)) e one in
    some_text there.is.characters there.text rest there.is.spelled (ap length (sym there.parts) ∙ c.in_default.ensures.cases)

pub returns-then-tag-eq119 : goal.returns-then-tag-eq119
returns-then-tag-eq119 c room t rest e one =
    let there = atom_there room c.args.bytes.now t rest (λ i. omega (arith, c.type_inv.bytes i)) e one in
    let behind = c.in-Some.behind.now in
    let by = short_utf8 there.is.characters there.text behind rest there.is.spelled (sym there.parts ∙ c.in-Some.ensures.cases.0 ∙ ap (λ (n : ℕ). n ∷ behind) c.if-tag-eq119.true) in
    let text = c.short_text.ensures by.text rest by.behind in
    as_term Atom characters t (chars c.short_text.result.now) c.utf8_text.result (there.is.is ∙ ap Atom (by.is ∙ ap chars (sym text))) (c.utf8_text.ensures (subst IsUtf8 (sym text) by.utf8))

pub returns-then-tag-eq118 : goal.returns-then-tag-eq118
returns-then-tag-eq118 c room t rest e one =
    let there = atom_there room c.args.bytes.now t rest (λ i. omega (arith, c.type_inv.bytes i)) e one in
    let behind = c.in-Some.behind.now in
    let by = long_utf8 there.is.characters there.text behind rest there.is.spelled (sym there.parts ∙ c.in-Some.ensures.cases.0 ∙ ap (λ (n : ℕ). n ∷ behind) c.if-tag-eq118.true) in
    let text = c.long_text.ensures by.text rest by.few by.behind in
    as_term Atom characters t (chars c.long_text.result.now) c.utf8_text-then-tag-eq118.result (there.is.is ∙ ap Atom (by.is ∙ ap chars (sym text))) (c.utf8_text-then-tag-eq118.ensures (subst IsUtf8 (sym text) by.utf8))

pub returns-then-tag-eq115 : goal.returns-then-tag-eq115
returns-then-tag-eq115 c room t rest e one =
    let there = atom_there room c.args.bytes.now t rest (λ i. omega (arith, c.type_inv.bytes i)) e one in
    let behind = c.in-Some.behind.now in
    let by = short_latin there.is.characters there.text behind rest there.is.spelled (sym there.parts ∙ c.in-Some.ensures.cases.0 ∙ ap (λ (n : ℕ). n ∷ behind) c.if-tag-eq115.true) in
    let text = c.short_text-then-tag-eq115.ensures there.is.characters rest by.behind in
    there.is.is ∙ ap Atom (sym text ∙ sym (c.latin_text.ensures (omega (arith, ap length text, by.few))))

pub returns-then-tag-eq100 : goal.returns-then-tag-eq100
returns-then-tag-eq100 c room t rest e one =
    let there = atom_there room c.args.bytes.now t rest (λ i. omega (arith, c.type_inv.bytes i)) e one in
    let behind = c.in-Some.behind.now in
    let by = long_latin there.is.characters there.text behind rest there.is.spelled (sym there.parts ∙ c.in-Some.ensures.cases.0 ∙ ap (λ (n : ℕ). n ∷ behind) c.if-tag-eq100.true) in
    let text = c.long_text-then-tag-eq100.ensures there.is.characters rest (omega (arith, by.few)) by.behind in
    there.is.is ∙ ap Atom (sym text ∙ sym (c.latin_text-then-tag-eq100.ensures (omega (arith, ap length text, by.few))))

pub returns-else-tag-eq100 : goal.returns-else-tag-eq100
returns-else-tag-eq100 c room t rest e one =
    let there = atom_there room c.args.bytes.now t rest (λ i. omega (arith, c.type_inv.bytes i)) e one in
    no_text there.is.characters there.text c.in-Some.behind.now rest c.in-Some.tag.now there.is.spelled (sym there.parts ∙ c.in-Some.ensures.cases.0) c.if-tag-eq119.false c.if-tag-eq118.false c.if-tag-eq115.false c.if-tag-eq100.false
