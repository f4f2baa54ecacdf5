use Rattle.std.proofs.Common.{ℕ, ◌+◌, [], ◌∷◌, take, subst, sym, arith}
use Rattle.std.specs.Cmp.Lexicographic.{same_text}
use Rattle.pg_message_reader.specs.Shapes.Alike.{Heads}
use Rattle.pg_message_reader.proofs.Shapes.Alike.{stripped, head_there}
use Rattle.pg_message_reader.proofs.shape.pids.pid_head.Goals as goal

pub returns-clause-some : goal.returns-clause-some
returns-clause-some c =
    let bytes = c.args.bytes.now in
    let tags = c.in-Some.ensures.cases in
    let first = c.in-Some-split_first.ensures.cases in
    let len = c.in-Some-split_first.len.now in
    subst (λ (n : ℕ). Heads (take (3 + n) bytes) bytes) (sym c.from-2.ensures)
    (head_there len bytes c.in-Some.rest.now c.in-Some-split_first.text.now (stripped (88 ∷ 119 ∷ []) bytes c.in-Some.rest.now (same_text (take 2 bytes) (88 ∷ 119 ∷ []) (sym tags.0)) tags.1) first.0 (omega (arith, c.if-from-text.false, c.from.ensures)))
