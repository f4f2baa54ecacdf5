use Rattle.std.proofs.Common.{◌≡◌, ◌++◌, List, ℕ, nat_eq, length, take, drop, refl, sym, ap, ◌∙◌}
use Rattle.std.specs.Cmp.Lexicographic.{pointwise, bytes_decides, same_text}
use Rattle.std.proofs.Math.ListN.{take-append-drop}
use Rattle.std.proofs.lemmas.List.{take_at}
use Rattle.pg_message_reader.proofs.direct.behind.Goals as goal

pub returns-in-Some-clause-found : goal.returns-in-Some-clause-found
returns-in-Some-clause-found c =
    let bytes = c.args.bytes.now in
    let front = c.args.front.now in
    let n = length front in
    let cases = c.in-Some.ensures.cases in
    sym (take-append-drop n bytes) ∙ ap (λ (b : List ℕ). b ++ drop n bytes) (same_text (take n bytes) front (sym cases.0)) ∙ ap (λ (b : List ℕ). front ++ b) (sym cases.1)

pub returns-in-None-clause-all : goal.returns-in-None-clause-all
returns-in-None-clause-all c = λ rest e.
    let front = c.args.front.now in
    let same : take (length front) c.args.bytes.now ≡ front = ap (take (length front)) e ∙ take_at front rest (length front) refl in
    sym c.in-None.ensures.cases ∙ (ap (λ (b : List ℕ). pointwise nat_eq b front) same ∙ (bytes_decides front front).1 refl)
