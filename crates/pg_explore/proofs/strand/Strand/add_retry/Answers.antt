use Rattle.std.proofs.Common.{◌≡◌, ◌<◌, ◌≤◌, ◌+◌, ℕ, List, length, sym, ap, ◌∙◌, arith, subst}
use Rattle.pg_explore.specs.Moments.{Progress, change_at}
use Rattle.pg_explore.proofs.Progressing.{changed_plain, unchanged}
use Rattle.pg_explore.proofs.strand.Strand.add_retry.Goals as goal

pub returns-in-Some : goal.returns-in-Some
returns-in-Some c =
    let strand = c.args.self.now in
    let made : ℕ → ℕ = λ n. n + 1 in
    let i = c.saturating_sub-place.result in
    let within : i < length strand.retries.items = omega (arith, c.if-place-len.true, c.len.ensures, strand.retries.ok.0) in
    let put = changed_plain made strand.retries.items i c.index.result.now c.in-Some.made within (c.in-Some.ensures.1 ∙ ap made c.index.ensures) in
    ap (λ (retries : List ℕ). record { come = strand.come; retries = retries }) (put ∙ ap (λ k. change_at k made strand.retries.items) c.saturating_sub-place.ensures)

pub returns-else-place-len : goal.returns-else-place-len
returns-else-place-len c =
    let strand = c.args.self.now in
    let made : ℕ → ℕ = λ n. n + 1 in
    let past : length strand.retries.items ≤ c.saturating_sub-place.result = omega (arith, c.if-place-len.false, c.len.ensures, strand.retries.ok.0) in
    ap (λ (retries : List ℕ). record { come = strand.come; retries = retries }) (sym (unchanged made strand.retries.items c.saturating_sub-place.result past) ∙ ap (λ k. change_at k made strand.retries.items) c.saturating_sub-place.ensures)
