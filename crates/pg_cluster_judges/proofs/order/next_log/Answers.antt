-- One more log is looked at.
use Rattle.std.proofs.Common.{ℕ, List, ◌≡◌, ◌+◌, Option, Some, map, drop, sym, ◌∙◌, ap, subst, slice_index}
use Rattle.pg_cluster_judges.specs.Merge.{clocks_in, rest_of, clocks_of}
use Rattle.pg_cluster_judges.proofs.Reading.{FirstBefore, past_empty, past_if, past_else, log_there}
use Rattle.pg_cluster_judges.proofs.order.next_log.Goals as goal
use Rattle.pg_cluster_judges.proofs.order.next_log.Goals.{in-Some+then-is_none}
use Rattle.pg_cluster_judges.proofs.order.next_log.Goals.{in-Some+else-is_none+else-clock-least, in_default}

pub loop-i-preserved : goal.loop-i-preserved
loop-i-preserved g c =
    let i : ℕ = c.loop-i.i in
    let rest : ℕ → List ℕ = rest_of (clocks_in (map (λ v. v.items) c.args.logs.now)) (λ j. slice_index c.args.read.now j) in
    let is : rest i ≡ drop (slice_index c.args.read.now i) (clocks_of c.deref.result.now) =
    ap (λ log. drop (slice_index c.args.read.now i) (clocks_of log)) (log_there (λ v. v.items) c.args.logs.now c.index-logs-i.result i c.loop-i-test.true c.index-logs-i.is ∙ sym c.deref.ensures.value) in
    elim c.match-clock_at.branch [
      | in-Some+then-is_none w ↦
          let e = w.in-Some.ensures in
          subst (λ (b : Option ℕ). FirstBefore rest (i + 1) b c.match-clock_at.least) (sym w.next-is) (subst (λ (l : ℕ). FirstBefore rest (i + 1) (Some i) l) (sym w.least-is)
          (past_if rest i c.loop-i.least c.loop-i.next w.is_none.result w.in-Some.clock e.0 c.loop-i.invariant (is ∙ e.1) w.is_none.ensures w.then-is_none.either))
      | in-Some+else-is_none+else-clock-least w ↦
          let e = w.in-Some.ensures in
          subst (λ (b : Option ℕ). FirstBefore rest (i + 1) b c.match-clock_at.least) (sym w.next-is) (subst (λ (l : ℕ). FirstBefore rest (i + 1) c.loop-i.next l) (sym w.least-is)
          (past_else rest i c.loop-i.least c.loop-i.next w.is_none.result w.in-Some.clock e.0 c.loop-i.invariant (is ∙ e.1) w.is_none.ensures w.if-is_none.false w.if-clock-least.false))
      | in_default w ↦
          subst (λ (b : Option ℕ). FirstBefore rest (i + 1) b c.match-clock_at.least) (sym w.next-is) (subst (λ (l : ℕ). FirstBefore rest (i + 1) c.loop-i.next l) (sym w.least-is)
          (past_empty rest i c.loop-i.least c.loop-i.next c.loop-i.invariant (is ∙ w.in_default.ensures)))
    ]
