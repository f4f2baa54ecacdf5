use Rattle.std.proofs.Common.{◌≡◌, List, ℕ, false, sym, subst, ◌∙◌, arith}
use Rattle.std.specs.Prelude.{bytes_eq}
use Rattle.std.proofs.lemmas.Slice.Eq.{bytes_eq-Decides}
use Rattle.pg_explore_tally.proofs.Counting.{at_place, none_at_all, none_more}
use Rattle.pg_explore_tally.proofs.counts.Counts.find.Goals as goal

pub returns-then-eq : goal.returns-then-eq
returns-then-eq c =
    let rows = c.args.self.now.rows.items in (
      c.index.result.now,
      at_place rows c.loop-place.place c.index.result.now (omega (arith, c.args.self.now.rows.ok.0)) c.index.ensures,
      sym c.as_str.ensures.value ∙ (bytes_eq-Decides c.as_str.result.now c.args.text.now).0 (sym c.if-eq.ensures),
    )

pub loop-place-preserved : goal.loop-place-preserved
loop-place-preserved c =
    let rows = c.args.self.now.rows.items in
    none_more rows c.args.text.now c.loop-place.place c.index.result.now (at_place rows c.loop-place.place c.index.result.now (omega (arith, c.args.self.now.rows.ok.0)) c.index.ensures)
    (subst (λ (bs : List ℕ). false ≡ bytes_eq bs c.args.text.now) c.as_str.ensures.value c.if-eq.ensures) c.loop-place.invariant

pub returns : goal.returns
returns c = none_at_all c.args.self.now.rows.items c.args.text.now c.loop-place.place (omega (arith, c.args.self.now.rows.ok.0)) c.loop-place.invariant
