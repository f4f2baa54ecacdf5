use Rattle.std.proofs.Common.{◌≡◌, ◌/◌, ◌++◌, List, length, take, drop, sym, ap, subst, ◌∙◌, arith, length-drop}
use Rattle.std.proofs.lemmas.List.{length-take}
use Rattle.std.specs.List.{flat_map}
use Rattle.pg_index_members.specs.Rows.{AreRows, total_of}
use Rattle.pg_index_members.specs.Levels.{NoneEmpty}
use Rattle.pg_index_members.proofs.Parts.{none_empty_take, none_empty_drop, halves}
use Rattle.pg_index_members.proofs.Parts.{total_split, rows_front, rows_rest, some_rows}
use Rattle.pg_index_members.proofs.level.LevelPart.split.Goals as goal

pub sum-total-requires : goal.sum-total-requires
sum-total-requires g c =
    let rows = g.P.Part.rows in
    let parts = c.self.inside.parts.items in
    let half = c.len-len.result / 2 in
    let sum = c.self.invariant.sum in
    let fits = c.self.invariant.fits in
    let all = total_split rows parts half in
    let rest : total_of (flat_map rows c.deref.result.now) ≡ total_of (flat_map rows (drop half parts)) = ap (λ l. total_of (flat_map rows l)) (c.deref.ensures.value ∙ c.in_ok-later.ensures.tail) in
    omega arith

pub overflow_sub-self : goal.overflow_sub-self
overflow_sub-self g c =
    let rows = g.P.Part.rows in
    let parts = c.self.inside.parts.items in
    let half = c.len-len.result / 2 in
    let sum = c.self.invariant.sum in
    let fits = c.self.invariant.fits in
    let all = total_split rows parts half in
    let rest : total_of (flat_map rows c.deref.result.now) ≡ total_of (flat_map rows (drop half parts)) = ap (λ l. total_of (flat_map rows l)) (c.deref.ensures.value ∙ c.in_ok-later.ensures.tail) in
    omega arith

pub invariant_of-result : goal.invariant_of-result
invariant_of-result g c =
    let rows = g.P.Part.rows in
    let parts = c.self.inside.parts.items in
    let half = c.len-len.result / 2 in
    let sum = c.self.invariant.sum in
    let fits = c.self.invariant.fits in
    let all = total_split rows parts half in
    let rest : total_of (flat_map rows c.deref.result.now) ≡ total_of (flat_map rows (drop half parts)) = ap (λ l. total_of (flat_map rows l)) (c.deref.ensures.value ∙ c.in_ok-later.ensures.tail) in
    let is : total_of (flat_map rows c.in_ok-later.later.items) ≡ total_of (flat_map rows (drop half parts)) = ap (λ l. total_of (flat_map rows l)) c.in_ok-later.ensures.tail in
    record {
      sum = omega arith;
      fits = omega arith;
      in_order = subst (λ (l : List g.row.P.Denot). AreRows (flat_map rows l)) (sym c.in_ok-later.ensures.tail) (rows_rest rows parts half c.self.invariant.in_order);
      some = subst (NoneEmpty rows) (sym c.in_ok-later.ensures.tail) (none_empty_drop rows parts half c.self.invariant.some);
    }

pub invariant_of-self-2 : goal.invariant_of-self-2
invariant_of-self-2 g c =
    let rows = g.P.Part.rows in
    let parts = c.self.inside.parts.items in
    let half = c.len-len.result / 2 in
    let sum = c.self.invariant.sum in
    let fits = c.self.invariant.fits in
    let all = total_split rows parts half in
    let rest : total_of (flat_map rows c.deref.result.now) ≡ total_of (flat_map rows (drop half parts)) = ap (λ l. total_of (flat_map rows l)) (c.deref.ensures.value ∙ c.in_ok-later.ensures.tail) in
    let is : total_of (flat_map rows c.split_off.new.self.items) ≡ total_of (flat_map rows (take half parts)) = ap (λ l. total_of (flat_map rows l)) c.in_ok-later.ensures.items in
    record {
      sum = omega arith;
      fits = omega arith;
      in_order = subst (λ (l : List g.row.P.Denot). AreRows (flat_map rows l)) (sym c.in_ok-later.ensures.items) (rows_front rows parts half c.self.invariant.in_order);
      some = subst (NoneEmpty rows) (sym c.in_ok-later.ensures.items) (none_empty_take rows parts half c.self.invariant.some);
    }

pub returns-clause-ok : goal.returns-clause-ok
returns-clause-ok g c =
    let rows = g.P.Part.rows in
    let parts = c.self.inside.parts.items in
    let half = c.len-len.result / 2 in
    let later = c.in_ok-later.later.items in
    let front = c.split_off.new.self.items in
    let one : length c.deref.result.now ≡ length later = ap length c.deref.ensures.value in
    let two : length later ≡ length (drop half parts) = ap length c.in_ok-later.ensures.tail in
    let three = length-drop half parts in
    let four : length front ≡ length (take half parts) = ap length c.in_ok-later.ensures.items in
    let five = length-take half parts in
    let six = c.in_ok-later.ensures.tail_len in
    record {
      whole = sym c.self.view_is ∙ halves rows parts half ∙ (let first = c.in_ok-later.ensures.items in let rest = c.in_ok-later.ensures.tail in λ i. flat_map rows (sym first i) ++ flat_map rows (sym rest i));
      first_some = some_rows rows front (subst (NoneEmpty rows) (sym c.in_ok-later.ensures.items) (none_empty_take rows parts half c.self.invariant.some)) (omega arith);
      later_some = some_rows rows later (subst (NoneEmpty rows) (sym c.in_ok-later.ensures.tail) (none_empty_drop rows parts half c.self.invariant.some)) (omega arith);
    }
