use Rattle.std.proofs.Common.{◌≡◌, ◌-◌, ◌<◌, ◌≤◌, List, drop, true, false, sym, ap, subst, ◌∙◌, arith}
use Rattle.pg_index_members.specs.declared.row.Row.{Row}
use Rattle.pg_index_members.specs.Rows.{AreRows, IsCut, is_here, counts_of, total_of, one_taken}
use Rattle.pg_index_members.proofs.Flat.{below, count_le, total-taken, rows_taken}
use Rattle.pg_index_members.proofs.Cut.{found_count, found_all, found_some, missing_count, missing_taken}
use Rattle.std.specs.Prelude.{slice_set}
use Rattle.pg_index_members.proofs.block.BlockPart.take.Goals as goal

pub overflow_sub-self : goal.overflow_sub-self
overflow_sub-self c =
    let items = c.self.inside.rows.items in
    let at = c.find-at.result in
    let pid = c.args.pid.now in
    let cut : IsCut (below pid) items at = subst (λ (l : List Row). IsCut (below pid) l at) c.deref.ensures.value c.find-at.ensures in
    let here : is_here pid (drop at items) ≡ true = ap (λ l. is_here pid (drop at l)) (sym c.deref-2.ensures.value) ∙ sym c.is_at.ensures.value ∙ c.if-is_at.true in
    let row = c.index.result.now in
    let is = c.index.ensures in
    let sorted = c.self.invariant.1 in
    let count = found_count pid items at sorted cut row is here in
    let few = count_le pid items in
    omega arith

pub invariant_of-self : goal.invariant_of-self
invariant_of-self c =
    let items = c.self.inside.rows.items in
    let at = c.find-at.result in
    let pid = c.args.pid.now in
    let cut : IsCut (below pid) items at = subst (λ (l : List Row). IsCut (below pid) l at) c.deref.ensures.value c.find-at.ensures in
    let here : is_here pid (drop at items) ≡ true = ap (λ l. is_here pid (drop at l)) (sym c.deref-2.ensures.value) ∙ sym c.is_at.ensures.value ∙ c.if-is_at.true in
    let row = c.index.result.now in
    let is = c.index.ensures in
    let sorted = c.self.invariant.1 in
    let few : row.count ≤ c.args.most = c.if-count-most.true in
    let now : c.remove.new.self.items ≡ one_taken items pid c.args.most = c.remove.ensures.items ∙ found_all pid items at sorted cut row is here c.args.most few in
    let count = found_count pid items at sorted cut row is here in
    let total = total-taken pid c.args.most items sorted in
    let after : total_of c.remove.new.self.items ≡ total_of (one_taken items pid c.args.most) = ap total_of now in
    (omega arith, subst AreRows (sym now) (rows_taken pid c.args.most items sorted))

pub overflow_sub-self-else-count-most : goal.overflow_sub-self-else-count-most
overflow_sub-self-else-count-most c =
    let items = c.self.inside.rows.items in
    let at = c.find-at.result in
    let pid = c.args.pid.now in
    let cut : IsCut (below pid) items at = subst (λ (l : List Row). IsCut (below pid) l at) c.deref.ensures.value c.find-at.ensures in
    let here : is_here pid (drop at items) ≡ true = ap (λ l. is_here pid (drop at l)) (sym c.deref-2.ensures.value) ∙ sym c.is_at.ensures.value ∙ c.if-is_at.true in
    let row = c.index.result.now in
    let is = c.index.ensures in
    let sorted = c.self.invariant.1 in
    let count = found_count pid items at sorted cut row is here in
    let few = count_le pid items in
    omega arith

pub invariant_of-self-else-count-most : goal.invariant_of-self-else-count-most
invariant_of-self-else-count-most c =
    let items = c.self.inside.rows.items in
    let at = c.find-at.result in
    let pid = c.args.pid.now in
    let cut : IsCut (below pid) items at = subst (λ (l : List Row). IsCut (below pid) l at) c.deref.ensures.value c.find-at.ensures in
    let here : is_here pid (drop at items) ≡ true = ap (λ l. is_here pid (drop at l)) (sym c.deref-2.ensures.value) ∙ sym c.is_at.ensures.value ∙ c.if-is_at.true in
    let row = c.index_mut.result.now in
    let is = c.index_mut.ensures.value in
    let same : c.index.result.now.count ≡ row.count = sym (found_count pid items at c.self.invariant.1 cut c.index.result.now c.index.ensures here) ∙ found_count pid items at c.self.invariant.1 cut row is here in
    let sorted = c.self.invariant.1 in
    let many : c.args.most < row.count = omega arith in
    let now = ap (λ n. slice_set items at (record { pid = row.pid; count = n - c.args.most })) same ∙ found_some pid items at sorted cut row is here c.args.most many in
    let count = found_count pid items at sorted cut row is here in
    let total = total-taken pid c.args.most items sorted in
    let after = ap total_of now in
    (omega arith, subst AreRows (sym now) (rows_taken pid c.args.most items sorted))

pub returns-then-count-most-clause-count : goal.returns-then-count-most-clause-count
returns-then-count-most-clause-count c =
    let items = c.self.inside.rows.items in
    let at = c.find-at.result in
    let pid = c.args.pid.now in
    let cut : IsCut (below pid) items at = subst (λ (l : List Row). IsCut (below pid) l at) c.deref.ensures.value c.find-at.ensures in
    let here : is_here pid (drop at items) ≡ true = ap (λ l. is_here pid (drop at l)) (sym c.deref-2.ensures.value) ∙ sym c.is_at.ensures.value ∙ c.if-is_at.true in
    let row = c.index.result.now in
    let is = c.index.ensures in
    let sorted = c.self.invariant.1 in
    let count = found_count pid items at sorted cut row is here in
    let whole : counts_of items pid ≡ counts_of c.args.self.now pid = ap (λ l. counts_of l pid) c.self.view_is in
    let few : row.count ≤ c.args.most = c.if-count-most.true in
    omega arith

pub returns-then-count-most-clause-rest : goal.returns-then-count-most-clause-rest
returns-then-count-most-clause-rest c =
    let items = c.self.inside.rows.items in
    let at = c.find-at.result in
    let pid = c.args.pid.now in
    let cut : IsCut (below pid) items at = subst (λ (l : List Row). IsCut (below pid) l at) c.deref.ensures.value c.find-at.ensures in
    let here : is_here pid (drop at items) ≡ true = ap (λ l. is_here pid (drop at l)) (sym c.deref-2.ensures.value) ∙ sym c.is_at.ensures.value ∙ c.if-is_at.true in
    let row = c.index.result.now in
    let is = c.index.ensures in
    let sorted = c.self.invariant.1 in
    let few : row.count ≤ c.args.most = c.if-count-most.true in
    c.remove.ensures.items ∙ found_all pid items at sorted cut row is here c.args.most few ∙ ap (λ l. one_taken l pid c.args.most) c.self.view_is

pub returns-else-count-most-clause-count : goal.returns-else-count-most-clause-count
returns-else-count-most-clause-count c =
    let items = c.self.inside.rows.items in
    let at = c.find-at.result in
    let pid = c.args.pid.now in
    let cut : IsCut (below pid) items at = subst (λ (l : List Row). IsCut (below pid) l at) c.deref.ensures.value c.find-at.ensures in
    let here : is_here pid (drop at items) ≡ true = ap (λ l. is_here pid (drop at l)) (sym c.deref-2.ensures.value) ∙ sym c.is_at.ensures.value ∙ c.if-is_at.true in
    let row = c.index.result.now in
    let is = c.index.ensures in
    let sorted = c.self.invariant.1 in
    let count = found_count pid items at sorted cut row is here in
    let whole : counts_of items pid ≡ counts_of c.args.self.now pid = ap (λ l. counts_of l pid) c.self.view_is in
    omega arith

pub returns-else-count-most-clause-rest : goal.returns-else-count-most-clause-rest
returns-else-count-most-clause-rest c =
    let items = c.self.inside.rows.items in
    let at = c.find-at.result in
    let pid = c.args.pid.now in
    let cut : IsCut (below pid) items at = subst (λ (l : List Row). IsCut (below pid) l at) c.deref.ensures.value c.find-at.ensures in
    let here : is_here pid (drop at items) ≡ true = ap (λ l. is_here pid (drop at l)) (sym c.deref-2.ensures.value) ∙ sym c.is_at.ensures.value ∙ c.if-is_at.true in
    let row = c.index_mut.result.now in
    let is = c.index_mut.ensures.value in
    let same : c.index.result.now.count ≡ row.count = sym (found_count pid items at c.self.invariant.1 cut c.index.result.now c.index.ensures here) ∙ found_count pid items at c.self.invariant.1 cut row is here in
    let sorted = c.self.invariant.1 in
    let many : c.args.most < row.count = omega arith in
    ap (λ n. slice_set items at (record { pid = row.pid; count = n - c.args.most })) same ∙ found_some pid items at sorted cut row is here c.args.most many ∙ ap (λ l. one_taken l pid c.args.most) c.self.view_is

pub returns-else-is_at-clause-count : goal.returns-else-is_at-clause-count
returns-else-is_at-clause-count c =
    let items = c.self.inside.rows.items in
    let at = c.find-at.result in
    let pid = c.args.pid.now in
    let cut : IsCut (below pid) items at = subst (λ (l : List Row). IsCut (below pid) l at) c.deref.ensures.value c.find-at.ensures in
    let here : is_here pid (drop at items) ≡ false = ap (λ l. is_here pid (drop at l)) (sym c.deref-2.ensures.value) ∙ sym c.is_at.ensures.value ∙ c.if-is_at.false in
    let none = missing_count pid items at c.self.invariant.1 cut here in
    let whole : counts_of items pid ≡ counts_of c.args.self.now pid = ap (λ l. counts_of l pid) c.self.view_is in
    omega arith

pub returns-else-is_at-clause-rest : goal.returns-else-is_at-clause-rest
returns-else-is_at-clause-rest c =
    let items = c.self.inside.rows.items in
    let at = c.find-at.result in
    let pid = c.args.pid.now in
    let cut : IsCut (below pid) items at = subst (λ (l : List Row). IsCut (below pid) l at) c.deref.ensures.value c.find-at.ensures in
    let here : is_here pid (drop at items) ≡ false = ap (λ l. is_here pid (drop at l)) (sym c.deref-2.ensures.value) ∙ sym c.is_at.ensures.value ∙ c.if-is_at.false in
    sym c.self.view_is ∙ sym (missing_taken pid items at c.self.invariant.1 cut c.args.most here) ∙ ap (λ l. one_taken l pid c.args.most) c.self.view_is
