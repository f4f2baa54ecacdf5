use Rattle.std.proofs.Common.{◌≡◌, ◌+◌, List, drop, true, false, sym, ap, subst, ◌∙◌, arith, rules}
use Rattle.pg_index_members.specs.declared.row.Row.{Row}
use Rattle.pg_index_members.specs.Rows.{AreRows, IsCut, is_here, counts_of, total_of, added}
use Rattle.pg_index_members.proofs.Flat.{below, count_le, total-added, rows_added}
use Rattle.pg_index_members.proofs.Cut.{found_count, found_added, missing_count, missing_added}
use Rattle.std.specs.List.{insert}
use Rattle.std.specs.Prelude.{slice_set}
use Rattle.pg_index_members.proofs.block.BlockPart.add.Goals as goal

pub overflow_add-count : goal.overflow_add-count
overflow_add-count c =
    let items = c.self.inside.rows.items in
    let at = c.find-at.result in
    let pid = c.args.pid.now in
    let cut : IsCut (below pid) items at = subst (λ (l : List Row). IsCut (below pid) l at) c.deref.ensures.value c.find-at.ensures in
    let here : is_here pid (drop at items) ≡ true = ap (λ l. is_here pid (drop at l)) (sym c.deref-2.ensures.value) ∙ sym c.is_at.ensures.value ∙ c.if-is_at.true in
    let count = found_count pid items at c.self.invariant.1 cut c.index.result.now c.index.ensures here in
    let few = count_le pid items in
    let is : total_of items ≡ total_of c.args.self.now = ap total_of c.self.view_is in
    let fits = c.requires.fits in
    omega arith

pub invariant_of-self : goal.invariant_of-self
invariant_of-self c =
    let items = c.self.inside.rows.items in
    let at = c.find-at.result in
    let pid = c.args.pid.now in
    let cut : IsCut (below pid) items at = subst (λ (l : List Row). IsCut (below pid) l at) c.deref.ensures.value c.find-at.ensures in
    let here : is_here pid (drop at items) ≡ true = ap (λ l. is_here pid (drop at l)) (sym c.deref-2.ensures.value) ∙ sym c.is_at.ensures.value ∙ c.if-is_at.true in
    let row = c.index_mut.result.now in
    let is = c.index_mut.ensures.value in
    let same : c.index.result.now.count ≡ row.count = sym (found_count pid items at c.self.invariant.1 cut c.index.result.now c.index.ensures here) ∙ found_count pid items at c.self.invariant.1 cut row is here in
    let now = ap (λ n. slice_set items at (record { pid = row.pid; count = n + c.args.more })) same ∙ found_added pid items at c.self.invariant.1 cut row is here c.args.more in
    (ap (λ t. t + c.args.more) c.self.invariant.0 ∙ sym (ap total_of now ∙ total-added pid c.args.more items), subst AreRows (sym now) (rows_added pid c.args.more items c.requires.some c.self.invariant.1))

pub returns-then-is_at-clause-ok : goal.returns-then-is_at-clause-ok
returns-then-is_at-clause-ok c =
    let items = c.self.inside.rows.items in
    let at = c.find-at.result in
    let pid = c.args.pid.now in
    let cut : IsCut (below pid) items at = subst (λ (l : List Row). IsCut (below pid) l at) c.deref.ensures.value c.find-at.ensures in
    let here : is_here pid (drop at items) ≡ true = ap (λ l. is_here pid (drop at l)) (sym c.deref-2.ensures.value) ∙ sym c.is_at.ensures.value ∙ c.if-is_at.true in
    let row = c.index_mut.result.now in
    let is = c.index_mut.ensures.value in
    let same : c.index.result.now.count ≡ row.count = sym (found_count pid items at c.self.invariant.1 cut c.index.result.now c.index.ensures here) ∙ found_count pid items at c.self.invariant.1 cut row is here in
    ap (λ n. slice_set items at (record { pid = row.pid; count = n + c.args.more })) same ∙ found_added pid items at c.self.invariant.1 cut row is here c.args.more ∙ ap (λ l. added l pid c.args.more) c.self.view_is

pub returns-then-is_at-clause-count : goal.returns-then-is_at-clause-count
returns-then-is_at-clause-count c =
    let items = c.self.inside.rows.items in
    let at = c.find-at.result in
    let pid = c.args.pid.now in
    let cut : IsCut (below pid) items at = subst (λ (l : List Row). IsCut (below pid) l at) c.deref.ensures.value c.find-at.ensures in
    let here : is_here pid (drop at items) ≡ true = ap (λ l. is_here pid (drop at l)) (sym c.deref-2.ensures.value) ∙ sym c.is_at.ensures.value ∙ c.if-is_at.true in
    let count = found_count pid items at c.self.invariant.1 cut c.index.result.now c.index.ensures here in
    ap (λ n. n + c.args.more) (sym count ∙ ap (λ l. counts_of l pid) c.self.view_is)

pub invariant_of-self-2 : goal.invariant_of-self-2
invariant_of-self-2 c =
    let items = c.self.inside.rows.items in
    let at = c.find-at.result in
    let pid = c.args.pid.now in
    let cut : IsCut (below pid) items at = subst (λ (l : List Row). IsCut (below pid) l at) c.deref.ensures.value c.find-at.ensures in
    let here : is_here pid (drop at items) ≡ false = ap (λ l. is_here pid (drop at l)) (sym c.deref-2.ensures.value) ∙ sym c.is_at.ensures.value ∙ c.if-is_at.false in
    let more = c.args.more in
    let now : c.insert.new.self.items ≡ added items pid more = c.in_ok-insert.ensures.items ∙ (λ i. insert items at (record { pid = c.in_ok-copy.ensures i; count = more })) ∙ missing_added pid items at c.self.invariant.1 cut more here in
    (ap (λ t. t + more) c.self.invariant.0 ∙ sym (ap total_of now ∙ total-added pid more items), subst AreRows (sym now) (rows_added pid more items c.requires.some c.self.invariant.1))

pub returns-clause-ok : goal.returns-clause-ok
returns-clause-ok c =
    let items = c.self.inside.rows.items in
    let at = c.find-at.result in
    let pid = c.args.pid.now in
    let cut : IsCut (below pid) items at = subst (λ (l : List Row). IsCut (below pid) l at) c.deref.ensures.value c.find-at.ensures in
    let here : is_here pid (drop at items) ≡ false = ap (λ l. is_here pid (drop at l)) (sym c.deref-2.ensures.value) ∙ sym c.is_at.ensures.value ∙ c.if-is_at.false in
    let more = c.args.more in
    c.in_ok-insert.ensures.items ∙ (λ i. insert items at (record { pid = c.in_ok-copy.ensures i; count = more })) ∙ missing_added pid items at c.self.invariant.1 cut more here ∙ ap (λ l. added l pid more) c.self.view_is

pub returns-in_err-copy-clause-memory : goal.returns-in_err-copy-clause-memory
returns-in_err-copy-clause-memory c =
    let items = c.self.inside.rows.items in
    let at = c.find-at.result in
    let pid = c.args.pid.now in
    let cut : IsCut (below pid) items at = subst (λ (l : List Row). IsCut (below pid) l at) c.deref.ensures.value c.find-at.ensures in
    let here : is_here pid (drop at items) ≡ false = ap (λ l. is_here pid (drop at l)) (sym c.deref-2.ensures.value) ∙ sym c.is_at.ensures.value ∙ c.if-is_at.false in
    let none = ap (λ l. counts_of l pid) (sym c.self.view_is) ∙ missing_count pid items at c.self.invariant.1 cut here in
    search rules

pub returns-in_err-insert-clause-memory : goal.returns-in_err-insert-clause-memory
returns-in_err-insert-clause-memory c =
    let items = c.self.inside.rows.items in
    let at = c.find-at.result in
    let pid = c.args.pid.now in
    let cut : IsCut (below pid) items at = subst (λ (l : List Row). IsCut (below pid) l at) c.deref.ensures.value c.find-at.ensures in
    let here : is_here pid (drop at items) ≡ false = ap (λ l. is_here pid (drop at l)) (sym c.deref-2.ensures.value) ∙ sym c.is_at.ensures.value ∙ c.if-is_at.false in
    let none = ap (λ l. counts_of l pid) (sym c.self.view_is) ∙ missing_count pid items at c.self.invariant.1 cut here in
    search rules

pub returns-clause-count : goal.returns-clause-count
returns-clause-count c =
    let items = c.self.inside.rows.items in
    let at = c.find-at.result in
    let pid = c.args.pid.now in
    let cut : IsCut (below pid) items at = subst (λ (l : List Row). IsCut (below pid) l at) c.deref.ensures.value c.find-at.ensures in
    let here : is_here pid (drop at items) ≡ false = ap (λ l. is_here pid (drop at l)) (sym c.deref-2.ensures.value) ∙ sym c.is_at.ensures.value ∙ c.if-is_at.false in
    let none = ap (λ l. counts_of l pid) (sym c.self.view_is) ∙ missing_count pid items at c.self.invariant.1 cut here in
    omega arith
