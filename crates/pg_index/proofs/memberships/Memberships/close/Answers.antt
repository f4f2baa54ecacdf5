use Rattle.std.proofs.Common.{false, List, None, refl, sym, ap, ◌∙◌, nat_eq}
use Rattle.std.specs.Prelude.{is_some}
use Rattle.slab.specs.Slab.{Slab}
use Rattle.pg_group.specs.Value.{nobody}
use Rattle.pg_group.proofs.Changes.{upd_same}
use Rattle.pg_index_members.specs.declared.row.Row.{Row}
use Rattle.pg_index.specs.Groups.{counts_by_number, is_used}
use Rattle.pg_index.proofs.Numbers.{slot_changed, nobody_there, number_is}
use Rattle.pg_index.proofs.Changed.{used_changed}
use Rattle.pg_index.proofs.memberships.Memberships.close.Goals as goal

pub returns-in-Some-clause-counts : goal.returns-in-Some-clause-counts
returns-in-Some-clause-counts c = slot_changed c.args.self.now.groups c.try_remove.new.self c.args.group None nobody c.in-Some.ensures.updates refl

pub returns-in-Some-clause-used : goal.returns-in-Some-clause-used
returns-in-Some-clause-used c = used_changed c.args.self.now.groups c.try_remove.new.self c.args.group None c.in-Some.ensures.updates

pub returns-in_default-clause-counts : goal.returns-in_default-clause-counts
returns-in_default-clause-counts c = ap (λ (s : Slab (List Row)). counts_by_number s) c.in_default.ensures.absent ∙ nobody_there c.args.self.now.groups c.args.group (λ f. nobody) c.in_default.ensures.value refl

pub returns-in_default-clause-used : goal.returns-in_default-clause-used
returns-in_default-clause-used c =
    ap (λ (s : Slab (List Row)). is_used s) c.in_default.ensures.absent
    ∙ sym (upd_same nat_eq (is_used c.args.self.now.groups) c.args.group (number_is c.args.group) false (ap is_some c.in_default.ensures.value))
