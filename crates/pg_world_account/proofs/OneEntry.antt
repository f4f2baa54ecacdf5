-- Entries that compare as one are one.
use Rattle.std.proofs.Common.{◌≡◌, true, ◌&&◌, nat_eq, refl, sym, ap, ◌∙◌}
use Rattle.std.specs.Cmp.{first_so, second_so}
use Rattle.std.proofs.lemmas.Bool.{eqb-true, eq-eqb}
use Rattle.pg_laws_losses.specs.PgLaws.History.{Entry as Recorded}
use Rattle.pg_node_opens.specs.PgStep.declared.command.OpId.{OpId}
use Rattle.pg_node_opens.specs.PgStep.Attempts.{same_op}
use Rattle.pg_node_opens.specs.Twins.{same_update}
use Rattle.pg_node_opens.proofs.Alike.{both_true, update_is, update_self}
use Rattle.pg_node_opens.proofs.Followed.{op_is}
use Rattle.pg_world_account.specs.declared.entry.Entry.{Entry}
use Rattle.pg_world_account.specs.Histories.{as_entry}
use Rattle.pg_world_account.specs.Agreeing.{same_entry}

op_self : (op : OpId) → same_op op op ≡ true
op_self op = both_true (nat_eq op.port op.port) (nat_eq op.number op.number) (eq-eqb op.port op.port refl) (eq-eqb op.number op.number refl)

pub entry_is : (entry other : Entry) → same_entry entry other ≡ true → as_entry entry ≡ as_entry other
entry_is entry other e =
    let rest = second_so (nat_eq entry.node other.node) (same_op entry.op other.op && same_update entry.update other.update) e in
    let node = eqb-true entry.node other.node (first_so (nat_eq entry.node other.node) (same_op entry.op other.op && same_update entry.update other.update) e) in
    let op = op_is entry.op other.op (first_so (same_op entry.op other.op) (same_update entry.update other.update) rest) in
    let update = update_is entry.update other.update (second_so (same_op entry.op other.op) (same_update entry.update other.update) rest) in
    λ i. record { node = node i; op = op i; update = update i }

pub entry_so : (entry other : Entry) → as_entry entry ≡ as_entry other → same_entry entry other ≡ true
entry_so entry other e =
    both_true (nat_eq entry.node other.node) (same_op entry.op other.op && same_update entry.update other.update) (eq-eqb entry.node other.node (ap (λ (x : Recorded). x.node) e))
    (both_true (same_op entry.op other.op) (same_update entry.update other.update) (ap (same_op entry.op) (sym (ap (λ (x : Recorded). x.op) e)) ∙ op_self entry.op) (ap (same_update entry.update) (sym (ap (λ (x : Recorded). x.update) e)) ∙ update_self entry.update))
