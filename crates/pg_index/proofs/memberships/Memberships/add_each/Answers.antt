use Rattle.std.proofs.Common.{take, refl, sym, ap, ◌∙◌}
use Rattle.pg_group.specs.Ended.{ended_of}
use Rattle.pg_group.specs.Value.{told}
use Rattle.pg_group.proofs.Maps.{on_err}
use Rattle.pg_group.proofs.Merges.{told_more, told_kept}
use Rattle.pg_index.specs.declared.memberships.Memberships.{Memberships}
use Rattle.pg_index.specs.Groups.{counts_by_number, is_used}
use Rattle.pg_index.proofs.Changed.{raised_none, raised_so_far, raised_to, added_one}
use Rattle.pg_index.proofs.memberships.Memberships.add_each.Goals.{then-not-has+in_ok-add, else-not-has}
use Rattle.pg_index.proofs.memberships.Memberships.add_each.Goals as goal

pub loop-pid-init : goal.loop-pid-init
loop-pid-init c = record {
  raised = raised_none (counts_by_number c.args.self.now.groups) c.args.group (ended_of c.args.ended.now);
  used = refl;
}

pub add-requires-clause-used : goal.add-requires-clause-used
add-requires-clause-used c = ap (λ u. u c.args.group) c.loop-pid.invariant.used ∙ c.requires.used

pub returns-in_err-add-clause-err : goal.returns-in_err-add-clause-err
returns-in_err-add-clause-err c =
    on_err c.from_residual.result (raised_so_far (counts_by_number c.args.self.now.groups) (counts_by_number c.add.new.self.groups) c.args.group c.args.pids.now (ended_of c.args.ended.now) c.loop-pid.pid-index (c.in_err-add.ensures.err ∙ c.loop-pid.invariant.raised))

pub loop-pid-preserved : goal.loop-pid-preserved
loop-pid-preserved c =
    let pids = c.args.pids.now in
    let ended = ended_of c.args.ended.now in
    let before = counts_by_number c.args.self.now.groups in
    let i = c.loop-pid.pid-index in
    let pid = c.pid-item.result in
    let counts = counts_by_number c.loop-pid.self.groups in
    elim c.if-not-has.branch [
      | then-not-has+in_ok-add w ↦
          let more = told_more pids ended i pid c.loop-pid-test.true (sym c.pid-item.is) (sym c.has.ensures ∙ w.if-not-has.true) in
          record {
            raised = ap (λ (m : Memberships). counts_by_number m.groups) w.self-is
                ∙ added_one before counts (counts_by_number w.add.new.self.groups) c.args.group (told (take i pids) ended) pid c.requires.nobody c.loop-pid.invariant.raised w.in_ok-add.ensures.ok
                ∙ ap (raised_to before c.args.group) (sym more);
            used = ap (λ (m : Memberships). is_used m.groups) w.self-is ∙ w.in_ok-add.ensures.used ∙ c.loop-pid.invariant.used;
          }
      | else-not-has w ↦
          let same = told_kept pids ended i pid c.loop-pid-test.true (sym c.pid-item.is) (sym c.has.ensures ∙ w.if-not-has.false) in
          record {
            raised = ap (λ (m : Memberships). counts_by_number m.groups) w.self-is ∙ c.loop-pid.invariant.raised ∙ ap (raised_to before c.args.group) (sym same);
            used = ap (λ (m : Memberships). is_used m.groups) w.self-is ∙ c.loop-pid.invariant.used;
          }
    ]
