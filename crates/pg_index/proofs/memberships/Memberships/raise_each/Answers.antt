use Rattle.std.proofs.Common.{max, take, refl, sym, ap, ◌∙◌}
use Rattle.pg_group.specs.Ended.{ended_of}
use Rattle.pg_group.specs.Value.{Counts, told, with_one_more}
use Rattle.pg_group.proofs.Maps.{on_err}
use Rattle.pg_group.proofs.Merges.{told_more, told_kept}
use Rattle.pg_index_members.specs.Rows.{counts_of}
use Rattle.pg_index.specs.declared.memberships.Memberships.{Memberships}
use Rattle.pg_index.specs.Groups.{counts_by_number, counts_changed, is_used}
use Rattle.pg_index.proofs.Changed.{raised_none, told_none, told_now, raised_more, raised_so_far, raised_to}
use Rattle.pg_index.proofs.memberships.Memberships.raise_each.Goals.{then-not-has+in_ok-count+in_ok-raise, else-not-has}
use Rattle.pg_index.proofs.memberships.Memberships.raise_each.Goals as goal

pub loop-pid-init : goal.loop-pid-init
loop-pid-init c = record {
  seen = told_none c.new-seen.result (ended_of c.args.ended.now) c.new-seen.ensures;
  raised = raised_none (counts_by_number c.args.self.now.groups) c.args.group (ended_of c.args.ended.now);
  used = refl;
}

pub returns-in_err-count-clause-err : goal.returns-in_err-count-clause-err
returns-in_err-count-clause-err c =
    on_err c.from_residual.result (raised_so_far (counts_by_number c.args.self.now.groups) (counts_by_number c.loop-pid.self.groups) c.args.group c.args.pids.now (ended_of c.args.ended.now) c.loop-pid.pid-index c.loop-pid.invariant.raised)

pub raise-requires : goal.raise-requires
raise-requires c = ap (λ u. u c.args.group) c.loop-pid.invariant.used ∙ c.requires

pub returns-in_err-raise-clause-err : goal.returns-in_err-raise-clause-err
returns-in_err-raise-clause-err c =
    on_err c.from_residual-in_err-raise.result (raised_so_far (counts_by_number c.args.self.now.groups) (counts_by_number c.raise.new.self.groups) c.args.group c.args.pids.now (ended_of c.args.ended.now) c.loop-pid.pid-index (c.in_err-raise.ensures.err ∙ c.loop-pid.invariant.raised))

pub loop-pid-preserved : goal.loop-pid-preserved
loop-pid-preserved c =
    let pids = c.args.pids.now in
    let ended = ended_of c.args.ended.now in
    let before = counts_by_number c.args.self.now.groups in
    let i = c.loop-pid.pid-index in
    let pid = c.pid-item.result in
    let counts = counts_by_number c.loop-pid.self.groups in
    elim c.if-not-has.branch [
      | then-not-has+in_ok-count+in_ok-raise w ↦
          let more = told_more pids ended i pid c.loop-pid-test.true (sym c.pid-item.is) (sym c.has.ensures ∙ w.if-not-has.true) in
          let least = ap (λ n. counts_changed counts c.args.group pid (max (counts c.args.group pid) n)) (w.in_ok-count.ensures.count ∙ sym (told_now (counts_of c.loop-pid.seen) (counts_of w.add.new.self) pid w.in_ok-count.ensures.ok)) in
          record {
            seen = ap counts_of w.seen-is ∙ w.in_ok-count.ensures.ok ∙ ap (λ (s : Counts). with_one_more s pid) c.loop-pid.invariant.seen ∙ sym more;
            raised = ap (λ (m : Memberships). counts_by_number m.groups) w.self-is
                ∙ raised_more before counts (counts_by_number w.raise.new.self.groups) c.args.group (told (take i pids) ended) (counts_of c.loop-pid.seen) (counts_of w.add.new.self) pid
                c.loop-pid.invariant.raised c.loop-pid.invariant.seen w.in_ok-count.ensures.ok (w.in_ok-raise.ensures.ok ∙ least)
                ∙ ap (raised_to before c.args.group) (sym more);
            used = ap (λ (m : Memberships). is_used m.groups) w.self-is ∙ w.in_ok-raise.ensures.used ∙ c.loop-pid.invariant.used;
          }
      | else-not-has w ↦
          let same = told_kept pids ended i pid c.loop-pid-test.true (sym c.pid-item.is) (sym c.has.ensures ∙ w.if-not-has.false) in
          record {
            seen = ap counts_of w.seen-is ∙ c.loop-pid.invariant.seen ∙ sym same;
            raised = ap (λ (m : Memberships). counts_by_number m.groups) w.self-is ∙ c.loop-pid.invariant.raised ∙ ap (raised_to before c.args.group) (sym same);
            used = ap (λ (m : Memberships). is_used m.groups) w.self-is ∙ c.loop-pid.invariant.used;
          }
    ]
