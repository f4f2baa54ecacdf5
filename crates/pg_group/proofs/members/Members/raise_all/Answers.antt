use Rattle.std.proofs.Common.{max, take, sym, ap, ◌∙◌, arith}
use Rattle.pg_term.specs.Same.{same_pid}
use Rattle.pg_group.specs.Ended.{ended_of}
use Rattle.pg_group.specs.Functions.{upd}
use Rattle.pg_group.specs.Value.{Counts, told, with_one_more, greater}
use Rattle.pg_group.specs.Rows.{counts_of}
use Rattle.pg_group.proofs.Maps.{on_err}
use Rattle.pg_group.proofs.Merges.{told_more, told_kept, told_up_to, told_nothing}
use Rattle.pg_group.proofs.Merges.{nothing_raised, counted_now, between_so_far, raised}
use Rattle.pg_group.proofs.members.Members.raise_all.Goals.{then-not-has+in_ok-add_one+in_ok-raise, else-not-has}
use Rattle.pg_group.proofs.members.Members.raise_all.Goals as goal

pub add_one-requires : goal.add_one-requires
add_one-requires c =
    let few = told_up_to c.args.pids.now (ended_of c.args.ended.now) c.loop-pid.pid-index c.pid-item.result (omega arith) in
    let seen = ap (λ (s : Counts). s c.pid-item.result) c.loop-pid.invariant.seen in
    omega arith

pub loop-pid-init : goal.loop-pid-init
loop-pid-init c = record {
  seen = c.new-seen.ensures ∙ told_nothing (ended_of c.args.ended.now);
  raised = nothing_raised (counts_of c.args.self.now) (ended_of c.args.ended.now);
}

pub raise-requires : goal.raise-requires
raise-requires c = counted_now (counts_of c.loop-pid.seen) (counts_of c.add_one.new.self) c.pid-item.result c.count.result c.in_ok-add_one.ensures.ok c.count.ensures

pub returns-in_err-add_one-clause-err : goal.returns-in_err-add_one-clause-err
returns-in_err-add_one-clause-err c =
    on_err c.from_residual.result (between_so_far (counts_of c.args.self.now) (counts_of c.loop-pid.self) c.args.pids.now (ended_of c.args.ended.now) c.loop-pid.pid-index c.loop-pid.invariant.raised)

pub returns-in_err-raise-clause-err : goal.returns-in_err-raise-clause-err
returns-in_err-raise-clause-err c =
    on_err c.from_residual-in_err-raise.result (between_so_far (counts_of c.args.self.now) (counts_of c.raise.new.self) c.args.pids.now (ended_of c.args.ended.now) c.loop-pid.pid-index (c.in_err-raise.ensures.err ∙ c.loop-pid.invariant.raised))

pub loop-pid-preserved : goal.loop-pid-preserved
loop-pid-preserved c =
    let pids = c.args.pids.now in
    let ended = ended_of c.args.ended.now in
    let f = counts_of c.args.self.now in
    let i = c.loop-pid.pid-index in
    let pid = c.pid-item.result in
    let seen = counts_of c.loop-pid.seen in
    elim c.if-not-has.branch [
      | then-not-has+in_ok-add_one+in_ok-raise w ↦
          let more = told_more pids ended i pid c.loop-pid-test.true (sym c.pid-item.is) (sym c.has.ensures ∙ w.if-not-has.true) in
          let least = ap (λ n. upd same_pid (counts_of c.loop-pid.self) pid (max (counts_of c.loop-pid.self pid) n)) w.count.ensures in
          record {
            seen = ap counts_of w.seen-is ∙ w.in_ok-add_one.ensures.ok ∙ ap (λ (s : Counts). with_one_more s pid) c.loop-pid.invariant.seen ∙ sym more;
            raised = ap counts_of w.self-is
                ∙ raised f (told (take i pids) ended) (counts_of c.loop-pid.self) (counts_of w.raise.new.self) seen (counts_of w.add_one.new.self) pid
                c.loop-pid.invariant.raised c.loop-pid.invariant.seen w.in_ok-add_one.ensures.ok (w.in_ok-raise.ensures.ok ∙ least)
                ∙ ap (greater f) (sym more);
          }
      | else-not-has w ↦
          let same = told_kept pids ended i pid c.loop-pid-test.true (sym c.pid-item.is) (sym c.has.ensures ∙ w.if-not-has.false) in
          record {
            seen = ap counts_of w.seen-is ∙ c.loop-pid.invariant.seen ∙ sym same;
            raised = ap counts_of w.self-is ∙ c.loop-pid.invariant.raised ∙ ap (greater f) (sym same);
          }
    ]
