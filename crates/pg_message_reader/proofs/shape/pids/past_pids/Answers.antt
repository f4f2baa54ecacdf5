use Rattle.std.proofs.Common.{refl, arith}
use Rattle.pg_message_types.specs.PgTermIo.Reading.{item_at}
use Rattle.pg_message_types.specs.Parts.{pid_of}
use Rattle.pg_message_types.specs.Reading.{read_each}
use Rattle.pg_message_reader.specs.Shapes.Shape.{members_of}
use Rattle.pg_message_reader.proofs.Shapes.Shapes.{end_is}
use Rattle.pg_message_reader.proofs.Shapes.ListShapes.{at_first, no_list, no_first, behind_first, no_text, over, int_no_pid}
use Rattle.pg_message_reader.proofs.shape.pids.past_pids.Goals as goal

pub returns-then-not-is_list-clause-pids : goal.returns-then-not-is_list-clause-pids
returns-then-not-is_list-clause-pids c t rest e = no_list (read_each pid_of) t (c.if-not-is_list.ensures.no c.args.levels t rest refl e)

pub elements-init : goal.elements-init
elements-init c = record {
  shorter = omega arith;
  left = λ t rest e. at_first pid_of c.args.levels c.args.bytes.now t rest e (c.if-not-is_list.ensures.yes c.args.levels t rest refl e);
}

pub elements-preserved : goal.elements-preserved
elements-preserved c = record {
  shorter = omega (arith, c.elements.invariant.shorter, c.in-Item.ensures.within.1, c.in-Some.ensures.shorter, c.past_alike-others.ensures.shorter);
  left = λ t rest e.
      let before = c.elements.invariant.left t rest e in
      let goes = c.in-Item.ensures.next before.elements rest before.read in
      let behind = behind_first pid_of (members_of t) rest c.elements.room c.elements.count c.elements.left.now before c.in-Item.below c.in-Item.more c.in-Item.pid.now goes (c.in-Some.ensures.pid goes.first goes.behind goes.here) c.in-Some.behind.now
      (end_is (item_at c.in-Item.below c.in-Item.pid.now) goes.first goes.behind c.in-Some.behind.now goes.here c.in-Some.ensures.some) in
      c.past_alike-others.ensures.pids c.in-Item.below goes.first goes.behind goes.here c.in-Item.below (members_of t) rest behind;
}

pub returns-in_default-clause-pids : goal.returns-in_default-clause-pids
returns-in_default-clause-pids c t rest e =
    let before = c.elements.invariant.left t rest e in
    let goes = c.in-Item.ensures.next before.elements rest before.read in
    no_first pid_of (members_of t) rest c.elements.room c.elements.count c.elements.left.now before c.in-Item.below c.in-Item.more c.in-Item.pid.now goes (c.in_default.ensures.none goes.first goes.behind goes.here)

pub returns-in-End-clause-pids : goal.returns-in-End-clause-pids
returns-in-End-clause-pids c t rest e =
    let before = c.elements.invariant.left t rest e in
    let done = c.in-End.ensures.next before.elements rest before.read in
    (done.after, over pid_of (members_of t) rest c.elements.room c.elements.count c.elements.left.now before done.none)

pub returns-in-End-clause-shorter : goal.returns-in-End-clause-shorter
returns-in-End-clause-shorter c = omega (arith, c.elements.invariant.shorter, c.in-End.ensures.within)

pub returns-in-NoItem-clause-pids : goal.returns-in-NoItem-clause-pids
returns-in-NoItem-clause-pids c t rest e =
    let before = c.elements.invariant.left t rest e in
    no_text pid_of (members_of t) rest c.elements.room c.elements.count c.elements.left.now before int_no_pid (c.in-NoItem.ensures.next before.elements rest before.read)
