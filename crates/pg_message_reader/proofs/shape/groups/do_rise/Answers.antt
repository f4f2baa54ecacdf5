use Rattle.std.proofs.Common.{◌≡◌, true, None, arith}
use Rattle.std.specs.Prelude.{is_some}
use Rattle.pg_message_types.specs.Reading.{group_of}
use Rattle.pg_message_reader.specs.Shapes.Groups.{FirstNames}
use Rattle.pg_message_reader.specs.Shapes.Shape.{listed_of}
use Rattle.pg_message_reader.proofs.Shapes.ListShapes.{no_first, no_text, over, int_no_group, at_none, at_some}
use Rattle.pg_message_reader.proofs.Shapes.Rising.{at_start, one_more, sees, sees_fault, not_plain}
use Rattle.pg_message_reader.proofs.shape.groups.do_rise.Goals as goal

pub elements-init : goal.elements-init
elements-init c = record { shallow = c.requires.shallow; left = λ t rest e five. at_start c.args.levels c.args.bytes.now t rest c.args.last.now c.requires.none e five }

pub elements-preserved : goal.elements-preserved
elements-preserved c = record {
  shallow = omega (arith, c.in-Item.ensures.within.0, c.elements.invariant.shallow);
  left = λ t rest e five.
      let before = c.elements.invariant.left t rest e five in
      let goes = c.in-Item.ensures.next before.ends.elements rest before.ends.read in
      let found = at_some c.in_ok-name-in-Item.field-0 (c.in-Some.name, c.in-Some.behind) (group_of goes.first ≡ None) (λ x. (goes.behind ≡ x.1.now) × (is_some (group_of goes.first) ≡ true) × FirstNames x.0 goes.first) c.in-Some.is (c.in_ok-name-in-Item.ensures.group goes.first goes.behind goes.here) in
      one_more t rest c.elements.ascend c.elements.last c.elements.room c.elements.count c.elements.left.now before c.in-Item.below c.in-Item.more c.in-Item.group.now goes found.2.first found.2.is
      c.in-Some.name found.2.named c.follows-greater.result c.follows-greater.ensures.first c.follows-greater.ensures.less c.follows-greater.ensures.atoms found.1 c.in-Some.behind.now found.0 c.both-ascend.result c.both-ascend.ensures _ c.follows-greater.ensures.kept;
}

pub returns-in_default : goal.returns-in_default
returns-in_default c t rest e five =
    let before = c.elements.invariant.left t rest e five in
    let goes = c.in-Item.ensures.next before.ends.elements rest before.ends.read in
    no_first group_of (listed_of t) rest c.elements.room c.elements.count c.elements.left.now before.ends c.in-Item.below c.in-Item.more c.in-Item.group.now goes
    (at_none c.in_ok-name-in-Item.field-0 (group_of goes.first ≡ None) (λ x. (goes.behind ≡ x.1.now) × (is_some (group_of goes.first) ≡ true) × FirstNames x.0 goes.first) c.in_default.is (c.in_ok-name-in-Item.ensures.group goes.first goes.behind goes.here))

pub returns-in-NoItem : goal.returns-in-NoItem
returns-in-NoItem c t rest e five =
    let before = c.elements.invariant.left t rest e five in
    no_text group_of (listed_of t) rest c.elements.room c.elements.count c.elements.left.now before.ends int_no_group (c.in-NoItem.ensures.next before.ends.elements rest before.ends.read)

pub returns-in-End : goal.returns-in-End
returns-in-End c t rest e five =
    let before = c.elements.invariant.left t rest e five in
    let none = (c.in-End.ensures.next before.ends.elements rest before.ends.read).none in
    sees t rest c.elements.ascend c.elements.last c.elements.room c.elements.count c.elements.left.now before none (over group_of (listed_of t) rest c.elements.room c.elements.count c.elements.left.now before.ends none)

pub returns-in_err-name-in-Item : goal.returns-in_err-name-in-Item
returns-in_err-name-in-Item c t rest e five =
    let before = c.elements.invariant.left t rest e five in
    let goes = c.in-Item.ensures.next before.ends.elements rest before.ends.read in
    let built = c.in_err-name-in-Item.ensures.built goes.first goes.behind goes.here in
    sees_fault t c.from_residual.result c.from_residual.ensures.0
    (not_plain t rest c.elements.ascend c.elements.last c.elements.room c.elements.count c.elements.left.now before c.in-Item.below c.in-Item.more c.in-Item.group.now goes built.first built.is built.built)
