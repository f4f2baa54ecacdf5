use Rattle.std.proofs.Common.{◌≡◌, None, map, ap, arith}
use Rattle.std.specs.List.{list_any}
use Rattle.std.specs.Ordering.{is_eq}
use Rattle.pg_term.specs.Same.{term_cmp}
use Rattle.pg_message_types.specs.PgTermIo.Numbers.{int_of}
use Rattle.pg_message_types.specs.Groups.{IsNamed}
use Rattle.pg_message_types.specs.Reading.{group_of}
use Rattle.pg_message_reader.proofs.Shapes.Apart.{none_kept, one_kept, kept_twice, kept_nothing, all_kept, groups_by_lists}
use Rattle.pg_message_types.proofs.Ascents.{was_new, was_there}
use Rattle.pg_message_reader.proofs.Shapes.ListShapes.{at_some, at_none, int_no_group}
use Rattle.pg_message_reader.proofs.shape.groups.names.are_new.Goals as goal

pub elements-init : goal.elements-init
elements-init c = record {
  shallow = c.requires.shallow;
  left = λ t rest e five. none_kept t rest (λ n. list_any (λ key. is_eq (term_cmp n key)) c.args.names.now.keys) (λ n. ap (list_any (λ key. is_eq (term_cmp n key))) c.requires.none) c.args.levels c.args.bytes.now e five;
}

pub elements-preserved : goal.elements-preserved
elements-preserved c = record {
  shallow = omega (arith, c.in-Item.ensures.within.0, c.elements.invariant.shallow);
  left = λ t rest e five.
      let before = c.elements.invariant.left t rest e five in
      let goes = c.in-Item.ensures.next before.elements rest before.read in
      let here = at_some c.in_ok-name-in-Item.field-0 (c.in-Some.name, c.in-Some.behind) (group_of goes.first ≡ None) (λ x. IsNamed x.0 (group_of goes.first) × (goes.behind ≡ x.1.now)) c.in-Some.is (c.in_ok-name-in-Item.ensures.group goes.first goes.behind goes.here) in
      one_kept t rest _ c.elements.room c.elements.count c.elements.left.now before c.in-Item.below c.in-Item.more c.in-Item.group.now goes c.in-Some.name here.0 (was_new c.in_ok-insert-in-Item.field-0 _ c.in_ok-insert-in-Item.ensures.added c.if-not-branch.false) _ c.in_ok-insert-in-Item.ensures.updates.0 c.in-Some.behind.now here.1;
}

pub returns-in_default-clause-twice : goal.returns-in_default-clause-twice
returns-in_default-clause-twice c t rest r e =
    groups_by_lists t
    (λ five. let before = c.elements.invariant.left t rest e five in
    let goes = c.in-Item.ensures.next before.elements rest before.read in
    kept_nothing t rest _ c.elements.room c.elements.count c.elements.left.now before goes.first goes.others goes.are
    (at_none c.in_ok-name-in-Item.field-0 (group_of goes.first ≡ None) (λ x. IsNamed x.0 (group_of goes.first) × (goes.behind ≡ x.1.now)) c.in_default.is (c.in_ok-name-in-Item.ensures.group goes.first goes.behind goes.here)))

pub returns-then-not-branch-clause-twice : goal.returns-then-not-branch-clause-twice
returns-then-not-branch-clause-twice c t rest r e =
    groups_by_lists t
    (λ five. let before = c.elements.invariant.left t rest e five in
    let goes = c.in-Item.ensures.next before.elements rest before.read in
    let here = at_some c.in_ok-name-in-Item.field-0 (c.in-Some.name, c.in-Some.behind) (group_of goes.first ≡ None) (λ x. IsNamed x.0 (group_of goes.first) × (goes.behind ≡ x.1.now)) c.in-Some.is (c.in_ok-name-in-Item.ensures.group goes.first goes.behind goes.here) in
    kept_twice t rest _ c.elements.room c.elements.count c.elements.left.now before c.in-Item.below c.in-Item.more c.in-Item.group.now goes c.in-Some.name here.0
    (was_there c.in_ok-insert-in-Item.field-0 _ c.in_ok-insert-in-Item.ensures.added c.if-not-branch.true))

pub returns-in-NoItem-clause-twice : goal.returns-in-NoItem-clause-twice
returns-in-NoItem-clause-twice c t rest r e =
    groups_by_lists t
    (λ five. let before = c.elements.invariant.left t rest e five in
    let text = c.in-NoItem.ensures.next before.elements rest before.read in
    kept_nothing t rest _ c.elements.room c.elements.count c.elements.left.now before (int_of text.first) (map int_of text.others) text.are (int_no_group text.first))

pub returns-in-End-clause-once : goal.returns-in-End-clause-once
returns-in-End-clause-once c t rest r e five groups listed =
    let before = c.elements.invariant.left t rest e five in
    all_kept t rest _ c.elements.room c.elements.count c.elements.left.now before (c.in-End.ensures.next before.elements rest before.read).none groups listed
