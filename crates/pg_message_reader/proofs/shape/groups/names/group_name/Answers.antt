use Rattle.std.proofs.Common.{◌≡◌, ◌∙◌, ◌∷◌, ℕ, true, false, List, Ok, ap, subst, sym, refl}
use Rattle.pg_term.specs.declared.term.Term.{Term}
use Rattle.pg_message_types.specs.PgTermIo.Lists.{list_from}
use Rattle.pg_message_types.specs.PgTermIo.Reading.{item_at}
use Rattle.pg_message_types.specs.Groups.{IsNamed}
use Rattle.pg_message_types.specs.Name.{is_name}
use Rattle.pg_message_types.specs.Reading.{group_in}
use Rattle.pg_message_reader.proofs.Shapes.Shapes.{end_is}
use Rattle.pg_message_reader.proofs.Shapes.ListShapes.{no_list, group_is, starts_nothing, no_name, at_some, at_none, first_named}
use Rattle.pg_message_reader.proofs.shape.groups.names.group_name.Goals as goal

pub returns-then-not-is_list-clause-group : goal.returns-then-not-is_list-clause-group
returns-then-not-is_list-clause-group c t rest e = no_list group_in t (c.if-not-is_list.ensures.no c.args.levels t rest refl e)

pub returns-in_default-clause-group : goal.returns-in_default-clause-group
returns-in_default-clause-group c t rest e =
    let list = group_is c.args.levels c.args.bytes.now t rest e (c.if-not-is_list.ensures.yes c.args.levels t rest refl e) in
    list.same ∙ starts_nothing c.next_element.result list.elements rest c.in_default.not-Item (c.next_element.ensures.next list.elements rest list.read)

pub returns-in_default-past_name-clause-group : goal.returns-in_default-past_name-clause-group
returns-in_default-past_name-clause-group c t rest e =
    let list = group_is c.args.levels c.args.bytes.now t rest e (c.if-not-is_list.ensures.yes c.args.levels t rest refl e) in
    let goes = c.in-Item.ensures.next list.elements rest list.read in
    list.same ∙ ap group_in goes.are ∙ no_name goes.first goes.others (c.in_default-past_name.ensures.none goes.first goes.behind goes.here)

pub returns-in_default-2-clause-group : goal.returns-in_default-2-clause-group
returns-in_default-2-clause-group c t rest e =
    let list = group_is c.args.levels c.args.bytes.now t rest e (c.if-not-is_list.ensures.yes c.args.levels t rest refl e) in
    let goes = c.in-Item.ensures.next list.elements rest list.read in
    list.same ∙ ap group_in goes.are
    ∙ no_name goes.first goes.others (at_none c.in_ok-name.field-0 (is_name goes.first ≡ false) (λ name. (name ≡ goes.first) × (is_name goes.first ≡ true)) c.in_default-2.is (c.in_ok-name.ensures goes.first goes.behind goes.here))

pub returns-in-Some-past_members-clause-group : goal.returns-in-Some-past_members-clause-group
returns-in-Some-past_members-clause-group c t rest e =
    let list = group_is c.args.levels c.args.bytes.now t rest e (c.if-not-is_list.ensures.yes c.args.levels t rest refl e) in
    let goes = c.in-Item.ensures.next list.elements rest list.read in
    let ends = end_is (item_at c.in-Item.room c.in-Item.first.now) goes.first goes.behind c.in-Some.behind.now goes.here c.in-Some.ensures.some in
    let left = subst (λ (bytes : List ℕ). list_from c.in-Item.room c.in-Item.more bytes ≡ Ok (goes.others, rest)) ends goes.after in
    let is = (at_some c.in_ok-name.field-0 c.in-Some-2.name (is_name goes.first ≡ false) (λ name. (name ≡ goes.first) × (is_name goes.first ≡ true)) c.in-Some-2.is (c.in_ok-name.ensures goes.first goes.behind goes.here)).0 in (
      subst (IsNamed c.in-Some-2.name) (sym (list.same ∙ ap group_in goes.are)) (subst (λ (name : Term). IsNamed name (group_in (goes.first ∷ goes.others))) (sym is) (first_named goes.first goes.others)),
      (c.in-Some-past_members.ensures.group goes.first goes.others rest left).0,
    )

pub returns-in-None-clause-group : goal.returns-in-None-clause-group
returns-in-None-clause-group c t rest e =
    let list = group_is c.args.levels c.args.bytes.now t rest e (c.if-not-is_list.ensures.yes c.args.levels t rest refl e) in
    let goes = c.in-Item.ensures.next list.elements rest list.read in
    let ends = end_is (item_at c.in-Item.room c.in-Item.first.now) goes.first goes.behind c.in-Some.behind.now goes.here c.in-Some.ensures.some in
    let left = subst (λ (bytes : List ℕ). list_from c.in-Item.room c.in-Item.more bytes ≡ Ok (goes.others, rest)) ends goes.after in
    list.same ∙ ap group_in goes.are ∙ c.in-None.ensures.group goes.first goes.others rest left
