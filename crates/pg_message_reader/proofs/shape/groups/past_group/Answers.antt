use Rattle.std.proofs.Common.{◌≡◌, ◌∙◌, ℕ, true, false, take, List, Option, Some, Ok, ap, subst, refl}
use Rattle.std.specs.Prelude.{is_some}
use Rattle.pg_term.specs.declared.pid.Pid.{Pid}
use Rattle.pg_term.specs.declared.term.Term.{Term}
use Rattle.pg_message_types.specs.PgTermIo.Lists.{list_from}
use Rattle.pg_message_types.specs.Name.{is_name}
use Rattle.pg_message_types.specs.Reading.{group_in}
use Rattle.pg_message_reader.proofs.Shapes.ListShapes.{no_list, group_is, starts_nothing, no_name, at_some, at_none}
use Rattle.pg_message_reader.specs.Names.{all_in}
use Rattle.pg_message_reader.specs.Shapes.Leaves.{Names}
use Rattle.pg_message_reader.proofs.Shapes.Told.{on_err}
use Rattle.pg_message_reader.proofs.shape.groups.past_group.Goals as goal

pub returns-then-not-is_list-clause-group : goal.returns-then-not-is_list-clause-group
returns-then-not-is_list-clause-group c t rest e = no_list group_in t (c.if-not-is_list.ensures.no c.args.levels t rest refl e)

pub returns-in_default-clause-group : goal.returns-in_default-clause-group
returns-in_default-clause-group c t rest e =
    let list = group_is c.args.levels c.args.bytes.now t rest e (c.if-not-is_list.ensures.yes c.args.levels t rest refl e) in
    list.same ∙ starts_nothing c.next_element.result list.elements rest c.in_default.not-Item (c.next_element.ensures.next list.elements rest list.read)

pub returns-in_default-2-clause-group : goal.returns-in_default-2-clause-group
returns-in_default-2-clause-group c t rest e =
    let list = group_is c.args.levels c.args.bytes.now t rest e (c.if-not-is_list.ensures.yes c.args.levels t rest refl e) in
    let goes = c.in-Item.ensures.next list.elements rest list.read in
    list.same ∙ ap group_in goes.are
    ∙ no_name goes.first goes.others (at_none c.in_ok-name.field-0 (is_name goes.first ≡ false) (λ x. (goes.behind ≡ x.1.now) × (is_name goes.first ≡ true) × Names x.0 goes.first) c.in_default-2.is (c.in_ok-name.ensures.name goes.first goes.behind goes.here))

pub returns-in-Some-past_members-clause-group : goal.returns-in-Some-past_members-clause-group
returns-in-Some-past_members-clause-group c t rest e =
    let list = group_is c.args.levels c.args.bytes.now t rest e (c.if-not-is_list.ensures.yes c.args.levels t rest refl e) in
    let goes = c.in-Item.ensures.next list.elements rest list.read in
    let named = at_some c.in_ok-name.field-0 (c.in-Some.name, c.in-Some.behind) (is_name goes.first ≡ false) (λ x. (goes.behind ≡ x.1.now) × (is_name goes.first ≡ true) × Names x.0 goes.first) c.in-Some.is (c.in_ok-name.ensures.name goes.first goes.behind goes.here) in
    let ends = c.in-Some-past_members.ensures.group goes.first goes.others rest (subst (λ (bytes : List ℕ). list_from c.in-Item.room c.in-Item.more bytes ≡ Ok (goes.others, rest)) named.0 goes.after) in (
      ends.0,
      ap (λ (o : Option (Term × List Pid)). is_some o) (list.same ∙ ap group_in goes.are) ∙ ends.1 named.1,
      record { first = goes.first; is = ap (λ (o : Option (List Term)). take 1 (all_in o)) (list.items ∙ ap Some goes.are); named = named.2 },
    )

pub returns-in-None-clause-group : goal.returns-in-None-clause-group
returns-in-None-clause-group c t rest e =
    let list = group_is c.args.levels c.args.bytes.now t rest e (c.if-not-is_list.ensures.yes c.args.levels t rest refl e) in
    let goes = c.in-Item.ensures.next list.elements rest list.read in
    let named = at_some c.in_ok-name.field-0 (c.in-Some.name, c.in-Some.behind) (is_name goes.first ≡ false) (λ x. (goes.behind ≡ x.1.now) × (is_name goes.first ≡ true) × Names x.0 goes.first) c.in-Some.is (c.in_ok-name.ensures.name goes.first goes.behind goes.here) in
    list.same ∙ ap group_in goes.are
    ∙ c.in-None.ensures.group goes.first goes.others rest (subst (λ (bytes : List ℕ). list_from c.in-Item.room c.in-Item.more bytes ≡ Ok (goes.others, rest)) named.0 goes.after)

pub returns-in_err-name-clause-built : goal.returns-in_err-name-clause-built
returns-in_err-name-clause-built c t rest e =
    let list = group_is c.args.levels c.args.bytes.now t rest e (c.if-not-is_list.ensures.yes c.args.levels t rest refl e) in
    let goes = c.in-Item.ensures.next list.elements rest list.read in
    on_err c.from_residual.result _ (record { first = goes.first; is = ap (λ (o : Option (List Term)). take 1 (all_in o)) (list.items ∙ ap Some goes.are); built = c.in_err-name.ensures.built goes.first goes.behind goes.here })
