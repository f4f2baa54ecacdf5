use Rattle.std.proofs.Common.{◌≡◌, ◌∙◌, [], ◌∷◌, ℕ, List, Ok, ap, subst, arith}
use Rattle.std.specs.Prelude.{is_some}
use Rattle.std.proofs.lemmas.Option.{IfSome_then}
use Rattle.pg_term.specs.declared.term.Term.{Term}
use Rattle.pg_message_types.specs.PgTermIo.Lists.{list_from}
use Rattle.pg_message_types.specs.Reading.{group_in}
use Rattle.pg_message_reader.proofs.Shapes.ListShapes.{ends_nothing, no_members, no_third, some_group, told}
use Rattle.pg_message_reader.proofs.shape.groups.past_members.Goals as goal

pub returns-in_default-clause-group : goal.returns-in_default-clause-group
returns-in_default-clause-group c name others rest e = ends_nothing name c.next_element.result others rest c.in_default.not-Item (c.next_element.ensures.next others rest e)

pub returns-in-None-clause-group : goal.returns-in-None-clause-group
returns-in-None-clause-group c name others rest e =
    let goes = c.in-Item.ensures.next others rest e in
    ap (λ (ts : List Term). group_in (name ∷ ts)) goes.are ∙ no_members name goes.first goes.others (c.in-None.ensures.pids goes.first goes.behind goes.here)

pub returns-in-Some-clause-group : goal.returns-in-Some-clause-group
returns-in-Some-clause-group c name others rest e =
    let goes = c.in-Item.ensures.next others rest e in
    let members = c.in-Some.ensures.pids goes.first goes.behind goes.here in
    told c.past_end.result (λ behind. rest ≡ behind.now) (goes.others ≡ [])
    (λ some. ap (λ (ts : List Term). group_in (name ∷ ts)) goes.are ∙ no_third name goes.first goes.others some)
    (λ none named. ap (λ (ts : List Term). is_some (group_in (name ∷ ts))) (goes.are ∙ ap (λ (ts : List Term). goes.first ∷ ts) none) ∙ some_group name goes.first named members.1)
    (c.past_end.ensures.over goes.others rest
    (subst (λ (bytes : List ℕ). list_from c.in-Item.room c.in-Item.more bytes ≡ Ok (goes.others, rest)) members.0 goes.after))

pub returns-in-Some-clause-shorter : goal.returns-in-Some-clause-shorter
returns-in-Some-clause-shorter c = IfSome_then c.past_end.result c.past_end.ensures.shorter (λ behind h. omega (arith, h, c.in-Some.ensures.shorter, c.in-Item.ensures.within.1))
