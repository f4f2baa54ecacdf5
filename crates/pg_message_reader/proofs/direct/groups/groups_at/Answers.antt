use Rattle.std.proofs.Common.{◌≡◌, [], map, sym, subst, ◌∙◌}
use Rattle.pg_term.specs.declared.term.Term.{List as Listed}
use Rattle.pg_message_types.specs.Reading.{Groups}
use Rattle.pg_message_reader.specs.Standing.{Stands}
use Rattle.pg_message_types.specs.Writing.{group_term}
use Rattle.pg_message_reader.proofs.Rows.{nil_stands, list_stands}
use Rattle.pg_message_reader.proofs.direct.groups.groups_at.Goals as goal

pub returns-in-Ok-clause-term : goal.returns-in-Ok-clause-term
returns-in-Ok-clause-term c =
    let none : c.from_vec.result ≡ [] = c.from_vec.ensures ∙ c.new.ensures.items in
    subst (λ (groups : Groups). Stands 60 (Listed (map group_term groups)) c.args.bytes.now c.in-Ok.rest.now) (sym none) (nil_stands 60 c.args.bytes.now c.in-Ok.rest.now c.in-Ok.ensures.found)

pub returns-in-Ok-past_told-clause-term : goal.returns-in-Ok-past_told-clause-term
returns-in-Ok-past_told-clause-term c =
    let rest = c.in-Ok-past_told in
    subst (λ (groups : Groups). Stands 60 (Listed (map group_term groups)) c.args.bytes.now rest.rest.now) (sym c.from_vec-in-Ok-past_told.ensures)
    (list_stands 59 (map group_term c.in_ok-groups.groups.items) c.in_ok-count.count c.args.bytes.now c.in_ok-count.rest.now c.in_ok-groups.end.now rest.rest.now c.in_ok-count.ensures c.in_ok-groups.ensures.terms rest.ensures.end)
