use Rattle.std.proofs.Common.{◌≡◌, List, [], ◌∷◌, ◌++◌, refl, ap, ◌∙◌}
use Rattle.std.specs.Prelude.{slice_set, slice_index_or}
use Rattle.pg_term.specs.declared.pid.Pid.{Pid}
use Rattle.pg_term.specs.declared.term.Term.{Term}
use Rattle.pg_script.specs.Scripts.{with_group}
use Rattle.pg_script.proofs.Placing.{changed, same_places}
use Rattle.pg_script.proofs.reading.give_group.Goals as goal

pub returns-in_err-push-clause-places : goal.returns-in_err-push-clause-places
returns-in_err-push-clause-places c = λ name. same_places name c.args.starts.now c.args.place c.index-starts-place.result _ c.requires refl

pub returns-clause-places : goal.returns-clause-places
returns-clause-places c = λ name. same_places name c.args.starts.now c.args.place c.index-starts-place.result _ c.requires refl

pub returns-clause-ok : goal.returns-clause-ok
returns-clause-ok c =
    let old = slice_index_or c.args.starts.now c.args.place c.index-starts-place.result in
    let grown : c.from_vec-2.result ≡ old.groups ++ (c.args.group, c.args.members) ∷ [] =
    c.from_vec-2.ensures ∙ c.in_ok-push.ensures.items
    ∙ ap (λ (groups : List (Term × List Pid)). groups ++ (c.args.group, c.args.members) ∷ []) (c.into_vec-groups.ensures ∙ c.replace.ensures.value) in
    (λ i. slice_set c.args.starts.now c.args.place (record { name = old.name; made = old.made; ports = old.ports; groups = grown i }))
    ∙ changed c.args.starts.now c.args.place c.index-starts-place.result (with_group c.args.group c.args.members) c.requires
