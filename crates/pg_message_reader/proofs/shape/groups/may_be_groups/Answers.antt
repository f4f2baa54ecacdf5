use Rattle.std.proofs.Common.{Option, Bool, Some, Ok, refl, sym, ap, subst}
use Rattle.std.specs.Prelude.{is_some}
use Rattle.std.specs.Option.{option_and_then}
use Rattle.std.specs.declared.alloc.AllocError.{AllocError}
use Rattle.pg_message_types.specs.Reading.{Groups, read_each, group_of, named_once}
use Rattle.pg_message_reader.specs.Shapes.Groups.{Sees}
use Rattle.pg_message_reader.proofs.Shapes.ListShapes.{no_list}
use Rattle.pg_message_reader.proofs.Shapes.Rising.{kept}
use Rattle.pg_message_reader.proofs.shape.groups.may_be_groups.Goals as goal

pub returns-then-not-is_list : goal.returns-then-not-is_list
returns-then-not-is_list c t rest e = sym (ap (λ (o : Option Groups). is_some (option_and_then named_once o)) (no_list (read_each group_of) t (c.if-not-is_list.ensures.no c.args.levels t rest refl e)))

pub returns-in-None : goal.returns-in-None
returns-in-None c t rest e =
    sym (ap (λ (o : Option Groups). is_some (option_and_then named_once o))
    (subst (λ (o : Option Bool). Sees {E = AllocError} t (Ok o)) c.in-None.is (c.in_ok-do_ascend.ensures t rest e (c.if-not-is_list.ensures.yes c.args.levels t rest refl e))))

pub returns-then-ascend : goal.returns-then-ascend
returns-then-ascend c t rest e =
    let seen = subst (λ (o : Option Bool). Sees {E = AllocError} t (Ok o)) c.in-Some.is (c.in_ok-do_ascend.ensures t rest e (c.if-not-is_list.ensures.yes c.args.levels t rest refl e)) in
    sym (subst (λ (b : Bool). Sees {E = AllocError} t (Ok (Some b))) c.if-ascend.true seen)

pub returns-else-ascend : goal.returns-else-ascend
returns-else-ascend c t rest e =
    let five = c.if-not-is_list.ensures.yes c.args.levels t rest refl e in
    let found = subst (λ (o : Option Bool). Sees {E = AllocError} t (Ok o)) c.in-Some.is (c.in_ok-do_ascend.ensures t rest e five) in
    let seen = subst (λ (b : Bool). Sees {E = AllocError} t (Ok (Some b))) c.if-ascend.false found in
    kept t c.are_apart.result seen.0 seen.1 (λ no. c.are_apart.ensures.twice t rest no e) (λ yes. c.are_apart.ensures.once t rest yes e five)
