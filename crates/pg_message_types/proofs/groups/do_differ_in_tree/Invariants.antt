use Rattle.std.proofs.Common.{◌≡◌, true, take}
use Rattle.std.specs.List.{list_any}
use Rattle.std.specs.Ordering.{is_eq}
use Rattle.pg_term.specs.declared.term.Term.{Term}
use Rattle.pg_term.specs.Same.{same_term, term_cmp}
use Rattle.pg_message_types.specs.Reading.{is_named_once}
use Rattle.pg_message_types.proofs.groups.do_differ_in_tree.Given as goal

-- the groups so far are named once, and the tree has their names
abbrev pub invariant-loop-name : goal.invariant-loop-name
invariant-loop-name l =
    (is_named_once (take l.name-index l.groups) ≡ true)
    × ((q : Term) → list_any (λ key. is_eq (term_cmp q key.now)) l.names.keys ≡ list_any (λ group. same_term group.0 q) (take l.name-index l.groups))
