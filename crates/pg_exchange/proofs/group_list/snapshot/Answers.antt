use Rattle.std.proofs.Common.{◌≡◌, List, [], ◌∷◌, ◌++◌, sym, ap, subst, ◌∙◌}
use Rattle.std.specs.List.{AllByRecursion}
use Rattle.std.specs.List.Sorted.{IsSorted}
use Rattle.std.proofs.lemmas.List.{append-nil, append_assoc, map-append, nil_from_length}
use Rattle.pg_term.specs.declared.pid.Pid.{Pid}
use Rattle.pg_term.specs.declared.term.Term.{Term}
use Rattle.pg_term.specs.Same.{term_cmp}
use Rattle.pg_group.specs.Members.{IsMemberList}
use Rattle.pg_group.specs.Scope.{anywhere}
use Rattle.pg_group.specs.Table.{AreNames}
use Rattle.pg_exchange.specs.GroupList.{GroupList, announced_names}
use Rattle.pg_exchange.proofs.Groups.{is_there, all_more}
use Rattle.pg_exchange.proofs.group_list.snapshot.Goals as goal

pub loop-name-init : goal.loop-name-init
loop-name-init g c =
    let table = g.T.GroupTable.contents c.args.table.now in
    let P : Term × List Pid → Type 0 = λ group. IsMemberList (table group.0) anywhere group.1 in
    record {
      names = ap (λ (groups : GroupList). announced_names groups ++ c.into_iter-name-iterator.result.rest.items) c.new-groups.ensures.items;
      members = subst (λ (groups : GroupList). AllByRecursion P groups) (sym c.new-groups.ensures.items) tt;
    }

pub members_of-requires : goal.members_of-requires
members_of-requires g c =
    let table = g.T.GroupTable.contents c.args.table.now in
    let so_far = announced_names c.loop-name.groups.items in
    let names : c.in_ok-which_groups.field-0 ≡ so_far ++ c.in-Some.name ∷ c.next.new.self.rest.items =
    sym (c.into_iter-name-iterator.ensures.into_iter_gives.0 ∙ c.into_vec-names.ensures) ∙ sym c.loop-name.invariant.names
    ∙ ap (λ (rest : List Term). so_far ++ rest) c.in-Some.ensures.steps.0 in
    is_there table c.in_ok-which_groups.field-0 so_far c.next.new.self.rest.items c.in-Some.name c.in_ok-which_groups.ensures.names names

pub loop-name-preserved : goal.loop-name-preserved
loop-name-preserved g c =
    let table = g.T.GroupTable.contents c.args.table.now in
    let P : Term × List Pid → Type 0 = λ group. IsMemberList (table group.0) anywhere group.1 in
    let group : Term × List Pid = (c.in-Some.name, c.in_ok-pids.pids) in
    let rest = c.next.new.self.rest.items in
    let groups = c.loop-name.groups.items in
    record {
      names = ap (λ (gs : GroupList). announced_names gs ++ rest) c.in_ok-push.ensures.items
          ∙ ap (λ (names : List Term). names ++ rest) (map-append (λ (g : Term × List Pid). g.0) groups (group ∷ []))
          ∙ append_assoc (announced_names groups) (c.in-Some.name ∷ []) rest
          ∙ ap (λ (names : List Term). announced_names groups ++ names) (sym c.in-Some.ensures.steps.0)
          ∙ c.loop-name.invariant.names;
      members = subst (λ (gs : GroupList). AllByRecursion P gs) (sym c.in_ok-push.ensures.items) (all_more P groups group c.loop-name.invariant.members c.in_ok-pids.ensures);
    }

pub returns : goal.returns
returns g c =
    let table = g.T.GroupTable.contents c.args.table.now in
    let P : Term × List Pid → Type 0 = λ group. IsMemberList (table group.0) anywhere group.1 in
    let left = c.loop-name.name-iterator.rest in
    let groups = c.loop-name.groups.items in
    let none : left.items ≡ [] = nil_from_length left.items (sym left.ok.0 ∙ c.in-None.ensures.steps.0) in
    let names : c.in_ok-which_groups.field-0 ≡ announced_names groups =
    sym (c.into_iter-name-iterator.ensures.into_iter_gives.0 ∙ c.into_vec-names.ensures) ∙ sym c.loop-name.invariant.names
    ∙ ap (λ (rest : List Term). announced_names groups ++ rest) none ∙ append-nil (announced_names groups) in
    let told = sym c.from_vec.ensures in
    record {
      names = subst (λ (gs : GroupList). AreNames table (announced_names gs)) told (subst (AreNames table) names c.in_ok-which_groups.ensures.names);
      ordered = subst (λ (gs : GroupList). IsSorted term_cmp (announced_names gs)) told (subst (IsSorted term_cmp) names c.in_ok-which_groups.ensures.ordered);
      members = subst (λ (gs : GroupList). AllByRecursion P gs) told c.loop-name.invariant.members;
    }
