use Rattle.std.proofs.Common.{◌≡◌, ◌∷◌, [], List, sym, ap, subst, ◌∙◌}
use Rattle.std.proofs.lemmas.List.{nil_from_length}
use Rattle.std.specs.Vec.Iter.{into_iter_items}
use Rattle.pg_term.specs.declared.pid.Pid.{Pid}
use Rattle.pg_group.specs.Ended.{ended_of}
use Rattle.pg_group.specs.Table.{Table, GroupList, merged, all_merged, AreAbsent}
use Rattle.pg_index.specs.Index.{table_of}
use Rattle.pg_index.proofs.Grown.{not_grown, unnumbered}
use Rattle.pg_index.proofs.index_table.IndexTable.merge_each.Goals as goal

pub loop-name-init : goal.loop-name-init
loop-name-init c =
    let table = table_of c.args.self.now.numbers c.args.self.now.memberships in
    let all : into_iter_items c.into_iter-name-iterator.result ≡ c.args.groups.items = c.into_iter-name-iterator.ensures.into_iter_gives.0 in
    record {
      rest = ap (λ (groups : GroupList). all_merged table groups (ended_of c.args.ended.now)) all;
      absent = subst (AreAbsent table) (sym all) c.requires;
      kept = not_grown c.args.self.now.numbers c.args.self.now.memberships;
    }

pub returns-in_err-merge_own-clause-kept : goal.returns-in_err-merge_own-clause-kept
returns-in_err-merge_own-clause-kept c =
    let numbers = c.args.self.now.numbers in
    let memberships = c.args.self.now.memberships in
    let absent : AreAbsent (table_of numbers memberships) ((c.in-Some.name, c.in-Some.members) ∷ into_iter_items c.next.new.self) = subst (AreAbsent (table_of numbers memberships)) c.in-Some.ensures.steps.0 c.loop-name.invariant.absent in
    c.merge_own.ensures.kept numbers memberships (unnumbered numbers memberships c.in-Some.name absent.0) c.loop-name.invariant.kept

pub loop-name-preserved : goal.loop-name-preserved
loop-name-preserved c =
    let numbers = c.args.self.now.numbers in
    let memberships = c.args.self.now.memberships in
    let ended = ended_of c.args.ended.now in
    let old = table_of c.loop-name.self.numbers c.loop-name.self.memberships in
    let rest = into_iter_items c.next.new.self in
    let absent : AreAbsent (table_of numbers memberships) ((c.in-Some.name, c.in-Some.members) ∷ rest) = subst (AreAbsent (table_of numbers memberships)) c.in-Some.ensures.steps.0 c.loop-name.invariant.absent in
    record {
      rest = ap (λ (t : Table). all_merged t rest ended) (c.in_ok-merge_own.ensures.ok ∙ ap (λ (pids : List Pid). merged old c.in-Some.name pids ended) c.as_slice.ensures)
          ∙ ap (λ (groups : GroupList). all_merged old groups ended) (sym c.in-Some.ensures.steps.0) ∙ c.loop-name.invariant.rest;
      absent = absent.1;
      kept = c.merge_own.ensures.kept numbers memberships (unnumbered numbers memberships c.in-Some.name absent.0) c.loop-name.invariant.kept;
    }

pub returns-clause-ok : goal.returns-clause-ok
returns-clause-ok c =
    let rest = into_iter_items c.loop-name.name-iterator in
    let none : rest ≡ [] = nil_from_length rest (sym c.loop-name.name-iterator.rest.ok.0 ∙ c.in-None.ensures.steps.0) in
    ap (λ (groups : GroupList). all_merged (table_of c.loop-name.self.numbers c.loop-name.self.memberships) groups (ended_of c.args.ended.now)) (sym none) ∙ c.loop-name.invariant.rest

pub returns-clause-kept : goal.returns-clause-kept
returns-clause-kept c = c.loop-name.invariant.kept
