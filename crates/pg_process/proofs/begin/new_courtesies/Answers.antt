use Rattle.std.proofs.Common.{◌≡◌, ◌+◌, ◌∙◌, List, length, sym, ap, subst}
use Rattle.pg_node_process.specs.Retries.{at_first}
use Rattle.pg_node_process.specs.declared.retries.Courtesy.{Courtesy}
use Rattle.pg_process.specs.Situations.{seen_in}
use Rattle.pg_process.proofs.Begun.{longer, none_more}
use Rattle.pg_process.proofs.begin.new_courtesies.Goals as goal

pub loop-preserved : goal.loop-preserved
loop-preserved c = record {
  count = ap (λ (cs : List Courtesy). length cs) c.in_ok-push.ensures.items ∙ (longer c.loop.courtesies.items c.new.result ∙ ap (λ n. n + 1) c.loop.invariant.count);
  new = λ place. subst (λ (cs : List Courtesy). seen_in (λ (c : Courtesy). c) at_first cs place ≡ at_first) (sym c.in_ok-push.ensures.items)
      (none_more (λ (c : Courtesy). c) at_first c.loop.courtesies.items c.new.result c.new.ensures.value c.loop.invariant.new place);
}
