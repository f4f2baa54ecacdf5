use Rattle.std.proofs.Common.{◌≡◌, ◌+◌, ◌∙◌, List, length, sym, ap, subst}
use Rattle.pg_node_process.specs.Desks.{nothing_came, port_of}
use Rattle.pg_node_process.specs.declared.desk.Desk.{Desk}
use Rattle.pg_process.specs.Situations.{seen_in}
use Rattle.pg_process.proofs.Begun.{longer, none_more}
use Rattle.pg_process.proofs.begin.new_desks.Goals as goal

pub loop-preserved : goal.loop-preserved
loop-preserved c = record {
  count = ap (λ (ds : List Desk). length ds) c.in_ok-push.ensures.items ∙ (longer c.loop.desks.items c.new.result ∙ ap (λ n. n + 1) c.loop.invariant.count);
  new = λ place. subst (λ (ds : List Desk). seen_in port_of nothing_came ds place ≡ nothing_came) (sym c.in_ok-push.ensures.items)
      (none_more port_of nothing_came c.loop.desks.items c.new.result c.new.ensures c.loop.invariant.new place);
}
