use Rattle.std.proofs.Common.{rules, ◌≡◌, ◌∷◌, ◌++◌, [], ap, ap₂, get_or, map, sym, take, take_all, ◌∙◌}
use Rattle.std.proofs.lemmas.List.{map-append, take_more}
use Rattle.pg_node.specs.Nodes.{held_by}
use Rattle.pg_node.specs.PgNodeState.States.{kept_by, live_of}
use Rattle.pg_node.specs.PgNodeState.Waiting.{is_ready}
use Rattle.pg_node_run.specs.Follows.{node_of}
use Rattle.pg_node_run.specs.Tries.{is_ready_at}
use Rattle.pg_node.specs.PgStep.declared.command.OpId.{OpId}
use Rattle.pg_node_run.proofs.retries.ready_among.Goals as goal

pub loop-place-preserved : goal.loop-place-preserved
loop-place-preserved g c =
    let ops = c.args.ops.now in
    let place = c.loop-place.place in
    let none : OpId = record { port = 0; number = 0 } in
    let op : OpId = get_or ops place none in
    let ready = is_ready_at (node_of c.args.linked.now) in
    let here : c.is_ready.result ≡ ready op =
    c.is_ready.ensures ∙ ap (λ s. is_ready (live_of s) ((kept_by s).stages op) (kept_by s)) (c.state.ensures ∙ ap held_by c.node.ensures) in
    let next = ap (map ready) (take_more ops place none c.loop-place-test.true) ∙ map-append ready (take place ops) (op ∷ []) in (
      c.push_reserved.ensures.items ∙ (ap₂ (λ xs x. xs ++ x ∷ []) c.loop-place.invariant.0 here ∙ sym next),
      search rules,
      search rules,
    )

pub returns : goal.returns
returns g c = c.loop-place.invariant.0 ∙ ap (map (is_ready_at (node_of c.args.linked.now))) (take_all c.loop-place.place c.args.ops.now c.loop-place-test.false)
