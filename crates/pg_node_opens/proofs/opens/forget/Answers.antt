use Rattle.std.proofs.Common.{◌∙◌, ◌<◌, length, length-set, arith}
use Rattle.std.proofs.lemmas.Option.{slice_get_within}
use Rattle.pg_node_opens.specs.Commands.{Forgets}
use Rattle.pg_node_opens.proofs.Forgotten.{forgets_more, left_more}
use Rattle.pg_node_opens.proofs.opens.forget.Goals as goal

pub loop-k-preserved : goal.loop-k-preserved
loop-k-preserved c =
    let was = c.loop-k.invariant in
    let before = c.loop-k.commands.items in
    let within : c.loop-k.k < length before = omega (arith, c.loop-k-test.true, c.len-k-end.ensures, was.len) in
    let forgot : Forgets c.args.place c.index_mut.result.now c.forget.new.self = c.forget.ensures in
    record {
      len = length-set before c.loop-k.k c.forget.new.self ∙ was.len;
      done = forgets_more c.args.place c.loop-k.k c.args.commands.now.items before c.index_mut.result.now c.forget.new.self within c.index_mut.ensures.value forgot was.done was.left;
      left = left_more c.args.place c.loop-k.k c.args.commands.now.items before c.index_mut.result.now c.forget.new.self within c.index_mut.ensures.value forgot was.done was.left;
    }

pub returns-clause-each : goal.returns-clause-each
returns-clause-each c k old new was now =
    let within = slice_get_within c.args.commands.now.items k old was in
    c.loop-k.invariant.done k old new (omega (arith, within, c.loop-k-test.false, c.loop-k.auto.k-end, c.loop-k.invariant.len, c.len-k-end.ensures)) was now
