use Rattle.std.proofs.Common.{◌≡◌, suc, ◌-◌, List, map, length, Some, refl, sym, ap, ◌∙◌, arith}
use Rattle.std.specs.List.{slice_get}
use Rattle.pg_term.specs.declared.pid.Pid.{Pid}
use Rattle.pg_term.specs.declared.term.Term.TheVariants.{Pid as Process}
use Rattle.pg_term_io.specs.Reading.{items_at, item_at, with_front}
use Rattle.pg_message_reader.proofs.Shapes.Alike.{numbered}
use Rattle.pg_message_reader.proofs.Ends.{ends_at, ends_more, last_is, row_alike}
use Rattle.pg_message_reader.proofs.direct.groups.alike_at.Goals as goal

pub loop-more-init : goal.loop-more-init
loop-more-init c = record { ends = ends_at c.args.pids.now.items c.args.last.now c.requires; fewer = omega arith; rows = λ room. refl }

pub loop-more-preserved : goal.loop-more-preserved
loop-more-preserved c =
    let pids = c.loop-more.pids.items in
    let last = c.loop-more.invariant.ends in
    let begun = c.in-Some-numbers_at.ensures in
    let found : slice_get pids (length pids - 1) ≡ Some c.in-Some-last.before.now = sym (ap (λ (ps : List Pid). slice_get ps (length ps - 1)) c.deref.ensures.value) ∙ sym c.in-Some-last.ensures.value in
    let before = last_is pids last.front last.pid c.in-Some-last.before.now last.are found in
    let node : c.in_ok-node.node ≡ last.pid.node = c.in_ok-node.ensures ∙ ap (λ (p : Pid). p.node) before in
    let pid : Pid = record { node = c.in_ok-node.node; serial = c.in-Some-numbers_at.serial; id = c.in-Some-numbers_at.id; creation = c.in-Some-numbers_at.creation } in
    let same : pid ≡ numbered last.pid.node begun.0 = (λ i. record { node = node i; serial = begun.4 i; id = begun.3 i; creation = begun.5 i }) in
    rw c.in_ok-push.ensures.items (record {
      ends = ends_more pids c.args.last.now last pid node;
      fewer = omega (arith, c.loop-more.invariant.fewer);
      rows = λ room. row_alike room c.loop-more.more pids c.args.last.now c.in-Some.head.now begun.0 c.loop-more.rest.now c.in-Some-numbers_at.after.now
          (with_front (map Process c.args.pids.now.items) (items_at (item_at (suc room)) c.args.count c.args.bytes.now))
          last c.in-Some.ensures.some begun.1 begun.2 begun.6 pid same (omega (arith, c.loop-more-test.true)) (c.loop-more.invariant.rows room);
    })
