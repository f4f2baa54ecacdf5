use Rattle.std.proofs.Common.{arith, take, drop, length, ◌-◌, ◌≡◌}
use Rattle.std.proofs.Math.Seq.{take-add}
use Rattle.std.proofs.lemmas.List.{length-drop, take_rest}
use Rattle.pg_test_bytes.proofs.rings.threads.put_all.Goals as goal

-- the bytes that were put now stand behind those that were put before
pub loop-preserved : goal.loop-preserved
loop-preserved g c =
    let bytes = c.args.bytes.now in
    let count = c.loop.count in
    let rest : take (length bytes - count) (drop count bytes) ≡ drop count bytes = take_rest bytes count in
    let put = rw rest at c.put-more.ensures.moved in
    let before = take count bytes in
    let now = take c.put-more.result (drop count bytes) in
    let joined = g.met.L.Link.composes c.args.link.now c.loop.link c.put-more.new.self before now c.loop.invariant.1 put in (
      omega (arith, c.put-more.ensures.within, length-drop count bytes),
      rw (take-add count c.put-more.result bytes) joined,
    )
