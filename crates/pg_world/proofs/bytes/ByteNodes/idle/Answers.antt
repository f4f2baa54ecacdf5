use Rattle.std.proofs.Common.{◌≡◌, ◌∙◌, length, sym, arith}
use Rattle.pg_world.proofs.Linked.{idle_rows, idle_others}
use Rattle.pg_world.proofs.bytes.ByteNodes.idle.Goals as goal

pub invariant_of-result : goal.invariant_of-result
invariant_of-result g c =
    let count : c.len.result ≡ length c.args.nodes.items = omega (arith, c.len.ensures, c.args.nodes.ok) in
    let rows = idle_rows c.in_ok-rings.rings.items c.len.result c.in_ok-rings.ensures.bytes in
    record {
      rows = rows ∙ count;
      known = λ i d l. c.requires.known i d l ∙ (sym count ∙ sym rows);
      others = idle_others c.in_ok-rings.rings.items c.len.result c.in_ok-rings.ensures.bytes;
      sized = c.in_ok-rings.ensures.sized;
    }
