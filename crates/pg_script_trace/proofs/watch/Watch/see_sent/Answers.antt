use Rattle.std.proofs.Common.{◌≡◌, ◌++◌, ◌-◌, [], ◌∷◌, length, map, ap, ◌∙◌, arith}
use Rattle.std.specs.List.{range_with_len}
use Rattle.pg_script_trace.specs.Watched.{sent_on}
use Rattle.pg_script_trace.proofs.Sending.{sees_more}
use Rattle.pg_script_trace.proofs.watch.Watch.see_sent.Goals as goal

pub loop-packet-preserved : goal.loop-packet-preserved
loop-packet-preserved c =
    let held = c.loop-packet.invariant in
    let line = c.args.self.now.line in (
      c.see_letter.ensures.names ∙ held.0,
      c.see_letter.ensures.line ∙ held.1,
      c.see_letter.ensures.letters ∙ held.2,
      omega (arith, held.3),
      omega (arith, held.3, held.4, c.loop-packet-test.true),
      sees_more (sent_on line) c.args.self.now.sights.items c.loop-packet.self.sights.items c.see_letter.new.self.sights.items c.args.first c.loop-packet.packet held.3 held.5
          (c.in_ok-see_letter.ensures.seen ∙ ap (λ n. c.loop-packet.self.sights.items ++ sent_on n c.loop-packet.packet ∷ []) held.1),
    )

pub returns-clause-seen : goal.returns-clause-seen
returns-clause-seen c =
    let held = c.loop-packet.invariant in
    let all : c.loop-packet.packet - c.args.first ≡ length c.args.self.now.letters.items - c.args.first =
    omega (arith, held.3, held.4, c.loop-packet-test.false, c.len-packet-end.ensures, c.args.self.now.letters.ok.0) in
    held.5 ∙ ap (λ n. c.args.self.now.sights.items ++ map (sent_on c.args.self.now.line) (range_with_len c.args.first n)) all
