use Rattle.std.proofs.Common.{◌<◌, length, refl, arith}
use Rattle.pg_talk.specs.Asking.{is_first}
use Rattle.pg_talk.proofs.Asked.{keep_after}
use Rattle.pg_talk.proofs.conversation.begin_all.Goals as goal

pub loop-place-preserved : goal.loop-place-preserved
loop-place-preserved c = λ rounds clients kept.
    let all = c.loop-place.invariant rounds clients kept in
    let place = c.loop-place.place in
    let low : place < length clients = omega (arith, all.len, c.loop-place-test.true) in
    keep_after rounds c.loop-place.speakers.items clients clients place c.begin.new.self low refl (λ i client other. refl)
    (λ client. c.begin.ensures (is_first place) rounds _ (rw c.index_mut.ensures.value (all.each place c.index_mut.result.now client low))) all
