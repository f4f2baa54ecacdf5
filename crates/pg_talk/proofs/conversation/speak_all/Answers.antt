use Rattle.std.proofs.Common.{◌<◌, length, ◌∙◌, arith}
use Rattle.pg_cluster.specs.ClientsLaws.{all_same_on}
use Rattle.pg_cluster.specs.Running.{clients_in}
use Rattle.pg_talk.specs.Asking.{HasRest, is_first}
use Rattle.pg_talk.proofs.Asked.{keep_after}
use Rattle.pg_talk.proofs.conversation.speak_all.Goals as goal

pub loop-place-preserved : goal.loop-place-preserved
loop-place-preserved c =
    let clients = clients_in c.loop-place.running in
    let place = c.loop-place.place in
    let was = c.loop-place.invariant in
    let only = c.speak.ensures.only in (
      record { same = all_same_on _ _ _ was.0.same only.same; cluster = only.cluster ∙ was.0.cluster; config = only.config ∙ was.0.config },
      λ rounds kept.
          let all = was.1 rounds kept in
          let within : place < length clients = omega (arith, all.len, c.loop-place-test.true) in
          keep_after rounds c.loop-place.speakers.items clients (clients_in c.speak.new.running) place c.speak.new.self within only.count only.others
          (λ client. c.speak.ensures.keeps (is_first place) rounds client (rw c.index_mut-speaker.ensures.value (all.each place c.index_mut-speaker.result.now client within))) all,
    )

pub returns-in_err-speak-clause-keep : goal.returns-in_err-speak-clause-keep
returns-in_err-speak-clause-keep c = λ rounds kept.
    let clients = clients_in c.loop-place.running in
    let place = c.loop-place.place in
    let only = c.speak.ensures.only in
    let all = c.loop-place.invariant.1 rounds kept in
    let within : place < length clients = omega (arith, all.len, c.loop-place-test.true) in
    keep_after rounds c.loop-place.speakers.items clients (clients_in c.speak.new.running) place c.speak.new.self within only.count only.others
    (λ client. c.speak.ensures.keeps (is_first place) rounds client (rw c.index_mut-speaker.ensures.value (all.each place c.index_mut-speaker.result.now client within))) all

pub returns-then-is_some_and-clause-keep : goal.returns-then-is_some_and-clause-keep
returns-then-is_some_and-clause-keep c = λ rounds kept. c.begin_all.ensures rounds (clients_in c.loop-place.running) (c.loop-place.invariant.1 rounds kept)
