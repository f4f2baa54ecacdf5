use Rattle.std.proofs.Common.{ap, List, ◌∙◌}
use Rattle.std.specs.List.{sum_by}
use Rattle.pg_cluster.specs.Running.{clients_in}
use Rattle.pg_talk.specs.Asking.{AllKeep}
use Rattle.pg_talk.specs.Conversations.{saturated}
use Rattle.pg_talk.specs.declared.speaker.Speaker.{Speaker}
use Rattle.pg_talk.proofs.Asked.{all_counted_of, all_spoke}
use Rattle.pg_talk.proofs.Conversing.{all_counted, goes_on}
use Rattle.pg_talk.proofs.conversation.converse.Goals as goal
use Rattle.pg_talk.proofs.conversation.converse.Goals.{else-loop-test, then-loop-test+in_ok-moved+then-are_silent}

pub returns-clause-same : goal.returns-clause-same
returns-clause-same g c = elim c.loop-test.branch [
  | else-loop-test w ↦ rw w.running-is c.loop.invariant.0
  | then-loop-test+in_ok-moved+then-are_silent w ↦ rw w.running-is (goes_on _ _ _ c.loop.invariant.0 w.speak_all.ensures.same)
]

pub returns-clause-answered : goal.returns-clause-answered
returns-clause-answered g c =
    let rounds = c.args.asked.rounds in
    let kept : AllKeep rounds c.loop-test.speakers.items (clients_in c.loop-test.running) = elim c.loop-test.branch [
      | else-loop-test w ↦ rw (w.speakers-is, w.running-is) c.loop.invariant.1
      | then-loop-test+in_ok-moved+then-are_silent w ↦ rw (w.speakers-is, w.running-is) (w.speak_all.ensures.keep rounds c.loop.invariant.1)
    ] in
    c.answered_by-2.ensures ∙ ap (λ (speakers : List Speaker). saturated (sum_by (λ speaker. speaker.answered) speakers)) c.as_slice-2.ensures.value
    ∙ all_counted c.loop-test.speakers.items (clients_in c.loop-test.running) (all_counted_of rounds _ _ kept)

pub returns-clause-spoke : goal.returns-clause-spoke
returns-clause-spoke g c =
    let rounds = c.args.asked.rounds in
    let kept : AllKeep rounds c.loop-test.speakers.items (clients_in c.loop-test.running) = elim c.loop-test.branch [
      | else-loop-test w ↦ rw (w.speakers-is, w.running-is) c.loop.invariant.1
      | then-loop-test+in_ok-moved+then-are_silent w ↦ rw (w.speakers-is, w.running-is) (w.speak_all.ensures.keep rounds c.loop.invariant.1)
    ] in
    all_spoke rounds _ _ kept

pub loop-preserved : goal.loop-preserved
loop-preserved g c = (goes_on _ _ _ c.loop.invariant.0 c.speak_all.ensures.same, c.speak_all.ensures.keep c.args.asked.rounds c.loop.invariant.1)
