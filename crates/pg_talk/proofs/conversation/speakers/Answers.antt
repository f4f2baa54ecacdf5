use Rattle.std.proofs.Common.{◌≡◌, ◌<◌, ◌+◌, ◌++◌, ◌∷◌, [], ℕ, List, length}
use Rattle.std.proofs.Common.{get_or, sym, ap, subst, ◌∙◌, arith, length-append}
use Rattle.pg_cluster.specs.PgNodeRun.Ports.{IsSilent}
use Rattle.pg_cluster.specs.PgNodeRun.declared.port.Client.{Client}
use Rattle.pg_talk.specs.Asking.{HasRest, is_first}
use Rattle.pg_talk.specs.declared.speaker.Speaker.{Speaker}
use Rattle.pg_talk.proofs.Asked.{begin_push}
use Rattle.pg_talk.proofs.conversation.speakers.Goals as goal

pub loop-place-preserved : goal.loop-place-preserved
loop-place-preserved c =
    let speakers = c.loop-place.speakers.items in
    let next = c.speaker_at.result in
    let was = c.loop-place.invariant in
    let rounds = c.args.rounds in (
      ap length c.in_ok-push.ensures.items ∙ length-append speakers (next ∷ []) ∙ ap (λ n. n + 1) was.0,
      subst (λ (xs : List Speaker). (i : ℕ) (s : Speaker) (client : Client) → i < length xs → IsSilent client → HasRest (is_first i) rounds (get_or xs i s) client) (sym c.in_ok-push.ensures.items)
          (begin_push rounds speakers next was.1 (λ client silent. subst (λ k. HasRest (is_first k) rounds next client) (sym was.0) (c.speaker_at.ensures client silent))),
    )

pub returns : goal.returns
returns c = λ clients count silent.
    let was = c.loop-place.invariant in
    let whole : length c.loop-place.speakers.items ≡ length clients = omega (arith, was.0, count, c.loop-place-test.false, c.loop-place.auto.place-end) in
    record { len = whole; each = λ i s d low. was.1 i s (get_or clients i d) (subst (λ n. i < n) (sym whole) low) (silent i d low) }
