use Rattle.std.proofs.Common.{◌≡◌, Bool, get_or, refl, sym, ap, subst, ◌∙◌}
use Rattle.pg_cluster.specs.Running.{clients_in}
use Rattle.pg_talk.specs.Asking.{HasRest}
use Rattle.pg_talk.specs.declared.speaker.Speaker.{Speaker}
use Rattle.pg_talk.proofs.Asked.{asks, stays}
use Rattle.pg_talk.proofs.speaker.Speaker.ask.Goals as goal
use Rattle.pg_talk.proofs.speaker.Speaker.ask.Goals.{in-Ok, in-Err}

pub returns-after-submit-clause-keeps : goal.returns-after-submit-clause-keeps
returns-after-submit-clause-keeps c = λ creates rounds none kept.
    let old = c.args.self.now in
    let before = get_or (clients_in c.args.running.now) c.args.place none in
    let after = get_or (clients_in c.submit.new.self) c.args.place none in
    let at : Bool → Speaker = λ asked. record { stage = old.stage; is_asked = asked; pid = old.pid; rounds = old.rounds; answered = old.answered } in
    elim c.match-submit.branch [
      | in-Ok w ↦
          asks creates rounds old (at c.match-submit.self) before after c.in-Some.command c.requires.unasked (sym c.in_ok-command.ensures ∙ c.in-Some.is)
          (w.in-Ok.ensures.ok none) (c.submit.ensures.polled none) refl w.self-is refl refl refl kept
      | in-Err w ↦
          stays creates rounds old (at c.match-submit.self) before after c.requires.unasked w.self-is (w.in-Err.ensures.err none) (c.submit.ensures.polled none) refl refl refl refl kept
    ]
