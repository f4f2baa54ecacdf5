use Rattle.std.proofs.Common.{◌≡◌, refl, subst, sym, ◌∙◌, ◌∷◌}
use Rattle.pg_talk.specs.Desks.{waiting_at}
use Rattle.pg_talk.specs.Servings.{view_of}
use Rattle.pg_talk.proofs.Spoken.{back_served, handed_served, looked_served}
use Rattle.pg_talk.proofs.service.serving.Serving.hand_over.Goals as goal

pub returns-in_default-clause-goes : goal.returns-in_default-clause-goes
returns-in_default-clause-goes c now = record {
  kept = refl;
  goes = λ given first inputs s.
      let none = c.in_default.ensures.none in
      looked_served given first now inputs (view_of c.args.self.now) c.args.client c.index_mut.result.now c.requires.desk c.index_mut.ensures.value s c.next.new.self (none.1 ∙ sym none.0) c.in_default.ensures.same;
}

pub returns-in-Ok-clause-goes : goal.returns-in-Ok-clause-goes
returns-in-Ok-clause-goes c now = record {
  kept = refl;
  goes = λ given first inputs s.
      handed_served given first now inputs (view_of c.args.self.now) c.args.client c.index_mut.result.now c.requires.desk c.index_mut.ensures.value s c.submit.new.self c.requires.client c.in-Ok.ensures.only
      c.next.new.self c.index_mut-in-Ok.result.now c.ask.new.self c.in-Some.command c.in-Some.ensures.some c.in-Some.ensures.same c.index_mut-in-Ok.ensures.value c.ask.ensures c.requires.idle
      c.requires.there c.requires.on_time c.in-Ok.ensures.ok c.in-Ok.ensures.polled;
}

pub returns-in-Ok-put_back-clause-goes : goal.returns-in-Ok-put_back-clause-goes
returns-in-Ok-put_back-clause-goes c now = record {
  kept = refl;
  goes = λ given first inputs s.
      let y = c.index_mut-in-Err.result.now in
      let x2 = c.put_back.new.self in
      back_served given first now inputs (view_of c.args.self.now) c.args.client c.index_mut.result.now c.requires.desk c.index_mut.ensures.value s c.submit.new.self c.requires.client c.in-Err.ensures.only
      c.next.new.self y x2 c.in-Some.command c.in-Some.ensures.some c.in-Some.ensures.same c.index_mut-in-Err.ensures.value
      (subst (λ command. waiting_at x2 ≡ command ∷ waiting_at y) c.in-Err.ensures.back c.in-Ok-put_back.ensures.ok) c.in-Ok-put_back.ensures.same c.in-Err.ensures.err c.in-Err.ensures.polled;
}
