use Rattle.std.proofs.Common.{◌≡◌, ◌∙◌, ◌+◌, ℕ, List, true, ap, subst}
use Rattle.std.specs.Prelude.{OnErr}
use Rattle.pg_node_ports.specs.PgStep.Machines.Clocked.{Timed}
use Rattle.pg_node_ports.specs.PgMulticall.Gathered.{what_of}
use Rattle.pg_node_ports.specs.PgNodeOpens.Places.{name_at}
use Rattle.pg_node_ports.specs.PgRefs.Numbered.{numbered}
use Rattle.pg_node_ports.specs.PgStep.declared.answer.Answer.{Answer}
use Rattle.pg_node_ports.specs.PgStep.Attempts.{gathered, use_of}
use Rattle.pg_node_ports.specs.PgStep.State.{State}
use Rattle.pg_node_state.specs.States.{names_of, live_of, kept_by, state_of, answers_of, is_counted}
use Rattle.pg_node_state.proofs.Replied.{comes_as}
use Rattle.pg_node_state.proofs.state.NodeState.take_numbered.Goals as goal

pub returns-clause-comes : goal.returns-clause-comes
returns-clause-comes g c =
    let old = c.args.self.now in
    let sought = c.look_for.new.self in
    comes_as c.args.clock c.args.peer c.args.number c.args.said (names_of old) (names_of sought) (live_of old) (live_of sought) (kept_by old) (kept_by sought) (answers_of old) (answers_of sought)
    c.take_looked_for.result (state_of c.take_looked_for.new.self) (answers_of c.take_looked_for.new.self)
    c.look_for.ensures.names c.look_for.ensures.live (ap (λ (x : Timed State). x.state) c.look_for.ensures.state) c.look_for.ensures.answers c.take_looked_for.ensures.comes

pub returns-clause-light : goal.returns-clause-light
returns-clause-light g c = λ light.
    c.take_looked_for.ensures.light
    ((λ i. is_counted (what_of true (gathered (use_of (c.look_for.ensures.live i) (numbered (c.look_for.ensures.live i).own c.args.number) (c.look_for.ensures.state i).state) (name_at (c.look_for.ensures.names i) (c.args.peer + 1))))) ∙ light)

pub returns-clause-stays : goal.returns-clause-stays
returns-clause-stays g c =
    let h = c.take_looked_for.ensures.stays in
    record {
      state = subst (λ (s : Timed State). OnErr c.take_looked_for.result (state_of c.take_looked_for.new.self ≡ s)) c.look_for.ensures.state h.state;
      answers = subst (λ (answers : ℕ → List Answer). OnErr c.take_looked_for.result (answers_of c.take_looked_for.new.self ≡ answers)) c.look_for.ensures.answers h.answers;
      names = h.names ∙ c.look_for.ensures.names;
      ports = h.ports ∙ c.look_for.ensures.ports;
      forgotten = h.forgotten ∙ c.look_for.ensures.forgotten;
    }
