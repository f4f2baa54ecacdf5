use Rattle.std.proofs.Common.{◌∙◌, refl, ap, sym, subst, arith}
use Rattle.pg_node_ports.specs.PgGroup.Value.{name_of}
use Rattle.pg_node_ports.specs.PgNodeOpens.Opens.{Shows, live_of, stages_of}
use Rattle.pg_node_ports.specs.PgNodeOpens.Readings.{is_locking, is_updating}
use Rattle.pg_node_ports.specs.PgStep.Turns.{NodeTurn}
use Rattle.pg_node_state.proofs.Alone.{no_peers}
use Rattle.pg_node_state.proofs.Attempted.{attempt_ends, lone_turn}
use Rattle.pg_node_state.proofs.First.{WaitsWith, waits_with, granting, shows_granting, granted_there}
use Rattle.pg_node_state.proofs.First.{use_asked, shows_rest, use_rest, use_begun, shows_ended}
use Rattle.pg_node_state.proofs.Turned.{own_apart}
use Rattle.pg_node_state.proofs.state.first.end_alone.Goals as goal

pub ask-requires : goal.ask-requires
ask-requires c =
    let old = c.args.opens.now in
    let waiting : WaitsWith (stages_of old c.args.op) = waits_with (stages_of old c.args.op) c.requires.waits in
    let grants = granted_there (live_of old) old (name_of waiting.update) in
    let asked = c.ask_first.ensures.turned waiting.update waiting.is (granting old) (shows_granting old) grants in
    record {
      locking = ap is_locking (use_asked old c.args.op waiting.update (granting old) (shows_granting old) c.references-number.result c.ask_first.new.opens c.ask_first.ensures.nodes asked
          (c.references-number.ensures ∙ sym asked.references) grants);
      who = refl;
    }

pub begin-requires : goal.begin-requires
begin-requires c =
    let old = c.args.opens.now in
    let waiting : WaitsWith (stages_of old c.args.op) = waits_with (stages_of old c.args.op) c.requires.waits in
    let grants = granted_there (live_of old) old (name_of waiting.update) in
    let asked = c.ask_first.ensures.turned waiting.update waiting.is (granting old) (shows_granting old) grants in
    let number = c.references-number.ensures ∙ sym asked.references in
    let rest = shows_rest old c.args.op waiting.update (granting old) (shows_granting old) c.references-number.result c.ask_first.new.opens c.ask_first.ensures.nodes asked number grants (sym c.requires.own) c.ask.new.self c.ask.ensures.nodes c.ask.ensures.turned in
    record {
      locking = ap is_locking (use_rest old c.args.op waiting.update (granting old) (shows_granting old) c.references-number.result c.ask_first.new.opens c.ask_first.ensures.nodes asked number grants (sym c.requires.own) c.ask.new.self c.ask.ensures.nodes c.ask.ensures.turned);
      next = omega (arith, rest.references, c.requires.next);
    }

pub finish-requires : goal.finish-requires
finish-requires c =
    let old = c.args.opens.now in
    let waiting : WaitsWith (stages_of old c.args.op) = waits_with (stages_of old c.args.op) c.requires.waits in
    let grants = granted_there (live_of old) old (name_of waiting.update) in
    let asked = c.ask_first.ensures.turned waiting.update waiting.is (granting old) (shows_granting old) grants in
    let number = c.references-number.ensures ∙ sym asked.references in
    record {
      updating = ap is_updating (use_begun old c.args.op waiting.update (granting old) (shows_granting old) c.references-number.result c.ask_first.new.opens c.ask_first.ensures.nodes asked number grants (sym c.requires.own)
          c.ask.new.self c.ask.ensures.nodes c.ask.ensures.turned c.begin.new.self c.begin.ensures.nodes c.begin.ensures.turned);
    }

pub overflow_add-number : goal.overflow_add-number
overflow_add-number c =
    let old = c.args.opens.now in
    let waiting : WaitsWith (stages_of old c.args.op) = waits_with (stages_of old c.args.op) c.requires.waits in
    let asked = c.ask_first.ensures.turned waiting.update waiting.is (granting old) (shows_granting old) (granted_there (live_of old) old (name_of waiting.update)) in
    omega (arith, c.references-number.ensures, asked.references, c.requires.next)

pub returns-clause-turned : goal.returns-clause-turned
returns-clause-turned c = λ update is s h grants.
    let old = c.args.opens.now in
    let own = sym c.requires.own in
    let asked = c.ask_first.ensures.turned update is s h grants in
    let number = c.references-number.ensures ∙ sym asked.references in
    let ended : Shows c.finish.new.self (lone_turn (live_of old) c.args.op update s own (own_apart old)).state =
    shows_ended old c.args.op update s h c.references-number.result c.ask_first.new.opens c.ask_first.ensures.nodes asked number grants own
    c.ask.new.self c.ask.ensures.nodes c.ask.ensures.turned c.begin.new.self c.begin.ensures.nodes c.begin.ensures.turned c.finish.new.self c.finish.ensures.turned in
    subst (λ (t : NodeTurn). Shows c.finish.new.self t.state) (sym (attempt_ends (live_of old) c.args.op update s own (own_apart old) grants (no_peers (live_of old) c.requires.alone))) ended
