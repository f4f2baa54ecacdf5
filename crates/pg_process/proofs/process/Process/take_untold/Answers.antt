use Rattle.std.proofs.Common.{◌+◌, ◌++◌, ◌∙◌, Bool, Ok, refl, sym, ap, subst}
use Rattle.std.specs.List.{flat_map}
use Rattle.pg_node.specs.Nodes.{has_lost, held_by, links_of, TakesNext}
use Rattle.pg_node.specs.PgNodeOpens.Places.{name_at, whole_in}
use Rattle.pg_node.specs.PgNodeState.Issued.{ports_of}
use Rattle.pg_node.specs.PgNodeState.States.{names_of, state_of, answers_of}
use Rattle.pg_node_process.specs.Outputs.{said as bytes_said}
use Rattle.pg_node_run.proofs.Taking.{took_fault, took_nothing}
use Rattle.pg_process.specs.Deeds.{formed_said, told_formed, told_next}
use Rattle.pg_process.specs.Locks.{is_formed}
use Rattle.pg_process.specs.Situations.{setting_of, situation_of}
use Rattle.pg_process.specs.declared.process.Process.{Process}
use Rattle.pg_process.proofs.Said.{formed_framed, formed_is, untold_said}
use Rattle.pg_process.proofs.Taken.{none_there, took_none, took_one}
use Rattle.pg_process.proofs.process.Process.take_untold.Goals as goal

pub returns-in_ok-say_formed-in-Ok-Some-clause-made : goal.returns-in_ok-say_formed-in-Ok-Some-clause-made
returns-in_ok-say_formed-in-Ok-Some-clause-made c =
    let a = c.args.self.now in
    let m = c.take.new.self in
    let b = c.say_formed.new.self in
    let e = c.in-Ok-Some.ensures in
    let said = c.in_ok-say_formed-in-Ok-Some.ensures in
    let done = c.in-Ok-Some.done in
    let is = c.in-Ok-Some.field-0-is in
    let node = ap (λ (p : Process). p.node) said.rest in
    let held = ap (λ n. held_by n) node ∙ c.reuse.ensures.held in
    let names = ap (λ n. names_of n) held ∙ e.stays.names in
    let formed = is_formed (setting_of b) (situation_of b) in
    let same = ap (λ (p : Process). is_formed (setting_of p) (situation_of p)) said.rest in
    took_one a b c.args.peer done (state_of (held_by m)) (answers_of (held_by m)) (links_of m) c.requires.peer
    (subst (λ o. TakesNext (names_of (held_by a.node)) (told_next (setting_of a) (situation_of a) c.args.peer) (Ok o) (state_of (held_by a.node)) (state_of (held_by m)) (answers_of (held_by a.node)) (answers_of (held_by m))) is e.event)
    (e.fits done (ap (λ o. Ok o) is)) (e.small done (ap (λ o. Ok o) is)) (e.sent done (ap (λ o. Ok o) is))
    (ap (λ n. state_of n) held) (ap (λ n. answers_of n) held) (ap (λ n. links_of n) node ∙ c.reuse.ensures.links) names (ap (λ n. ports_of n) held ∙ e.stays.ports)
    (formed_said formed a.told.formed)
    (λ act taken. untold_said (setting_of a) c.args.peer act (situation_of a) (situation_of b) formed c.requires.untold (formed_is (setting_of b) (setting_of a) (situation_of b) (situation_of b) names refl)
    (said.told ∙ ap (λ (f : Bool). told_formed f a.told) (sym same)) taken)
    (formed_framed formed a.told.formed)
    (said.said ∙ ap (λ (f : Bool). a.outlet.gathered.items ++ flat_map bytes_said (formed_said f a.told.formed)) (sym same)) (ap (λ (p : Process). p.journal.gathered.items) said.rest)
    (record { ports = ap (λ (p : Process). (situation_of p).ports) said.rest; courtesies = ap (λ (p : Process). (situation_of p).courtesies) said.rest; came = ap (λ (p : Process). p.came) said.rest })

pub returns-in-Ok-None-clause-made : goal.returns-in-Ok-None-clause-made
returns-in-Ok-None-clause-made c =
    let a = c.args.self.now in
    let m = c.take.new.self in
    let e = c.in-Ok-None.ensures in
    let is = c.in-Ok-None.field-0-is in
    let names = names_of (held_by a.node) in
    let link = links_of a.node c.args.peer in
    let none = took_nothing names (whole_in names) (name_at names (c.args.peer + 1)) link (state_of (held_by a.node)) (state_of (held_by m)) (answers_of (held_by a.node)) (answers_of (held_by m))
    (subst (λ o. TakesNext names (told_next (setting_of a) (situation_of a) c.args.peer) (Ok o) (state_of (held_by a.node)) (state_of (held_by m)) (answers_of (held_by a.node)) (answers_of (held_by m))) is e.event) in (
      took_none a _ none.1.0 none.1.1 e.stays.names e.stays.ports (e.none (ap (λ o. Ok o) is)) refl refl (record { ports = refl; courtesies = refl; came = refl }) refl,
      none_there (has_lost (held_by a.node) c.args.peer) link none.0,
    )

pub returns-in-Err-clause-made : goal.returns-in-Err-clause-made
returns-in-Err-clause-made c =
    let a = c.args.self.now in
    let m = c.take.new.self in
    let e = c.in-Err.ensures in
    let names = names_of (held_by a.node) in
    c.tell_untaken.ensures.made a (record {
      told = took_fault names (whole_in names) (name_at names (c.args.peer + 1)) (links_of a.node c.args.peer) (state_of (held_by a.node)) (state_of (held_by m)) (answers_of (held_by a.node)) (answers_of (held_by m))
          (told_next (setting_of a) (situation_of a) c.args.peer) c.in-Err.fault e.event;
      state = e.stays.state;
      answers = e.stays.answers;
      names = e.stays.names;
      ports = e.stays.ports;
      links = e.marked;
      peers = refl;
      desks = refl;
      courtesies = refl;
      outlet = refl;
      journal = refl;
      came = refl;
      told_before = refl;
    })

pub returns-in-Err-clause-failed : goal.returns-in-Err-clause-failed
returns-in-Err-clause-failed c =
    let a = c.args.self.now in
    let m = c.take.new.self in
    let e = c.in-Err.ensures in
    let names = names_of (held_by a.node) in
    c.tell_untaken.ensures.failed a (record {
      told = took_fault names (whole_in names) (name_at names (c.args.peer + 1)) (links_of a.node c.args.peer) (state_of (held_by a.node)) (state_of (held_by m)) (answers_of (held_by a.node)) (answers_of (held_by m))
          (told_next (setting_of a) (situation_of a) c.args.peer) c.in-Err.fault e.event;
      state = e.stays.state;
      answers = e.stays.answers;
      names = e.stays.names;
      ports = e.stays.ports;
      links = e.marked;
      peers = refl;
      desks = refl;
      courtesies = refl;
      outlet = refl;
      journal = refl;
      came = refl;
      told_before = refl;
    })
