use Rattle.std.proofs.Common.{◌+◌, ◌∙◌, ℕ, Ok, refl, ap}
use Rattle.pg_node.specs.Bytes.{next_packet}
use Rattle.pg_node.specs.Links.{Link}
use Rattle.pg_node.specs.Nodes.{has_lost, held_by, links_of, read_next}
use Rattle.pg_node.specs.PgNodeOpens.Places.{name_at, whole_in}
use Rattle.pg_node.specs.PgNodeState.Issued.{ports_of}
use Rattle.pg_node.specs.PgNodeState.States.{names_of, state_of, answers_of}
use Rattle.pg_node.proofs.Events.{read_is, tells_ok}
use Rattle.pg_process.proofs.Said.{rested_failed, rested_made, unread_fault}
use Rattle.pg_process.proofs.Taken.{took_none}
use Rattle.pg_process.proofs.process.Process.take_mirrored.Goals as goal

pub take_packet-taken-requires-clause-next : goal.take_packet-taken-requires-clause-next
take_packet-taken-requires-clause-next c =
    let a = c.args.self.now in
    let link = links_of a.node c.args.peer in
    let lost = has_lost (held_by a.node) c.args.peer in
    ap (λ (links : ℕ → Link). next_packet (links c.args.peer)) c.in-Ok-Some.ensures.same
    ∙ ((read_is lost link c.in-Ok-Some.field-0 (tells_ok (read_next lost link) c.in-Ok-Some.field-0 c.in-Ok-Some.ensures.told)).1 ∙ ap (λ o. Ok o) c.in-Ok-Some.field-0-is)

pub returns-in-Ok-Some-clause-made : goal.returns-in-Ok-Some-clause-made
returns-in-Ok-Some-clause-made c =
    let e = c.in-Ok-Some.ensures in
    rested_made c.args.self.now _ c.take_packet-taken.new.self
    (took_none c.args.self.now _ (ap (λ n. state_of n) e.state) (ap (λ n. answers_of n) e.state) (ap (λ n. names_of n) e.state) (ap (λ n. ports_of n) e.state) e.same refl refl
    (record { ports = refl; courtesies = refl; came = refl }) refl)
    c.take_packet-taken.result c.args.peer c.take_packet-taken.ensures.made

pub returns-in-Ok-Some-clause-failed : goal.returns-in-Ok-Some-clause-failed
returns-in-Ok-Some-clause-failed c =
    let e = c.in-Ok-Some.ensures in
    rested_failed c.args.self.now _ c.take_packet-taken.new.self
    (took_none c.args.self.now _ (ap (λ n. state_of n) e.state) (ap (λ n. answers_of n) e.state) (ap (λ n. names_of n) e.state) (ap (λ n. ports_of n) e.state) e.same refl refl
    (record { ports = refl; courtesies = refl; came = refl }) refl)
    c.take_packet-taken.result c.args.peer c.take_packet-taken.ensures.failed

pub returns-in-Err-clause-made : goal.returns-in-Err-clause-made
returns-in-Err-clause-made c =
    let a = c.args.self.now in
    let e = c.in-Err.ensures in
    let names = names_of (held_by a.node) in
    c.tell_untaken.ensures.made a (record {
      told = unread_fault names (name_at names (c.args.peer + 1)) (links_of a.node c.args.peer) (state_of (held_by a.node)) (answers_of (held_by a.node)) (whole_in names) c.in-Err.fault e.told;
      state = ap (λ n. state_of n) e.state;
      answers = ap (λ n. answers_of n) e.state;
      names = ap (λ n. names_of n) e.state;
      ports = ap (λ n. ports_of n) e.state;
      links = e.marked;
      peers = refl;
      desks = refl;
      courtesies = refl;
      outlet = refl;
      journal = refl;
      came = refl;
      told_before = refl;
    })

pub returns-in-Err-clause-failed : goal.returns-in-Err-clause-failed
returns-in-Err-clause-failed c =
    let a = c.args.self.now in
    let e = c.in-Err.ensures in
    let names = names_of (held_by a.node) in
    c.tell_untaken.ensures.failed a (record {
      told = unread_fault names (name_at names (c.args.peer + 1)) (links_of a.node c.args.peer) (state_of (held_by a.node)) (answers_of (held_by a.node)) (whole_in names) c.in-Err.fault e.told;
      state = ap (λ n. state_of n) e.state;
      answers = ap (λ n. answers_of n) e.state;
      names = ap (λ n. names_of n) e.state;
      ports = ap (λ n. ports_of n) e.state;
      links = e.marked;
      peers = refl;
      desks = refl;
      courtesies = refl;
      outlet = refl;
      journal = refl;
      came = refl;
      told_before = refl;
    })
