use Rattle.std.proofs.Common.{◌+◌, ◌∙◌, Bool, Result, IfErr, IfOk, ap, refl, subst, sym, List}
use Rattle.pg_term.specs.declared.term.Term.{Term}
use Rattle.pg_node.specs.Nodes.{held_by, links_of}
use Rattle.pg_node.specs.PgNodeOpens.Places.{name_at, whole_in}
use Rattle.pg_node.specs.PgNodeState.States.{answers_of, kept_by, names_of, state_of}
use Rattle.pg_node.specs.PgStep.State.{State}
use Rattle.pg_node_process.specs.Mirrors.{AreGroupsOf}
use Rattle.pg_process.specs.Situations.{situation_of}
use Rattle.pg_process.specs.Takings.{Stops, TakesOne}
use Rattle.pg_process.specs.declared.fault.ProcessFault.{ProcessFault}
use Rattle.pg_process.specs.declared.process.Process.{Process}
use Rattle.pg_process.proofs.Said.{left_are, read_fault, told_failed, told_made, took_silent, took_told}
use Rattle.pg_process.proofs.process.Process.take_packet.Goals as goal
use Rattle.pg_process.proofs.process.Process.take_packet.Goals.{in-Ok-take_read, in-Err}

pub returns-clause-made : goal.returns-clause-made
returns-clause-made c =
    let a = c.args.self.now in
    let b = c.match-take_read.self in
    let m = c.take_read.new.self in
    let packet = c.args.packet.now in
    let names = names_of (held_by a.node) in
    elim c.match-take_read.branch as (λ _. IfOk c.match-take_read.taken (λ taken. TakesOne c.args.peer taken a b)) [
      | in-Ok-take_read w ↦
          let e = w.in-Ok-take_read.ensures in
          let told = w.tell_taken-told.new.self in
          let rest = w.tell_taken-told.ensures.rest in
          let last = w.self-is in
          let left = left_are packet.message (kept_by (held_by a.node)).table w.as_slice.result.now
          (λ pid is. subst (λ (groups : List Term). AreGroupsOf (kept_by (held_by a.node)).table pid groups) (sym w.as_slice.ensures.value)
          (subst (λ (s : State). AreGroupsOf s.table pid c.in-Ok.names.items) (ap (λ n. kept_by n) c.state.ensures) (c.in-Ok.ensures.some pid (c.ended_by.ensures ∙ is)))) in
          let journal = ap (λ (p : Process). p.journal.gathered.items) last ∙ ap (λ (p : Process). p.journal.gathered.items) rest in
          let said = ap (λ (p : Process). p.outlet.gathered.items) last in
          subst (λ (r : Result Bool ProcessFault). IfOk r (λ taken. TakesOne c.args.peer taken a b)) (sym w.taken-is)
          (told_made w.tell_taken-told.result c.args.peer a b _ w.tell_taken-told.ensures.ok w.tell_taken-told.ensures.said
          (λ tells. took_told a _ told b c.args.peer packet w.in-Ok-take_read.done w.as_slice.result.now e.event left tells c.requires.peer c.requires.mirrored c.requires.next c.requires.live
          e.fits e.small e.sent e.stays.names e.stays.ports refl refl said (ap (λ (p : Process). p.told) last)
          (ap (λ (p : Process). held_by p.node) last ∙ w.reuse.ensures.held ∙ ap (λ (p : Process). held_by p.node) rest)
          (ap (λ (p : Process). links_of p.node) last ∙ w.reuse.ensures.links ∙ ap (λ (p : Process). links_of p.node) rest) journal
          (record {
            ports = ap (λ (p : Process). (situation_of p).ports) last ∙ ap (λ (p : Process). (situation_of p).ports) rest;
            courtesies = ap (λ (p : Process). (situation_of p).courtesies) last ∙ ap (λ (p : Process). (situation_of p).courtesies) rest;
            came = ap (λ (p : Process). p.came) last ∙ ap (λ (p : Process). p.came) rest;
          })))
      | in-Err w ↦ subst (λ (r : Result Bool ProcessFault). IfOk r (λ taken. TakesOne c.args.peer taken a b)) (sym w.taken-is)
          (subst (λ (p : Process). IfOk w.tell_untaken-taken.result (λ taken. TakesOne c.args.peer taken a p)) (sym w.self-is) (w.tell_untaken-taken.ensures.made a (record {
            told = read_fault names (name_at names (c.args.peer + 1)) (links_of a.node c.args.peer) (state_of (held_by a.node)) (answers_of (held_by a.node)) (whole_in names) packet c.requires.live c.requires.next
                (state_of (held_by m)) (answers_of (held_by m)) w.in-Err.fault w.in-Err.ensures.event;
            state = w.in-Err.ensures.stays.state;
            answers = w.in-Err.ensures.stays.answers;
            names = w.in-Err.ensures.stays.names;
            ports = w.in-Err.ensures.stays.ports;
            links = w.in-Err.ensures.marked;
            peers = refl;
            desks = refl;
            courtesies = refl;
            outlet = refl;
            journal = refl;
            came = refl;
            told_before = refl;
          })))
    ]

pub returns-clause-failed : goal.returns-clause-failed
returns-clause-failed c =
    let a = c.args.self.now in
    let b = c.match-take_read.self in
    let m = c.take_read.new.self in
    let packet = c.args.packet.now in
    let names = names_of (held_by a.node) in
    elim c.match-take_read.branch as (λ _. IfErr c.match-take_read.taken (λ fault. Stops c.args.peer fault a b)) [
      | in-Ok-take_read w ↦
          let e = w.in-Ok-take_read.ensures in
          let told = w.tell_taken-told.new.self in
          let rest = w.tell_taken-told.ensures.rest in
          let last = w.self-is in
          let left = left_are packet.message (kept_by (held_by a.node)).table w.as_slice.result.now
          (λ pid is. subst (λ (groups : List Term). AreGroupsOf (kept_by (held_by a.node)).table pid groups) (sym w.as_slice.ensures.value)
          (subst (λ (s : State). AreGroupsOf s.table pid c.in-Ok.names.items) (ap (λ n. kept_by n) c.state.ensures) (c.in-Ok.ensures.some pid (c.ended_by.ensures ∙ is)))) in
          let journal = ap (λ (p : Process). p.journal.gathered.items) last ∙ ap (λ (p : Process). p.journal.gathered.items) rest in
          let said = ap (λ (p : Process). p.outlet.gathered.items) last in
          subst (λ (r : Result Bool ProcessFault). IfErr r (λ fault. Stops c.args.peer fault a b)) (sym w.taken-is)
          (told_failed w.tell_taken-told.result c.args.peer a b _ w.tell_taken-told.ensures.memory w.tell_taken-told.ensures.err
          (λ cut. took_silent a told b (state_of (held_by m)) (answers_of (held_by m)) c.args.peer packet w.in-Ok-take_read.done w.as_slice.result.now e.event left cut said journal))
      | in-Err w ↦ subst (λ (r : Result Bool ProcessFault). IfErr r (λ fault. Stops c.args.peer fault a b)) (sym w.taken-is)
          (subst (λ (p : Process). IfErr w.tell_untaken-taken.result (λ fault. Stops c.args.peer fault a p)) (sym w.self-is) (w.tell_untaken-taken.ensures.failed a (record {
            told = read_fault names (name_at names (c.args.peer + 1)) (links_of a.node c.args.peer) (state_of (held_by a.node)) (answers_of (held_by a.node)) (whole_in names) packet c.requires.live c.requires.next
                (state_of (held_by m)) (answers_of (held_by m)) w.in-Err.fault w.in-Err.ensures.event;
            state = w.in-Err.ensures.stays.state;
            answers = w.in-Err.ensures.stays.answers;
            names = w.in-Err.ensures.stays.names;
            ports = w.in-Err.ensures.stays.ports;
            links = w.in-Err.ensures.marked;
            peers = refl;
            desks = refl;
            courtesies = refl;
            outlet = refl;
            journal = refl;
            came = refl;
            told_before = refl;
          })))
    ]
