use Rattle.std.proofs.Common.{◌≡◌, ◌<◌, ◌+◌, ◌++◌, ◌∙◌, ℕ, List, append-nil, Some, Ok, inl, inr, length, refl, sym, ap, subst, arith}
use Rattle.std.specs.Prelude.{slice_set}
use Rattle.std.specs.Option.{option_map}
use Rattle.pg_node.specs.Links.{Link}
use Rattle.pg_node.specs.Nodes.{held_by, links_of}
use Rattle.pg_node.specs.PgNodeState.Issued.{ports_of}
use Rattle.pg_node.specs.PgNodeState.declared.state.fault.NodeFault.TheVariants.{Refused}
use Rattle.pg_node.specs.PgNodeState.States.{kept_by, names_of, nodes_of, state_of, answers_of}
use Rattle.pg_node.specs.PgStep.Faults.{refusal_number_of}
use Rattle.pg_node.specs.PgStep.Step.{Issue, step_act}
use Rattle.pg_node.specs.PgStep.declared.refusal.Refusal.TheVariants as refusals
use Rattle.pg_node_process.specs.declared.desk.Desk.{Desk}
use Rattle.pg_node_process.specs.Desks.{Handed as Opened, HandsOver, Port, Rests, nothing_came, port_after, port_of, with_answer}
use Rattle.pg_node_process.specs.Logs.{Handed as LoggedHand, entry_bytes}
use Rattle.pg_node_requests.specs.Replies.{refused_term}
use Rattle.pg_node_run.specs.Acts.{Did, Given, Standing, act_step}
use Rattle.pg_process.specs.Changes.{HasNothing, LeavesFor, told_of_change}
use Rattle.pg_process.specs.Deeds.{Handed, IsReply, number_of}
use Rattle.pg_process.specs.Situations.{Setting, Situation, at_place, seen_in, setting_of, situation_of}
use Rattle.pg_process.proofs.Acted.{alike_settings, alike_standings, did_act, marked_deed, setting_with, standing_of, told_refused}
use Rattle.pg_process.specs.Mirrors.{KeepsEndedBy}
use Rattle.pg_process.specs.Tables.{began_update, table_issued}
use Rattle.pg_process.proofs.Tellings.{issued_so, told_act}
use Rattle.pg_process.proofs.Placed.{one_seen, placed_here, placed_twice, same_seen, seen_here, set_here}
use Rattle.pg_process.proofs.process.Process.hand_over.Goals as goal

pub returns-then-not-next-clause-made : goal.returns-then-not-next-clause-made
returns-then-not-next-clause-made c =
    let a = c.args.self.now in
    let port = c.args.port in
    let old = c.index_mut.result.now in
    let within : port < length a.desks.items = omega (arith, c.requires, a.all_desks) in
    let here : (situation_of a).ports port ≡ port_of old = seen_here port_of nothing_came a.desks.items port old within c.index_mut.ensures.value in
    let rests : Rests (port_of old) (port_of c.next.new.self) = c.if-not-next.ensures.none refl in (
      record {
        same = ap (λ (ps : ℕ → Port). record (situation_of a) { ports = ps }) (same_seen port_of nothing_came a.desks.items port old c.next.new.self within c.index_mut.ensures.value rests.same);
        gathered = refl;
        journal = refl;
        setting = refl;
      },
      subst HasNothing (sym here) rests.why,
    )

pub returns-in-Ok-told-clause-made : goal.returns-in-Ok-told-clause-made
returns-in-Ok-told-clause-made c =
    let a = c.args.self.now in
    let m = c.command.new.self in
    let node = c.reuse.new.self in
    let port = c.args.port in
    let old = c.index_mut.result.now in
    let change = c.in-Some.change.now in
    let opened : Port → Port = λ p. port_after p Opened in
    let act = did_act a.node c.command.new.self node (Issue port change.command) c.in-Ok-command.done c.in-Ok-command.ensures.event c.in-Ok-command.ensures.fits c.in-Ok-command.ensures.small c.in-Ok-command.ensures.sent c.reuse.ensures.held c.reuse.ensures.links in
    let did = act.0 in
    let within : port < length a.desks.items = omega (arith, c.requires, a.all_desks) in
    let here : (situation_of a).ports port ≡ port_of old = seen_here port_of nothing_came a.desks.items port old within c.index_mut.ensures.value in
    let there : c.index.result.now ≡ c.next.new.self = set_here a.desks.items port c.next.new.self c.index.result.now within c.index.ensures in
    let handed : HandsOver (port_of old) (port_of c.next.new.self) = c.if-not-next.ensures.some refl in
    let current : (opened ((situation_of a).ports port)).current ≡ Some change =
    ap (λ (p : Port). (opened p).current) here
    ∙ (ap (λ (p : Port). p.current) (sym c.next.ensures.step)
    ∙ (ap (λ (d : Desk). (port_of d).current) (sym there)
    ∙ (sym c.current.ensures ∙ ap (option_map (λ current. current.now)) c.in-Some.is))) in
    let mid : Situation = record {
      node = standing_of node;
      links = links_of node;
      ports = at_place port opened (situation_of a).ports;
      courtesies = (situation_of a).courtesies;
      came = a.came;
      told = a.told;
    } in
    let state : state_of (held_by m) ≡ did.act.turn.state = ap state_of (sym c.reuse.ensures.held) ∙ did.leads.state in
    let made = subst (λ (x : Given). act_step (names_of (held_by a.node)) (ports_of (held_by a.node)) (state_of (held_by a.node)) x ≡ Ok did.act.turn) did.given did.leads.made in
    let so = issued_so (names_of (held_by a.node)) (ports_of (held_by a.node)) (state_of (held_by a.node)) (state_of (held_by m)) port change.command did.act.turn c.in-Ok-command.done.began made state act.1 in
    let told = c.in-Ok-told.ensures.ok (kept_by (held_by a.node)) port
    (subst (λ n. LeavesFor a.told.mirrored change.command (kept_by n) c.as_slice.result.now) c.state.ensures
    (subst (λ xs. LeavesFor a.told.mirrored change.command (kept_by c.state.result.now) xs) (sym c.as_slice.ensures.value) c.in-Ok.ensures))
    (subst (λ n. KeepsEndedBy change.command (kept_by (held_by a.node)).ended (kept_by n).ended) (sym c.state-in-Ok-command.ensures) so.ended)
    (subst (λ n. (kept_by n).table ≡ table_issued change.command (began_update c.in-Ok-command.done.began) (kept_by (held_by a.node)) (kept_by n).ended) (sym c.state-in-Ok-command.ensures) so.table) in
    inl (
      did.act,
      marked_deed a _ (Handed port did.act) mid (LoggedHand (port + 1)) told.outputs refl
          (ap (λ (ps : ℕ → Port). record mid { ports = ps })
          (one_seen port_of nothing_came a.desks.items port old c.next.new.self opened within c.index_mut.ensures.value c.next.ensures.step))
          (alike_settings (names_of (held_by node)) (names_of (held_by a.node)) (ports_of (held_by node)) (ports_of (held_by a.node))
          (ap names_of c.reuse.ensures.held ∙ c.in-Ok-command.ensures.stays.names) (ap ports_of c.reuse.ensures.held ∙ c.in-Ok-command.ensures.stays.ports))
          told.framed told.gathered c.in-Ok-put_mark.ensures.ok (
            told_act a.told.mirrored did.act (Did (Issue port change.command)) (began_update c.in-Ok-command.done.began) (kept_by (held_by a.node)).table (kept_by c.state-in-Ok-command.result.now).table (kept_by (held_by node)).table
                _ _ told did.given so.applies (ap (λ n. (kept_by n).table) (c.state-in-Ok-command.ensures ∙ sym c.reuse.ensures.held)),
            record {
              change = change;
              next = ap (λ (p : Port). p.current) (placed_here (situation_of a).ports port opened) ∙ current;
              given = did.given;
              acts = record { leads = did.leads; links = did.links };
              ports = refl;
              free = ap (λ (p : Port). p.current) here ∙ handed.none;
              courtesies = refl;
              came = refl;
              told = refl;
            },
          ),
    )

pub returns-in-Err-clause-failed : goal.returns-in-Err-clause-failed
returns-in-Err-clause-failed c = (refusals.ClockFull, record { memory = refl; gathered = refl; journal = inl c.in-Err.ensures.err })

pub returns-in-Err-told-clause-failed : goal.returns-in-Err-told-clause-failed
returns-in-Err-told-clause-failed c = (
  refusals.ClockFull,
  record { memory = refl; gathered = c.in-Err-told.ensures.err; journal = inr (c.in-Ok-put_mark.ensures.ok ∙ ap (λ (bytes : List ℕ). c.args.self.now.journal.gathered.items ++ bytes) (sym (append-nil (entry_bytes (LoggedHand (c.args.port + 1)))))) },
)

pub returns-in_default-left-clause-failed : goal.returns-in_default-left-clause-failed
returns-in_default-left-clause-failed c = (refusals.ClockFull, record { memory = refl; gathered = refl; journal = inl refl })

pub returns-in-Err-OutOfMemory-clause-failed : goal.returns-in-Err-OutOfMemory-clause-failed
returns-in-Err-OutOfMemory-clause-failed c = (refusals.ClockFull, record { memory = refl; gathered = refl; journal = inl refl })

pub returns-in-ClockFull-clause-failed : goal.returns-in-ClockFull-clause-failed
returns-in-ClockFull-clause-failed c =
    let a = c.args.self.now in
    let node = c.command.new.self in
    let port = c.args.port in
    let old = c.index_mut.result.now in
    let change = c.in-Some.change.now in
    let within : port < length a.desks.items = omega (arith, c.requires, a.all_desks) in
    let here : (situation_of a).ports port ≡ port_of old = seen_here port_of nothing_came a.desks.items port old within c.index_mut.ensures.value in
    let there : c.index.result.now ≡ c.next.new.self = set_here a.desks.items port c.next.new.self c.index.result.now within c.index.ensures in
    let current : (port_after ((situation_of a).ports port) Opened).current ≡ Some change =
    ap (λ (p : Port). (port_after p Opened).current) here
    ∙ (ap (λ (p : Port). p.current) (sym c.next.ensures.step)
    ∙ (ap (λ (d : Desk). (port_of d).current) (sym there)
    ∙ (sym c.current.ensures ∙ ap (option_map (λ current. current.now)) c.in-Some.is))) in
    let last : c.in-Err-Refused.refusal ≡ refusals.ClockFull = rw c.in-Err-Refused.field-0-is at c.in-ClockFull.is in (
      record { gathered = refl; journal = refl },
      subst (λ o. told_of_change a port o) (sym current)
          (told_refused (names_of (held_by a.node)) (step_act (nodes_of (held_by a.node)) (ports_of (held_by a.node)) (Issue port change.command) (state_of (held_by a.node))) c.in-Err-Refused.field-0 refusals.ClockFull
          (state_of (held_by node)) (answers_of (held_by a.node)) (answers_of (held_by node)) (c.in-Err-Refused.field-0-is ∙ ap Refused last) c.in-Err-Refused.ensures.event),
    )

pub returns-in-Ok-decline-clause-made : goal.returns-in-Ok-decline-clause-made
returns-in-Ok-decline-clause-made c =
    let a = c.args.self.now in
    let node = c.command.new.self in
    let port = c.args.port in
    let old = c.index_mut.result.now in
    let change = c.in-Some.change.now in
    let refusal = c.in-Err-Refused.refusal in
    let stays = c.in-Err-Refused.ensures.stays in
    let refuses = c.in-Ok-decline.ensures.made in
    let ports = (situation_of a).ports in
    let opened : Port → Port = λ p. port_after p Opened in
    let within : port < length a.desks.items = omega (arith, c.requires, a.all_desks) in
    let here : ports port ≡ port_of old = seen_here port_of nothing_came a.desks.items port old within c.index_mut.ensures.value in
    let there : c.index.result.now ≡ c.next.new.self = set_here a.desks.items port c.next.new.self c.index.result.now within c.index.ensures in
    let handed : HandsOver (port_of old) (port_of c.next.new.self) = c.if-not-next.ensures.some refl in
    let current : (opened (ports port)).current ≡ Some change =
    ap (λ (p : Port). (opened p).current) here
    ∙ (ap (λ (p : Port). p.current) (sym c.next.ensures.step)
    ∙ (ap (λ (d : Desk). (port_of d).current) (sym there)
    ∙ (sym c.current.ensures ∙ ap (option_map (λ current. current.now)) c.in-Some.is))) in
    let moved : seen_in port_of nothing_came (slice_set a.desks.items port c.next.new.self) ≡ at_place port opened ports =
    one_seen port_of nothing_came a.desks.items port old c.next.new.self opened within c.index_mut.ensures.value c.next.ensures.step in
    let after : ℕ → Port = at_place port with_answer (seen_in port_of nothing_came (slice_set a.desks.items port c.next.new.self)) in
    let same : setting_with (names_of (held_by node)) (ports_of (held_by node)) ≡ setting_of a = alike_settings (names_of (held_by node)) (names_of (held_by a.node)) (ports_of (held_by node)) (ports_of (held_by a.node)) stays.names stays.ports in
    let number : c.number.result ≡ refusal_number_of refusal = rw c.in-Err-Refused.field-0-is at c.number.ensures in
    inr (
      refusal,
      record {
        said = refuses.said;
        does = record {
          change = change;
          next = current;
          free = ap (λ (p : Port). p.current) here ∙ handed.none;
          told = told_refused (names_of (held_by a.node)) (step_act (nodes_of (held_by a.node)) (ports_of (held_by a.node)) (Issue port change.command) (state_of (held_by a.node))) c.in-Err-Refused.field-0 refusal
              (state_of (held_by node)) (answers_of (held_by a.node)) (answers_of (held_by node)) c.in-Err-Refused.field-0-is c.in-Err-Refused.ensures.event;
          says = subst (λ n. IsReply (setting_of a) port change.number (refused_term n) refuses.said) number
              (subst (λ o. IsReply (setting_of a) port (number_of o) (refused_term c.number.result) refuses.said)
              (ap (λ (ps : ℕ → Port). (ps port).current) moved ∙ (ap (λ (p : Port). p.current) (placed_here ports port opened) ∙ current))
              (subst (λ (set : Setting). IsReply set port (number_of (seen_in port_of nothing_came (slice_set a.desks.items port c.next.new.self) port).current) (refused_term c.number.result) refuses.said) same refuses.says));
          after = refuses.after
              ∙ (ap (λ (x : Standing). record (situation_of a) { node = x; links = links_of node; ports = after })
              (alike_standings (state_of (held_by node)) (state_of (held_by a.node)) (answers_of (held_by node)) (answers_of (held_by a.node)) stays.state stays.answers)
              ∙ (ap (λ (ls : ℕ → Link). record (situation_of a) { links = ls; ports = after }) c.in-Err-Refused.ensures.kept
              ∙ (ap (λ (ps : ℕ → Port). record (situation_of a) { ports = at_place port with_answer ps }) moved
              ∙ ap (λ (ps : ℕ → Port). record (situation_of a) { ports = ps }) (placed_twice ports port opened with_answer))));
        };
        heard = refuses.heard;
        gathered = refuses.gathered;
        journal = refuses.journal;
        setting = refuses.setting ∙ same;
      },
    )
