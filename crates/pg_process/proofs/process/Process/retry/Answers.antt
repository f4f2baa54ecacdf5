use Rattle.std.proofs.Common.{◌≡◌, ◌<◌, ◌+◌, ◌++◌, ◌∙◌, ℕ, List, append-nil, Ok, inl, inr, length, refl, sym, ap, subst, arith}
use Rattle.pg_node.specs.Links.{Link}
use Rattle.pg_node.specs.Nodes.{held_by, links_of}
use Rattle.pg_node.specs.PgNodeState.Issued.{ports_of}
use Rattle.pg_node.specs.PgNodeState.States.{kept_by, names_of, nodes_of, state_of, answers_of}
use Rattle.pg_node.specs.PgStep.Step.{Retry, step_act}
use Rattle.pg_node_process.specs.declared.retries.Courtesy.{Courtesy}
use Rattle.pg_node_process.specs.Logs.{Tried as LoggedTrial, entry_bytes}
use Rattle.pg_node_process.specs.Retries.{after_trial, at_first}
use Rattle.pg_node_run.specs.Acts.{Did, Given, Standing, act_step}
use Rattle.pg_process.specs.Deeds.{Tried}
use Rattle.pg_process.specs.Situations.{Situation, at_place, situation_of}
use Rattle.pg_process.proofs.Acted.{alike_settings, alike_standings, did_act, marked_deed, standing_of, told_refused}
use Rattle.pg_process.specs.Tables.{began_update, by_update}
use Rattle.pg_process.proofs.Tellings.{retried_so, told_act}
use Rattle.pg_process.proofs.Placed.{one_seen}
use Rattle.pg_process.proofs.process.Process.retry.Goals as goal

pub returns-in-Ok-told-clause-made : goal.returns-in-Ok-told-clause-made
returns-in-Ok-told-clause-made c =
    let a = c.args.self.now in
    let m = c.retry.new.self in
    let node = c.reuse.new.self in
    let port = c.args.op.port in
    let made = did_act a.node m node (Retry c.args.op) c.in-Ok.done c.in-Ok.ensures.event c.in-Ok.ensures.fits c.in-Ok.ensures.small c.in-Ok.ensures.sent c.reuse.ensures.held c.reuse.ensures.links in
    let did = made.0 in
    let place = c.from.result in
    let is : place ≡ port = c.from.ensures in
    let within : place < length a.courtesies.items = omega (arith, c.requires, a.all_courtesies, is) in
    let mid : Situation = record {
      node = standing_of node;
      links = links_of node;
      ports = (situation_of a).ports;
      courtesies = at_place port after_trial (situation_of a).courtesies;
      came = a.came;
      told = a.told;
    } in
    let state : state_of (held_by m) ≡ did.act.turn.state = ap state_of (sym c.reuse.ensures.held) ∙ did.leads.state in
    let step = subst (λ (x : Given). act_step (names_of (held_by a.node)) (ports_of (held_by a.node)) (state_of (held_by a.node)) x ≡ Ok did.act.turn) did.given did.leads.made in
    let so = retried_so (names_of (held_by a.node)) (ports_of (held_by a.node)) (state_of (held_by a.node)) (state_of (held_by m)) c.args.op did.act.turn c.in-Ok.done.began step state made.1 in
    let told = c.in-Ok-told.ensures.ok (kept_by (held_by a.node)).table c.args.op
    (subst (λ n. (kept_by n).table ≡ by_update (began_update c.in-Ok.done.began) (kept_by (held_by a.node)).table (kept_by n).ended) (sym c.state.ensures) so.table) in (
      did.act,
      marked_deed a _ (Tried port did.act) mid (LoggedTrial (port + 1)) told.outputs refl
          (ap (λ (cs : ℕ → Courtesy). record mid { courtesies = cs })
          (one_seen (λ c. c) at_first a.courtesies.items place c.index_mut.result.now c.try_now.new.self after_trial within c.index_mut.ensures.value c.try_now.ensures.value
          ∙ ap (λ n. at_place n after_trial (situation_of a).courtesies) is))
          (alike_settings (names_of (held_by node)) (names_of (held_by a.node)) (ports_of (held_by node)) (ports_of (held_by a.node))
          (ap names_of c.reuse.ensures.held ∙ c.in-Ok.ensures.stays.names) (ap ports_of c.reuse.ensures.held ∙ c.in-Ok.ensures.stays.ports))
          told.framed told.gathered c.in-Ok-put_mark.ensures.ok (
            told_act a.told.mirrored did.act (Did (Retry c.args.op)) (began_update c.in-Ok.done.began) (kept_by (held_by a.node)).table (kept_by c.state.result.now).table (kept_by (held_by node)).table
                _ _ told did.given so.applies (ap (λ n. (kept_by n).table) (c.state.ensures ∙ sym c.reuse.ensures.held)),
            record {
              number = c.args.op.number;
              given = did.given;
              acts = record { leads = did.leads; links = did.links };
              courtesies = refl;
              ports = refl;
              came = refl;
              told = refl;
            },
          ),
    )

pub returns-in-Err-told-clause-failed : goal.returns-in-Err-told-clause-failed
returns-in-Err-told-clause-failed c =
    let a = c.args.self.now in
    let made = did_act a.node c.retry.new.self c.reuse.new.self (Retry c.args.op) c.in-Ok.done c.in-Ok.ensures.event c.in-Ok.ensures.fits c.in-Ok.ensures.small c.in-Ok.ensures.sent c.reuse.ensures.held c.reuse.ensures.links in inr (
      made.0.act,
      record {
        memory = refl;
        gathered = c.in-Err-told.ensures.err;
        journal = inr (c.in-Ok-put_mark.ensures.ok ∙ ap (λ (bytes : List ℕ). a.journal.gathered.items ++ bytes) (sym (append-nil (entry_bytes (LoggedTrial (c.args.op.port + 1))))));
      },
    )

pub returns-in-Err-clause-failed : goal.returns-in-Err-clause-failed
returns-in-Err-clause-failed c = inl (record { gathered = refl; journal = c.in-Err.ensures.err })

pub returns-in-Err-OutOfMemory-clause-failed : goal.returns-in-Err-OutOfMemory-clause-failed
returns-in-Err-OutOfMemory-clause-failed c = inl (record { gathered = refl; journal = refl })

pub returns-in-Err-Refused : goal.returns-in-Err-Refused
returns-in-Err-Refused c =
    let a = c.args.self.now in
    let node = c.retry.new.self in
    let refusal = c.in-Err-Refused.field-0-0 in
    let stays = c.in-Err-Refused.ensures.stays in record {
      made = (
        record {
          same = ap (λ (x : Standing). record (situation_of a) { node = x; links = links_of node })
              (alike_standings (state_of (held_by node)) (state_of (held_by a.node)) (answers_of (held_by node)) (answers_of (held_by a.node)) stays.state stays.answers)
              ∙ ap (λ (ls : ℕ → Link). record (situation_of a) { links = ls }) c.in-Err-Refused.ensures.kept;
          gathered = refl;
          journal = refl;
          setting = alike_settings (names_of (held_by node)) (names_of (held_by a.node)) (ports_of (held_by node)) (ports_of (held_by a.node)) stays.names stays.ports;
        },
        (
          refusal,
          told_refused (names_of (held_by a.node)) (step_act (nodes_of (held_by a.node)) (ports_of (held_by a.node)) (Retry c.args.op) (state_of (held_by a.node))) c.in-Err-Refused.field-0 refusal
              (state_of (held_by node)) (answers_of (held_by a.node)) (answers_of (held_by node)) c.in-Err-Refused.field-0-is c.in-Err-Refused.ensures.event,
        ),
      );
      failed = tt;
    }
