use Rattle.std.proofs.Common.{◌≡◌, ◌<◌, ◌+◌, ◌++◌, ◌∙◌, ℕ, length, sym, ap, subst, append-nil, arith}
use Rattle.std.specs.Option.{unwrap_or}
use Rattle.std.specs.List.{flat_map}
use Rattle.pg_node_process.specs.Desks.{Port, nothing_came, port_of, with_answer}
use Rattle.pg_node_process.specs.Logs.{Handed as LoggedHand, entry_bytes}
use Rattle.pg_node_process.specs.Outputs.{said as bytes_said}
use Rattle.pg_node_requests.specs.Replies.{refused_term}
use Rattle.pg_process.specs.declared.process.Process.{Process}
use Rattle.pg_process.specs.Deeds.{IsReply, number_of}
use Rattle.pg_process.specs.Situations.{Setting, at_place, setting_of, situation_of}
use Rattle.pg_process.proofs.Acted.{number_there}
use Rattle.pg_process.proofs.Placed.{one_seen, seen_here}
use Rattle.pg_process.proofs.Replied.{on_ok}
use Rattle.pg_process.proofs.process.Process.decline.Goals as goal

pub returns-clause-made : goal.returns-clause-made
returns-clause-made c =
    let a = c.args.self.now in
    let m = c.mark.new.self in
    let b = c.say.new.self in
    let port = c.args.port in
    let old = c.index_mut.result.now in
    let marked = c.mark.ensures.rest in
    let within : port < length m.desks.items = omega (arith, c.requires, ap (λ (p : Process). length p.desks.items) marked, a.all_desks) in
    let here : (situation_of a).ports port ≡ port_of old = sym (ap (λ (p : Process). (situation_of p).ports port) marked) ∙ seen_here port_of nothing_came m.desks.items port old within c.index_mut.ensures.value in
    let count : c.unwrap_or-change.result ≡ number_of ((situation_of a).ports port).current = c.unwrap_or-change.ensures
    ∙ (ap (λ o. unwrap_or o 0) c.answered.ensures.number ∙ (number_there (port_of old).current ∙ ap (λ (p : Port). number_of p.current) (sym here))) in
    on_ok c.say.result
    (λ said. record {
      said = said.0;
      says = subst (λ n. IsReply (setting_of a) port n (refused_term c.args.number) said.0) count
          (subst (λ t. IsReply (setting_of a) port c.unwrap_or-change.result t said.0) c.in_ok-reply.ensures
          (subst (λ (set : Setting). IsReply set port c.unwrap_or-change.result c.in_ok-reply.reply said.0) (ap setting_of marked) said.1));
      heard = said.2;
      gathered = said.3 ∙ ap (λ (p : Process). p.outlet.gathered.items ++ flat_map bytes_said said.0) marked;
      journal = ap (λ (p : Process). p.journal.gathered.items) c.say.ensures.rest
          ∙ (c.in_ok-mark.ensures.ok ∙ ap (λ w. a.journal.gathered.items ++ w) (sym (append-nil (entry_bytes (LoggedHand (port + 1))))));
      after = ap situation_of c.say.ensures.rest
          ∙ (ap (λ (ps : ℕ → Port). record (situation_of m) { ports = ps })
          (one_seen port_of nothing_came m.desks.items port old c.answered.new.self with_answer within c.index_mut.ensures.value c.answered.ensures.port)
          ∙ ap (λ (p : Process). record (situation_of p) { ports = at_place port with_answer (situation_of p).ports }) marked);
      setting = ap setting_of c.say.ensures.rest ∙ ap setting_of marked;
    })
    c.say.ensures.said
