use Rattle.std.proofs.Common.{◌<◌, ◌∙◌, ℕ, length, append-nil, sym, ap, subst, arith}
use Rattle.pg_node.proofs.Linked.{on_ok}
use Rattle.pg_node.specs.PgNodeOpens.Places.{name_at}
use Rattle.pg_node.specs.PgNodeState.States.{kept_by, names_of}
use Rattle.pg_term.specs.declared.term.Term.{Term}
use Rattle.pg_node_process.specs.Desks.{Port, counted, next_number, nothing_came, port_of}
use Rattle.pg_node_requests.specs.Replies.{reply_term}
use Rattle.pg_process.specs.Deeds.{IsReply}
use Rattle.pg_process.specs.Situations.{setting_of, situation_of}
use Rattle.pg_process.proofs.Placed.{one_seen, seen_here}
use Rattle.pg_process.proofs.Sayings.{same_reads}
use Rattle.pg_process.proofs.process.Process.ask.Goals as goal

pub returns-clause-made : goal.returns-clause-made
returns-clause-made c =
    let a = c.args.self.now in
    let within : c.args.port < length a.desks.items = omega (arith, c.requires.port, a.all_desks) in
    let desk = c.index_mut.result.now in
    let here = seen_here port_of nothing_came a.desks.items c.args.port desk within c.index_mut.ensures.value in
    on_ok c.say.result _ _ (λ outs. record {
      said = outs.0;
      does = record {
        reply = c.in_ok-reply.reply;
        reads = same_reads _ _ _ _ _ _ (c.own.ensures ∙ ap (λ s. name_at (names_of s) 0) c.state-state.ensures) (c.table.ensures ∙ ap (λ s. (kept_by s).table) c.state-state.ensures) c.in_ok-reply.ensures;
        says = subst (λ (n : ℕ). IsReply (setting_of a) c.args.port n (reply_term c.in_ok-reply.reply) outs.0) (c.count-number.ensures.number ∙ ap next_number (sym here))
            (subst (λ (t : Term). IsReply (setting_of a) c.args.port c.count-number.result t outs.0) c.in_ok-term.ensures outs.1);
        after = ap situation_of c.say.ensures.rest ∙ ap (λ (ps : ℕ → Port). record (situation_of a) { ports = ps })
            (one_seen port_of nothing_came a.desks.items c.args.port desk c.count-number.new.self counted within c.index_mut.ensures.value c.count-number.ensures.port);
      };
      heard = outs.2;
      gathered = outs.3;
      journal = ap (λ p. p.journal.gathered.items) c.say.ensures.rest ∙ sym (append-nil a.journal.gathered.items);
      setting = ap setting_of c.say.ensures.rest;
    }) c.say.ensures.said
