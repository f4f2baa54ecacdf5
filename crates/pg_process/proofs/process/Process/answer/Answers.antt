use Rattle.std.proofs.Common.{◌≡◌, ◌<◌, ◌∙◌, ℕ, Bool, List, drop, length, append-nil, sym, ap, subst, arith}
use Rattle.pg_node.specs.Nodes.{held_by, links_of}
use Rattle.pg_node.specs.PgNodeState.Issued.{ports_of}
use Rattle.pg_node.specs.PgNodeState.States.{answers_of, left_at, names_of, state_of}
use Rattle.pg_term.specs.declared.term.Term.{Term}
use Rattle.pg_node.specs.PgStep.declared.answer.Reply.{Reply}
use Rattle.pg_node_process.specs.Desks.{Port, nothing_came, port_of, with_answer}
use Rattle.pg_node_process.specs.Retries.{after_answer, at_first}
use Rattle.pg_node_process.specs.declared.retries.Courtesy.{Courtesy}
use Rattle.pg_node_requests.specs.Replies.{reply_term}
use Rattle.pg_node.specs.PgNodeState.States.{kept_by}
use Rattle.pg_process.specs.Deeds.{SaysBoth, joins_ended, number_of}
use Rattle.pg_process.specs.Situations.{setting_of, situation_of, at_place, seen_in}
use Rattle.pg_process.proofs.Placed.{one_seen, seen_here}
use Rattle.pg_process.proofs.Sayings.{first_is, number_is}
use Rattle.pg_process.proofs.Situated.{setting_is, situation_is}
use Rattle.pg_process.proofs.process.Process.answer.Goals as goal

pub returns-clause-said : goal.returns-clause-said
returns-clause-said c = λ yes.
    let a = c.args.self.now in
    let q = c.say_answer.new.self in
    let port = c.args.port in
    let rest = c.in_ok-say_answer.ensures.rest in
    let answers_is : c.answers.result.now ≡ answers_of (held_by a.node) port = c.answers.ensures ∙ ap (λ s. answers_of s port) c.state.ensures in
    let within : port < length a.desks.items = omega (arith, c.requires, a.all_desks) in
    let same_courtesies = ap (λ p. p.courtesies.items) rest in
    let within2 : port < length q.courtesies.items = omega (arith, c.requires, a.all_courtesies, ap length same_courtesies) in
    let desk = c.index_mut.result.now in
    let here = seen_here port_of nothing_came a.desks.items port desk within c.index_mut.ensures.value in
    let outs = c.in_ok-say_answer.ensures.said in
    let joins : c.joins_ended-is_ended.result ≡ joins_ended ((situation_of a).ports port).current c.first-item.result.reply (kept_by (held_by a.node)).ended =
    c.joins_ended-is_ended.ensures ∙ ap (λ (r : Reply). joins_ended ((situation_of a).ports port).current r (kept_by (held_by a.node)).ended) c.in_ok-reply-in-len1-up.ensures in
    let number_said = c.unwrap_or-number.ensures ∙ (ap (λ o. Rattle.std.specs.Option.unwrap_or o 0) c.answered.ensures.number ∙ (number_is desk.current ∙ ap (λ (p : Port). number_of p.current) (sym here))) in
    let courtesies = one_seen (λ c. c) at_first q.courtesies.items port c.index_mut-2.result.now c.close.new.self after_answer within2 c.index_mut-2.ensures.value c.close.ensures.value
    ∙ ap (λ (cs : List Courtesy). at_place port after_answer (seen_in (λ c. c) at_first cs)) same_courtesies in
    let ports = ap (λ p. seen_in port_of nothing_came p.desks.items) rest ∙ one_seen port_of nothing_came a.desks.items port desk c.answered.new.self with_answer within c.index_mut.ensures.value c.answered.ensures.port in (
      c.first-item.result,
      record {
        said = outs.0;
        does = record {
          later = drop 1 c.answers.result.now;
          first = sym answers_is ∙ first_is c.answers.result.now c.first-item.result c.in-len1-up.len_at_least c.first-item.is;
          says = subst (λ (n : ℕ). SaysBoth (setting_of a) port n (joins_ended ((situation_of a).ports port).current c.first-item.result.reply (kept_by (held_by a.node)).ended) (reply_term c.first-item.result.reply) outs.0) number_said
              (subst (λ (e : Bool). SaysBoth (setting_of a) port c.unwrap_or-number.result e (reply_term c.first-item.result.reply) outs.0) joins
              (subst (λ (t : Term). SaysBoth (setting_of a) port c.unwrap_or-number.result c.joins_ended-is_ended.result t outs.0) (c.in_ok-term.ensures ∙ ap reply_term c.in_ok-reply-in-len1-up.ensures) outs.1));
          after = situation_is _ _ _ _ _ _ _ _ _ _ _ _ _ _
              (c.forget_answers.ensures.state ∙ ap (λ p. state_of (held_by p.node)) rest)
              (c.forget_answers.ensures.answers ∙ ap (λ p. left_at port 1 (answers_of (held_by p.node))) rest)
              (c.forget_answers.ensures.links ∙ ap (λ p. links_of p.node) rest)
              ports courtesies (ap (λ p. p.came) rest) (ap (λ p. p.told) rest);
        };
        heard = outs.2;
        gathered = outs.3;
        journal = ap (λ p. p.journal.gathered.items) rest ∙ sym (append-nil a.journal.gathered.items);
        setting = setting_is _ _ _ _ (c.forget_answers.ensures.names ∙ ap (λ p. names_of (held_by p.node)) rest) (c.forget_answers.ensures.ports ∙ ap (λ p. ports_of (held_by p.node)) rest);
      },
    )
