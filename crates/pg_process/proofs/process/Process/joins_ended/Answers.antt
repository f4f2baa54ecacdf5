use Rattle.std.proofs.Common.{◌≡◌, ◌<◌, ◌∙◌, Option, Some, None, length, sym, ap, arith}
use Rattle.std.specs.Option.{option_map}
use Rattle.pg_node.specs.Nodes.{held_by}
use Rattle.pg_node.specs.PgNodeState.States.{kept_by}
use Rattle.pg_node.specs.PgStep.declared.answer.Reply.{Reply}
use Rattle.pg_node_process.specs.declared.desk.Numbered.{Numbered}
use Rattle.pg_process.proofs.Tellings.{not_ok}
use Rattle.pg_node_process.specs.Desks.{Port, nothing_came, port_of}
use Rattle.pg_process.specs.Deeds.{joins_ended}
use Rattle.pg_process.specs.Situations.{situation_of}
use Rattle.pg_process.proofs.Placed.{seen_here}
use Rattle.pg_process.proofs.process.Process.joins_ended.Goals as goal

pub returns-in-Some : goal.returns-in-Some
returns-in-Some c =
    let a = c.args.self.now in
    let desk = c.index.result.now in
    let within : c.args.port < length a.desks.items = omega (arith, c.requires, a.all_desks) in
    let here : (situation_of a).ports c.args.port ≡ port_of desk = seen_here port_of nothing_came a.desks.items c.args.port desk within c.index.ensures in
    let is : ((situation_of a).ports c.args.port).current ≡ Some c.in-Some.change.now = ap (λ (p : Port). p.current) here ∙ (sym c.current.ensures ∙ ap (option_map (λ current. current.now)) c.in-Some.is) in
    c.is_join_of_ended.ensures
    ∙ sym (ap (λ (o : Option Numbered). joins_ended o c.args.reply.now (kept_by (held_by a.node)).ended) is ∙ ap (λ (r : Reply). joins_ended (Some c.in-Some.change.now) r (kept_by (held_by a.node)).ended) c.in-Ok.is)

pub returns-in-None : goal.returns-in-None
returns-in-None c =
    let a = c.args.self.now in
    let desk = c.index.result.now in
    let within : c.args.port < length a.desks.items = omega (arith, c.requires, a.all_desks) in
    let here : (situation_of a).ports c.args.port ≡ port_of desk = seen_here port_of nothing_came a.desks.items c.args.port desk within c.index.ensures in
    let is : ((situation_of a).ports c.args.port).current ≡ None = ap (λ (p : Port). p.current) here ∙ (sym c.current.ensures ∙ ap (option_map (λ current. current.now)) c.in-None.is) in
    sym (ap (λ (o : Option Numbered). joins_ended o c.args.reply.now (kept_by (held_by a.node)).ended) is ∙ ap (λ (r : Reply). joins_ended None r (kept_by (held_by a.node)).ended) c.in-Ok.is)

pub returns-in_default : goal.returns-in_default
returns-in_default c = not_ok ((situation_of c.args.self.now).ports c.args.port).current c.args.reply.now (kept_by (held_by c.args.self.now.node)).ended c.in_default.not-Ok
