use Rattle.std.proofs.Common.{◌≡◌, ◌<◌, ◌∙◌, Some, None, length, sym, ap, arith}
use Rattle.std.specs.Option.{option_map}
use Rattle.pg_node_process.specs.Desks.{Port, nothing_came, port_of}
use Rattle.pg_process.specs.Locks.{change_of}
use Rattle.pg_process.specs.Situations.{situation_of}
use Rattle.pg_process.proofs.Placed.{seen_here}
use Rattle.pg_process.proofs.process.Process.change.Goals as goal

pub returns-in-Some : goal.returns-in-Some
returns-in-Some c =
    let a = c.args.self.now in
    let desk = c.index-desk.result.now in
    let within : c.args.port < length a.desks.items = omega (arith, c.requires, a.all_desks) in
    let here : (situation_of a).ports c.args.port ≡ port_of desk = seen_here port_of nothing_came a.desks.items c.args.port desk within c.index-desk.ensures in
    let is : (port_of desk).current ≡ Some c.in-Some.current.now = sym c.current.ensures ∙ ap (option_map (λ current. current.now)) c.in-Some.is in
    sym (ap (λ (p : Port). change_of p.current p.waiting) here ∙ ap (λ current. change_of current (port_of desk).waiting) is)

pub returns-in-None : goal.returns-in-None
returns-in-None c =
    let a = c.args.self.now in
    let desk = c.index-desk.result.now in
    let within : c.args.port < length a.desks.items = omega (arith, c.requires, a.all_desks) in
    let here : (situation_of a).ports c.args.port ≡ port_of desk = seen_here port_of nothing_came a.desks.items c.args.port desk within c.index-desk.ensures in
    let is : (port_of desk).current ≡ None = sym c.current.ensures ∙ ap (option_map (λ current. current.now)) c.in-None.is in
    c.front.ensures ∙ sym (ap (λ (p : Port). change_of p.current p.waiting) here ∙ ap (λ current. change_of current (port_of desk).waiting) is)
