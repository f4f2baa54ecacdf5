use Rattle.std.proofs.Common.{◌≡◌, ◌<◌, ◌∙◌, length, sym, ap, arith}
use Rattle.pg_node_process.specs.Desks.{Port, nothing_came, port_of}
use Rattle.pg_process.specs.Situations.{situation_of}
use Rattle.pg_process.specs.Turns.{is_free}
use Rattle.pg_process.proofs.Placed.{seen_here}
use Rattle.pg_process.proofs.Turning.{free_else, free_then}
use Rattle.pg_process.proofs.process.Process.is_free.Goals as goal

pub returns-then-is_none : goal.returns-then-is_none
returns-then-is_none c =
    let a = c.args.self.now in
    let desk = c.index-desk.result.now in
    let within : c.args.port < length a.desks.items = omega (arith, c.requires, a.all_desks) in
    let here : (situation_of a).ports c.args.port ≡ port_of desk = seen_here port_of nothing_came a.desks.items c.args.port desk within c.index-desk.ensures in
    free_then (λ one. one.now) c.current.result c.front.result (port_of desk) c.is_none.result c.is_some.result c.current.ensures c.front.ensures c.is_none.ensures c.is_some.ensures c.if-is_none.true
    ∙ sym (ap (λ (p : Port). is_free p) here)

pub returns-else-is_none : goal.returns-else-is_none
returns-else-is_none c =
    let a = c.args.self.now in
    let desk = c.index-desk.result.now in
    let within : c.args.port < length a.desks.items = omega (arith, c.requires, a.all_desks) in
    let here : (situation_of a).ports c.args.port ≡ port_of desk = seen_here port_of nothing_came a.desks.items c.args.port desk within c.index-desk.ensures in
    c.if-is_none.false ∙ free_else (λ one. one.now) c.current.result (port_of desk) c.is_none.result c.current.ensures c.is_none.ensures c.if-is_none.false ∙ sym (ap (λ (p : Port). is_free p) here)
