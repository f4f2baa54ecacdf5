use Rattle.std.proofs.Common.{◌<◌, ◌∙◌, length, sym, ap, arith}
use Rattle.pg_node_process.specs.declared.retries.Courtesy.{Courtesy}
use Rattle.pg_node_process.specs.Retries.{at_first, is_due}
use Rattle.pg_process.proofs.Placed.{seen_here}
use Rattle.pg_process.proofs.process.Process.is_due.Goals as goal

pub returns : goal.returns
returns c =
    let a = c.args.self.now in
    let within : c.args.port < length a.courtesies.items = omega (arith, c.requires, a.all_courtesies) in
    c.is_due.ensures
    ∙ ap (λ (x : Courtesy). is_due c.args.seen c.args.is_tick x) (sym (seen_here (λ c. c) at_first a.courtesies.items c.args.port c.index.result.now within c.index.ensures))
