use Rattle.std.proofs.Common.{arith, ◌∙◌, sym, subst}
use Rattle.pg_script.specs.Scripts.{HavePlaces}
use Rattle.pg_script.proofs.Placing.{placed_push}
use Rattle.pg_script.proofs.reading.Reading.add_node.Goals as goal

pub returns-clause-placed : goal.returns-clause-placed
returns-clause-placed c =
    subst (HavePlaces c.insert.new.self) (sym c.in_ok-push.ensures.items)
    (placed_push c.args.self.now.places c.insert.new.self c.args.self.now.starts.items c.len.result c.in_ok-key.key _ c.requires (omega (arith, c.len.ensures, c.args.self.now.starts.ok)) c.in_ok-insert.ensures.updates c.in_ok-key.ensures (sym c.contains_key.ensures ∙ c.if-contains_key.false))
