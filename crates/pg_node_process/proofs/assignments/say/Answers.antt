use Rattle.std.proofs.Common.{ap}
use Rattle.pg_term.specs.declared.term.Term.{List as Listed}
use Rattle.pg_node_process.proofs.Gathered.{said_alone}
use Rattle.pg_node_process.proofs.assignments.say.Goals as goal

pub returns-clause-ok : goal.returns-clause-ok
returns-clause-ok c = said_alone c.args.outlet.now.gathered.items c.put_mirrored-said.new.self.gathered.items c.args.terms.items (Listed c.from_vec.result) c.put_mirrored-said.result c.put_mirrored-said.ensures.ok (ap Listed c.from_vec.ensures)
