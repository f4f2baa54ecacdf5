use Rattle.std.proofs.Common.{◌∙◌}
use Rattle.pg_program.proofs.Offers.{as_many}
use Rattle.pg_program.proofs.service.atoms_of.Goals as goal

pub returns : goal.returns
returns c = as_many c.args.nodes c.args.names.now c.atoms_in.result c.if-names-eq0.false (c.if-names-from.false ∙ c.from.ensures) c.atoms_in.ensures.names c.atoms_in.ensures.fault
