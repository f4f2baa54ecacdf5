use Rattle.std.proofs.Common.{◌≡◌, [], ◌∷◌, codes, refl}
use Rattle.clap.specs.Words.{fault_of, subcommand_of}
use Rattle.clap.proofs.OnLiterals.{clap_on_literals}
use Rattle.pg_program.specs.CommandLine.{command_line, AsksBytes}
use Rattle.pg_program.proofs.laws.bytes_alone.Goals as goal

taken : fault_of command_line (codes "bytes" ∷ []) ≡ []
unfolding clap_on_literals
taken = refl

names : AsksBytes (subcommand_of command_line (codes "bytes" ∷ [])) (codes "b") (codes "a")
unfolding clap_on_literals
names = (refl, refl, refl)

pub returns-clause-taken : goal.returns-clause-taken
returns-clause-taken c = taken

pub returns-clause-names : goal.returns-clause-names
returns-clause-names c = names
