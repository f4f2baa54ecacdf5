-- The numbers of the faults.
use Rattle.std.specs.Prelude.{ℕ}
use Rattle.pg_term.specs.declared.faults.TheConstants.{BAD_LINE, OUT_OF_MEMORY}
use Rattle.pg_text.specs.declared.fault.TextFault.{TextFault}
use Rattle.pg_text.specs.declared.fault.TextFault.TheVariants.{BadText, OutOfMemory}

abbrev pub text_number_of : TextFault → ℕ
text_number_of BadText = BAD_LINE
text_number_of OutOfMemory = OUT_OF_MEMORY
