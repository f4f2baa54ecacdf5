-- The numbers of the faults of an exchange.
use Rattle.std.specs.Prelude.{ℕ}
use Rattle.pg_term.specs.declared.faults.TheConstants.{NOT_A_MESSAGE, OUT_OF_MEMORY}
use Rattle.pg_exchange.specs.declared.fault.ExchangeFault.{ExchangeFault}
use Rattle.pg_exchange.specs.declared.fault.ExchangeFault.TheVariants.{NotAMessage, OutOfMemory}

abbrev pub exchange_number_of : ExchangeFault → ℕ
exchange_number_of OutOfMemory = OUT_OF_MEMORY
exchange_number_of NotAMessage = NOT_A_MESSAGE
