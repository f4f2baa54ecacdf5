use Rattle.std.proofs.Common.{arith}
use Rattle.pg_term_io.specs.Reading.{term_of}
use Rattle.pg_term_io.proofs.Decoding.{is_read, told_of}
use Rattle.pg_term_io.proofs.reading.whole_term.Goals as goal

pub returns-in-Err-OutOfMemory-clause-given : goal.returns-in-Err-OutOfMemory-clause-given
returns-in-Err-OutOfMemory-clause-given c = rw (c.fault_without_memory.ensures) (told_of (term_of c.args.bytes.now))

pub returns-in-Err-OutOfMemory-clause-memory : goal.returns-in-Err-OutOfMemory-clause-memory
returns-in-Err-OutOfMemory-clause-memory c is = is_read c.args.bytes.now (λ i. omega (arith, c.type_inv.bytes i)) (let e = c.fault_without_memory.ensures in cc)
