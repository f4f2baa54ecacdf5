use Rattle.std.proofs.Common.{◌∙◌, Err, refl, sym, ap, arith}
use Rattle.std.specs.Int.{w32}
use Rattle.pg_term.specs.declared.fault.TermFault.TheVariants.{OutOfMemory}
use Rattle.pg_term_io.specs.Reading.{pid_at}
use Rattle.pg_term_io.specs.Scanning.{fault_or_memory}
use Rattle.pg_term_io.proofs.Decoding.{pid_tells, pid_is_read, same_fault, told_of}
use Rattle.pg_term_io.proofs.reading.identifiers.decode_pid.Goals as goal

-- the walk tells what reading tells
pub returns-in-Err-OutOfMemory-clause-exact : goal.returns-in-Err-OutOfMemory-clause-exact
returns-in-Err-OutOfMemory-clause-exact c =
    let walk = pid_tells (λ rest. rest.now) c.pid.result c.args.bytes.now c.pid.ensures in
    rw (c.fault_of.ensures, walk) (told_of (pid_at w32 c.args.bytes.now))

pub returns-in-Err-OutOfMemory-clause-first : goal.returns-in-Err-OutOfMemory-clause-first
returns-in-Err-OutOfMemory-clause-first c f h =
    let walk = pid_tells (λ rest. rest.now) c.pid.result c.args.bytes.now c.pid.ensures in
    ap Err (c.fault_of.ensures ∙ walk ∙ ap fault_or_memory h)

pub returns-in-Err-OutOfMemory-clause-computed : goal.returns-in-Err-OutOfMemory-clause-computed
returns-in-Err-OutOfMemory-clause-computed c is =
    let walk = pid_tells (λ rest. rest.now) c.pid.result c.args.bytes.now c.pid.ensures in
    pid_is_read c.args.bytes.now (λ i. omega (arith, c.type_inv.bytes i))
    (sym walk ∙ sym c.fault_of.ensures ∙ same_fault (Err c.fault_of.result) c.fault_of.result OutOfMemory refl is)
