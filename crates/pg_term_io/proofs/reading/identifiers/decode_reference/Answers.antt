use Rattle.std.proofs.Common.{◌∙◌, Err, refl, sym, ap, arith}
use Rattle.std.specs.Int.{w32}
use Rattle.pg_term.specs.declared.fault.TermFault.TheVariants.{OutOfMemory}
use Rattle.pg_term_io.specs.Reading.{new_reference_at}
use Rattle.pg_term_io.specs.Scanning.{fault_or_memory}
use Rattle.pg_term_io.proofs.Decoding.{reference_tells, reference_is_read, same_fault, told_of}
use Rattle.pg_term_io.proofs.reading.identifiers.decode_reference.Goals as goal

-- the walk tells what reading tells
pub returns-in-Err-OutOfMemory-clause-exact : goal.returns-in-Err-OutOfMemory-clause-exact
returns-in-Err-OutOfMemory-clause-exact c =
    let walk = reference_tells (λ rest. rest.now) c.reference.result c.args.bytes.now c.reference.ensures in
    rw (c.fault_of.ensures, walk) (told_of (new_reference_at w32 c.args.bytes.now))

pub returns-in-Err-OutOfMemory-clause-first : goal.returns-in-Err-OutOfMemory-clause-first
returns-in-Err-OutOfMemory-clause-first c f h =
    let walk = reference_tells (λ rest. rest.now) c.reference.result c.args.bytes.now c.reference.ensures in
    ap Err (c.fault_of.ensures ∙ walk ∙ ap fault_or_memory h)

pub returns-in-Err-OutOfMemory-clause-computed : goal.returns-in-Err-OutOfMemory-clause-computed
returns-in-Err-OutOfMemory-clause-computed c is =
    let walk = reference_tells (λ rest. rest.now) c.reference.result c.args.bytes.now c.reference.ensures in
    reference_is_read c.args.bytes.now (λ i. omega (arith, c.type_inv.bytes i))
    (sym walk ∙ sym c.fault_of.ensures ∙ same_fault (Err c.fault_of.result) c.fault_of.result OutOfMemory refl is)
