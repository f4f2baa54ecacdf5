use Rattle.std.proofs.Common.{◌∙◌, Err, refl, sym, arith}
use Rattle.pg_term.specs.declared.fault.TermFault.TheVariants.{OutOfMemory}
use Rattle.pg_term_io.specs.Reading.{item_at}
use Rattle.pg_term_io.proofs.Decoding.{walk_tells, item_is_read, same_fault}
use Rattle.pg_term_io.proofs.reading.decode_item.Goals as goal

pub returns-in-Err-OutOfMemory-clause-computed : goal.returns-in-Err-OutOfMemory-clause-computed
returns-in-Err-OutOfMemory-clause-computed c is =
    item_is_read c.args.levels c.args.bytes.now (λ i. omega (arith, c.type_inv.bytes i))
    (sym (walk_tells (λ rest. rest.now) c.skip_item.result (item_at c.args.levels c.args.bytes.now) c.skip_item.ensures.exact) ∙ sym c.fault_of.ensures ∙ same_fault (Err c.fault_of.result) c.fault_of.result OutOfMemory refl is)
