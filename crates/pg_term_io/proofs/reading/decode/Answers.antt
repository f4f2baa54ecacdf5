use Rattle.std.proofs.Common.{refl, arith}
use Rattle.pg_term_io.proofs.Again.{term_again}
use Rattle.pg_term_io.proofs.Decoding.{is_first, is_found, is_spelled, is_told, not_too_long}
use Rattle.pg_term_io.proofs.reading.decode.Goals as goal

pub returns-clause-found : goal.returns-clause-found
returns-clause-found c = is_found c.args.bytes.now c.whole_term.result (λ i. omega (arith, c.type_inv.bytes i)) c.whole_term.ensures.given

pub returns-clause-only : goal.returns-clause-only
returns-clause-only c t h = rw (term_again t c.args.bytes.now h) at c.whole_term.ensures.given

pub returns-clause-told : goal.returns-clause-told
returns-clause-told c = is_told c.args.bytes.now c.whole_term.result (λ i. omega (arith, c.type_inv.bytes i)) c.whole_term.ensures.given

pub returns-clause-first : goal.returns-clause-first
returns-clause-first c f h = is_first c.args.bytes.now c.whole_term.result f c.whole_term.ensures.given c.whole_term.ensures.memory h

pub returns-clause-memory : goal.returns-clause-memory
returns-clause-memory c is =
    let read = c.whole_term.ensures.memory is in
    (read.0, is_spelled c.args.bytes.now read.0 (λ i. omega (arith, c.type_inv.bytes i)) read.1)

pub returns-clause-never : goal.returns-clause-never
returns-clause-never c = not_too_long c.args.bytes.now c.whole_term.result (λ i. omega (arith, c.type_inv.bytes i)) c.whole_term.ensures.given

pub returns-clause-computed : goal.returns-clause-computed
returns-clause-computed c is = rw ((c.whole_term.ensures.memory is).1) refl
