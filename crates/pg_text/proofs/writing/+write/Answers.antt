use Rattle.std.proofs.Common.{OnOk, Result, Ok, Err, subst, sym}
use Rattle.pg_text.specs.Again.{ReadsBack, ReadBack}
use Rattle.pg_text.proofs.Adding.{adds_then, adds_last, adds_term}
use Rattle.pg_text.proofs.TermsBack.{read_back_more, tuple_reads_back, list_reads_back}
use Rattle.pg_text.proofs.writing.+write.Goals as goal

where_ok : {T E : Type 0} (P Q : Type 0) (r : Result T E) → (P → Q) → OnOk r P → OnOk r Q
where_ok P Q (Ok x) f p = f p
where_ok P Q (Err e) f p = p

pub write_between-returns-clause-text : goal.write_between-returns-clause-text
write_between-returns-clause-text t c = adds_last _ _ _ (adds_then c.in_ok-put.ensures c.in_ok-write_all.ensures.text) c.put-2.ensures

pub write_all-loop-at-preserved : goal.write_all-loop-at-preserved
write_all-loop-at-preserved t c = (
  adds_term c.args.terms.now c.loop-at.at c.index-terms-at.result _ _ _ _ c.loop-at-test.true c.index-terms-at.is c.loop-at.invariant.0 c.in_ok-write_comma.ensures c.in_ok-write_term.ensures.text,
  read_back_more c.args.terms.now c.loop-at.at c.index-terms-at.result c.loop-at-test.true c.index-terms-at.is c.loop-at.invariant.1 c.in_ok-write_term.ensures.again,
)

pub write_term-returns-in-Tuple-clause-again : goal.write_term-returns-in-Tuple-clause-again
write_term-returns-in-Tuple-clause-again t c = where_ok (ReadBack c.as_slice.result.now) (ReadsBack c.args.term.now) c.write_between.result
    (λ h. subst ReadsBack (sym c.in-Tuple.is) (tuple_reads_back c.in-Tuple.elements (subst ReadBack c.as_slice.ensures h))) c.write_between.ensures.again

pub write_term-returns-in-List-clause-again : goal.write_term-returns-in-List-clause-again
write_term-returns-in-List-clause-again t c = where_ok (ReadBack c.as_slice-in-List.result.now) (ReadsBack c.args.term.now) c.write_between-in-List.result
    (λ h. subst ReadsBack (sym c.in-List.is) (list_reads_back c.in-List.elements (subst ReadBack c.as_slice-in-List.ensures h))) c.write_between-in-List.ensures.again
