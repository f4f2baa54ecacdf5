use Rattle.std.proofs.Common.{◌≡◌, ◌+◌, ◌∷◌, ◌++◌, [], take, subst, sym, ap, ◌∙◌, length, arith}
use Rattle.std.proofs.lemmas.List.{get_or_read, take_all, take_more}
use Rattle.pg_explore.specs.Keeping.{AreLonger}
use Rattle.pg_explore.proofs.Lengthening.{longer_push}
use Rattle.pg_explore.proofs.losses.longer.Goals as goal

pub loop-keep-preserved : goal.loop-keep-preserved
loop-keep-preserved c =
    let keeps = c.args.keeps.now in
    let i = c.loop-keep.keep-index in
    let keep = c.as_slice.result.now in
    subst (λ ks. AreLonger c.args.most ks c.add_longer.new.all.items) (ap (λ k. take i keeps ++ k ∷ []) (c.as_slice.ensures ∙ get_or_read keeps i c.keep-item.result c.loop-keep-test.true c.keep-item.is keep) ∙ sym (take_more keeps i keep c.loop-keep-test.true))
    (longer_push c.args.most (take i keeps) keep _ _ c.loop-keep.invariant c.in_ok-add_longer.ensures)

pub returns : goal.returns
returns c = subst (λ ks. AreLonger c.args.most ks c.loop-keep.all.items) (take_all c.loop-keep.keep-index c.args.keeps.now c.loop-keep-test.false) c.loop-keep.invariant
