use Rattle.std.proofs.Common.{◌≡◌, ℕ, List, ap₂, ◌+◌, ◌∷◌, ◌++◌, [], take, subst, sym, ap, ◌∙◌, length, arith, get_or}
use Rattle.std.proofs.lemmas.List.{take_all, take_more}
use Rattle.pg_explore.specs.Keeping.{AreLonger, AreUpTo}
use Rattle.pg_explore.proofs.Lengthening.{up_to_nothing, up_to_push}
use Rattle.pg_explore.proofs.losses.keeps_of.Goals as goal

pub loop-most-init : goal.loop-most-init
loop-most-init c =
    let none : c.from_vec.result ≡ [] = c.from_vec.ensures ∙ c.new.ensures.items in
    subst (λ keeps. AreUpTo [] keeps) (sym (c.in_ok-push.ensures.items ∙ ap₂ (λ (old : List (List ℕ)) (keep : List ℕ). old ++ keep ∷ []) c.new-keeps.ensures.items none)) up_to_nothing

pub loop-most-preserved : goal.loop-most-preserved
loop-most-preserved c =
    let lens = c.args.lens.now in
    let i = c.loop-most.most-index in
    subst (λ ls. AreUpTo ls c.in_ok-keeps.keeps.items) (sym (take_more lens i 0 c.loop-most-test.true)) (up_to_push (take i lens) (get_or lens i 0) _ _ c.loop-most.invariant (subst (λ keeps. AreLonger (get_or lens i 0) keeps c.in_ok-keeps.keeps.items) c.as_slice.ensures.value c.in_ok-keeps.ensures))

pub returns : goal.returns
returns c = subst (λ ls. AreUpTo ls c.loop-most.keeps.items) (take_all c.loop-most.most-index c.args.lens.now c.loop-most-test.false) c.loop-most.invariant
