use Rattle.std.specs.Prelude.{Ok}
use Rattle.std.proofs.Common.{◌≤◌, ◌∙◌, [], ◌∷◌, ap, inl, inr, refl, subst}
use Rattle.pg_node_run.specs.Turns.{SeesOnce}
use Rattle.pg_node_run.proofs.GoingOn.{goes_itself, notices_pass, notices_stay}
use Rattle.pg_node_run.proofs.Wanting.{none_kept, not_both, put_off_as}
use Rattle.pg_node_run.proofs.losses.see_told.Goals as goal

-- ---- no such peer

pub returns-then-notice-peer_count-clause-sees : goal.returns-then-notice-peer_count-clause-sees
returns-then-notice-peer_count-clause-sees g c = record {
  losses = [];
  going = goes_itself g.L.Link.accepts g.I.Inlet.gives g.met.L.Link.rests g.met.I.Inlet.rests c.args.linked.now;
  told = notices_stay c.args.notices.now c.args.notices.now refl refl;
}

pub returns-then-notice-peer_count-clause-drained : goal.returns-then-notice-peer_count-clause-drained
returns-then-notice-peer_count-clause-drained g c = λ busy. not_both _ busy c.idle.ensures.busy

pub returns-then-notice-peer_count-clause-put_off : goal.returns-then-notice-peer_count-clause-put_off
returns-then-notice-peer_count-clause-put_off g c = λ whole other kept.
    put_off_as g.L.Link.accepts g.I.Inlet.gives c.args.notice other c.args.linked.now c.args.linked.now c.args.notices.now c.requires.kept kept
    (inl (subst (λ n. n ≤ c.args.notice.peer) c.peer_count.ensures c.if-notice-peer_count.true))

pub returns-then-notice-peer_count-clause-wanting : goal.returns-then-notice-peer_count-clause-wanting
returns-then-notice-peer_count-clause-wanting g c = λ short. not_both _ c.idle.ensures.whole short

-- ---- it was seen

pub returns-in-Ok-true-clause-sees : goal.returns-in-Ok-true-clause-sees
returns-in-Ok-true-clause-sees g c = record {
  losses = c.args.notice ∷ [];
  going = subst (λ r. SeesOnce g.L.Link.accepts g.I.Inlet.gives c.args.notice r c.args.linked.now c.see_when_taken.new.self) (c.in-Ok-true.is ∙ ap Ok c.in-Ok-true.field-0-test) c.see_when_taken.ensures.sees;
  told = notices_pass c.args.notices.now c.args.notices.now c.pass.new.self c.args.notice (notices_stay c.args.notices.now c.args.notices.now refl refl) c.requires.kept c.pass.ensures.inlet
      c.pass.ensures.kept;
}

pub returns-in-Ok-true-clause-put_off : goal.returns-in-Ok-true-clause-put_off
returns-in-Ok-true-clause-put_off g c = λ whole other kept. none_kept other c.pass.new.self c.pass.ensures.kept kept

pub returns-in-Ok-true-clause-wanting : goal.returns-in-Ok-true-clause-wanting
returns-in-Ok-true-clause-wanting g c = λ short. absurd (c.of.ensures.want short)

-- ---- it is put off

pub returns-in-Ok-false-clause-put_off : goal.returns-in-Ok-false-clause-put_off
returns-in-Ok-false-clause-put_off g c = λ whole other kept.
    put_off_as g.L.Link.accepts g.I.Inlet.gives c.args.notice other c.args.linked.now c.see_when_taken.new.self c.args.notices.now c.requires.kept kept
    (inr (inl (c.see_when_taken.ensures.more (c.in-Ok-false.is ∙ ap Ok c.in-Ok-false.field-0-test))))

pub returns-in-Ok-false-clause-wanting : goal.returns-in-Ok-false-clause-wanting
returns-in-Ok-false-clause-wanting g c = λ short. not_both _ c.idle-in-Ok-false.ensures.whole short

pub returns-in-Err-clause-put_off : goal.returns-in-Err-clause-put_off
returns-in-Err-clause-put_off g c = λ whole other kept.
    put_off_as g.L.Link.accepts g.I.Inlet.gives c.args.notice other c.args.linked.now c.see_when_taken.new.self c.args.notices.now c.requires.kept kept
    (inr (inr (c.in-Err.ensures.refused (c.of-in-Err.ensures.no_want whole))))

pub returns-in-Err-clause-wanting : goal.returns-in-Err-clause-wanting
returns-in-Err-clause-wanting g c = λ short. c.in-Err.ensures.wanting (c.of-in-Err.ensures.want short)
