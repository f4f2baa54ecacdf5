use Rattle.std.proofs.Common.{◌<◌, ◌∙◌, ℕ, List, length, ap, subst, sym}
use Rattle.pg_frame.specs.Frames.{front_of}
use Rattle.pg_node.proofs.Linked.{as_err, on_ok}
use Rattle.pg_process.specs.declared.process.Process.{Process}
use Rattle.pg_process.specs.Settled.{IsAtRest}
use Rattle.pg_process.specs.Situations.{Setting, Situation, setting_of, situation_of}
use Rattle.pg_process.specs.Stories.{IsServing}
use Rattle.pg_process.proofs.Storied.{both_ok, fewer_unread, goes_on, halts, heard_next, heard_none, never_ok}
use Rattle.pg_process.proofs.serving.Serving.hear_all.Goals as goal

pub loop-self-init : goal.loop-self-init
loop-self-init g c = record { served = λ story input serving. serving; rest = c.requires }

pub loop-self-smaller : goal.loop-self-smaller
loop-self-smaller g c =
    let now = c.loop-self.self in
    let heard = c.hear_next.new.self in
    let next = heard_next c.in-Ok-true.field-0 now.deframer.unread heard.deframer.unread now.process heard.process c.in-Ok-true.field-0-test c.in-Ok-true.ensures.heard in
    subst (λ (bytes : List ℕ). length bytes < length now.deframer.unread) (sym (ap (λ d. d.unread) c.pass_much.ensures.unread)) (fewer_unread now.deframer.unread heard.deframer.unread now.process heard.process next)

pub loop-self-preserved : goal.loop-self-preserved
loop-self-preserved g c =
    let now = c.loop-self.self in
    let heard = c.hear_next.new.self in
    let next = heard_next c.in-Ok-true.field-0 now.deframer.unread heard.deframer.unread now.process heard.process c.in-Ok-true.field-0-test c.in-Ok-true.ensures.heard in record {
      served = λ story input serving. c.in-Ok.ensures.passed story input
          (goes_on g.W.Sink.contents g.W.Sink.flushed g.L.Sink.contents g.L.Sink.flushed story input now.deframer.unread heard.deframer.unread now.process heard.process c.loop-self.writer c.loop-self.log
          (c.loop-self.invariant.served story input serving) next);
      rest = subst (λ (s : Situation). IsAtRest (setting_of c.pass_much.new.self.process) s) (sym c.pass_much.ensures.situation) (subst (λ (set : Setting). IsAtRest set (situation_of heard.process)) (sym c.pass_much.ensures.setting) next.rest);
    }

pub returns-in-Ok-false-clause-served : goal.returns-in-Ok-false-clause-served
returns-in-Ok-false-clause-served g c =
    let now = c.loop-self.self in
    let heard = c.hear_next.new.self in
    let none = heard_none c.in-Ok-false.field-0 now.deframer.unread heard.deframer.unread now.process heard.process c.in-Ok-false.field-0-test c.in-Ok-false.ensures.heard in
    both_ok c.pass.result _ _ _
    (λ passed gone story input serving. record {
      serving = passed story input
          (subst (λ (bytes : List ℕ). IsServing g.W.Sink.contents g.W.Sink.flushed g.L.Sink.contents g.L.Sink.flushed story input bytes heard.process c.loop-self.writer c.loop-self.log) (sym none.same.0)
          (subst (λ (a : Process). IsServing g.W.Sink.contents g.W.Sink.flushed g.L.Sink.contents g.L.Sink.flushed story input now.deframer.unread a c.loop-self.writer c.loop-self.log) (sym none.same.1) (c.loop-self.invariant.served story input serving)));
      none = ap front_of (ap (λ d. d.unread) c.pass.ensures.unread ∙ none.same.0) ∙ none.none;
      rest = subst (λ (s : Situation). IsAtRest (setting_of c.pass.new.self.process) s) (sym (c.pass.ensures.situation ∙ ap situation_of none.same.1))
          (subst (λ (set : Setting). IsAtRest set (situation_of now.process)) (sym (c.pass.ensures.setting ∙ ap setting_of none.same.1)) c.loop-self.invariant.rest);
      gone = gone;
    }) c.pass.ensures.passed c.pass.ensures.gone

pub returns-in-Ok-false-clause-fault : goal.returns-in-Ok-false-clause-fault
returns-in-Ok-false-clause-fault g c =
    let now = c.loop-self.self in
    let heard = c.hear_next.new.self in
    let none = heard_none c.in-Ok-false.field-0 now.deframer.unread heard.deframer.unread now.process heard.process c.in-Ok-false.field-0-test c.in-Ok-false.ensures.heard in
    as_err c.pass.result _ _
    (λ fault stops story input serving. stops story input
    (subst (λ (bytes : List ℕ). IsServing g.W.Sink.contents g.W.Sink.flushed g.L.Sink.contents g.L.Sink.flushed story input bytes heard.process c.loop-self.writer c.loop-self.log) (sym none.same.0)
    (subst (λ (a : Process). IsServing g.W.Sink.contents g.W.Sink.flushed g.L.Sink.contents g.L.Sink.flushed story input now.deframer.unread a c.loop-self.writer c.loop-self.log) (sym none.same.1) (c.loop-self.invariant.served story input serving))))
    c.pass.ensures.fault

pub returns-in-Err-clause-served : goal.returns-in-Err-clause-served
returns-in-Err-clause-served g c = never_ok c.stop.result _ c.stop.ensures.never

pub returns-in-Err-clause-fault : goal.returns-in-Err-clause-fault
returns-in-Err-clause-fault g c =
    let now = c.loop-self.self in
    as_err c.stop.result _ _
    (λ told stops story input serving. stops story input
    (halts g.W.Sink.contents g.W.Sink.flushed g.L.Sink.contents g.L.Sink.flushed story input now.deframer.unread c.in-Err.fault now.process c.hear_next.new.self.process c.loop-self.writer c.loop-self.log
    (c.loop-self.invariant.served story input serving) c.in-Err.ensures.fault)) c.stop.ensures.fault

pub returns-in-Err-pass_much-clause-fault : goal.returns-in-Err-pass_much-clause-fault
returns-in-Err-pass_much-clause-fault g c = λ story input serving.
    let now = c.loop-self.self in
    let heard = c.hear_next.new.self in
    let next = heard_next c.in-Ok-true.field-0 now.deframer.unread heard.deframer.unread now.process heard.process c.in-Ok-true.field-0-test c.in-Ok-true.ensures.heard in
    c.in-Err-pass_much.ensures.fault story input
    (goes_on g.W.Sink.contents g.W.Sink.flushed g.L.Sink.contents g.L.Sink.flushed story input now.deframer.unread heard.deframer.unread now.process heard.process c.loop-self.writer c.loop-self.log
    (c.loop-self.invariant.served story input serving) next)

pub returns-in-Ok-false-clause-rest : goal.returns-in-Ok-false-clause-rest
returns-in-Ok-false-clause-rest g c =
    let now = c.loop-self.self in
    let heard = c.hear_next.new.self in
    let none = heard_none c.in-Ok-false.field-0 now.deframer.unread heard.deframer.unread now.process heard.process c.in-Ok-false.field-0-test c.in-Ok-false.ensures.heard in
    on_ok c.pass.result _ _
    (λ gone. subst (λ (s : Situation). IsAtRest (setting_of c.pass.new.self.process) s) (sym (c.pass.ensures.situation ∙ ap situation_of none.same.1))
    (subst (λ (set : Setting). IsAtRest set (situation_of now.process)) (sym (c.pass.ensures.setting ∙ ap setting_of none.same.1)) c.loop-self.invariant.rest)) c.pass.ensures.gone

pub returns-in-Err-clause-rest : goal.returns-in-Err-clause-rest
returns-in-Err-clause-rest g c = never_ok c.stop.result _ c.stop.ensures.never
