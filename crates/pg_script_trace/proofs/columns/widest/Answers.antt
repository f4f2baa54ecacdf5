use Rattle.std.proofs.Common.{◌≤◌, length, take, ap, ◌∙◌, refl, max, sym}
use Rattle.std.specs.Str.{chars}
use Rattle.std.proofs.lemmas.List.{take_all}
use Rattle.pg_script_trace.specs.Traces.{widest}
use Rattle.pg_script_trace.proofs.Widths.{widest_taken}
use Rattle.pg_script_trace.proofs.columns.widest.Goals as goal

pub loop-place-init : goal.loop-place-init
loop-place-init c = refl

pub loop-place-preserved : goal.loop-place-preserved
loop-place-preserved c =
    c.max-most.ensures ∙ ap (λ n. max n c.char_count.result) c.loop-place.invariant ∙ ap (max (widest (take c.loop-place.place c.args.names.now))) (c.char_count.ensures ∙ ap (λ bytes. length (chars bytes)) c.as_str.ensures.value)
    ∙ sym (widest_taken c.args.names.now c.loop-place.place c.index-names-place.result c.loop-place-test.true c.index-names-place.is)

pub returns : goal.returns
returns c =
    let past : length c.args.names.now ≤ c.loop-place.place = c.loop-place-test.false in
    c.loop-place.invariant ∙ ap widest (take_all c.loop-place.place c.args.names.now past)
