use Rattle.std.proofs.Common.{◌≡◌, ◌∙◌, List, [], ◌∷◌, ◌++◌, sym, refl, ap, subst}
use Rattle.std.specs.Prelude.{false}
use Rattle.pg_node_run.specs.declared.pauses.Pause.{Pause}
use Rattle.pg_node_run.specs.declared.pauses.Wait.TheVariants.{Turns}
use Rattle.pg_node_run.specs.Pauses.{Passed, wait_in, wait_of}
use Rattle.pg_node_run.proofs.Pausing.{begins_there, changes, others_pushed, passes_there, waits_none}
use Rattle.pg_node_run.proofs.pauses.Pauses.pass.Goals as goal

pub returns-in-Some-clause-passed : goal.returns-in-Some-clause-passed
returns-in-Some-clause-passed g c =
    passes_there c.args.op c.args.self.now.entries.items _ c.index_mut-pause.result.now c.pass.new.self c.pass.result
    (changes c.args.op c.args.self.now.entries.items c.in-Some.place c.index_mut-pause.result.now c.pass.new.self c.in-Some.ensures.within c.index_mut-pause.ensures.value c.in-Some.ensures.some c.pass.ensures.op c.in-Some.ensures.first)
    c.pass.ensures.passed

pub returns-in-Some-clause-others : goal.returns-in-Some-clause-others
returns-in-Some-clause-others g c = λ other apart.
    (changes c.args.op c.args.self.now.entries.items c.in-Some.place c.index_mut-pause.result.now c.pass.new.self c.in-Some.ensures.within c.index_mut-pause.ensures.value c.in-Some.ensures.some c.pass.ensures.op c.in-Some.ensures.first).others other apart

pub returns-in_ok-reserve-in-None-clause-passed : goal.returns-in_ok-reserve-in-None-clause-passed
returns-in_ok-reserve-in-None-clause-passed g c =
    let next : Pause = record { op = c.args.op; refused = 1; wait = Turns c.pause_after.result } in
    let more : c.push_reserved.new.self.items ≡ c.args.self.now.entries.items ++ next ∷ [] = ◌∙◌ {A = List Pause} c.push_reserved.ensures.items (ap (λ xs. xs ++ next ∷ []) c.reserve.ensures.items) in
    subst (λ xs. Passed (wait_of c.args.self.now c.args.op) false (wait_in c.args.op xs)) (sym more)
    (begins_there c.args.op c.args.self.now.entries.items next c.pause_after.result refl c.in-None.ensures.none refl c.pause_after.ensures.least c.pause_after.ensures.most)

pub returns-in_ok-reserve-in-None-clause-others : goal.returns-in_ok-reserve-in-None-clause-others
returns-in_ok-reserve-in-None-clause-others g c = λ other apart.
    let next : Pause = record { op = c.args.op; refused = 1; wait = Turns c.pause_after.result } in
    let more : c.push_reserved.new.self.items ≡ c.args.self.now.entries.items ++ next ∷ [] = ◌∙◌ {A = List Pause} c.push_reserved.ensures.items (ap (λ xs. xs ++ next ∷ []) c.reserve.ensures.items) in
    ap (wait_in other) more ∙ others_pushed other c.args.self.now.entries.items next (λ e. apart (sym e))

pub returns-in_err-reserve-in-None-clause-sure : goal.returns-in_err-reserve-in-None-clause-sure
returns-in_err-reserve-in-None-clause-sure g c = λ some. absurd (some (waits_none c.args.op c.args.self.now.entries.items c.in-None.ensures.none))
