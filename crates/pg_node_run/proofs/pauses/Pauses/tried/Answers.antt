use Rattle.std.proofs.Common.{refl}
use Rattle.pg_node_run.proofs.Pausing.{changes, waits_none, waits_there}
use Rattle.pg_node_run.proofs.pauses.Pauses.tried.Goals as goal

pub returns-in-Some-clause-tried : goal.returns-in-Some-clause-tried
returns-in-Some-clause-tried c = λ some.
    (changes c.args.op c.args.self.now.entries.items c.in-Some.place c.index_mut-pause.result.now _ c.in-Some.ensures.within c.index_mut-pause.ensures.value c.in-Some.ensures.some refl c.in-Some.ensures.first).is

pub returns-in-Some-clause-none : goal.returns-in-Some-clause-none
returns-in-Some-clause-none c = λ none. absurd (waits_there c.args.op c.args.self.now.entries.items c.in-Some.place c.in-Some.ensures.within c.in-Some.ensures.some c.in-Some.ensures.first none)

pub returns-in-Some-clause-others : goal.returns-in-Some-clause-others
returns-in-Some-clause-others c = λ other apart.
    (changes c.args.op c.args.self.now.entries.items c.in-Some.place c.index_mut-pause.result.now _ c.in-Some.ensures.within c.index_mut-pause.ensures.value c.in-Some.ensures.some refl c.in-Some.ensures.first).others other apart

pub returns-in-None-clause-tried : goal.returns-in-None-clause-tried
returns-in-None-clause-tried c = λ some. absurd (some (waits_none c.args.op c.args.self.now.entries.items c.in-None.ensures.none))
