use Rattle.std.proofs.Common.{◌≡◌, ◌∙◌, refl, sym, subst}
use Rattle.std.specs.Prelude.{Option, slice_get, Some}
use Rattle.std.proofs.lemmas.Option.{slice_get_read}
use Rattle.pg_explore.specs.declared.explored.Met.{Met}
use Rattle.pg_explore.specs.declared.moment.Moment.{Moment}
use Rattle.pg_explore.specs.Explorations.{LeadsFrom, met_of, sight_in}
use Rattle.pg_explore.specs.Moments.{sight_of}
use Rattle.pg_explore.specs.Moves.{ComesOf, MoveLeads, Stays}
use Rattle.pg_explore.proofs.Leading.{arrives_by}
use Rattle.pg_explore.proofs.Optional.{some_is}
use Rattle.pg_explore.proofs.explored.Explored.lead.Goals as goal

pub returns-in-Ok-Some-clause-arrives : goal.returns-in-Ok-Some-clause-arrives
returns-in-Ok-Some-clause-arrives c =
    let mets = met_of c.args.self.now in
    let plans = c.args.plans.now in
    let step = c.args.step.now in
    let was = c.index-met.result.now in
    let at = slice_get_read mets _ c.args.place was refl c.requires.place c.index-met.ensures in
    let comes = subst (λ (o : Option Moment). ComesOf plans (sight_in was) step o) c.in-Ok-Some.field-0-is c.in-Ok-Some.ensures.comes in
    let leads : LeadsFrom plans mets c.args.place step (sight_of c.in-Ok-Some.moment) = λ met here. subst (λ (m : Met). MoveLeads plans (sight_in m) step (sight_of c.in-Ok-Some.moment)) (some_is was met (sym at ∙ here)) comes in
    arrives_by c.meet.result plans mets (met_of c.meet.new.self) c.args.place step (sight_of c.in-Ok-Some.moment) c.meet.ensures.grows c.requires.place leads c.meet.ensures.arrived

pub returns-in-Ok-None-clause-arrives : goal.returns-in-Ok-None-clause-arrives
returns-in-Ok-None-clause-arrives c = λ met here.
    let mets = met_of c.args.self.now in
    let plans = c.args.plans.now in
    let step = c.args.step.now in
    let was = c.index-met.result.now in
    let at = slice_get_read mets _ c.args.place was refl c.requires.place c.index-met.ensures in
    let comes = subst (λ (o : Option Moment). ComesOf plans (sight_in was) step o) c.in-Ok-None.field-0-is c.in-Ok-None.ensures.comes in
    subst (λ (m : Met). Stays plans (sight_in m) step) (some_is was met (sym at ∙ here)) comes
