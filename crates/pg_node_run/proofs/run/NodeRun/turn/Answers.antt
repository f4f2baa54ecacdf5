use Rattle.std.proofs.Common.{◌≡◌, [], get_or, refl, rules}
use Rattle.std.specs.Prelude.{true}
use Rattle.pg_node_run.specs.Tries.{ComesTo, HasPutAll}
use Rattle.pg_node_run.proofs.Forgetting.{more_before}
use Rattle.pg_node_run.proofs.GoingOn.{goes_itself, serves_going, serves_turn, notices_stay}
use Rattle.pg_node_run.proofs.Served.{handed_after, served_kept_on}
use Rattle.pg_node_run.proofs.Wanting.{drained_between, looked_between, pulled_still, put_after, turn_wanting}
use Rattle.pg_node_run.proofs.Trying.{comes_on, tried_still}
use Rattle.pg_node_run.proofs.Turning.{retried_by, retried_due, turn_did, turned_on}
use Rattle.pg_node_run.specs.Follows.{log_of}
use Rattle.pg_node_run.proofs.run.NodeRun.turn.Goals as goal

pub returns-then-take-gt0-clause-runs : goal.returns-then-take-gt0-clause-runs
returns-then-take-gt0-clause-runs g c =
    let a = c.args.self.now.linked in
    let n = c.args.self.now.notices in record {
      losses = [];
      serves = serves_going g.L.Link.accepts g.I.Inlet.gives a a c.args.self.now.ports.items (goes_itself g.L.Link.accepts g.I.Inlet.gives g.met.L.Link.rests g.met.I.Inlet.rests a);
      told = notices_stay n n refl refl;
    }

pub returns-clause-runs : goal.returns-clause-runs
returns-clause-runs g c = record {
  losses = c.see_next-saw.ensures.sees.losses;
  serves = serves_turn g.L.Link.accepts g.I.Inlet.gives g.met.L.Link.composes g.met.I.Inlet.composes c.see_next-saw.ensures.sees.losses c.args.self.now.linked c.take_all-took.new.self
      c.see_next-saw.new.linked c.command_all-commanded.new.linked c.retry_all-retried.new.linked c.put_all-put.new.self c.args.self.now.ports.items c.command_all-commanded.new.ports.items
      c.hand_all-handed.new.ports.items c.take_all-took.ensures.goes c.see_next-saw.ensures.sees.going c.command_all-commanded.ensures.serves c.retry_all-retried.ensures.goes c.put_all-put.ensures.goes c.hand_all-handed.ensures.serves;
  told = c.see_next-saw.ensures.sees.told;
}

pub returns-clause-stop : goal.returns-clause-stop
returns-clause-stop g c =
    let gave : g.I.Inlet.gives c.args.self.now.stop [] c.take.new.self = search rules in
    turned_on g.I.Inlet.gives c.turned_by.result c.and-phase.result.whole c.args.self.now.stop c.take.new.self c.turned_by.ensures gave

pub returns-clause-did : goal.returns-clause-did
returns-clause-did g c =
    let a = c.args.self.now.linked in
    let b = c.take_all-took.new.self in
    let d = c.see_next-saw.new.linked in
    let e = c.command_all-commanded.new.linked in
    let f = c.retry_all-retried.new.linked in
    let h = c.put_all-put.new.self in
    let p = c.args.self.now.ports.items in
    let q = c.command_all-commanded.new.ports.items in
    let r = c.hand_all-handed.new.ports.items in
    let on = comes_on g.L.Link.accepts g.I.Inlet.gives g.met.L.Link.rests g.met.I.Inlet.rests g.met.L.Link.composes g.met.I.Inlet.composes in
    let took : ComesTo g.L.Link.accepts g.I.Inlet.gives a b = (c.take_all-took.ensures.goes.acts, c.take_all-took.ensures.goes.follows) in
    let saw : ComesTo g.L.Link.accepts g.I.Inlet.gives b d = (c.see_next-saw.ensures.sees.going.acts, c.see_next-saw.ensures.sees.going.follows) in
    let commanded : ComesTo g.L.Link.accepts g.I.Inlet.gives d e = (c.command_all-commanded.ensures.serves.acts, c.command_all-commanded.ensures.serves.follows) in
    let retried : ComesTo g.L.Link.accepts g.I.Inlet.gives e f = (c.retry_all-retried.ensures.goes.acts, c.retry_all-retried.ensures.goes.follows) in
    let put : ComesTo g.L.Link.accepts g.I.Inlet.gives f h = (c.put_all-put.ensures.goes.acts, c.put_all-put.ensures.goes.follows) in
    let later : ComesTo g.L.Link.accepts g.I.Inlet.gives d h = on d e h commanded (on e f h retried put) in
    let all_put : HasPutAll g.L.Link.accepts g.I.Inlet.gives g.L.Link.moves a h =
    put_after g.L.Link.accepts g.I.Inlet.gives g.met.L.Link.rests g.met.I.Inlet.rests g.met.L.Link.composes g.met.I.Inlet.composes g.L.Link.moves a f h (on a b f took (on b d f saw (on d e f commanded retried))) c.put_all-put.ensures.put in
    let fourth : c.and-phase.result.whole ≡ true → c.and-2.result.whole ≡ true = λ whole. c.and-3.ensures.first (c.and-4.ensures.first (c.and-phase.ensures.first whole)) in
    turn_did g.L.Link.accepts g.I.Inlet.gives g.L.Link.moves g.I.Inlet.moves c.turned_by.result c.and-phase.result.whole c.args.self.now _ c.turned_by.ensures
    (λ whole. record {
      pulled = pulled_still g.L.Link.accepts g.I.Inlet.gives g.met.L.Link.rests g.met.I.Inlet.rests g.met.L.Link.composes g.met.I.Inlet.composes g.I.Inlet.moves a b h (c.take_all-took.ensures.pulled (c.and.ensures.first (c.and-2.ensures.first (fourth whole)))) (on b d h saw later);
      took = tried_still g.L.Link.accepts g.I.Inlet.gives g.met.L.Link.rests g.met.I.Inlet.rests g.met.L.Link.composes g.met.I.Inlet.composes a b h (c.take_all-took.ensures.tried (c.and.ensures.first (c.and-2.ensures.first (fourth whole)))) (on b d h saw later);
      looked = looked_between g.L.Link.accepts g.I.Inlet.gives g.met.L.Link.rests g.met.I.Inlet.rests g.met.L.Link.composes g.met.I.Inlet.composes a b d h c.args.self.now.notices c.see_next-saw.new.notices took
          (c.see_next-saw.ensures.looked (c.and.ensures.second (c.and-2.ensures.first (fourth whole)))) later;
      served = served_kept_on p q r (c.command_all-commanded.ensures.served (c.and-2.ensures.second (fourth whole))) c.hand_all-handed.ensures.kept;
      put = all_put;
      handed = handed_after _ p q r c.command_all-commanded.ensures.serves.served.len c.command_all-commanded.ensures.count (c.hand_all-handed.ensures.all (c.and-phase.ensures.second whole));
    })
    (λ short. record {
      wanted = turn_wanting g.L.Link.accepts g.I.Inlet.gives g.met.L.Link.rests g.met.I.Inlet.rests g.met.L.Link.composes g.met.I.Inlet.composes c.take_all-took.result.whole c.see_next-saw.result.whole
          c.command_all-commanded.result.whole c.retry_all-retried.result.whole c.put_all-put.result.whole c.hand_all-handed.result.whole c.and.result.whole c.and-2.result.whole c.and-3.result.whole
          c.and-4.result.whole c.and-phase.result.whole a b d e f h _ c.and.ensures.either c.and-2.ensures.either c.and-3.ensures.either c.and-4.ensures.either c.and-phase.ensures.either
          took saw commanded retried put c.take_all-took.ensures.wanting c.see_next-saw.ensures.wanting c.command_all-commanded.ensures.wanting c.retry_all-retried.ensures.wanting c.put_all-put.ensures.whole
          c.hand_all-handed.ensures.left short;
      put = all_put;
    })

pub returns-clause-retried : goal.returns-clause-retried
returns-clause-retried g c =
    let a = c.args.self.now.linked in
    let b = c.take_all-took.new.self in
    let d = c.see_next-saw.new.linked in
    let e = c.command_all-commanded.new.linked in
    let f = c.retry_all-retried.new.linked in
    let h = c.put_all-put.new.self in
    let on = comes_on g.L.Link.accepts g.I.Inlet.gives g.met.L.Link.rests g.met.I.Inlet.rests g.met.L.Link.composes g.met.I.Inlet.composes in
    let took : ComesTo g.L.Link.accepts g.I.Inlet.gives a b = (c.take_all-took.ensures.goes.acts, c.take_all-took.ensures.goes.follows) in
    let saw : ComesTo g.L.Link.accepts g.I.Inlet.gives b d = (c.see_next-saw.ensures.sees.going.acts, c.see_next-saw.ensures.sees.going.follows) in
    let commanded : ComesTo g.L.Link.accepts g.I.Inlet.gives d e = (c.command_all-commanded.ensures.serves.acts, c.command_all-commanded.ensures.serves.follows) in
    let retried : ComesTo g.L.Link.accepts g.I.Inlet.gives e f = (c.retry_all-retried.ensures.goes.acts, c.retry_all-retried.ensures.goes.follows) in
    let put : ComesTo g.L.Link.accepts g.I.Inlet.gives f h = (c.put_all-put.ensures.goes.acts, c.put_all-put.ensures.goes.follows) in
    retried_by g.L.Link.accepts g.I.Inlet.gives g.L.Link.moves g.I.Inlet.moves c.turned_by.result c.and-phase.result.whole c.args.self.now _ c.turned_by.ensures (λ whole is.
    retried_due g.L.Link.accepts g.I.Inlet.gives g.met.L.Link.rests g.met.I.Inlet.rests g.met.L.Link.composes g.met.I.Inlet.composes g.L.Link.moves g.I.Inlet.moves whole c.retry_all-retried.result.whole c.see_next-saw.result.busy
    c.args.self.now _ e f c.retry_all-retried.new.pauses (log_of b) (log_of d) (λ all. c.and-3.ensures.second (c.and-4.ensures.first (c.and-phase.ensures.first (is all))))
    (λ lost. drained_between g.L.Link.accepts g.I.Inlet.gives g.met.L.Link.rests g.met.I.Inlet.rests g.met.L.Link.composes g.met.I.Inlet.composes g.I.Inlet.moves a b d h took (c.see_next-saw.ensures.drained lost) (on d e h commanded (on e f h retried put)))
    (on a b e took (on b d e saw commanded)) (c.retry_all-retried.ensures.goes.acts, c.retry_all-retried.ensures.goes.follows) (c.put_all-put.ensures.goes.acts, c.put_all-put.ensures.goes.follows)
    c.retry_all-retried.ensures.tried c.retry_all-retried.ensures.waits c.retry_all-retried.ensures.others c.take_all-took.ensures.logs c.see_next-saw.ensures.logs c.command_all-commanded.ensures.logs
    c.retry_all-retried.ensures.logs c.put_all-put.ensures.log c.hand_all-handed.ensures.forgets.stays
    (λ op none. more_before op (get_or c.args.self.now.ports.items op.port none) (get_or c.command_all-commanded.new.ports.items op.port none) (get_or c.hand_all-handed.new.ports.items op.port none) c.hand_all-handed.new.pauses
    (c.command_all-commanded.ensures.count op.port none).0 (c.hand_all-handed.ensures.forgets.gone op none)))
