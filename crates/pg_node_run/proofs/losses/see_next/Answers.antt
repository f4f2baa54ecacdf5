use Rattle.std.proofs.Common.{[]}
use Rattle.pg_node_run.proofs.GoingOn.{goes_itself, notices_on}
use Rattle.pg_node_run.proofs.Wanting.{looked_none, looked_still, not_both}
use Rattle.pg_node_run.proofs.losses.see_next.Goals as goal

pub returns-in-None-clause-sees : goal.returns-in-None-clause-sees
returns-in-None-clause-sees g c = record {
  losses = [];
  going = goes_itself g.L.Link.accepts g.I.Inlet.gives g.met.L.Link.rests g.met.I.Inlet.rests c.args.linked.now;
  told = c.next.ensures.goes;
}

pub returns-in-None-clause-drained : goal.returns-in-None-clause-drained
returns-in-None-clause-drained g c = λ busy. not_both _ busy c.idle.ensures.busy

pub returns-in-None-clause-looked : goal.returns-in-None-clause-looked
returns-in-None-clause-looked g c = λ whole.
    looked_none g.L.Link.accepts g.I.Inlet.gives c.args.linked.now c.args.linked.now c.args.notices.now c.next.new.self c.in-None.ensures.none c.next.ensures.looked

pub returns-in-None-clause-wanting : goal.returns-in-None-clause-wanting
returns-in-None-clause-wanting g c = λ short. not_both _ c.idle.ensures.whole short

pub returns-in-Some-clause-sees : goal.returns-in-Some-clause-sees
returns-in-Some-clause-sees g c =
    let sees = c.see_told.ensures.sees in record {
      losses = sees.losses;
      going = sees.going;
      told = notices_on [] sees.losses c.args.notices.now c.next.new.self c.see_told.new.notices c.next.ensures.goes sees.told;
    }

pub returns-in-Some-clause-looked : goal.returns-in-Some-clause-looked
returns-in-Some-clause-looked g c = λ whole. record {
  put_off = c.see_told.ensures.put_off whole;
  looked = looked_still c.args.notices.now c.next.new.self c.see_told.new.notices c.see_told.ensures.inlet c.next.ensures.looked;
}
