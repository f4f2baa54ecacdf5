use Rattle.pg_node_run.proofs.Trying.{shorts_push, turns_push, wholes_push}
use Rattle.pg_node_run.specs.Runs.{TurnsMade, shorts, wholes}
use Rattle.pg_node_run.specs.declared.run.Turned.TheVariants.{Whole, Short}
use Rattle.pg_node_run.specs.declared.run.Turned.{Turned}
use Rattle.std.proofs.Common.{List, [], arith, inl, inr, length, length-append, refl, rules, ◌++◌, ◌+◌, ◌∷◌, ◌≡◌, ◌≤◌}
use Rattle.pg_node_run.proofs.GoingOn.{goes_itself, serves_going, runs_on, notices_stay}
use Rattle.pg_node_run.proofs.running.run_node.Goals as goal
use Rattle.pg_node_run.proofs.running.run_node.Goals.{in-Whole, in-Short, else-loop-turn-test}
use Rattle.pg_node_run.proofs.running.run_node.Goals.{then-loop-turn-test+in-Stopped}

pub loop-turn-init : goal.loop-turn-init
loop-turn-init g c =
    let a = c.args.run.linked in
    let n = c.args.run.notices in (
      record {
        losses = [];
        serves = serves_going g.L.Link.accepts g.I.Inlet.gives a a c.args.run.ports.items (goes_itself g.L.Link.accepts g.I.Inlet.gives g.met.L.Link.rests g.met.I.Inlet.rests a);
        told = notices_stay n n refl refl;
      },
      search rules,
      search rules,
      g.met.I.Inlet.rests c.args.run.stop,
      ([], refl, search rules, search rules, search rules),
    )

pub loop-turn-preserved : goal.loop-turn-preserved
loop-turn-preserved g c =
    let was = c.loop-turn.invariant in
    let none : g.I.Inlet.gives c.loop-turn.run.stop [] c.turn.new.self.stop = elim c.match-turn.branch [
      | in-Whole w ↦ rw w.in-Whole.is at c.turn.ensures.stop
      | in-Short w ↦ rw w.in-Short.is at c.turn.ensures.stop
    ] in
    let ts = was.4.0 in
    let traced : (turned : List Turned) × TurnsMade g.L.Link.accepts g.I.Inlet.gives g.L.Link.moves g.I.Inlet.moves turned c.args.run c.turn.new.self × (shorts turned ≡ c.match-turn.short)
    × (wholes turned + c.match-turn.short ≡ c.loop-turn.turn + 1) × (length turned ≡ c.loop-turn.turn + 1) = elim c.match-turn.branch [
      | in-Whole w ↦
          let a = shorts_push ts Whole in
          let b = wholes_push ts Whole in
          let d = length-append ts (Whole ∷ []) in
          let e = was.4.2 in
          let f = was.4.3 in
          let h = was.4.4 in (
            ts ++ Whole ∷ [],
            turns_push g.L.Link.accepts g.I.Inlet.gives g.L.Link.moves g.I.Inlet.moves ts Whole c.args.run c.loop-turn.run c.turn.new.self was.4.1
                (record { runs = c.turn.ensures.runs; stop = rw w.in-Whole.is at c.turn.ensures.stop; did = rw w.in-Whole.is at c.turn.ensures.did; retried = rw w.in-Whole.is at c.turn.ensures.retried }),
            omega arith,
            omega arith,
            omega arith,
          )
      | in-Short w ↦
          let a = shorts_push ts Short in
          let b = wholes_push ts Short in
          let d = length-append ts (Short ∷ []) in
          let e = was.4.2 in
          let f = was.4.3 in
          let h = was.4.4 in (
            ts ++ Short ∷ [],
            turns_push g.L.Link.accepts g.I.Inlet.gives g.L.Link.moves g.I.Inlet.moves ts Short c.args.run c.loop-turn.run c.turn.new.self was.4.1
                (record { runs = c.turn.ensures.runs; stop = rw w.in-Short.is at c.turn.ensures.stop; did = rw w.in-Short.is at c.turn.ensures.did; retried = rw w.in-Short.is at c.turn.ensures.retried }),
            omega arith,
            omega arith,
            omega arith,
          )
    ] in
    let short : c.match-turn.short ≤ c.loop-turn.turn + 1 = elim c.match-turn.branch [ in-Whole w ↦ omega arith | in-Short w ↦ omega arith ] in (
      runs_on g.L.Link.accepts g.I.Inlet.gives g.met.L.Link.composes g.met.I.Inlet.composes c.args.run c.loop-turn.run c.turn.new.self was.0 c.turn.ensures.runs,
      search rules,
      short,
      g.met.I.Inlet.composes c.args.run.stop c.loop-turn.run.stop c.turn.new.self.stop [] [] was.3 none,
      traced,
    )

pub returns-clause-runs : goal.returns-clause-runs
returns-clause-runs g c =
    let was = c.loop-turn.invariant in
    elim c.loop-turn-test.branch [
      | else-loop-turn-test w ↦ rw w.run-is was.0
      | then-loop-turn-test+in-Stopped w ↦ rw w.run-is
          (runs_on g.L.Link.accepts g.I.Inlet.gives g.met.L.Link.composes g.met.I.Inlet.composes c.args.run c.loop-turn.run w.turn.new.self was.0 w.turn.ensures.runs)
    ]

pub returns-clause-ended : goal.returns-clause-ended
returns-clause-ended g c =
    let was = c.loop-turn.invariant in
    elim c.loop-turn-test.branch [
      | else-loop-turn-test w ↦ inl (omega arith, rw w.run-is was.3)
      | then-loop-turn-test+in-Stopped w ↦
          let gave = rw w.in-Stopped.is at w.turn.ensures.stop in
          inr (omega arith, (gave.0, rw w.run-is (g.met.I.Inlet.composes c.args.run.stop c.loop-turn.run.stop w.turn.new.self.stop [] (gave.0 ∷ []) was.3 gave.1)))
    ]

pub returns-clause-made : goal.returns-clause-made
returns-clause-made g c =
    let was = c.loop-turn.invariant in
    elim c.loop-turn-test.branch [
      | else-loop-turn-test w ↦ record { turned = was.4.0; last = c.loop-turn.run; made = was.4.1; short = was.4.2; whole = was.4.3; count = was.4.4; ends = inl w.run-is }
      | then-loop-turn-test+in-Stopped w ↦ record {
        turned = was.4.0;
        last = c.loop-turn.run;
        made = was.4.1;
        short = was.4.2;
        whole = was.4.3;
        count = was.4.4;
        ends = inr (rw w.run-is (record { runs = w.turn.ensures.runs; stop = rw w.in-Stopped.is at w.turn.ensures.stop; did = rw w.in-Stopped.is at w.turn.ensures.did; retried = rw w.in-Stopped.is at w.turn.ensures.retried }));
      }
    ]
