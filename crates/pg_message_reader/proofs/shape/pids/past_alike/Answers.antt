use Rattle.std.proofs.Common.{◌≡◌, ℕ, suc, ◌-◌, List, ◌++◌, length, length-append}
use Rattle.std.proofs.Common.{length-drop, sym, ap, subst, ◌∙◌, arith}
use Rattle.pg_message_types.specs.PgTermIo.Reading.{item_at}
use Rattle.pg_message_types.specs.Parts.{pid_of}
use Rattle.pg_message_reader.specs.Shapes.Lists.{EndsAlike}
use Rattle.pg_message_reader.proofs.Shapes.Alike.{named, one_alike}
use Rattle.pg_message_reader.proofs.shape.pids.past_alike.Goals as goal

pub loop-others-preserved : goal.loop-others-preserved
loop-others-preserved c =
    let head = c.in-Some.ensures.some in
    let left = c.in-Some-past_numbers.ensures in
    let begins = left.1 ∙ ap (λ (x : List ℕ). x ++ left.0) head.is in
    record {
      pids = λ room t end e levels whole rest before.
          let first = named head.text t end room head.numbers (sym (ap (item_at room) head.first) ∙ e) in
          let count : c.loop-others.others ≡ suc (c.loop-others.others - 1) = omega (arith, c.loop-others-test.true) in
          let now = subst (λ (n : ℕ). EndsAlike pid_of levels n c.loop-others.left.now whole rest) count (c.loop-others.invariant.pids room t end e levels whole rest before) in
          subst (λ (x : List ℕ). EndsAlike pid_of levels (c.loop-others.others - 1) x whole rest) (sym left.3)
          (one_alike head.text first.pid.node first.node left.0 left.2 levels (c.loop-others.others - 1) c.loop-others.left.now whole rest begins now);
      shorter = omega (arith, c.loop-others.invariant.shorter, ap length left.1, length-append c.in-Some.head.now left.0, ap length left.3, length-drop 12 left.0);
    }
