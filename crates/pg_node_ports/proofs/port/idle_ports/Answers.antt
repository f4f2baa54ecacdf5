use Rattle.std.proofs.Common.{◌+◌, ◌∙◌, length, List, refl, sym, ap, subst, arith}
use Rattle.std.proofs.Math.Path.{fun_ext}
use Rattle.pg_node_ports.specs.declared.port.Port.{Port}
use Rattle.pg_node_ports.proofs.IdlePorts.{AreIdle, one_more, one_longer}
use Rattle.pg_node_ports.proofs.port.idle_ports.Goals as goal

pub loop-port-init : goal.loop-port-init
loop-port-init c = record {
  idle = subst AreIdle (sym c.in_ok-made.ensures.items) (record { counts = λ port. refl; answers = λ port. refl; forgotten = λ port. refl });
  count = ap (λ (ports : List Port). length ports) c.in_ok-made.ensures.items;
}

pub loop-port-preserved : goal.loop-port-preserved
loop-port-preserved c = record {
  idle = subst AreIdle (sym c.in_ok-push.ensures.items) (one_more c.loop-port.made.items _ refl c.new.ensures.items refl c.loop-port.invariant.idle);
  count = ap (λ (ports : List Port). length ports) c.in_ok-push.ensures.items ∙ (one_longer c.loop-port.made.items _ ∙ ap (λ n. n + 1) c.loop-port.invariant.count);
}

pub returns-clause-len : goal.returns-clause-len
returns-clause-len c = omega (arith, c.loop-port.invariant.count, c.loop-port.auto.port-end, c.loop-port-test.false)

pub returns-clause-counts : goal.returns-clause-counts
returns-clause-counts c = fun_ext c.loop-port.invariant.idle.counts

pub returns-clause-answers : goal.returns-clause-answers
returns-clause-answers c = fun_ext c.loop-port.invariant.idle.answers

pub returns-clause-forgotten : goal.returns-clause-forgotten
returns-clause-forgotten c = fun_ext c.loop-port.invariant.idle.forgotten
