use Rattle.std.proofs.Common.{◌≡◌, ℕ, refl, subst, arith}
use Rattle.pg_node.specs.Nodes.{held_by}
use Rattle.pg_node.specs.PgNodeState.Issued.{ports_of}
use Rattle.pg_process.specs.Turns.{HandsUpTo}
use Rattle.pg_process.proofs.Chained.{itself, work_rests, works_on, works_until}
use Rattle.pg_process.proofs.Situated.{same_ports}
use Rattle.pg_process.proofs.Turning.{hands_next, keeps_next, none_next}
use Rattle.pg_process.proofs.process.Process.hand_over_all.Goals as goal

pub loop-port-init : goal.loop-port-init
loop-port-init c = record {
  works = work_rests c.args.self.now c.args.self.now (itself c.args.self.now);
  hands = refl;
  said = λ other less. absurd (omega (arith, less));
  keeps = λ other less. absurd (omega (arith, less));
  within = omega arith;
}

pub loop-port-preserved : goal.loop-port-preserved
loop-port-preserved c =
    let hands = c.in-Ok.ensures.hands in
    let port = c.loop-port.port in
    let a = c.loop-port.self in
    let b = c.hand_over_at.new.self in record {
      works = works_on c.args.self.now a b c.loop-port.invariant.works c.in-Ok.ensures.works;
      hands = hands_next port _ c.args.is_tick c.args.self.now a b refl c.loop-port.invariant.hands hands;
      said = none_next port c.args.is_tick a b hands c.loop-port.invariant.said;
      keeps = keeps_next port c.args.is_tick a b hands c.loop-port.invariant.keeps;
      within = omega (arith, c.loop-port-test.true, c.len-port-end.ensures);
    }

pub returns-clause-hands : goal.returns-clause-hands
returns-clause-hands c =
    let all : c.loop-port.port ≡ ports_of (held_by c.args.self.now.node) = omega (arith, c.loop-port.invariant.within, c.args.self.now.all_desks, c.len-port-end.ensures, c.loop-port-test.false) in
    subst (λ (n : ℕ). HandsUpTo n c.args.is_tick c.args.self.now c.loop-port.self) all c.loop-port.invariant.hands

pub returns-clause-said : goal.returns-clause-said
returns-clause-said c = λ port less.
    let same = same_ports c.args.self.now c.loop-port.self c.loop-port.invariant.works.goes.setting in
    c.loop-port.invariant.said port (omega (arith, less, same, c.args.self.now.all_desks, c.len-port-end.ensures, c.loop-port-test.false))

pub returns-clause-kept : goal.returns-clause-kept
returns-clause-kept c = λ port less.
    let same = same_ports c.args.self.now c.loop-port.self c.loop-port.invariant.works.goes.setting in
    c.loop-port.invariant.keeps port (omega (arith, less, same, c.args.self.now.all_desks, c.len-port-end.ensures, c.loop-port-test.false))

pub returns-in-Err-clause-until : goal.returns-in-Err-clause-until
returns-in-Err-clause-until c = works_until c.in-Err.fault c.args.self.now c.loop-port.self c.hand_over_at.new.self c.loop-port.invariant.works c.in-Err.ensures.until
