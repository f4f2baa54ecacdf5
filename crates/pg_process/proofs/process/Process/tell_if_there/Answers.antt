use Rattle.std.proofs.Common.{◌≡◌, arith, ℕ, Bool, true, false, Ok, ap, refl, subst, sym}
use Rattle.pg_node.specs.Nodes.{held_by}
use Rattle.pg_node.specs.PgNodeState.States.{kept_by, live_of}
use Rattle.pg_node.specs.PgStep.Attempts.{waits}
use Rattle.pg_process.specs.declared.process.Process.{Process}
use Rattle.pg_process.specs.Chains.{Makes, Rests, Works}
use Rattle.pg_process.specs.Deeds.{Denied}
use Rattle.pg_process.specs.Settled.{IsToldDenied, OnlyDenied}
use Rattle.pg_process.specs.Situations.{Situation, situation_of}
use Rattle.pg_process.proofs.Chained.{fails_until, work_made, work_rests}
use Rattle.pg_process.proofs.Waiting.{denied_made, denied_rests, told_made}
use Rattle.pg_process.proofs.process.Process.tell_if_there.Goals as goal

by : (is_new : Bool) (port : _) (a b : Process) → (is_new ≡ true → Makes (Denied port) a b) → (is_new ≡ false → Rests a b) → Works a b
by true port a b made none = work_made (Denied port) a b tt (made refl)
by false port a b made none = work_rests a b (none refl)

only_by : (is_new : Bool) (port : _) (a b : Process) → (is_new ≡ true → Makes (Denied port) a b) → (is_new ≡ false → Rests a b) → OnlyDenied (situation_of a) (situation_of b)
only_by true port a b made none = denied_made port a b (made refl)
only_by false port a b made none = denied_rests (situation_of a) (situation_of b) (none refl).same

told_by : (is_new : Bool) (port : _) (a b : Process) → (is_new ≡ true → Makes (Denied port) a b) → (is_new ≡ false → Rests a b × IsToldDenied (situation_of a) port) → IsToldDenied (situation_of b) port
told_by true port a b made none = told_made port a b (made refl)
told_by false port a b made none = let is = none refl in subst (λ (s : Situation). IsToldDenied s port) (sym is.0.same) is.1

pub returns-in-Ok-clause-only : goal.returns-in-Ok-clause-only
returns-in-Ok-clause-only c = only_by c.in-Ok.field-0 c.from-port.result _ _ c.in-Ok.ensures.made (λ is. (c.in-Ok.ensures.none (ap (λ b. Ok b) is)).0)

pub returns-in-Ok-clause-told : goal.returns-in-Ok-clause-told
returns-in-Ok-clause-told c = λ there.
    subst (λ (k : ℕ). IsToldDenied (situation_of c.tell_denied.new.self) k) c.from-port.ensures
    (told_by c.in-Ok.field-0 c.from-port.result _ _ c.in-Ok.ensures.made (λ is. c.in-Ok.ensures.none (ap (λ b. Ok b) is)))

pub returns-then-port-len-clause-told : goal.returns-then-port-len-clause-told
returns-then-port-len-clause-told c = λ there. absurd (omega (arith, there, c.len.ensures, c.from-port.ensures, c.args.self.now.all_desks, c.if-port-len.true))

pub returns-then-port-len-clause-only : goal.returns-then-port-len-clause-only
returns-then-port-len-clause-only c = denied_rests _ _ refl

pub returns-in-Ok-clause-works : goal.returns-in-Ok-clause-works
returns-in-Ok-clause-works c = by c.in-Ok.field-0 c.from-port.result _ _ c.in-Ok.ensures.made (λ is. (c.in-Ok.ensures.none (ap (λ b. Ok b) is)).0)

pub returns-in-Err-clause-until : goal.returns-in-Err-clause-until
returns-in-Err-clause-until c = fails_until (Denied c.from-port.result) c.in-Err.fault _ _ c.in-Err.ensures.failed

pub tell_denied-requires-clause-denied : goal.tell_denied-requires-clause-denied
tell_denied-requires-clause-denied c =
    let n = c.args.self.now.node in (
      c.args.op.number,
      subst (λ (port : ℕ). waits (live_of (held_by n)) ((kept_by (held_by n)).stages (record { port = port; number = c.args.op.number })) (kept_by (held_by n)) ≡ true) (sym c.from-port.ensures) c.requires,
    )
