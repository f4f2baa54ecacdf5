use Rattle.std.proofs.Common.{◌≡◌, ◌+◌, ◌-◌, ◌++◌, ◌∷◌, [], sym, ap, ◌∙◌, arith, append_assoc, append-nil}
use Rattle.pg_group.specs.Members.{put}
use Rattle.pg_group.proofs.Put.{put_next, put_none}
use Rattle.pg_group.proofs.append.append_member.Goals as goal

pub loop-init : goal.loop-init
loop-init c = let e : c.args.count - 0 ≡ c.args.count = omega arith in ap (λ n. c.args.pids.now.items ++ put n c.args.pid.now []) e

pub loop-preserved : goal.loop-preserved
loop-preserved c =
    let n = c.args.count - (c.loop.counter + 1) in
    let pid = c.args.pid.now in
    let more : c.args.count - c.loop.counter ≡ n + 1 = omega arith in
    ap (λ l. l ++ put n pid []) (c.in_ok-push.ensures.items ∙ ap (λ p. c.loop.pids.items ++ p ∷ []) c.in_ok-copy.ensures)
    ∙ append_assoc c.loop.pids.items (pid ∷ []) (put n pid [])
    ∙ ap (λ l. c.loop.pids.items ++ l) (sym (put_next (c.args.count - c.loop.counter) n pid [] more))
    ∙ c.loop.invariant

pub returns : goal.returns
returns c =
    let none : c.args.count - c.loop.counter ≡ 0 = omega arith in
    sym (ap (λ l. c.loop.pids.items ++ l) (put_none (c.args.count - c.loop.counter) c.args.pid.now [] none) ∙ append-nil c.loop.pids.items) ∙ c.loop.invariant
