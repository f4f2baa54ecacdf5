use Rattle.std.proofs.Common.{rules, arith, ◌≡◌, ◌+◌, length, ◌∷◌, ap, sym, subst, ◌∙◌, [], length-append}
use Rattle.std.specs.Prelude.{false, IfErr}
use Rattle.pg_cluster.specs.Fault.{IsShortage}
use Rattle.std.specs.List.{All}
use Rattle.pg_cluster.specs.Members.{is_lost, thread_of}
use Rattle.pg_cluster.specs.Threads.{begun_by, limit_of}
use Rattle.pg_cluster.proofs.Starts.{Follows, all_push, losses_none, rest_after, follows_more, started_members}
use Rattle.pg_cluster.proofs.threads.start_all.Goals as goal

pub loop-run-preserved : goal.loop-run-preserved
loop-run-preserved g c =
    let was = c.loop-run.invariant in
    let runs = c.args.runs.items in
    let hs = c.loop-run.members.items in
    let step = sym c.in-Some.ensures.steps.0 ∙ was.4 in
    let run = c.in-Some.run' in
    let items = c.push_reserved.ensures.items in
    let h = c.in-Ok.member in
    let n : length c.push_reserved.new.self.items ≡ length hs + 1 = ap length items ∙ length-append hs (h ∷ []) in
    let started = c.in-Ok.ensures in (
      search rules,
      search rules,
      search rules,
      (let fewer = c.in-Some.ensures.steps.1 in omega arith),
      rw n (rest_after runs _ run (length hs) step),
      subst (Follows (λ m. begun_by (thread_of m)) (λ m. limit_of (thread_of m)) runs c.args.limit) (sym items)
          (follows_more (λ m. begun_by (thread_of m)) (λ m. limit_of (thread_of m)) runs _ c.args.limit hs h run step
          started.begun started.limit was.5),
      subst (All (λ m. is_lost m ≡ false)) (sym items) (all_push (λ m. is_lost m ≡ false) hs h was.6 started.lost),
    )

pub returns-clause-started : goal.returns-clause-started
returns-clause-started g c =
    let was = c.loop-run.invariant in
    let n = c.in-None.ensures.steps.0 in
    let left = was.3 in
    let all : length c.loop-run.members.items ≡ length c.args.runs.items = omega arith in
    started_members c.args.runs.items c.args.limit c.loop-run.members.items all (λ i d h low. was.5 i d h low)

pub returns-clause-lost : goal.returns-clause-lost
returns-clause-lost g c = losses_none c.loop-run.members.items c.loop-run.invariant.6

pub returns-in-Err-clause-fault : goal.returns-in-Err-clause-fault
returns-in-Err-clause-fault g c = subst (λ r. IfErr r IsShortage) (sym c.give_up.ensures) c.in-Err.ensures.fault
