use Rattle.std.proofs.Common.{◌<◌, refl, subst, sym, ◌∙◌}
use Rattle.std.proofs.lemmas.Result.{err_from_is_err_and}
use Rattle.pg_cluster.specs.Fault.{CantRun}
use Rattle.pg_cluster.specs.Running.{clients_in, losses_in, threads_in}
use Rattle.pg_talk.specs.Conversations.{CantTalk}
use Rattle.pg_talk.proofs.Conversing.{cant_by, no_memory}
use Rattle.pg_talk.proofs.conversation.run_threads.Goals as goal

pub returns-clause-took : goal.returns-clause-took
returns-clause-took g c =
    let running = c.converse-heard.new.running in
    let same = c.converse-heard.ensures.same in
    let config = same.config ∙ c.in_ok-running.ensures.config in record {
      given = c.in_ok-config.config.starts.items;
      are = c.in_ok-config.ensures.asked;
      lost = losses_in running;
      nobody = rw same.cluster c.in_ok-running.ensures.lost;
      threads = threads_in running;
      clients = clients_in running;
      judged = rw config at c.in_ok-agree.ensures;
      nodes_told = refl;
      clients_told = c.all_clients.ensures;
      rings = rw (same.cluster, ← c.in_ok-config.ensures.ring) c.in_ok-running.ensures.rings;
      seeds = rw same.cluster c.in_ok-running.ensures.seeds;
      limits = rw same.cluster c.in_ok-running.ensures.limit;
      spoke = c.in_ok-answered.ensures.spoke;
      answered_told = c.in_ok-answered.ensures.answered;
      asked_told = c.commands.ensures;
      full_told = λ full. subst (λ n. c.in_ok-answered.answered < n) (c.commands-2.ensures ∙ sym c.commands.ensures) (c.ends_full.ensures full);
    }

pub returns-in_err-clocks-clause-fault : goal.returns-in_err-clocks-clause-fault
returns-in_err-clocks-clause-fault g c = no_memory c.args.asked c.from_residual.result c.from_residual.ensures.1

pub returns-in_err-gate-clause-fault : goal.returns-in_err-gate-clause-fault
returns-in_err-gate-clause-fault g c = no_memory c.args.asked c.from_residual-in_err-gate.result c.from_residual-in_err-gate.ensures.1

pub returns-in_err-theirs-clause-fault : goal.returns-in_err-theirs-clause-fault
returns-in_err-theirs-clause-fault g c = no_memory c.args.asked c.from_residual-in_err-theirs.result c.from_residual-in_err-theirs.ensures.1

pub returns-in_err-config-clause-fault : goal.returns-in_err-config-clause-fault
returns-in_err-config-clause-fault g c =
    let p = err_from_is_err_and c.from_residual-in_err-config.result c.from_residual-in_err-config.ensures.1 in
    rw (p.1, p.2, c.in_err-config.ensures.fault) tt

pub returns-in_err-running-clause-fault : goal.returns-in_err-running-clause-fault
returns-in_err-running-clause-fault g c =
    let p = err_from_is_err_and c.from_residual-in_err-running.result c.from_residual-in_err-running.ensures.1 in
    let starts = c.in_ok-config.config.starts.items in
    let fault = c.in_err-running.field-0.0 in
    let told : CantTalk c.args.asked fault = cant_by c.args.asked starts fault c.in_ok-config.ensures.asked (subst (λ ring. CantRun ring starts fault) c.in_ok-config.ensures.ring c.in_err-running.ensures.fault) in
    rw (p.1, p.2) told

pub returns-in_err-agree-clause-fault : goal.returns-in_err-agree-clause-fault
returns-in_err-agree-clause-fault g c = no_memory c.args.asked c.from_residual-in_err-agree.result c.from_residual-in_err-agree.ensures.1

pub returns-in_err-answered-clause-fault : goal.returns-in_err-answered-clause-fault
returns-in_err-answered-clause-fault g c = no_memory c.args.asked c.from_residual-in_err-answered.result c.from_residual-in_err-answered.ensures.1
