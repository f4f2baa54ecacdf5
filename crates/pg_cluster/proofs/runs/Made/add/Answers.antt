use Rattle.std.proofs.Common.{◌≡◌, ◌++◌, ◌∷◌, [], map, sym, ap, ◌∙◌, subst}
use Rattle.std.specs.List.{All}
use Rattle.std.proofs.lemmas.List.{map-append}
use Rattle.pg_ring.specs.Slots.{taken}
use Rattle.pg_cluster_judges.specs.PgNodeRun.Follows.{node_of, peers_of, log_of}
use Rattle.pg_cluster_judges.specs.PgNodeRun.Notices.{IsUntold}
use Rattle.pg_cluster_judges.specs.PgNodeRun.Runs.{generator_of, notices_of}
use Rattle.pg_cluster.specs.Threads.{node_in, row_in, log_in}
use Rattle.pg_cluster.proofs.Opening.{opened_more, fresh_more}
use Rattle.pg_cluster.proofs.Starts.{all_push}
use Rattle.pg_cluster.proofs.runs.Made.add.Goals as goal

pub returns-in-Ok-clause-nodes : goal.returns-in-Ok-clause-nodes
returns-in-Ok-clause-nodes g c =
    let runs = c.args.self.now.runs.items in
    let items = c.push_reserved.ensures.items ∙ ap (λ runs. runs ++ c.new-run.result ∷ []) c.open.ensures.runs in
    ap (map node_in) items ∙ (map-append node_in runs (c.new-run.result ∷ [])
    ∙ ap (λ node. map node_in runs ++ node ∷ []) (ap node_of c.new-run.ensures.linked ∙ c.new-linked.ensures.node))

pub returns-in-Ok-clause-rows : goal.returns-in-Ok-clause-rows
returns-in-Ok-clause-rows g c =
    let runs = c.args.self.now.runs.items in
    let items = c.push_reserved.ensures.items ∙ ap (λ runs. runs ++ c.new-run.result ∷ []) c.open.ensures.runs in
    ap (map row_in) items ∙ (map-append row_in runs (c.new-run.result ∷ [])
    ∙ ap (λ row. map row_in runs ++ row ∷ []) (ap peers_of c.new-run.ensures.linked ∙ c.new-linked.ensures.peers))

pub returns-in-Ok-clause-unlogged : goal.returns-in-Ok-clause-unlogged
returns-in-Ok-clause-unlogged g c = λ all.
    let items = c.push_reserved.ensures.items ∙ ap (λ runs. runs ++ c.new-run.result ∷ []) c.open.ensures.runs in
    subst (All (λ run. log_in run ≡ [])) (sym items)
    (all_push (λ run. log_in run ≡ []) c.args.self.now.runs.items c.new-run.result all (ap log_of c.new-run.ensures.linked ∙ c.new-linked.ensures.log))

pub returns-in-Ok-clause-clients : goal.returns-in-Ok-clause-clients
returns-in-Ok-clause-clients g c = λ all.
    let items = c.push_reserved.ensures.items ∙ ap (λ runs. runs ++ c.new-run.result ∷ []) c.open.ensures.runs in
    opened_more c.args.self.now.clients.items c.open.new.self.clients.items c.args.self.now.runs.items _ c.new-run.result c.in-Ok.field-0.ports.items c.new-run.ensures.ports items
    c.in-Ok.ensures.clients all

pub returns-in-Ok-clause-notices : goal.returns-in-Ok-clause-notices
returns-in-Ok-clause-notices g c = λ all.
    let items = c.push_reserved.ensures.items ∙ ap (λ runs. runs ++ c.new-run.result ∷ []) c.open.ensures.runs in
    let told = c.in-Ok.ensures.tellers in
    fresh_more c.args.self.now.tellers.items _ c.args.self.now.runs.items _ told.0 c.new-run.result c.in-Ok.field-0.notices told.1 items
    c.new-run.ensures.notices told.2 all

pub returns-in-Ok-clause-untold : goal.returns-in-Ok-clause-untold
returns-in-Ok-clause-untold g c = λ all.
    let items = c.push_reserved.ensures.items ∙ ap (λ runs. runs ++ c.new-run.result ∷ []) c.open.ensures.runs in
    subst (All (λ run. IsUntold (notices_of run))) (sym items)
    (all_push (λ run. IsUntold (notices_of run)) c.args.self.now.runs.items c.new-run.result all
    (record { came = ap taken c.new-run.ensures.notices ∙ c.in-Ok.ensures.untaken; kept = c.new-run.ensures.kept }))

pub returns-in-Ok-clause-generators : goal.returns-in-Ok-clause-generators
returns-in-Ok-clause-generators g c =
    let runs = c.args.self.now.runs.items in
    let items = c.push_reserved.ensures.items ∙ ap (λ runs. runs ++ c.new-run.result ∷ []) c.open.ensures.runs in
    ap (map generator_of) items ∙ (map-append generator_of runs (c.new-run.result ∷ []) ∙ ap (λ x. map generator_of runs ++ x ∷ []) c.new-run.ensures.generator)
