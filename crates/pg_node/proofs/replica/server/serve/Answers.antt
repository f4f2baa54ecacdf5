use Rattle.std.proofs.Common.{ℕ, List, [], inr, refl}
use Rattle.std.specs.Prelude.{⊤}
use Rattle.std.proofs.lemmas.Result.{err_from_is_err_and}
use Rattle.pg_node.specs.Replicas.Replica.{Pair, pair_of, start}
use Rattle.pg_node.proofs.Replicas.AnyOwn.{serves_any, cause_any, order_any}
use Rattle.pg_node.proofs.Replicas.Served.{at_start, unread_ends}
use Rattle.pg_node.proofs.replica.server.serve.Goals as goal

pub returns-in_err-server-clause-known : goal.returns-in_err-server-clause-known
returns-in_err-server-clause-known g c =
    let input = g.R.Source.remaining c.args.reader.now in
    let output = g.W.Sink.contents c.args.writer.now in
    let pair : Pair = record { own = c.args.own.now; peer = c.args.peer.now } in
    let p = err_from_is_err_and c.from_residual.result c.from_residual.ensures.1 in
    rw (p.1, p.2) (unread_ends pair (λ (pieces : List (List ℕ)). ⊤) input input [] start output output (at_start pair (λ (pieces : List (List ℕ)). ⊤) input output [] start tt refl refl) c.in_err-server.field-0.0 (inr c.in_err-server.ensures.fault))

pub returns-in_err-server-clause-cause : goal.returns-in_err-server-clause-cause
returns-in_err-server-clause-cause g c =
    let p = err_from_is_err_and c.from_residual.result c.from_residual.ensures.1 in
    rw (p.1, p.2, c.in_err-server.ensures.fault) tt

pub returns-in_err-server-clause-flushed : goal.returns-in_err-server-clause-flushed
returns-in_err-server-clause-flushed g c =
    let p = err_from_is_err_and c.from_residual.result c.from_residual.ensures.1 in
    rw (p.1, p.2, c.in_err-server.ensures.fault) tt

pub returns-clause-known : goal.returns-clause-known
returns-clause-known g c =
    serves_any (pair_of c.in_ok-server.server.node) c.args.own.now c.args.peer.now (g.R.Source.remaining c.args.reader.now) (g.W.Sink.contents c.args.writer.now) (g.W.Sink.contents c.run-served.new.writer) c.run-served.result
    c.in_ok-server.ensures.peer c.run-served.ensures.known

pub returns-clause-cause : goal.returns-clause-cause
returns-clause-cause g c =
    cause_any _ g.R.Source.gives g.R.Source.fails c.args.reader.now c.run-served.new.reader (pair_of c.in_ok-server.server.node) c.args.own.now c.args.peer.now (g.W.Sink.contents c.args.writer.now) (g.W.Sink.contents c.run-served.new.writer) c.run-served.result
    c.in_ok-server.ensures.peer c.run-served.ensures.cause

pub returns-in_err-server-clause-order : goal.returns-in_err-server-clause-order
returns-in_err-server-clause-order g c =
    let p = err_from_is_err_and c.from_residual.result c.from_residual.ensures.1 in
    rw (p.1, p.2, c.in_err-server.ensures.fault) tt

pub returns-clause-order : goal.returns-clause-order
returns-clause-order g c =
    order_any g.R.Source.gives g.W.Sink.flushed g.W.Sink.contents c.args.reader.now c.run-served.new.reader c.args.writer.now c.run-served.new.writer (pair_of c.in_ok-server.server.node) c.args.own.now c.args.peer.now c.run-served.result
    c.in_ok-server.ensures.peer c.run-served.ensures.order

pub returns-in_err-server-clause-memory : goal.returns-in_err-server-clause-memory
returns-in_err-server-clause-memory g c = λ is. ([], refl)
