use Rattle.std.proofs.Common.{ap, subst, ◌∙◌}
use Rattle.pg_program.specs.Status.{ToldEnd, end_status}
use Rattle.pg_program.proofs.Ends.{End, ended}
use Rattle.pg_program.proofs.run.run_bytes.Goals as goal

pub returns : goal.returns
returns g c =
    let Told = ToldEnd g.F.Sink.fails g.F.Sink.contents c.args.faults.now c.tell.new.faults in
    let told = subst (λ (e : End). Told e) c.bytes_end.ensures c.tell.ensures.told in
    ended c.args.own.now c.args.peer.now _ Told (g.R.Source.remaining c.args.reader.now) (g.W.Sink.contents c.args.writer.now) (g.W.Sink.contents c.serve_input-served.new.writer) c.serve_input-served.result c.tell.result c.serve_input-served.ensures.known c.serve_input-served.ensures.cause told (c.tell.ensures.status ∙ ap end_status c.bytes_end.ensures)
