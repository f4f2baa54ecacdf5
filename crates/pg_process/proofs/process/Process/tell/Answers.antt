use Rattle.pg_process.proofs.Sayings.{notice_said}
use Rattle.pg_process.proofs.process.Process.tell.Goals as goal

pub returns-clause-said : goal.returns-clause-said
returns-clause-said c =
    notice_said c.args.term.now c.args.self.now.outlet.gathered.items c.put_term.new.self.gathered.items c.in_ok-put_term.field-0
    c.in_ok-put_term.ensures.none c.in_ok-put_term.ensures.some c.in_ok-put_term.ensures.kept
