use Rattle.pg_node.proofs.Linked.{on_ok}
use Rattle.pg_process.specs.Turns.{Attends}
use Rattle.pg_process.proofs.Chained.{until_then, works_on, works_until}
use Rattle.pg_process.proofs.Settling.{settles}
use Rattle.pg_process.proofs.process.Process.attend.Goals as goal

pub returns-in-Err-tell_once-clause-until : goal.returns-in-Err-tell_once-clause-until
returns-in-Err-tell_once-clause-until c =
    works_until c.in-Err-tell_once.fault c.args.self.now c.serve_ports.new.self c.tell_once.new.self
    (works_on c.args.self.now c.take_from_peers.new.self c.serve_ports.new.self c.in-Ok.ensures.works c.in-Ok-serve_ports.ensures.works) c.in-Err-tell_once.ensures.until

pub returns-clause-until : goal.returns-clause-until
returns-clause-until c =
    until_then c.send_to_peers.result c.args.self.now c.tell_once.new.self c.send_to_peers.new.self
    (works_on c.args.self.now c.serve_ports.new.self c.tell_once.new.self
    (works_on c.args.self.now c.take_from_peers.new.self c.serve_ports.new.self c.in-Ok.ensures.works c.in-Ok-serve_ports.ensures.works) c.in-Ok-tell_once.ensures.works)
    c.send_to_peers.ensures.until

pub returns-clause-attends : goal.returns-clause-attends
returns-clause-attends c =
    on_ok c.send_to_peers.result _ (Attends c.args.is_tick c.args.self.now c.send_to_peers.new.self)
    (λ works. record {
      before = c.take_from_peers.new.self;
      works = c.in-Ok.ensures.works;
      taken = c.in-Ok.ensures.none;
      behind = c.serve_ports.new.self;
      serves = c.in-Ok-serve_ports.ensures.serves;
      rest = works_on c.serve_ports.new.self c.tell_once.new.self c.send_to_peers.new.self c.in-Ok-tell_once.ensures.works works;
    })
    c.send_to_peers.ensures.works

pub returns-clause-settled : goal.returns-clause-settled
returns-clause-settled c =
    settles c.send_to_peers.result c.take_from_peers.new.self c.serve_ports.new.self c.tell_once.new.self c.send_to_peers.new.self c.in-Ok.ensures.none c.in-Ok-serve_ports.ensures.works c.in-Ok-serve_ports.ensures.said
    c.in-Ok-serve_ports.ensures.handed c.in-Ok-serve_ports.ensures.denied c.in-Ok-tell_once.ensures.works c.in-Ok-tell_once.ensures.rest c.in-Ok-tell_once.ensures.told c.send_to_peers.ensures.works c.send_to_peers.ensures.unsent
    c.send_to_peers.ensures.links
