use Rattle.pg_laws_losses.proofs.Survives.{packets_heard}
use Rattle.pg_laws_losses.proofs.survival.no_packet_is_refused.Goals as goal

pub returns : goal.returns
returns c = λ config w events i p packet rest apart l pair lives known first. packets_heard config apart events w l i p packet rest pair lives known first
