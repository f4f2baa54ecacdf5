use Rattle.pg_laws.proofs.places.Welcome.{welcome_before}
use Rattle.pg_laws.proofs.laws.first_packets_were_welcome.Goals as goal

pub returns : goal.returns
returns c = λ config m w before events i p x rest apart reached l pair. welcome_before config apart i p pair m w before events x rest reached l
