use Rattle.std.proofs.Common.{◌<◌, ℕ, get_or}
use Rattle.pg_cluster_judges.specs.PgNodeRun.declared.port.Client.{Client}
use Rattle.pg_cluster_judges.specs.PgNodeRun.declared.port.Port.{Port}
use Rattle.pg_cluster_judges.specs.PgNodeRun.Ports.{Meets}
use Rattle.pg_cluster.specs.Clients.{ClientsRest}
use Rattle.pg_cluster.proofs.SettlingPorts.{PortsRest}
use Rattle.pg_cluster.proofs.pairs.settle_ports.Given as goal

abbrev pub invariant-loop-place : goal.invariant-loop-place
invariant-loop-place l =
    PortsRest l.fn.ports.items l.ports.items
    × ClientsRest l.fn.clients.items l.clients.items
    × ((i : ℕ) (c : Client) (p : Port) → i < l.place → Meets (get_or l.fn.clients.items i c) (get_or l.fn.ports.items i p))
