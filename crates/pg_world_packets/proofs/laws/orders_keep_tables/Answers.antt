use Rattle.std.proofs.Common.{true}
use Rattle.pg_world_packets.proofs.Ordered.{ordered_names, same_ports, same_made, same_tables, same_known}
use Rattle.pg_world_packets.proofs.laws.orders_keep_tables.Goals as goal

pub returns-clause-names : goal.returns-clause-names
returns-clause-names c = λ given config orders. ordered_names given config orders

pub returns-clause-ports : goal.returns-clause-ports
returns-clause-ports c = λ given config i orders. same_ports given config i orders

pub returns-clause-made : goal.returns-clause-made
returns-clause-made c = λ given config i orders. same_made given config i orders

pub returns-clause-tables : goal.returns-clause-tables
returns-clause-tables c = λ given config i orders. same_tables given config i orders

pub returns-clause-base : goal.returns-clause-base
returns-clause-base c = λ given config name orders. same_known given config (λ q. true) name orders

pub returns-clause-known : goal.returns-clause-known
returns-clause-known c = λ given config test name orders. same_known given config test name orders
