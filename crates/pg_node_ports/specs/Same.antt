-- When ports are the same.
use Rattle.std.specs.Prelude.{◌≡◌, List, length}
use Rattle.pg_node_ports.specs.declared.port.Port.{Port}
use Rattle.pg_node_ports.specs.Ports.{port_commands, answers_in}

-- as many commands came in, the same answers were given, and as many were forgotten
pub record IsSamePort (port other : Port) : Type 0 where
  pub count : other.count ≡ port.count
  pub answers : other.answers.items ≡ port.answers.items
  pub forgotten : other.forgotten ≡ port.forgotten

-- as many ports, where as many commands came in and the same answers were given
pub record AreSamePorts (ports others : List Port) : Type 0 where
  pub count : length ports ≡ length others
  pub counts : port_commands ports ≡ port_commands others
  pub answers : answers_in ports ≡ answers_in others
