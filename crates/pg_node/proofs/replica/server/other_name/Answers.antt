use Rattle.std.proofs.Common.{◌∙◌, sym}
use Rattle.pg_node_state.proofs.Apart.{empty_name, some_name, letter_apart, empty_apart}
use Rattle.pg_node.proofs.replica.server.other_name.Goals as goal

pub returns-then-is_empty : goal.returns-then-is_empty
returns-then-is_empty c = letter_apart c.new.result c.args.name.now c.new.ensures.exact (empty_name c.as_str.result.now c.args.name.now c.as_str.ensures.characters (sym c.is_empty.ensures ∙ c.if-is_empty.true))

pub returns-else-is_empty : goal.returns-else-is_empty
returns-else-is_empty c = empty_apart c.new-else-is_empty.result c.args.name.now c.new-else-is_empty.ensures.exact (some_name c.as_str.result.now c.args.name.now c.as_str.ensures.bytes (sym c.is_empty.ensures ∙ c.if-is_empty.false))
