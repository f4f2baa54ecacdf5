use Rattle.std.specs.Prelude.{string_bytes}
use Rattle.pg_script_lines.proofs.Adds.{text_added}
use Rattle.pg_script_lines.proofs.adding.add_text.Goals as goal

pub returns : goal.returns
returns c = text_added c.push_str.result c.args.text.now (string_bytes c.args.out.now) (string_bytes c.push_str.new.self) c.utf8.text c.push_str.ensures.bytes
