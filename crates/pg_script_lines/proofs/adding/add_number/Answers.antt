use Rattle.std.specs.Prelude.{string_bytes}
use Rattle.pg_script_lines.proofs.Adds.{number_added}
use Rattle.pg_script_lines.proofs.adding.add_number.Goals as goal

pub returns : goal.returns
returns c = number_added c.write.result c.args.number (string_bytes c.args.out.now) (string_bytes c.write.new.self) c.ranges.number.fits c.write.ensures.bytes
