use Rattle.std.proofs.Common.{◌≡◌, ◌*◌, ◌≤◌, take, length}
use Rattle.std.specs.Str.{encode_utf8_all}
use Rattle.pg_message_reader.proofs.shape.leaves.latin_text.Given as goal

abbrev pub invariant-loop-byte : goal.invariant-loop-byte
invariant-loop-byte l = (l.text.bytes ≡ encode_utf8_all (take l.byte-index l.bytes)) × (length l.text.bytes ≤ 2 * l.byte-index)
