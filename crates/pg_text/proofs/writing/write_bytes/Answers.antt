use Rattle.std.proofs.Common.{subst, string_bytes, decimal}
use Rattle.pg_text.specs.Writing.{GrowsBy}
use Rattle.pg_text.proofs.Adding.{adds_then, listed_parts}
use Rattle.pg_text.proofs.writing.write_bytes.Goals as goal

pub returns-in_ok-write_more_bytes : goal.returns-in_ok-write_more_bytes
returns-in_ok-write_more_bytes c = subst (λ t. GrowsBy t (string_bytes c.args.out.now) (string_bytes c.write_more_bytes.new.out))
    (listed_parts decimal c.args.bytes.now 0 c.in-len1-up.len_at_least) (adds_then c.in_ok-write_number.ensures c.in_ok-write_more_bytes.ensures)
