-- Groups that are kept in ordered maps.
use Rattle.std.specs.Option.{option_map}
use Rattle.std.specs.BTreeMap.{get, BTreeMap}
use Rattle.pg_term.specs.declared.term.Term.{Term}
use Rattle.pg_term.specs.Same.{term_cmp}
use Rattle.pg_group.specs.declared.members.Members.{Members}
use Rattle.pg_group.specs.Counted.{counts_in}
use Rattle.pg_group.specs.Value.{Counts}
use Rattle.pg_group.specs.Table.{Table}

abbrev pub counts_of : Members → Counts
counts_of members = counts_in members.counts

abbrev pub table_of : BTreeMap Term Members → Table
table_of rows name = option_map counts_of (get term_cmp rows name)
