-- The two forms in which the rows of a group are kept.
use Rattle.std.specs.Prelude.{List}
use Rattle.pg_index_members.specs.declared.row.Row.{Row}
use Rattle.pg_index_members.specs.declared.form.Form.{Form}
use Rattle.pg_index_members.specs.declared.form.Form.TheVariants.{Few, Many}

abbrev pub rows_of : Form → List Row
rows_of (Few rows) = rows
rows_of (Many rows) = rows
