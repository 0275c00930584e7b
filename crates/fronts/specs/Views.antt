-- What the values of this crate stand for.
--   listed_rows rs    the rows from the first on
use Rattle.std.specs.Prelude.{List}
use Rattle.shortlist.specs.Lists.{listed}
use Rattle.fronts.specs.declared.row.Row.{Row}
use Rattle.fronts.specs.declared.rows.Rows.{Rows}

abbrev pub listed_rows : Rows → List Row
listed_rows rs = listed rs.rows
