-- What holds of the fields of a filling.
use Rattle.std.specs.Prelude.{◌≡◌}
use Rattle.edge_rows.specs.Rows.{Filling}
use Rattle.edge_rows.specs.inside.Layout.{laid, starts_from, ends_from, gaps, rows_between, IsWithin}
use Rattle.edge_rows.specs.declared.fill.RowFill.TheInside.{Inside}

-- the fields are those of this filling: in each row exactly the slots below its end are written
pub record IsFilledAs (fields : Inside) (f : Filling) : Type 0 where
  pub within : IsWithin f.rows f.lengths
  pub slots : fields.block ≡ laid f.rows f.lengths
  pub starts : fields.starts.items ≡ starts_from 0 f.lengths
  pub ends : fields.ends.items ≡ ends_from 0 f.rows f.lengths

-- what the fields hold
abbrev pub filling_of : Inside → Filling
filling_of fields = record { rows = rows_between fields.block fields.starts.items fields.ends.items; lengths = gaps fields.starts.items }

-- the fields are those of the filling that they hold
abbrev pub IsFilling : Inside → Type 0
IsFilling fields = IsFilledAs fields (filling_of fields)
