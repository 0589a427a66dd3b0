-- What holds of the fields of rows.
use Rattle.std.specs.Prelude.{◌≡◌, ℕ, List, drop, length, map}
use Rattle.edge_rows.specs.inside.Layout.{laid, starts_from, rows_between, IsWithin}
use Rattle.edge_rows.specs.declared.rows.Rows.TheInside.{Inside}

-- the fields are those of these rows: every slot of every row is written
pub record IsStoredAs (fields : Inside) (rows : List (List ℕ)) : Type 0 where
  pub within : IsWithin rows (map length rows)
  pub slots : fields.block ≡ laid rows (map length rows)
  pub starts : fields.starts.items ≡ starts_from 0 (map length rows)

-- what the fields hold
abbrev pub rows_of : Inside → List (List ℕ)
rows_of fields = rows_between fields.block fields.starts.items (drop 1 fields.starts.items)

-- the fields are those of the rows that they hold
abbrev pub IsRows : Inside → Type 0
IsRows fields = IsStoredAs fields (rows_of fields)
