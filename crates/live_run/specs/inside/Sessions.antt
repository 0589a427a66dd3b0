-- What is published so far, and what its readers know of it. No public clause names this.
use Rattle.std.specs.Prelude.{◌≡◌, ℕ, [], ◌∷◌, length, Option, Some, None}
use Rattle.controller_table.specs.Tables.{TableModel}
use Rattle.live_table.specs.Publishes.{Published, Listener, with_table, EndsWith}

-- How many tables are published, and the last.
pub record Standing : Type 0 where
  pub count : ℕ
  pub table : Option TableModel

-- the reader is of the publisher, and was told of all that is published
abbrev pub InStep : Published → Listener → Type 0
InStep p r = (r.opening ≡ p.opening) × (r.told ≡ p.list)

-- readers, if there are any, have so many tables, of which this is the last
abbrev pub Fits : Option Published → ℕ → Option TableModel → Type 0
Fits None count table = Unit {0}
Fits (Some p) count None = ⊥
Fits (Some p) count (Some t) = (length p.list ≡ count) × EndsWith p.list t

-- readers that are left have the table too: those before it, or as many as are opened with it
abbrev pub GoOnWith : Option Published → Option ℕ → TableModel → Option Published → Type 0
GoOnWith before opened t None = Unit {0}
GoOnWith (Some p) opened t (Some q) = q ≡ with_table p t
GoOnWith None (Some readers) t (Some q) = q.list ≡ t ∷ []
GoOnWith None None t (Some q) = ⊥
