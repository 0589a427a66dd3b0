-- The rules of a plant's rows allow the same rows in each version.
use Rattle.std.proofs.Common.{List, get_or, Option}
use Rattle.base.proofs.Options.{IfSome-weaker}
use Rattle.game_core.specs.declared.game.Row.{Row}
use Rattle.plant_record.specs.Description.{Description}
use Rattle.row_runs.specs.declared.run.TableVersion.{TableVersion}
use Rattle.row_reading.specs.RowsTexts.{IsRowWithin, AreRowsWithin}
use Rattle.controller_table.specs.TextKinds.{rules_of}

pub within_in : (v w : TableVersion) (p : Description) (rows : List (Option Row)) → AreRowsWithin (rules_of v p) rows → AreRowsWithin (rules_of w p) rows
within_in v w p rows within = record {
  one_each = within.one_each;
  each = λ i d lt. IfSome-weaker (get_or rows i d) (IsRowWithin (rules_of v p)) (IsRowWithin (rules_of w p))
      (λ row h. record { told = h.told; least = h.least; most = h.most; input = h.input }) (within.each i d lt);
}
