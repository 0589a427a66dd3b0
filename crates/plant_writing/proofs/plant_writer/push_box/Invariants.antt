use Rattle.std.proofs.Common.{◌≡◌, ◌++◌, ◌∷◌}
use Rattle.std.specs.List.{flat_map}
use Rattle.plant_record.specs.Spelling.{end_words}
use Rattle.plant_writing.proofs.plant_writer.push_box.Given as goal

abbrev pub invariant-loop-i : goal.invariant-loop-i
invariant-loop-i l = l.text.items ≡ l.fn.text.items ++ (l.keyword ++ flat_map (λ word. 32 ∷ word) (end_words l.i l.b.low l.b.high))
