-- A source that is read to one byte past the limit of its text.
use Rattle.std.proofs.Common.{inl, inr, ◌≡◌, ℕ, ◌<◌, List, length, take, drop, Option, Some, None, refl, subst, arith, length-take}
use Rattle.std.specs.Prelude.{IfSome}
use Rattle.std.proofs.lemmas.Bool.{cases_lt}
use Rattle.plant_record.specs.declared.limit_kind.LimitKind.{LimitKind}
use Rattle.plant_record.specs.declared.limit_kind.LimitKind.TheVariants.{PlantText, TableText, Vectors, Cells, Pairs, Edges}
use Rattle.plant_text.specs.declared.plant_fault.PlantFault.TheVariants as plants
use Rattle.plant_text.specs.PlantRefusals.{IsShort, IsRefusedFor}
use Rattle.game_core.specs.declared.game.Row.{Row}
use Rattle.plant_record.specs.Description.{Description}
use Rattle.controller_table.specs.declared.table_fault.TableFault.TheVariants as tables
use Rattle.controller_table.specs.Tables.{IsTable}
use Rattle.controller_table.specs.TableRefusals.{IsShortTable, IsTableRefusedFor}
use Rattle.controller_table.specs.Laws.{TablesAreShort}
use Rattle.command_line.specs.declared.command.Command.{Command}
use Rattle.command_line.specs.declared.command.Command.TheVariants.{Synth, Check, Upgrade, Sim, Demo, Stay, Patrol}
use Rattle.command_line.specs.declared.outcome.Refusal.{Refusal}
use Rattle.run_devices.specs.Transfers.{ReadUpTo}
use Rattle.synth_run.specs.Sources.{most_read}
use Rattle.command_outcomes.specs.Stages.{IsReadRefusal, IsRefused, IsRefusedTable, IsOverflow, IsPlantRefusal, IsPatrolRefusal, IsTextRefusal, IsRowsRefusal, IsStartRefusal, IsTableRefusal, IsStagedRefusal}
use Rattle.synth_run.specs.Headline.{IsAnswer}
use Rattle.std.proofs.lemmas.List.{take_all}

-- ---- what was read stands for the whole text

-- what holds of the bytes that were read holds of the whole text, where it passes from a front of so many bytes to the
-- longer text
pub of_front : (Holds : List ℕ → Type 0) (most : ℕ) (told : Option (List ℕ)) (read : List ℕ) → IfSome told (λ bytes. read ≡ take most bytes) → ((bytes : List ℕ) → most < length bytes → Holds (take most bytes) → Holds bytes) → Holds read → IfSome told Holds
of_front Holds most None read front longer h = tt
of_front Holds most (Some bytes) read front longer h =
    let begun : Holds (take most bytes) = subst Holds front h in
    elim (cases_lt most (length bytes)) [
      | inl lt ↦ longer bytes lt begun
      | inr le ↦ subst Holds (take_all most bytes le) begun
    ]

-- where a source doesn't tell its text, what was read is one of which this holds
pub of_some : (Holds : List ℕ → Type 0) (most : ℕ) (told : Option (List ℕ)) (read : List ℕ) → IfSome told (λ bytes. read ≡ take most bytes) → ((bytes : List ℕ) → most < length bytes → Holds (take most bytes) → Holds bytes) → Holds read
    → (bytes : List ℕ) × IfSome told (λ all. all ≡ bytes) × Holds bytes
of_some Holds most None read front longer h = (read, tt, h)
of_some Holds most (Some bytes) read front longer h = (bytes, refl, of_front Holds most (Some bytes) read front longer h)

pub read_to_the_limit : (most : ℕ) (told after : Option (List ℕ)) (read : List ℕ) → ReadUpTo told after most read → IfSome told (λ bytes. after ≡ Some (drop most bytes))
read_to_the_limit most None after read up_to = tt
read_to_the_limit most (Some bytes) after read up_to = up_to.1

-- ---- refusals

-- a refusal of one text is one of another, where its line or its limit is
passes : (m n : ℕ → Type 0) (b c : LimitKind → Type 0) → ((line : ℕ) → m line → n line) → ((what : LimitKind) → b what → c what) → (r : Refusal) → IsReadRefusal m b r → IsReadRefusal n c r
passes m n b c line limit r h = elim h [
  | inl f ↦ inl (f.0, f.1, line f.0 f.2)
  | inr f ↦ inr (f.0, f.1, limit f.0 f.2)
]

-- a front of a longer text isn't short
pub long_front : (bytes : List ℕ) → 65537 < length bytes → IsShort (take 65537 bytes) → ⊥
long_front bytes lt short = omega (arith, lt, short, length-take 65537 bytes)

refused_of_longer : (bytes : List ℕ) (outcome : Refusal) → 65537 < length bytes → IsRefused (take 65537 bytes) outcome → IsRefused bytes outcome
refused_of_longer bytes outcome lt h = passes _ _ _ _ (λ line h. absurd (long_front bytes lt h.0)) limit outcome h
  where
    limit : (what : LimitKind) → IsRefusedFor (take 65537 bytes) (plants.Limit what) → IsRefusedFor bytes (plants.Limit what)
    limit PlantText h = λ short. omega (arith, lt, short)
    limit TableText h = h
    limit Vectors h = absurd (long_front bytes lt h.0)
    limit Cells h = absurd (long_front bytes lt h.0)
    limit Pairs h = absurd (long_front bytes lt h.0)
    limit Edges h = h

long_table_front : (bytes : List ℕ) → 67108865 < length bytes → IsShortTable (take 67108865 bytes) → ⊥
long_table_front bytes lt short = omega (arith, lt, short, length-take 67108865 bytes)

refused_table_of_longer : (bytes : List ℕ) (outcome : Refusal) → 67108865 < length bytes → IsRefusedTable (take 67108865 bytes) outcome → IsRefusedTable bytes outcome
refused_table_of_longer bytes outcome lt h = passes _ _ _ _ (λ line h. absurd (long_table_front bytes lt h.0)) limit outcome h
  where
    limit : (what : LimitKind) → IsTableRefusedFor (take 67108865 bytes) (tables.Limit what) → IsTableRefusedFor bytes (tables.Limit what)
    limit PlantText h = absurd (long_table_front bytes lt h.0)
    limit TableText h = λ short. omega (arith, lt, short)
    limit Vectors h = absurd (long_table_front bytes lt h.0)
    limit Cells h = absurd (long_table_front bytes lt h.0)
    limit Pairs h = absurd (long_table_front bytes lt h.0)
    limit Edges h = absurd (long_table_front bytes lt h.0)

-- ---- commands

-- What refuses a text as far as it is read, and how it is answered, holds of the whole text if it is longer.
pub record PassesOn (command : Command) : Type 0 where
  pub refusals : (r : Refusal) (bytes : List ℕ) → most_read command < length bytes → IsStagedRefusal command (take (most_read command) bytes) r → IsStagedRefusal command bytes r
  pub answers : (text bytes : List ℕ) → most_read command < length bytes → IsAnswer command (take (most_read command) bytes) text → IsAnswer command bytes text

plant_of_longer : (Refuses : Description → Refusal → Type 0) (bytes : List ℕ) (r : Refusal) → 65537 < length bytes → IsTextRefusal Refuses (take 65537 bytes) r → IsTextRefusal Refuses bytes r
plant_of_longer Refuses bytes r lt h =
    elim h [
      | inl refused ↦ inl (refused_of_longer bytes r lt refused)
      | inr plant ↦ absurd (long_front bytes lt plant.1.short)
    ]

no_table_front : TablesAreShort → (bytes : List ℕ) (p : Description) (rows : List (Option Row)) → 67108865 < length bytes → IsTable (take 67108865 bytes) p rows → ⊥
no_table_front short bytes p rows lt table = long_table_front bytes lt (short (take 67108865 bytes) p rows table)

table_of_longer : TablesAreShort → (Refuses : Description → List (Option Row) → Refusal → Type 0) (bytes : List ℕ) (r : Refusal) → 67108865 < length bytes → IsTableRefusal Refuses (take 67108865 bytes) r → IsTableRefusal Refuses bytes r
table_of_longer short Refuses bytes r lt h =
    elim h [
      | inl refused ↦ inl (refused_table_of_longer bytes r lt refused)
      | inr table ↦ absurd (no_table_front short bytes table.0 table.1 lt table.2)
    ]

pub passes_on : TablesAreShort → (command : Command) → PassesOn command
passes_on short (Synth workers) = record {
  refusals = λ r bytes lt h. plant_of_longer IsPlantRefusal bytes r lt h;
  answers = λ text bytes lt h. absurd (long_front bytes lt h.1.short);
}
passes_on short Check = record {
  refusals = λ r bytes lt h. table_of_longer short IsRowsRefusal bytes r lt h;
  answers = λ text bytes lt h. absurd (no_table_front short bytes h.0.plant h.0.rows lt h.0.table);
}
passes_on short Upgrade = record {
  refusals = λ r bytes lt h. table_of_longer short (λ p rows s. IsOverflow p s) bytes r lt h;
  answers = λ text bytes lt h. absurd (no_table_front short bytes h.plant h.rows lt h.table);
}
passes_on short (Sim samples seed start) = record {
  refusals = λ r bytes lt h. table_of_longer short (IsStartRefusal start) bytes r lt h;
  answers = λ text bytes lt h. absurd (no_table_front short bytes h.plant h.rows lt h.table);
}
passes_on short (Demo number workers) = record { refusals = λ r bytes lt h. h; answers = λ text bytes lt h. h }
passes_on short (Stay workers) = record {
  refusals = λ r bytes lt h. plant_of_longer IsPlantRefusal bytes r lt h;
  answers = λ text bytes lt h. absurd (long_front bytes lt h.1.short);
}
passes_on short (Patrol workers) = record {
  refusals = λ r bytes lt h. plant_of_longer IsPatrolRefusal bytes r lt h;
  answers = λ text bytes lt h. absurd (long_front bytes lt h.1.short);
}
