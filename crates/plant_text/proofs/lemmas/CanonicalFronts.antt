-- Bytes have at most one plant at their front, at most one reason why none is read there, and never both.
use Rattle.std.proofs.Common.{◌≡◌, ℕ, List, ◌++◌, length, drop, refl, sym, ap, ◌∙◌, subst, arith, length-drop}
use Rattle.std.proofs.lemmas.List.{take-append-drop}
use Rattle.plant_record.specs.Description.{Description}
use Rattle.plant_record.specs.Plants.{IsPlant}
use Rattle.plant_writing.specs.CanonicalText.{text_of}
use Rattle.text_pieces.specs.Steps.{IsReading}
use Rattle.text_pieces.proofs.Laws as texts
use Rattle.plant_text.specs.declared.plant_fault.PlantFault.{PlantFault}
use Rattle.plant_text.specs.declared.plant_fault.PlantFault.TheVariants as faults
use Rattle.plant_text.specs.Grammar.{PartialPlant, nothing_yet, IsWhole}
use Rattle.plant_text.specs.CanonicalFronts.{FrontStep, IsFrontEnded, IsFirstRefusedAtFront, IsFront, IsFrontRefusedFor}
use Rattle.plant_text.specs.Laws.{OnePlantAtTheFront, OneFront, OneFrontRefusal, NoFrontIsRefused}
use Rattle.plant_text.proofs.lemmas.LinesLead.{one_whole}
use Rattle.plant_text.proofs.lemmas.LineFaults.{AreApart, IsReason, one_reason, no_reason}
use Rattle.plant_text.proofs.lemmas.FrontGrammar.{IsOnTheWay, at_the_beginning, front_is_grammar}
use Rattle.plant_text.proofs.lemmas.PlantLines.{plant_lines, whole_plant_part, is_whole}

-- a plant's text at the front is read to all of the plant
plant_read : (p : Description) (bytes rest : List ℕ) → IsPlant p → bytes ≡ text_of p ++ rest → IsReading FrontStep IsFrontEnded nothing_yet bytes (whole_plant_part p) rest
plant_read p bytes rest plant are =
    let text = plant_lines p plant in
    record { pieces = text.pieces; read = record { leads = text.leads; are = are ∙ ap (λ (x : List ℕ). x ++ rest) (sym text.are) }; closed = refl }

front_are : (bytes : List ℕ) (p : Description) (count : ℕ) → IsFront bytes p count → bytes ≡ text_of p ++ drop count bytes
front_are bytes p count front = sym (take-append-drop count bytes) ∙ ap (λ (x : List ℕ). x ++ drop count bytes) front.text

pub one_plant_at_the_front : OnePlantAtTheFront
one_plant_at_the_front p r rest others hp hr e =
    let same =
    texts.one_reading FrontStep IsFrontEnded IsOnTheWay front_is_grammar nothing_yet (text_of p ++ rest) (whole_plant_part r) (whole_plant_part p) others rest at_the_beginning
    (plant_read r (text_of p ++ rest) others hr e) (plant_read p (text_of p ++ rest) rest hp refl) in
    (one_whole (whole_plant_part p) p r (is_whole p) (subst (λ (q : PartialPlant). IsWhole q r) same.0 (is_whole r)), sym same.1)

pub one_front : OneFront
one_front bytes p r m n f g =
    let both : text_of p ++ drop m bytes ≡ text_of r ++ drop n bytes = sym (front_are bytes p m f) ∙ front_are bytes r n g in
    let same = one_plant_at_the_front p r (drop m bytes) (drop n bytes) f.plant g.plant both in
    (same.0, omega (arith, f.within, g.within, ap length same.1, length-drop m bytes, length-drop n bytes))

module _ (bytes : List ℕ) where
  abbrev IsLine : ℕ → Type 0
  IsLine n = IsFirstRefusedAtFront bytes n

  abbrev IsOf : Description → Type 0
  IsOf p = (count : ℕ) × IsFront bytes p count

  fronts_apart : AreApart IsLine IsOf
  fronts_apart = record {
    one_line = λ m n f g. texts.one_refusal FrontStep IsFrontEnded IsOnTheWay front_is_grammar nothing_yet bytes m n at_the_beginning f g;
    one_plant = λ p r f g. (one_front bytes p r f.0 g.0 f.1 g.1).0;
    line_or_plant = λ n p f at.
        texts.read_or_refused FrontStep IsFrontEnded IsOnTheWay front_is_grammar nothing_yet bytes (whole_plant_part p) (drop at.0 bytes) n at_the_beginning
        (plant_read p bytes (drop at.0 bytes) at.1.plant (front_are bytes p at.0 at.1)) f;
  }

  as_reason : (f : PlantFault) → IsFrontRefusedFor bytes f → IsReason IsLine IsOf f
  as_reason (faults.Malformed n) h = h
  as_reason (faults.Limit what) h = (h.0, (h.1, h.2), h.3)
  as_reason faults.Memory h = h

pub one_front_refusal : OneFrontRefusal
one_front_refusal bytes f g h k = one_reason (IsLine bytes) (IsOf bytes) (fronts_apart bytes) f g (as_reason bytes f h) (as_reason bytes g k)

pub no_front_is_refused : NoFrontIsRefused
no_front_is_refused bytes p count f front within h = no_reason (IsLine bytes) (IsOf bytes) (fronts_apart bytes) p f (count, front) within (as_reason bytes f h)
