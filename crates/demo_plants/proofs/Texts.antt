-- The text of a demo plant is its canonical text.
use Rattle.std.proofs.Common.{◌≡◌, ℕ, ◌+◌, ◌-◌, ◌*◌, ◌<◌, ◌≤◌, List, [], ◌++◌, length, arith, refl, sym, subst, ◌∙◌, append_assoc, length-append}
use Rattle.std.specs.Prelude.{codes}
use Rattle.std.specs.Fmt.{decimal, digits}
use Rattle.std.proofs.lemmas.List.{append-nil}
use Rattle.std.proofs.lemmas.Fmt.{length-decimal-le}
use Rattle.plant_writing.specs.CanonicalText.{text_of, state_line, box_line}
use Rattle.plant_text.specs.Grammar.{Spells}
use Rattle.plant_text.specs.PlantRefusals.{IsShort}
use Rattle.plant_text.proofs.lemmas.SpelledCanonically.{canonical_texts_spell}
use Rattle.command_line.specs.Command.{IsDemoNumber}
use Rattle.demo_plants.specs.Demo.{demo_plant_of, demo_text, position, demo_target, fast_forwards, fast_backwards}
use Rattle.demo_plants.specs.Laws.{DemoTextsSpell}
use Rattle.demo_plants.proofs.Sizes.{within_limits}

-- a number after one piece, with two more pieces after it
one_number : (a d b c : List ℕ) → a ++ (d ++ (b ++ c)) ≡ a ++ ((d ++ b) ++ c)
one_number a d b c = simp append_assoc

-- two numbers after one piece, with two more pieces after them
two_numbers : (a d s e b c : List ℕ) → a ++ (d ++ (s ++ (e ++ (b ++ c)))) ≡ a ++ ((d ++ (s ++ (e ++ b))) ++ c)
two_numbers a d s e b c = simp append_assoc

position_line : (n : ℕ) → codes "state p 0 " ++ (decimal (600 * n - 1) ++ codes " 10\n") ≡ state_line (position n)
unfolding digits
position_line n = one_number (codes "state p 0 ") (decimal (600 * n - 1)) (codes " 10") (codes "\n")

target_line : (n : ℕ) → codes "target " ++ (decimal (400 * n) ++ (codes " " ++ (decimal (560 * n - 1) ++ codes " -50 49\n"))) ≡ box_line (codes "target") 2 (demo_target n)
unfolding digits
target_line n = two_numbers (codes "target ") (decimal (400 * n)) (codes " ") (decimal (560 * n - 1)) (codes " -50 49") (codes "\n")

forwards_line : (n : ℕ) → codes "obstacle " ++ (decimal (200 * n) ++ (codes " " ++ (decimal (200 * n + 19) ++ codes " 80 99\n"))) ≡ box_line (codes "obstacle") 2 (fast_forwards n)
unfolding digits
forwards_line n = two_numbers (codes "obstacle ") (decimal (200 * n)) (codes " ") (decimal (200 * n + 19)) (codes " 80 99") (codes "\n")

backwards_line : (n : ℕ) → codes "obstacle " ++ (decimal (300 * n) ++ (codes " " ++ (decimal (300 * n + 9) ++ codes " -100 -81\n"))) ≡ box_line (codes "obstacle") 2 (fast_backwards n)
unfolding digits
backwards_line n = two_numbers (codes "obstacle ") (decimal (300 * n)) (codes " ") (decimal (300 * n + 9)) (codes " -100 -81") (codes "\n")

-- the lines, put together either way
lines : (l v i w e f g d s1 s2 s3 t1 t2 t3 t4 t5 o1 o2 o3 o4 o5 q1 q2 q3 q4 q5 : List ℕ) →
    l ++ s1 ++ s2 ++ s3 ++ v ++ i ++ w ++ e ++ f ++ t1 ++ t2 ++ t3 ++ t4 ++ t5 ++ o1 ++ o2 ++ o3 ++ o4 ++ o5 ++ q1 ++ q2 ++ q3 ++ q4 ++ q5 ++ g ++ d
    ≡ l ++ ((s1 ++ (s2 ++ s3)) ++ (v ++ [])) ++ (i ++ []) ++ (w ++ []) ++ (e ++ (f ++ [])) ++ ((t1 ++ (t2 ++ (t3 ++ (t4 ++ t5)))) ++ []) ++ ((o1 ++ (o2 ++ (o3 ++ (o4 ++ o5)))) ++ ((q1 ++ (q2 ++ (q3 ++ (q4 ++ q5)))) ++ [])) ++ g ++ d
lines l v i w e f g d s1 s2 s3 t1 t2 t3 t4 t5 o1 o2 o3 o4 o5 q1 q2 q3 q4 q5 = simp (append_assoc, append-nil)

-- a text of the lines of a position, a target and two obstacles
text_with : List ℕ → List ℕ → List ℕ → List ℕ → List ℕ
text_with s t o q =
    codes "plant 1\n"
    ++ (s ++ (codes "state v -100 99 10\n" ++ []))
    ++ (codes "input a -20 -15 0 15 20\n" ++ [])
    ++ (codes "noise w -2 2\n" ++ [])
    ++ (codes "next p = p + v / 5\n" ++ (codes "next v = v + a + w\n" ++ []))
    ++ (t ++ [])
    ++ (o ++ (q ++ []))
    ++ codes "goal reach\n"
    ++ codes "end\n"

with_lines : {s t o q s' t' o' q' : List ℕ} → s ≡ s' → t ≡ t' → o ≡ o' → q ≡ q' → text_with s t o q ≡ text_with s' t' o' q'
with_lines es et eo eq = cc

canonical_is : (n : ℕ) → text_with (state_line (position n)) (box_line (codes "target") 2 (demo_target n)) (box_line (codes "obstacle") 2 (fast_forwards n)) (box_line (codes "obstacle") 2 (fast_backwards n)) ≡ text_of (demo_plant_of n)
unfolding text_with demo_plant_of digits
canonical_is n = refl

canonical : (n : ℕ) → demo_text n ≡ text_of (demo_plant_of n)
unfolding demo_text text_with
canonical n =
    lines (codes "plant 1\n") (codes "state v -100 99 10\n") (codes "input a -20 -15 0 15 20\n") (codes "noise w -2 2\n") (codes "next p = p + v / 5\n") (codes "next v = v + a + w\n") (codes "goal reach\n") (codes "end\n")
    (codes "state p 0 ") (decimal (600 * n - 1)) (codes " 10\n")
    (codes "target ") (decimal (400 * n)) (codes " ") (decimal (560 * n - 1)) (codes " -50 49\n")
    (codes "obstacle ") (decimal (200 * n)) (codes " ") (decimal (200 * n + 19)) (codes " 80 99\n")
    (codes "obstacle ") (decimal (300 * n)) (codes " ") (decimal (300 * n + 9)) (codes " -100 -81\n")
    ∙ with_lines (position_line n) (target_line n) (forwards_line n) (backwards_line n)
    ∙ canonical_is n

-- a number of a demo plant's text has at most six digits
few_digits : (k : ℕ) → k < 1000000 → length (decimal k) ≤ 6
few_digits k lt = length-decimal-le 6 k (omega arith) (omega (arith, lt)) (omega (arith, lt))

short : (n : ℕ) → IsDemoNumber n → IsShort (demo_text n)
unfolding demo_text
short n size =
    let few : n ≤ 500 = size.1 in
    let a = few_digits (600 * n - 1) (omega (arith, few)) in
    let b = few_digits (400 * n) (omega (arith, few)) in
    let c = few_digits (560 * n - 1) (omega (arith, few)) in
    let d = few_digits (200 * n) (omega (arith, few)) in
    let e = few_digits (200 * n + 19) (omega (arith, few)) in
    let f = few_digits (300 * n) (omega (arith, few)) in
    let g = few_digits (300 * n + 9) (omega (arith, few)) in
    simp length-append (omega (arith, a, b, c, d, e, f, g))

pub texts_spell : DemoTextsSpell
texts_spell n size = record {
  canonical = canonical n;
  spells = let spelled = canonical_texts_spell (demo_plant_of n) (within_limits n size).limits.plant in subst (λ (text : List ℕ). Spells text (demo_plant_of n)) (sym (canonical n)) spelled;
  short = short n size;
}
