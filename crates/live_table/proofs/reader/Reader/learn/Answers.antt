use Rattle.std.proofs.Common.{◌≡◌, ◌<◌, ◌≤◌, length, ap, sym, ◌∙◌, arith, refl}
use Rattle.std.proofs.lemmas.Bool.{lt-ltb, le-ltb}
use Rattle.live_table.proofs.Covering.{covers_less, covers_one}
use Rattle.live_table.proofs.reader.Reader.learn.Goals as goal
use Rattle.live_table.proofs.reader.Reader.learn.Goals.{then-begins+then-begins-2, else-begins, else-begins-via-then-begins+else-begins-2, else-begins-via-else-begins}

pub returns-then-count : goal.returns-then-count
returns-then-count c =
    let before = c.self.inside in
    let kept : (c.if-begins.self-inside.seen ≡ before.seen) × (c.if-begins.self-inside.told ≡ before.told) = elim c.if-begins.branch [
      | then-begins+then-begins-2 w ↦ (ap (λ s. s.seen) w.self-inside-is, ap (λ s. s.told) w.self-inside-is)
      | else-begins w ↦ (ap (λ s. s.seen) w.self-inside-is, ap (λ s. s.told) w.self-inside-is)
    ] in
    let less : length before.told.list < length c.told.inside.prefix.list = omega (arith, ap (λ p. length p.list) kept.1) in
    rw (← c.self.view_is, kept.0, ← c.told.view_is, lt-ltb (length before.told.list) (length c.told.inside.prefix.list) less) refl

pub returns : goal.returns
returns c =
    let before = c.self.inside in
    let kept : (c.if-begins.self-inside.seen ≡ before.seen) × (c.if-begins.self-inside.told ≡ before.told) = elim c.if-begins.branch [
      | then-begins+then-begins-2 w ↦ (ap (λ s. s.seen) w.self-inside-is, ap (λ s. s.told) w.self-inside-is)
      | else-begins w ↦ (ap (λ s. s.seen) w.self-inside-is, ap (λ s. s.told) w.self-inside-is)
    ] in
    let most : length c.told.inside.prefix.list ≤ length before.told.list = omega (arith, ap (λ p. length p.list) kept.1) in
    rw (← c.self.view_is, kept.0, kept.1, ← c.told.view_is, le-ltb (length before.told.list) (length c.told.inside.prefix.list) most) refl

pub invariant_of-self : goal.invariant_of-self
invariant_of-self c =
    let before = c.self.inside in
    let prefix = c.told.inside.prefix in
    let same : prefix.opening ≡ before.seen.opening = ap (λ p. p.opening) c.told.view_is ∙ (c.requires ∙ sym (ap (λ r. r.opening) c.self.view_is)) in
    let one : before.seen.opening ≡ before.told.opening = covers_one _ _ _ c.self.invariant.0 c.self.invariant.1 in
    elim c.if-begins.branch [
      | then-begins+then-begins-2 w ↦ rw w.self-inside-is (covers_less _ before.seen prefix c.told.invariant (sym same) w.if-begins.ensures, c.told.invariant)
      | else-begins w ↦ rw w.self-inside-is (
        c.self.invariant.0,
        elim w.else-begins.branch [
          | else-begins-via-then-begins+else-begins-2 v ↦ covers_less _ prefix before.told c.self.invariant.1 (same ∙ one) v.if-begins-2.ensures
          | else-begins-via-else-begins v ↦ covers_less _ prefix before.seen c.self.invariant.0 same v.if-begins.ensures
        ],
      )
    ]

pub invariant_of-self-else-count : goal.invariant_of-self-else-count
invariant_of-self-else-count c =
    let before = c.self.inside in
    let prefix = c.told.inside.prefix in
    let same : before.seen.opening ≡ prefix.opening = ap (λ r. r.opening) c.self.view_is ∙ sym (ap (λ p. p.opening) c.told.view_is ∙ c.requires) in
    let one : before.told.opening ≡ before.seen.opening = covers_one _ _ _ c.self.invariant.1 c.self.invariant.0 in
    elim c.if-begins.branch [
      | then-begins+then-begins-2 w ↦ rw w.self-inside-is (covers_less _ before.seen prefix c.told.invariant same w.if-begins.ensures, covers_less _ before.told prefix c.told.invariant (one ∙ same) w.if-begins-2.ensures)
      | else-begins w ↦ rw w.self-inside-is c.self.invariant
    ]
