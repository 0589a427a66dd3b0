-- One more of many states is answered.
use Rattle.std.proofs.Common.{inl, inr, ◌≡◌, ℕ, ◌+◌, ◌-◌, ◌*◌, ◌<◌, ◌≤◌, List, length, take, drop, get_or, set, sym, ap, subst, subst₂, ◌∙◌, arith}
use Rattle.std.specs.Prelude.{ℤ, pos}
use Rattle.std.specs.List.{between}
use Rattle.std.proofs.lemmas.Bool.{cases_lt}
use Rattle.std.proofs.lemmas.List.{length-drop, length-take-le, get_or-set_same, get_or-set_other}
use borrow.Rule.Slice.PartMut.{put_mid}
use Rattle.text_control.specs.Texts.{TextModel}
use Rattle.text_control.specs.declared.reply.Reply.{Reply}
use Rattle.text_control.specs.Control.{IsReply, IsReplyByText, EncodesReply, reply_number}
use Rattle.text_control.specs.Each.{piece, EncodesReplyAt}
use Rattle.text_control.proofs.Pieces.{width, piece_is, piece_other, piece_here, later_same, length_written, drop_next}
use Rattle.base.proofs.Products.{part_fits}

-- the k-th number means the reply at the k-th piece
abbrev pub EncodesPiece : TextModel → ℕ → ℕ → List ℤ → List ℤ → List ℤ → List ℤ → ℕ → Type 0
EncodesPiece t size capacity states before after numbers k = EncodesReply t (piece size k states) (piece capacity k before) (piece capacity k after) (get_or numbers k (pos 0))

module _ (k count capacity : ℕ) (inputs values : List ℤ) (long : length inputs ≡ count * capacity) (lt : k < count) (same : length values ≡ length (between (k * capacity) ((k + 1) * capacity) inputs)) where
  starts : k * capacity ≤ length inputs
  starts = omega (arith, long, part_fits k count capacity lt)

  pub one_piece : length values ≡ capacity
  one_piece =
      same
      ∙ ap (λ (xs : List ℤ). length xs) (piece_is k capacity inputs)
      ∙ length-take-le capacity (drop (k * capacity) inputs) (omega (arith, length-drop (k * capacity) inputs, long, part_fits k count capacity lt))

  abbrev pub written : List ℤ
  written = put_mid (k * capacity) ((k + 1) * capacity - k * capacity) inputs values

  pub as_long : length written ≡ length inputs
  as_long =
      length_written (k * capacity) ((k + 1) * capacity - k * capacity) inputs values (omega (arith, width k capacity, long, part_fits k count capacity lt)) (one_piece ∙ sym (width k capacity))

  pub later_next : (before : List ℤ) → drop (k * capacity) inputs ≡ drop (k * capacity) before → drop ((k + 1) * capacity) written ≡ drop ((k + 1) * capacity) before
  later_next before later =
      later_same k capacity ((k + 1) * capacity - k * capacity) inputs values starts one_piece (width k capacity) ∙ drop_next k capacity inputs before later

  module _ (t : TextModel) (size : ℕ) (states before replies : List ℤ) (number : ℤ) (reply : Reply) (many : k < length replies) (told : number ≡ reply_number reply) (later : drop (k * capacity) inputs ≡ drop (k * capacity) before)
      (is : IsReply t (between (k * size) ((k + 1) * size) states) (between (k * capacity) ((k + 1) * capacity) inputs) values reply) (text : IsReplyByText t (between (k * size) ((k + 1) * size) states) values reply) where
    encodes_here : EncodesPiece t size capacity states before written (set replies k number) k
    encodes_here =
        let x : between (k * size) ((k + 1) * size) states ≡ piece size k states = piece_is k size states in
        let u : between (k * capacity) ((k + 1) * capacity) inputs ≡ piece capacity k before = piece_is k capacity inputs ∙ ap (take capacity) later in
        let v : values ≡ piece capacity k written = sym (piece_here k capacity ((k + 1) * capacity - k * capacity) inputs values starts one_piece) in (
          reply,
          get_or-set_same replies k number (pos 0) many ∙ told,
          subst (λ (after : List ℤ). IsReply t (piece size k states) (piece capacity k before) after reply) v (subst₂ (λ (xs us : List ℤ). IsReply t xs us values reply) x u is),
          subst₂ (λ (xs after : List ℤ). IsReplyByText t xs after reply) x v text,
        )

    encodes_other : (j : ℕ) → j < k → EncodesPiece t size capacity states before inputs replies j → EncodesPiece t size capacity states before written (set replies k number) j
    encodes_other j below tells =
        subst₂ (λ (after : List ℤ) (n : ℤ). EncodesReply t (piece size j states) (piece capacity j before) after n) (sym (piece_other k capacity ((k + 1) * capacity - k * capacity) inputs values starts j below))
        (sym (get_or-set_other replies k j number (pos 0) (λ e. omega (arith, e, below)))) tells

    encodes_next : ((j : ℕ) → j < k → EncodesPiece t size capacity states before inputs replies j) → (j : ℕ) → j < k + 1 → EncodesPiece t size capacity states before written (set replies k number) j
    encodes_next done j below =
        elim (cases_lt j k) [
          | inl less ↦ encodes_other j less (done j less)
          | inr ge ↦ let e : k ≡ j = omega (arith, ge, below) in subst (λ (i : ℕ). EncodesPiece t size capacity states before written (set replies k number) i) e encodes_here
        ]

    pub encodes_at : size ≡ length t.plant.states → capacity ≡ length t.plant.inputs → ((j : ℕ) → j < k → EncodesReplyAt t states before inputs replies j) → (j : ℕ) → j < k + 1 → EncodesReplyAt t states before written (set replies k number) j
    encodes_at is_size is_capacity done j below =
        subst₂ (λ (n m : ℕ). EncodesPiece t n m states before written (set replies k number) j) is_size is_capacity
        (encodes_next (λ i less. subst₂ (λ (n m : ℕ). EncodesPiece t n m states before inputs replies i) (sym is_size) (sym is_capacity) (done i less)) j below)
