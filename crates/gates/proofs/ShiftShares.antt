-- Two boxes' shares of a shift, from their dealt keys.
use Rattle.std.proofs.Common.{◌≡◌, ℕ, ◌%◌, ◌^◌, ◌<◌, Bool, true, false, List, map, get_or, refl, ap, ◌∙◌, mod-lt, arith, pow_pos}
use Rattle.expander.specs.Meaning.{Expansion}
use Rattle.group.specs.declared.Word as code
use Rattle.key.specs.declared.Row.{Row}
use Rattle.key.specs.declared.BoxNumber.{BoxNumber}
use Rattle.key.specs.Rows.{row_mean, is_one}
use Rattle.evaluation.specs.Evaluation.{evaluated}
use Rattle.joining.specs.Joining.{AllWide}
use Rattle.joining.proofs.Same.{same_evaluated}
use Rattle.masking.specs.Masking.{size}
use Rattle.shares.specs.Words.{Word, word, words}
use Rattle.shares.specs.Local.{sum_of}
use Rattle.shares.specs.Shifts.{low_payload, high_payload, low_point, shift_share, signed_held, signed_share}
use Rattle.shares.specs.Keyed.{ShiftKeysJoin}
use Rattle.shares.proofs.Keyed.{shift_is_plain, signed_shift_is_plain}
use Rattle.gatekeys.specs.declared.ranges.Shift.{Shift}
use Rattle.gatekeys.specs.declared.keyed.Sign.{Sign}
use Rattle.gatekeys.specs.declared.keyed.Sign.TheVariants.{Unsigned, Signed}
use Rattle.gates.specs.declared.shift.ShiftKey.{ShiftKey}
use Rattle.gatemath.specs.Elements.{step_of, word_mean}
use Rattle.gatemath.specs.Signs.{asked_at, share_by}
use Rattle.gates.specs.Shift.{shift_key_mean, low_root0, low_root1, high_root0, high_root1, low_rows_of, high_rows_of, dealt_shift_key}
use Rattle.gates.specs.Shift.{low_at, high_at, shift_share_at, signed_share_at, share_at_by, numbers_by, signed_shift_held, held_by}
use Rattle.gates.specs.Shift.{low_key_dealt, high_key_dealt, shift_share_dealt, signed_share_dealt}
use Rattle.gates.proofs.Meeting.{dealt_keys_join}

-- the share of a sign is that of unsigned or that of signed values
pub share_by_sign : (x : Expansion) (sign : Sign) (k : ShiftKey code.Word) (low high : List (Row code.Word)) (m : ℕ)
    → (let N : ℕ = size k.shift.width in let S : ℕ = step_of k.shift in let h : ℕ = asked_at sign N m in
    share_by sign (is_one k.number) N S m (low_at x word_mean k low (low_point S h)).0 (high_at x word_mean k high h).0 k.parts.rest)
    ≡ share_at_by x sign word_mean k low high m
share_by_sign x Unsigned k low high m = refl
share_by_sign x Signed k low high m = refl

module _ (d : Expansion) (s : Shift) (r : ℕ) (ws : List ℕ) where
  abbrev N : ℕ
  N = size s.width

  abbrev S : ℕ
  S = step_of s

  abbrev key : BoxNumber → ShiftKey Word
  key b = dealt_shift_key d b s r ws s.by s.width.bits

  -- whatever is made of a box's key and its two answers is made of the dealt key and the defined answers
  from_dealt : (x : Expansion) (b : BoxNumber) (F : ShiftKey Word → (ℕ → Word) → (ℕ → Word) → ℕ)
      (k : ShiftKey code.Word) (low high : List (Row code.Word))
      → shift_key_mean word_mean k ≡ key b
      → map (row_mean word_mean) low ≡ low_rows_of d s r ws s.by
      → map (row_mean word_mean) high ≡ high_rows_of d s r ws s.width.bits
      → F (shift_key_mean word_mean k) (low_at x word_mean k low) (high_at x word_mean k high) ≡ F (key b) (low_key_dealt d x (is_one b) s r ws)
      (high_key_dealt d x (is_one b) s r ws)
  from_dealt x b F k low high hk hl hh =
      let K : ShiftKey Word = shift_key_mean word_mean k in
      let lo : ShiftKey Word → List (Row Word) → ℕ → Word = λ j rs p.
      evaluated x words (λ (v : Word). v) (is_one j.number) j.parts.low.root rs j.parts.low.last p in
      let hi : ShiftKey Word → List (Row Word) → ℕ → Word = λ j rs p.
      evaluated x words (λ (v : Word). v) (is_one j.number) j.parts.high.root rs j.parts.high.last p in
      ap (λ f. F K f (high_at x word_mean k high)) (λ t p. same_evaluated x words word_mean (is_one k.number) k.parts.low.root low k.parts.low.last p t)
      ∙ ap (F K (lo K (map (row_mean word_mean) low)))
      (λ t p. same_evaluated x words word_mean (is_one k.number) k.parts.high.root high k.parts.high.last p t)
      ∙ ap (λ rs. F K (lo K rs) (hi K (map (row_mean word_mean) high))) hl
      ∙ ap (λ rs. F K (lo K (low_rows_of d s r ws s.by)) (hi K rs)) hh
      ∙ ap (λ j. F j (lo j (low_rows_of d s r ws s.by)) (hi j (high_rows_of d s r ws s.width.bits))) hk

  module _ (m : ℕ) where
    abbrev share_at : ShiftKey Word → (ℕ → Word) → (ℕ → Word) → ℕ
    share_at k lo hi =
        shift_share (is_one k.number) (size k.shift.width) (step_of k.shift) m (lo (low_point (step_of k.shift) m)).0 (hi m).0 k.parts.rest

    abbrev signed_at : ShiftKey Word → (ℕ → Word) → (ℕ → Word) → ℕ
    signed_at k lo hi =
        let h : ℕ = signed_held (size k.shift.width) m in
        signed_share (is_one k.number) (size k.shift.width) (step_of k.shift) m (lo (low_point (step_of k.shift) h)).0 (hi h).0 k.parts.rest

    -- a box's share of its dealt key's answers, by the sign
    abbrev pub dealt_by : Sign → Expansion → Bool → ℕ
    dealt_by Unsigned x one = shift_share_dealt d x one s r ws m
    dealt_by Signed x one = signed_share_dealt d x one s r ws m

    module _ (x : Expansion) (b : BoxNumber) (k : ShiftKey code.Word) (low high : List (Row code.Word)) (t : ℕ)
        (hk : shift_key_mean word_mean k ≡ key b)
        (hl : map (row_mean word_mean) low ≡ low_rows_of d s r ws s.by)
        (hh : map (row_mean word_mean) high ≡ high_rows_of d s r ws s.width.bits) where
      -- a box's share from its dealt key is the defined one
      pub share_is : (sign : Sign) → t ≡ share_at_by x sign word_mean k low high m → t ≡ dealt_by sign x (is_one b)
      share_is Unsigned e = e ∙ from_dealt x b share_at k low high hk hl hh
      share_is Signed e = e ∙ from_dealt x b signed_at k low high hk hl hh

      pub shift_share_is : t ≡ shift_share_at x word_mean k low high m → t ≡ shift_share_dealt d x (is_one b) s r ws m
      shift_share_is = share_is Unsigned

      pub signed_share_is : t ≡ signed_share_at x word_mean k low high m → t ≡ signed_share_dealt d x (is_one b) s r ws m
      signed_share_is = share_is Signed

    module _ (x y : Expansion) where
      pub numbers_are : (sign : Sign) → (let t : ℕ × ℕ × ℕ =
          (dealt_by sign x false, dealt_by sign y true, sum_of N (dealt_by sign x false) (dealt_by sign y true)) in t)
          ≡ numbers_by d x y s r ws m sign
      numbers_are Unsigned = refl
      numbers_are Signed = refl

      -- the defined shares join to the plain meaning plus the output mask
      module _ (wide : AllWide d) (ex : d ≡ x) (ey : d ≡ y) (hr : r < 2 ^ s.width.bits) (hm : m < 2 ^ s.width.bits) where
        keys_join : ShiftKeysJoin N S r (low_key_dealt d x false s r ws) (low_key_dealt d y true s r ws) (high_key_dealt d x false s r ws)
            (high_key_dealt d y true s r ws)
        keys_join = (
          dealt_keys_join words d x y s.by (r % S) (word low_payload) (low_root0 ws) (low_root1 ws) wide ex ey (mod-lt r (pow_pos s.by)),
          dealt_keys_join words d x y s.width.bits r (word (high_payload N S)) (high_root0 ws) (high_root1 ws) wide ex ey hr,
        )

        pub shifts_join : (sign : Sign) → sum_of N (dealt_by sign x false) (dealt_by sign y true) ≡ held_by sign s r ws m
        shifts_join Unsigned =
            shift_is_plain s.width.bits s.by m r (get_or ws 0 0 % N) (get_or ws 9 0) (omega (arith, s.fits)) s.width.most hm hr
            (low_key_dealt d x false s r ws) (low_key_dealt d y true s r ws) (high_key_dealt d x false s r ws) (high_key_dealt d y true s r ws) keys_join
        shifts_join Signed =
            signed_shift_is_plain s.width.bits s.by m r (get_or ws 0 0 % N) (get_or ws 9 0) s.fits s.width.most hm hr
            (low_key_dealt d x false s r ws) (low_key_dealt d y true s r ws) (high_key_dealt d x false s r ws) (high_key_dealt d y true s r ws) keys_join

        pub signed_shifts_join : sum_of N (signed_share_dealt d x false s r ws m) (signed_share_dealt d y true s r ws m) ≡ signed_shift_held s r ws m
        signed_shifts_join = shifts_join Signed
