-- A line's first word, and what comes after it.
use Rattle.std.proofs.Common.{◌≡◌, ℕ, zero, suc, ◌+◌, ◌-◌, ◌<◌, Bool, true, false, cond, not, eqb, ◌⊎◌, List, [], ◌∷◌, length, take, drop, sym, refl, ap, ◌∙◌, inl, inr, arith, ne_eqb}
use Rattle.std.proofs.lemmas.List.{take_all, drop_all}
use Rattle.std.proofs.lemmas.List.Splits.{slice_split-cons_yes, slice_split-cons_no}
use Rattle.std.specs.List.{prefix_len, onto_first}
use Rattle.orders.specs.Text.{pieces, filled, words, nth}

-- how many spaces stand at the front
abbrev pub ahead : List ℕ → ℕ
ahead l = prefix_len (λ b. eqb b 32) l

-- how many bytes come before the first space
abbrev pub before : List ℕ → ℕ
before l = prefix_len (λ b. not (eqb b 32)) l

abbrev pub trimmed : List ℕ → List ℕ
trimmed l = drop (ahead l) l

module _ (b : ℕ) (bs : List ℕ) where
  words_on : eqb b 32 ≡ true → words (b ∷ bs) ≡ words bs
  words_on e = ap filled (slice_split-cons_yes (λ x. eqb x 32) b bs e)

  before_none : eqb b 32 ≡ true → before (b ∷ bs) ≡ 0
  before_none e = ap (λ t. cond (not t) (1 + before bs) 0) e

  before_more : eqb b 32 ≡ false → before (b ∷ bs) ≡ suc (before bs)
  before_more e = ap (λ t. cond (not t) (1 + before bs) 0) e ∙ omega arith

  trimmed_on : eqb b 32 ≡ true → trimmed (b ∷ bs) ≡ trimmed bs
  trimmed_on e =
      let one : 1 + ahead bs ≡ suc (ahead bs) = omega arith in
      ap (λ t. drop (cond t (1 + ahead bs) 0) (b ∷ bs)) e ∙ ap (λ n. drop n (b ∷ bs)) one

  trimmed_all : eqb b 32 ≡ false → trimmed (b ∷ bs) ≡ b ∷ bs
  trimmed_all e = ap (λ t. drop (cond t (1 + ahead bs) 0) (b ∷ bs)) e

filled_cons : (b : ℕ) (bs : List ℕ) (ps : List (List ℕ)) → filled ((b ∷ bs) ∷ ps) ≡ (b ∷ bs) ∷ filled ps
filled_cons b bs ps = rw (ne_eqb (suc (length bs)) 0 (λ z. omega arith)) refl

abbrev Starts : List ℕ → Type 0
Starts l = (ps : List (List ℕ)) × (pieces 32 l ≡ take (before l) l ∷ ps) × (filled ps ≡ words (drop (before l) l))

-- the first piece ends at the first space
starts : (l : List ℕ) → Starts l
starts [] = ([], refl, refl)
starts (b ∷ bs) = step (eqb b 32) refl (starts bs)
  where
    step : (t : Bool) → eqb b 32 ≡ t → Starts bs → Starts (b ∷ bs)
    step true e m =
        let none = sym (before_none b bs e) in (
          pieces 32 bs,
          slice_split-cons_yes (λ x. eqb x 32) b bs e ∙ ap (λ n. take n (b ∷ bs) ∷ pieces 32 bs) none,
          sym (words_on b bs e) ∙ ap (λ n. words (drop n (b ∷ bs))) none,
        )
    step false e m =
        let more = sym (before_more b bs e) in (
          m.0,
          slice_split-cons_no (λ x. eqb x 32) b bs e ∙ ap (onto_first b) m.1 ∙ ap (λ n. take n (b ∷ bs) ∷ m.0) more,
          m.2 ∙ ap (λ n. words (drop n (b ∷ bs))) more,
        )

abbrev Cut : List ℕ → Type 0
Cut l = ((words l ≡ []) × (trimmed l ≡ [])) ⊎ (words l ≡ take (before (trimmed l)) (trimmed l) ∷ words (drop (before (trimmed l)) (trimmed l)))

-- past the spaces at its front a line is empty, or begins with its first word
cut : (l : List ℕ) → Cut l
cut [] = inl (refl, refl)
cut (b ∷ bs) = step (eqb b 32) refl (cut bs) (starts bs)
  where
    step : (t : Bool) → eqb b 32 ≡ t → Cut bs → Starts bs → Cut (b ∷ bs)
    step true e (inl h) m = inl (words_on b bs e ∙ h.0, trimmed_on b bs e ∙ h.1)
    step true e (inr h) m =
        inr (words_on b bs e ∙ h ∙ ap (λ w. take (before w) w ∷ words (drop (before w) w)) (sym (trimmed_on b bs e)))
    step false e h m =
        inr (ap filled (slice_split-cons_no (λ x. eqb x 32) b bs e) ∙ ap (λ ps. filled (onto_first b ps)) m.1
        ∙ filled_cons b (take (before bs) bs) m.0 ∙ ap (λ ws. (b ∷ take (before bs) bs) ∷ ws) m.2
        ∙ ap (λ n. take n (b ∷ bs) ∷ words (drop n (b ∷ bs))) (sym (before_more b bs e))
        ∙ ap (λ w. take (before w) w ∷ words (drop (before w) w)) (sym (trimmed_all b bs e)))

nth_none : (n : ℕ) → nth [] n ≡ []
nth_none zero = refl
nth_none (suc n) = refl

nth_next : (w : List ℕ) (ws : List (List ℕ)) (n : ℕ) → 1 < n → nth (w ∷ ws) n ≡ nth ws (n - 1)
nth_next w ws zero h = absurd (omega arith)
nth_next w ws (suc zero) h = absurd (omega arith)
nth_next w ws (suc (suc n)) h = let e : suc n ≡ suc (suc n) - 1 = omega arith in ap (λ k. nth ws k) e

-- b: how long the first word is
module _ (l w : List ℕ) (b : ℕ) (left : w ≡ trimmed l) (long : b ≡ before w) where
  first_word : nth (words l) 1 ≡ take b w
  first_word =
      elim (cut l) [
        | inl h ↦ ap (λ ws. nth ws 1) h.0 ∙ sym (ap (λ v. take (before v) v) (left ∙ h.1))
        | inr h ↦ ap (λ ws. nth ws 1) h ∙ sym (ap (λ v. take (before v) v) left)
      ] ∙ sym (ap (λ n. take n w) long)

  pub later_word : (n : ℕ) → 1 < n → nth (words l) n ≡ nth (words (drop b w)) (n - 1)
  later_word n more =
      elim (cut l) [
        | inl h ↦ ap (λ ws. nth ws n) h.0 ∙ nth_none n ∙ sym (ap (λ v. nth (words (drop (before v) v)) (n - 1)) (left ∙ h.1) ∙ nth_none (n - 1))
        | inr h ↦ ap (λ ws. nth ws n) h ∙ nth_next _ _ n more ∙ sym (ap (λ v. nth (words (drop (before v) v)) (n - 1)) left)
      ] ∙ sym (ap (λ k. nth (words (drop k w)) (n - 1)) long)

  -- no word is left before it, or none at all
  pub word_is : (n : ℕ) → (n ≡ 0) ⊎ (w ≡ []) → take b w ≡ nth (words l) (n + 1)
  word_is n (inl e) = let one : 1 ≡ n + 1 = omega arith in sym first_word ∙ ap (λ k. nth (words l) k) one
  word_is zero (inr e) = sym first_word
  word_is (suc n) (inr e) =
      let k = suc n + 1 in
      ap (λ v. take b v) e ∙ take_all b [] (omega arith)
      ∙ sym (later_word k (omega arith) ∙ ap (λ v. nth (words (drop b v)) (k - 1)) e ∙ ap (λ v. nth (words v) (k - 1)) (drop_all b [] (omega arith)) ∙ nth_none (k - 1))
