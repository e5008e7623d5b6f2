-- A figure holds where its tests pass, and the table is tested at once.
use Rattle.std.proofs.Common.{◌≡◌, ℕ, ◌+◌, ◌-◌, ◌%◌, ◌^◌, ◌<◌, Bool, true, false, cond, ◌&&◌, eqb, ltb, leb, List, [], ◌∷◌, sym, refl, ap, ◌∙◌, mod-lt, pow_pos}
use Rattle.std.proofs.lemmas.Bool.{ltb-true, leb-true, eqb-true, and_parts}
use Rattle.expander.specs.Meaning.{Expansion}
use Rattle.expander.specs.declared.Seed.{Seed}
use Rattle.joining.specs.Joining.{AllWide}
use Rattle.joining.proofs.Meeting.{joins}
use Rattle.algebra.proofs.Multiples.{neutral_r}
use Rattle.interval.specs.Interval as rule
use Rattle.interval.proofs.Rule.{extra_taken}
use Rattle.shares.specs.Words.{Word, word, words}
use Rattle.shares.specs.Plain.{plain_shift, plain_signed_shift, plain_product}
use Rattle.shares.specs.Shifts.{low_threshold, low_payload, high_payload}
use Rattle.shares.specs.Keyed.{ShiftKeysJoin}
use Rattle.shares.proofs.Splits.{held_is_plain}
use Rattle.shares.proofs.Keyed.{answers_join, shift_is_plain, signed_shift_is_plain}
use Rattle.shares.proofs.Product.{product_joins}
use Rattle.figures.specs.Figures.{Figure, key, threshold, extra, interval, shift, signed_shift, product}
use Rattle.figures.specs.Figures.{figures, many, dealt, low_dealt, high_dealt, Holds, Each}

-- what follows if all the tests pass
abbrev If : List Bool → Type 0 → Type 0
If [] P = P
If (b ∷ bs) P = b ≡ true → If bs P

abbrev all : List Bool → Bool
all [] = true
all (b ∷ bs) = b && all bs

passed : (bs : List Bool) (P : Type 0) → If bs P → all bs ≡ true → P
passed [] P p h = p
passed (b ∷ bs) P p h = passed bs P (p (and_parts b (all bs) h).0) (and_parts b (all bs) h).1

-- in range, and the plain meaning as the figure has it
abbrev tests : Figure → List Bool
tests (key n α β m j) = ltb m (2 ^ n) ∷ ltb α (2 ^ n) ∷ eqb (cond (ltb m α) β 0) j ∷ []
tests (threshold n r α) = eqb (rule.threshold (2 ^ n) r) α ∷ []
tests (extra n p q r k) = ltb r (2 ^ n) ∷ leb p q ∷ ltb q (2 ^ n) ∷ eqb (rule.bit (eqb q (2 ^ n - 1))) k ∷ []
tests (interval n p q r β v j) =
    ltb v (2 ^ n) ∷ ltb r (2 ^ n) ∷ leb p q ∷ ltb q (2 ^ n) ∷ eqb (cond (rule.inside p q v) β 0) j ∷ []
tests (shift n s r v j) = leb s n ∷ leb n 32 ∷ ltb v (2 ^ n) ∷ ltb r (2 ^ n) ∷ eqb (plain_shift (2 ^ s) v) j ∷ []
tests (signed_shift n s r v j) = ltb s n ∷ leb n 32 ∷ ltb v (2 ^ n) ∷ ltb r (2 ^ n) ∷ eqb (plain_signed_shift (2 ^ n) (2 ^ s) v) j ∷ []
tests (product n r s out v w j) =
    ltb r (2 ^ n) ∷ ltb s (2 ^ n) ∷ ltb v (2 ^ n) ∷ ltb w (2 ^ n) ∷ eqb ((plain_product (2 ^ n) v w + out) % 2 ^ n) j ∷ []

-- a payload or zero, as a word
chosen : (b : Bool) (β j : ℕ) → cond b β 0 ≡ j → rule.taken words b (word β) ≡ word j
chosen true β j e = ap word e
chosen false β j e = ap word e

-- a word once or not at all, as a count
many_once : (b : Bool) (β : Word) → many (rule.bit b) β ≡ rule.taken words b β
many_once true β = neutral_r words.laws β
many_once false β = refl

-- a plain value comes back from its held value
back : (n r v : ℕ) → r < 2 ^ n → v < 2 ^ n → rule.plain (2 ^ n) r (rule.masked (2 ^ n) r v) ≡ v
back n r v hr hv = (held_is_plain (2 ^ n) r hr).0 v hv

held_lt : (n r v : ℕ) → rule.masked (2 ^ n) r v < 2 ^ n
held_lt n r v = mod-lt (v + r) (pow_pos n)

-- dealt keys join as the comparison says
module _ (x : Expansion) (wide : AllWide x) where
  keys : (n α β : ℕ) (root0 root1 : Seed) → α < 2 ^ n
      → rule.KeysJoin words (2 ^ n) α (word β) (dealt x n α β root0 root1 false) (dealt x n α β root0 root1 true)
  keys n α β root0 root1 hα m hm = joins x words (word β) α m wide n root0 root1 hm hα

  shift_keys : (n s r : ℕ) (low0 low1 high0 high1 : Seed) → r < 2 ^ n
      → ShiftKeysJoin (2 ^ n) (2 ^ s) r (low_dealt x s r low0 low1 false) (low_dealt x s r low0 low1 true)
      (high_dealt x n s r high0 high1 false) (high_dealt x n s r high0 high1 true)
  shift_keys n s r low0 low1 high0 high1 hr =
      (keys s (low_threshold (2 ^ s) r) low_payload low0 low1 (mod-lt r (pow_pos s)), keys n r (high_payload (2 ^ n) (2 ^ s)) high0 high1 hr)

-- each kind of figure, from its law
one : (f : Figure) → If (tests f) (Holds f)
one (key n α β m j) = λ im iα e x wide root0 root1.
    keys x wide n α β root0 root1 (ltb-true α (2 ^ n) iα) m (ltb-true m (2 ^ n) im) ∙ chosen (ltb m α) β j (eqb-true _ _ e)
one (threshold n r α) = λ e. eqb-true _ _ e
one (extra n p q r k) = λ ir ip iq e β.
    extra_taken words (2 ^ n) r p q (ltb-true r (2 ^ n) ir) (leb-true p q ip) (ltb-true q (2 ^ n) iq) β
    ∙ sym (many_once (eqb q (2 ^ n - 1)) β) ∙ ap (λ t. many t β) (eqb-true _ _ e)
one (interval n p q r β v j) = λ iv ir ip iq e x wide root0 root1 random-β random-E.
    let N : ℕ = 2 ^ n in
    let α : ℕ = rule.threshold N r in
    let hr : r < N = ltb-true r N ir in
    answers_join words N (rule.masked N r v) r p q (held_lt n r v) hr (leb-true p q ip) (ltb-true q N iq) (word β) random-β random-E
    (dealt x n α β root0 root1 false) (dealt x n α β root0 root1 true) (keys x wide n α β root0 root1 (mod-lt (r + (N - 1)) (pow_pos n)))
    ∙ ap (λ t. rule.taken words (rule.inside p q t) (word β)) (back n r v hr (ltb-true v N iv)) ∙ chosen (rule.inside p q v) β j (eqb-true _ _ e)
one (shift n s r v j) = λ is iN iv ir e x wide low0 low1 high0 high1 out random.
    let hr : r < 2 ^ n = ltb-true r (2 ^ n) ir in
    shift_is_plain n s (rule.masked (2 ^ n) r v) r out random (leb-true s n is) (leb-true n 32 iN) (held_lt n r v) hr
    (low_dealt x s r low0 low1 false) (low_dealt x s r low0 low1 true) (high_dealt x n s r high0 high1 false) (high_dealt x n s r high0 high1 true)
    (shift_keys x wide n s r low0 low1 high0 high1 hr)
    ∙ ap (λ t. (t + out) % 2 ^ n) (ap (plain_shift (2 ^ s)) (back n r v hr (ltb-true v (2 ^ n) iv)) ∙ eqb-true _ _ e)
one (signed_shift n s r v j) = λ is iN iv ir e x wide low0 low1 high0 high1 out random.
    let hr : r < 2 ^ n = ltb-true r (2 ^ n) ir in
    signed_shift_is_plain n s (rule.masked (2 ^ n) r v) r out random (ltb-true s n is) (leb-true n 32 iN) (held_lt n r v) hr
    (low_dealt x s r low0 low1 false) (low_dealt x s r low0 low1 true) (high_dealt x n s r high0 high1 false) (high_dealt x n s r high0 high1 true)
    (shift_keys x wide n s r low0 low1 high0 high1 hr)
    ∙ ap (λ t. (t + out) % 2 ^ n) (ap (plain_signed_shift (2 ^ n) (2 ^ s)) (back n r v hr (ltb-true v (2 ^ n) iv)) ∙ eqb-true _ _ e)
one (product n r s out v w j) = λ ir is iv iw e random-a random-b random-c.
    let N : ℕ = 2 ^ n in
    let hr : r < N = ltb-true r N ir in
    let hs : s < N = ltb-true s N is in
    let k : ℕ = rule.masked N s w in
    product_joins N (rule.masked N r v) k r s out random-a random-b random-c hr hs
    ∙ ap (λ t. (plain_product N t (rule.plain N s k) + out) % N) (back n r v hr (ltb-true v N iv))
    ∙ ap (λ t. (plain_product N v t + out) % N) (back n s w hs (ltb-true w N iw)) ∙ eqb-true _ _ e

abbrev all_pass : List Figure → Bool
all_pass [] = true
all_pass (f ∷ fs) = all (tests f) && all_pass fs

each : (fs : List Figure) → all_pass fs ≡ true → Each Holds fs
each [] h = tt
each (f ∷ fs) h =
    let k = and_parts (all (tests f)) (all_pass fs) h in
    (passed (tests f) (Holds f) (one f) k.0, each fs k.1)

pub figures_hold : Each Holds figures
figures_hold = each figures refl
