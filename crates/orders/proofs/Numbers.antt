-- Digits and the numbers that they write.
use Rattle.std.proofs.Common.{◌≡◌, ℕ, zero, suc, ◌+◌, ◌-◌, ◌*◌, ◌^◌, ◌<◌, ◌≤◌, min, true, false, leb, List, [], ◌∷◌, ◌++◌, length, get_or, take, Ok, Err, sym, refl, ap, ◌∙◌, mul_assoc, pow-suc, arith, length-append, leb-true, le-leb, cond}
use borrow.Author.Tests.{lt-leb}
use Rattle.std.proofs.lemmas.List.{take_more}
use Rattle.std.proofs.lemmas.List.Sums.{AllPass-from_list_all}
use Rattle.std.proofs.lemmas.Bool.{and_parts, cond-true, cond-false}
use Rattle.orders.specs.declared.types.Wrong.TheVariants.{NotNumber, TooLarge, NotHex}
use Rattle.orders.specs.Grammar.{and_then}
use Rattle.orders.specs.Text.{digit, digits, numeral, value, bounded, number_of, decimal_of, hex, hexes, hex_value, hex_of, hex_bytes, or_zero, byte_of}

pub digit_at : (w : List ℕ) (i : ℕ) → digits w ≡ true → i < length w → digit (get_or w i 0) ≡ true
digit_at [] i e h = absurd (omega arith)
digit_at (c ∷ cs) zero e h = (and_parts (digit c) (digits cs) e).0
digit_at (c ∷ cs) (suc i) e h = digit_at cs i (and_parts (digit c) (digits cs) e).1 (omega arith)

pub digit_range : (c : ℕ) → digit c ≡ true → (48 ≤ c) × (c ≤ 57)
digit_range c e =
    let p = and_parts (leb 48 c) (leb c 57) e in
    (leb-true 48 c p.0, leb-true c 57 p.1)

pub value_push : (cs : List ℕ) (c : ℕ) → value (cs ++ (c ∷ [])) ≡ value cs * 10 + (c - 48)
value_push [] c = omega arith
value_push (d ∷ cs) c =
    let longer : length (cs ++ (c ∷ [])) ≡ suc (length cs) = length-append cs (c ∷ []) ∙ omega arith in
    let tenfold : 10 ^ suc (length cs) ≡ 10 ^ length cs * 10 = pow-suc 10 (length cs) in
    let here : (d - 48) * 10 ^ length (cs ++ (c ∷ [])) ≡ (d - 48) * 10 ^ length cs * 10 =
    ap (λ n. (d - 48) * 10 ^ n) longer ∙ ap (λ n. (d - 48) * n) tenfold ∙ sym (mul_assoc (d - 48) (10 ^ length cs) 10) in
    omega (arith, value_push cs c)

pub value_more : (w : List ℕ) (i : ℕ) → i < length w → value (take (i + 1) w) ≡ value (take i w) * 10 + (get_or w i 0 - 48)
value_more w i h = ap value (take_more w i 0 h) ∙ value_push (take i w) (get_or w i 0)

-- a number past the limit is too large also where it is cut down to one past it
pub decimal_small : (w : List ℕ) (most n : ℕ) → numeral w ≡ true → n ≡ min (value w) (most + 1) → n ≤ most → Ok n ≡ decimal_of most w
unfolding number_of
decimal_small w most n some e h =
    let same : value w ≡ n = omega arith in
    sym (cond-true (numeral w) (bounded (λ m. m) most (value w)) (Err NotNumber) some
    ∙ ap (bounded (λ m. m) most) same ∙ cond-true (leb n most) (Ok n) (Err TooLarge) (le-leb n most h))

pub decimal_large : (w : List ℕ) (most n : ℕ) → numeral w ≡ true → n ≡ min (value w) (most + 1) → most < n → Err TooLarge ≡ decimal_of most w
unfolding number_of
decimal_large w most n some e h =
    sym (cond-true (numeral w) (bounded (λ m. m) most (value w)) (Err NotNumber) some
    ∙ cond-false (leb (value w) most) (Ok (value w)) (Err TooLarge) (lt-leb (value w) most (omega arith)))

pub not_numeral : (w : List ℕ) (most : ℕ) → numeral w ≡ false → Err NotNumber ≡ decimal_of most w
unfolding number_of
not_numeral w most none = sym (cond-false (numeral w) (bounded (λ m. m) most (value w)) (Err NotNumber) none)

-- a number as a type holds it
pub number_held : {A : Type 0} (held : ℕ → A) (most : ℕ) (w : List ℕ)
    → number_of held most w ≡ and_then (decimal_of most w) (λ n. Ok (held n))
unfolding number_of
number_held held most w =
    elim (numeral w) as (λ t. cond t (bounded held most (value w)) (Err NotNumber)
    ≡ and_then (cond t (bounded (λ n. n) most (value w)) (Err NotNumber)) (λ n. Ok (held n))) [
      | true ↦
          elim (leb (value w) most) as (λ t. cond t (Ok (held (value w))) (Err TooLarge)
          ≡ and_then (cond t (Ok (value w)) (Err TooLarge)) (λ n. Ok (held n))) [ true ↦ refl | false ↦ refl ]
      | false ↦ refl
    ]

pub length_hex_bytes : (w : List ℕ) (n : ℕ) → length w ≡ 2 * n → length (hex_bytes w) ≡ n
length_hex_bytes [] n h = omega arith
length_hex_bytes (a ∷ []) n h = absurd (omega arith)
length_hex_bytes (a ∷ b ∷ cs) zero h = absurd (omega arith)
length_hex_bytes (a ∷ b ∷ cs) (suc n) h = omega (arith, length_hex_bytes cs n (omega arith))

pub hex_bytes_at : (w : List ℕ) (i : ℕ) → 2 * i + 1 < length w
    → get_or (hex_bytes w) i 0 ≡ 16 * hex_value (get_or w (2 * i) 0) + hex_value (get_or w (2 * i + 1) 0)
hex_bytes_at [] i h = absurd (omega arith)
hex_bytes_at (a ∷ []) i h = absurd (omega arith)
hex_bytes_at (a ∷ b ∷ cs) zero h = refl
hex_bytes_at (a ∷ b ∷ cs) (suc i) h =
    let even : suc (suc (2 * i)) ≡ 2 * suc i = omega arith in
    let odd : suc (suc (2 * i + 1)) ≡ 2 * suc i + 1 = omega arith in
    hex_bytes_at cs i (omega arith)
    ∙ ap (λ n. 16 * hex_value (get_or (a ∷ b ∷ cs) n 0) + hex_value (get_or cs (2 * i + 1) 0)) even
    ∙ ap (λ n. 16 * hex_value (get_or (a ∷ b ∷ cs) (2 * suc i) 0) + hex_value (get_or (a ∷ b ∷ cs) n 0)) odd

digit_worth : (w : List ℕ) (i : ℕ) → hexes w ≡ true → i < length w → or_zero (hex_of (get_or w i 0)) ≡ hex_value (get_or w i 0)
digit_worth w i h lt =
    let c = get_or w i 0 in
    ap (λ t. or_zero (cond t (Ok (hex_value c)) (Err NotHex))) (AllPass-from_list_all hex w h i 0 lt)

pub byte_read : (w : List ℕ) (i : ℕ) → hexes w ≡ true → 2 * i + 1 < length w
    → byte_of (get_or w (2 * i) 0) (get_or w (2 * i + 1) 0) ≡ get_or (hex_bytes w) i 0
byte_read w i h lt =
    ap (λ n. 16 * n + or_zero (hex_of (get_or w (2 * i + 1) 0))) (digit_worth w (2 * i) h (omega arith))
    ∙ ap (λ n. 16 * hex_value (get_or w (2 * i) 0) + n) (digit_worth w (2 * i + 1) h lt) ∙ sym (hex_bytes_at w i lt)
