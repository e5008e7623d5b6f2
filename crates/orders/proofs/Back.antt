-- Reading back what was written.
use Rattle.std.proofs.Common.{◌≡◌, ℕ, suc, ◌+◌, ◌*◌, ◌/◌, ◌%◌, ◌^◌, ◌<◌, ◌≤◌, Bool, true, false, cond, not, eqb, ltb, leb, List, [], ◌∷◌, ◌++◌, length, get_or, Ok, Err, decimal, Result, sym, refl, ap, ◌∙◌, arith, lt-ltb, eq-eqb, ne_eqb, le-leb}
use Rattle.std.proofs.lemmas.Fmt.{decimal_by_steps}
use Rattle.std.proofs.lemmas.List.{length_push}
use Rattle.std.proofs.lemmas.Bool.{and_parts, and_from, cond-true}
use Rattle.std.proofs.lemmas.Bool.Decides.{nat_tests}
use Rattle.std.proofs.lemmas.List.Splits.{slice_split_none, slice_split_at}
use Rattle.std.proofs.lemmas.List.Sums.{AllPass-from_list_all}
use Rattle.std.specs.List.{All, AllByRecursion, list_all}
use Rattle.expander.specs.declared.Seed.{Seed}
use Rattle.orders.specs.declared.types.Wrong.{Wrong}
use Rattle.orders.specs.declared.types.Wrong.TheVariants.{NotNumber, TooLarge, NotHex, SeedLength}
use Rattle.orders.specs.Text.{pieces, filled, words, digit, digits, numeral, value, bounded, number_of, decimal_of, hex, hexes, hex_value, hex_bytes, seed_from}
use Rattle.orders.specs.Lines.{joined_by, hex_digit, hex_text, SeedFits}
use Rattle.orders.proofs.Numbers.{value_push, digit_range}

-- no byte is c
abbrev pub lacks : ℕ → List ℕ → Bool
lacks c w = list_all (λ b. not (eqb b c)) w

not_parts : (t : Bool) → not t ≡ true → t ≡ false
not_parts true h = sym h
not_parts false h = refl

lacking_all : (c : ℕ) (w : List ℕ) → lacks c w ≡ true → All (λ b. eqb b c ≡ false) w
lacking_all c w h k d lt = not_parts (eqb (get_or w k d) c) (AllPass-from_list_all (λ b. not (eqb b c)) w h k d lt)

pieces_plain : (c : ℕ) (w : List ℕ) → lacks c w ≡ true → pieces c w ≡ w ∷ []
pieces_plain c w h = slice_split_none (λ b. eqb b c) w (lacking_all c w h)

pieces_front : (c : ℕ) (w rest : List ℕ) → lacks c w ≡ true → pieces c (w ++ (c ∷ rest)) ≡ w ∷ pieces c rest
pieces_front c w rest h = slice_split_at (λ b. eqb b c) w c rest (lacking_all c w h) (eq-eqb c c refl)

-- cutting undoes joining
pub pieces_joined : (c : ℕ) (w : List ℕ) (ws : List (List ℕ)) → AllByRecursion (λ v. lacks c v ≡ true) (w ∷ ws)
    → pieces c (joined_by c (w ∷ ws)) ≡ w ∷ ws
pieces_joined c w [] h = pieces_plain c w h.0
pieces_joined c w (v ∷ ws) h = pieces_front c w (joined_by c (v ∷ ws)) h.0 ∙ ap (λ ps. w ∷ ps) (pieces_joined c v ws h.1)

-- a word: some bytes, and no space
abbrev pub Word : List ℕ → Type 0
Word w = (0 < length w) × (lacks 32 w ≡ true)

filled_all : (ws : List (List ℕ)) → AllByRecursion Word ws → filled ws ≡ ws
filled_all [] h = refl
filled_all ([] ∷ ws) h = absurd (omega (arith, h.0.0))
filled_all ((b ∷ bs) ∷ ws) h = rw (ne_eqb (suc (length bs)) 0 (λ z. omega arith)) (ap (λ vs. (b ∷ bs) ∷ vs) (filled_all ws h.1))

lacking : (ws : List (List ℕ)) → AllByRecursion Word ws → AllByRecursion (λ v. lacks 32 v ≡ true) ws
lacking [] h = tt
lacking (w ∷ ws) h = (h.0.1, lacking ws h.1)

pub words_joined : (ws : List (List ℕ)) → AllByRecursion Word ws → words (joined_by 32 ws) ≡ ws
words_joined [] h = refl
words_joined (w ∷ ws) h = ap filled (pieces_joined 32 w ws (lacking (w ∷ ws) h)) ∙ filled_all (w ∷ ws) h

-- decimal numbers
digits_push : (cs : List ℕ) (c : ℕ) → digits cs ≡ true → digit c ≡ true → digits (cs ++ (c ∷ [])) ≡ true
digits_push [] c h e = and_from (digit c) true e refl
digits_push (d ∷ cs) c h e =
    let p = and_parts (digit d) (digits cs) h in
    and_from (digit d) (digits (cs ++ (c ∷ []))) p.0 (digits_push cs c p.1 e)

digit_char : (d : ℕ) → d < 10 → digit (48 + d) ≡ true
digit_char d h = and_from (leb 48 (48 + d)) (leb (48 + d) 57) (le-leb 48 (48 + d) (omega arith)) (le-leb (48 + d) 57 (omega arith))

pub record Numeral (n : ℕ) (ds : List ℕ) : Type 0 where
  pub all : digits ds ≡ true
  pub worth : value ds ≡ n
  pub some : 0 < length ds

pub decimal_numeral : (n : ℕ) → n < 2 ^ 64 → Numeral n (decimal n)
decimal_numeral = decimal_by_steps Numeral
    (λ n h. record { all = digits_push [] (48 + n) refl (digit_char n h); worth = omega arith; some = omega arith })
    (λ n ds h p. record {
      all = digits_push ds (48 + n % 10) p.all (digit_char (n % 10) (omega arith));
      worth = omega (arith, value_push ds (48 + n % 10), p.worth);
      some = omega (arith, length_push ds (48 + n % 10));
    })

pub lacks_digits : (c : ℕ) (ds : List ℕ) → c < 48 → digits ds ≡ true → lacks c ds ≡ true
lacks_digits c [] h e = refl
lacks_digits c (d ∷ ds) h e =
    let p = and_parts (digit d) (digits ds) e in
    let r = digit_range d p.0 in
    and_from (not (eqb d c)) (lacks c ds) (ap not (ne_eqb d c (λ q. omega arith))) (lacks_digits c ds h p.1)

pub decimal_word : (n : ℕ) → n < 2 ^ 64 → Word (decimal n)
decimal_word n h = let p = decimal_numeral n h in (p.some, lacks_digits 32 (decimal n) (omega arith) p.all)

pub decimal_back : (most n : ℕ) → n ≤ most → n < 2 ^ 64 → decimal_of most (decimal n) ≡ Ok n
unfolding number_of
decimal_back most n h fits =
    let p = decimal_numeral n fits in
    cond-true (numeral (decimal n)) (bounded (λ m. m) most (value (decimal n))) (Err NotNumber)
    (and_from (ltb 0 (length (decimal n))) (digits (decimal n)) (lt-ltb 0 (length (decimal n)) p.some) p.all)
    ∙ ap (bounded (λ m. m) most) p.worth ∙ cond-true (leb n most) (Ok n) (Err TooLarge) (le-leb n most h)

-- hex digits
hex_digit_is : (d : ℕ) → d < 16 → hex (hex_digit d) ≡ true
hex_digit_is d h = grind (arith, nat_tests)

hex_digit_worth : (d : ℕ) → d < 16 → hex_value (hex_digit d) ≡ d
hex_digit_worth d h = grind (arith, nat_tests)

hex_apart : (c : ℕ) → hex c ≡ true → eqb c 32 ≡ false
hex_apart c h = grind (arith, nat_tests)

hexes_text : (bs : List ℕ) → AllByRecursion (λ b. b < 256) bs → hexes (hex_text bs) ≡ true
hexes_text [] h = refl
hexes_text (b ∷ bs) h =
    and_from (hex (hex_digit (b / 16))) _ (hex_digit_is (b / 16) (omega (arith, h.0)))
    (and_from (hex (hex_digit (b % 16))) _ (hex_digit_is (b % 16) (omega arith)) (hexes_text bs h.1))

length_hex_text : (bs : List ℕ) → length (hex_text bs) ≡ 2 * length bs
length_hex_text [] = refl
length_hex_text (b ∷ bs) = omega (arith, length_hex_text bs)

hex_bytes_text : (bs : List ℕ) → AllByRecursion (λ b. b < 256) bs → hex_bytes (hex_text bs) ≡ bs
hex_bytes_text [] h = refl
hex_bytes_text (b ∷ bs) h =
    let high = hex_digit_worth (b / 16) (omega (arith, h.0)) in
    let low = hex_digit_worth (b % 16) (omega arith) in
    let byte : 16 * hex_value (hex_digit (b / 16)) + hex_value (hex_digit (b % 16)) ≡ b = omega arith in
    ap (λ x. x ∷ hex_bytes (hex_text bs)) byte ∙ ap (λ xs. b ∷ xs) (hex_bytes_text bs h.1)

lacks_hexes : (cs : List ℕ) → hexes cs ≡ true → lacks 32 cs ≡ true
lacks_hexes [] e = refl
lacks_hexes (c ∷ cs) e =
    let p = and_parts (hex c) (hexes cs) e in
    and_from (not (eqb c 32)) (lacks 32 cs) (ap not (hex_apart c p.0)) (lacks_hexes cs p.1)

pub seed_word : (seed : Seed) → SeedFits seed → Word (hex_text seed.bytes)
seed_word seed h =
    (omega (arith, length_hex_text seed.bytes, h.0), lacks_hexes (hex_text seed.bytes) (hexes_text seed.bytes h.1))

pub seed_back : (seed : Seed) → SeedFits seed → seed_from (hex_text seed.bytes) ≡ Ok seed
unfolding seed_from
seed_back seed h =
    let w = hex_text seed.bytes in
    let found : Result Seed Wrong = Ok (record { bytes = hex_bytes w }) in
    cond-true (eqb (length w) 32) (cond (hexes w) found (Err NotHex)) (Err SeedLength)
    (eq-eqb (length w) 32 (omega (arith, length_hex_text seed.bytes, h.0)))
    ∙ cond-true (hexes w) found (Err NotHex) (hexes_text seed.bytes h.1)
    ∙ ap (λ bs. Ok (record { bytes = bs })) (hex_bytes_text seed.bytes h.1)
