-- What a gate takes, written and read back.
use Rattle.std.proofs.Common.{◌≡◌, ℕ, suc, ◌^◌, ◌<◌, ◌≤◌, true, cond, eqb, List, [], ◌∷◌, length, Ok, Err, decimal, Result, refl, ap, ◌∙◌, arith, eq-eqb}
use Rattle.std.proofs.lemmas.Bool.{cond-true}
use Rattle.std.specs.List.{AllByRecursion}
use Rattle.orders.specs.declared.types.GateBody.{GateBody}
use Rattle.orders.specs.declared.types.GateBody.TheVariants as gate
use Rattle.orders.specs.declared.types.GateName.{GateName}
use Rattle.orders.specs.declared.types.GateName.TheVariants.{Piece, Flag, Shift, Signed, Product, Sum, Scale, Xor}
use Rattle.orders.specs.declared.types.GateOrder.{GateOrder}
use Rattle.orders.specs.declared.types.Wrong.{Wrong}
use Rattle.orders.specs.declared.types.Wrong.TheVariants.{CoefficientCount, WordCount}
use Rattle.orders.specs.Grammar.{gate_name_of, coefficients_of, numbers_from, numbers_of, random_words_of, placed, body_of, gate_of}
use Rattle.orders.specs.Lines.{decimals, numbers_text, gate_text, body_words, gate_words, kind_text, RandomFits, BodyFits, GateFits}
use Rattle.orders.specs.Text.{decimal_of}
use Rattle.orders.proofs.Back.{lacks, pieces_joined, Word, decimal_word, decimal_back}
use Rattle.orders.proofs.WordsBack.{next, kind_word, kind_back, joined_word, plain, flags_back, placed_ok}

name_in : GateBody → GateName
name_in (gate.Piece mask low high coefficients random) = Piece
name_in (gate.Flag mask low high pattern random) = Flag
name_in (gate.Shift mask by random) = Shift
name_in (gate.Signed mask by random) = Signed
name_in (gate.Product mask mask2 random) = Product
name_in (gate.Sum mask mask2) = Sum
name_in (gate.Scale mask c d) = Scale
name_in (gate.Xor mask mask2) = Xor

name_word : (b : GateBody) → Word (gate_text b)
name_word (gate.Piece mask low high coefficients random) = (omega arith, refl)
name_word (gate.Flag mask low high pattern random) = (omega arith, refl)
name_word (gate.Shift mask by random) = (omega arith, refl)
name_word (gate.Signed mask by random) = (omega arith, refl)
name_word (gate.Product mask mask2 random) = (omega arith, refl)
name_word (gate.Sum mask mask2) = (omega arith, refl)
name_word (gate.Scale mask c d) = (omega arith, refl)
name_word (gate.Xor mask mask2) = (omega arith, refl)

name_back : (b : GateBody) → gate_name_of (gate_text b) ≡ Ok (name_in b)
unfolding name_in
name_back (gate.Piece mask low high coefficients random) = refl
name_back (gate.Flag mask low high pattern random) = refl
name_back (gate.Shift mask by random) = refl
name_back (gate.Signed mask by random) = refl
name_back (gate.Product mask mask2 random) = refl
name_back (gate.Sum mask mask2) = refl
name_back (gate.Scale mask c d) = refl
name_back (gate.Xor mask mask2) = refl

-- numbers with commas between them
decimals_words : (ns : List ℕ) → AllByRecursion (λ n. n < 2 ^ 64) ns → AllByRecursion Word (decimals ns)
decimals_words [] h = tt
decimals_words (n ∷ ns) h = (decimal_word n h.0, decimals_words ns h.1)

decimals_plain : (ns : List ℕ) → AllByRecursion (λ n. n < 2 ^ 64) ns → AllByRecursion (λ w. lacks 44 w ≡ true) (decimals ns)
decimals_plain [] h = tt
decimals_plain (n ∷ ns) h = (plain n h.0, decimals_plain ns h.1)

numbers_back : (most : ℕ) (ns : List ℕ) → AllByRecursion (λ n. (n ≤ most) × (n < 2 ^ 64)) ns
    → numbers_from (λ n. n) most (decimals ns) ≡ Ok ns
numbers_back most [] h = refl
numbers_back most (n ∷ ns) h = next _ (decimal_back most n h.0.0 h.0.1) ∙ next _ (numbers_back most ns h.1)

length_decimals : (ns : List ℕ) → length (decimals ns) ≡ length ns
length_decimals [] = refl
length_decimals (n ∷ ns) = ap suc (length_decimals ns)

random_word : (count : ℕ) (ns : List ℕ) → 0 < count → RandomFits count ns → Word (numbers_text ns)
random_word count [] some h = absurd (omega (arith, h.0))
random_word count (n ∷ ns) some h = joined_word (decimal n) (decimals ns) (decimals_words (n ∷ ns) h.1)

-- the texts between the commas
taken : ℕ → ℕ → Wrong → List (List ℕ) → Result (List ℕ) Wrong
taken most count wrong ps = cond (eqb (length ps) count) (numbers_from (λ n. n) most ps) (Err wrong)

counted_back : (most count : ℕ) (wrong : Wrong) (ns : List ℕ) → 0 < count → length ns ≡ count → AllByRecursion (λ n. n < 2 ^ 64) ns
    → AllByRecursion (λ n. (n ≤ most) × (n < 2 ^ 64)) ns → numbers_of (λ n. n) most count wrong (numbers_text ns) ≡ Ok ns
unfolding taken
counted_back most count wrong [] some long wide fits = absurd (omega arith)
counted_back most count wrong (n ∷ ns) some long wide fits =
    ap (taken most count wrong) (pieces_joined 44 (decimal n) (decimals ns) (decimals_plain (n ∷ ns) wide))
    ∙ cond-true (eqb (length (decimals (n ∷ ns))) count) (numbers_from (λ m. m) most (decimals (n ∷ ns))) (Err wrong)
    (eq-eqb (length (decimals (n ∷ ns))) count (length_decimals (n ∷ ns) ∙ long))
    ∙ numbers_back most (n ∷ ns) fits

within_words : (ns : List ℕ) → AllByRecursion (λ n. n < 2 ^ 64) ns → AllByRecursion (λ n. (n ≤ 18446744073709551615) × (n < 2 ^ 64)) ns
within_words [] h = tt
within_words (n ∷ ns) h = ((omega (arith, h.0), h.0), within_words ns h.1)

random_back : (count : ℕ) (ns : List ℕ) → 0 < count → RandomFits count ns → random_words_of count (numbers_text ns) ≡ Ok ns
random_back count ns some h = counted_back 18446744073709551615 count WordCount ns some h.0 h.1 (within_words ns h.1)

abbrev Coefficients : List ℕ → Type 0
Coefficients cs = (length cs ≡ 4) × AllByRecursion (λ n. n < 2 ^ 32) cs

wider : (ns : List ℕ) → AllByRecursion (λ n. n < 2 ^ 32) ns → AllByRecursion (λ n. n < 2 ^ 64) ns
wider [] h = tt
wider (n ∷ ns) h = (omega (arith, h.0), wider ns h.1)

coefficients_word : (cs : List ℕ) → Coefficients cs → Word (numbers_text cs)
coefficients_word cs h = random_word 4 cs (omega arith) (h.0, wider cs h.1)

within_shorts : (ns : List ℕ) → AllByRecursion (λ n. n < 2 ^ 32) ns → AllByRecursion (λ n. (n ≤ 4294967295) × (n < 2 ^ 64)) ns
within_shorts [] h = tt
within_shorts (n ∷ ns) h = ((omega (arith, h.0), omega (arith, h.0)), within_shorts ns h.1)

coefficients_back : (cs : List ℕ) → Coefficients cs → coefficients_of (numbers_text cs) ≡ Ok cs
coefficients_back cs h = counted_back 4294967295 4 CoefficientCount cs (omega arith) h.0 (wider cs h.1) (within_shorts cs h.1)

-- a word of the line, read
pub short_ok : (n i : ℕ) → n < 2 ^ 32 → placed (decimal n) i (decimal_of 4294967295 (decimal n)) ≡ Ok n
short_ok n i h = placed_ok (decimal n) i _ n (decimal_word n (omega arith)).0 (flags_back n h)

byte_ok : (n i : ℕ) → n < 256 → placed (decimal n) i (decimal_of 255 (decimal n)) ≡ Ok n
byte_ok n i h = placed_ok (decimal n) i _ n (decimal_word n (omega arith)).0 (decimal_back 255 n (omega arith) (omega arith))

coefficients_ok : (cs : List ℕ) (i : ℕ) → Coefficients cs → placed (numbers_text cs) i (coefficients_of (numbers_text cs)) ≡ Ok cs
coefficients_ok cs i h = placed_ok (numbers_text cs) i _ cs (coefficients_word cs h).0 (coefficients_back cs h)

random_ok : (count : ℕ) (ns : List ℕ) (i : ℕ) → 0 < count → RandomFits count ns
    → placed (numbers_text ns) i (random_words_of count (numbers_text ns)) ≡ Ok ns
random_ok count ns i some h = placed_ok (numbers_text ns) i _ ns (random_word count ns some h).0 (random_back count ns some h)

body_back : (b : GateBody) → BodyFits b → (w1 w2 w3 w4 : List ℕ) → body_of (name_in b) (w1 ∷ w2 ∷ w3 ∷ w4 ∷ body_words b) ≡ Ok b
unfolding name_in
body_back (gate.Piece mask low high coefficients random) h w1 w2 w3 w4 =
    next _ (short_ok mask 5 h.0) ∙ next _ (short_ok low 6 h.1) ∙ next _ (short_ok high 7 h.2)
    ∙ next _ (coefficients_ok coefficients 8 h.3) ∙ next _ (random_ok 14 random 9 (omega arith) h.4)
body_back (gate.Flag mask low high pattern random) h w1 w2 w3 w4 =
    next _ (short_ok mask 5 h.0) ∙ next _ (short_ok low 6 h.1) ∙ next _ (short_ok high 7 h.2)
    ∙ next _ (short_ok pattern 8 h.3) ∙ next _ (random_ok 8 random 9 (omega arith) h.4)
body_back (gate.Shift mask by random) h w1 w2 w3 w4 =
    next (λ s. Ok (gate.Shift s.0 s.1 s.2))
    (next _ (short_ok mask 5 h.0) ∙ next _ (byte_ok by 6 h.1) ∙ next _ (random_ok 10 random 7 (omega arith) h.2))
body_back (gate.Signed mask by random) h w1 w2 w3 w4 =
    next (λ s. Ok (gate.Signed s.0 s.1 s.2))
    (next _ (short_ok mask 5 h.0) ∙ next _ (byte_ok by 6 h.1) ∙ next _ (random_ok 10 random 7 (omega arith) h.2))
body_back (gate.Product mask mask2 random) h w1 w2 w3 w4 =
    next _ (short_ok mask 5 h.0) ∙ next _ (short_ok mask2 6 h.1) ∙ next _ (random_ok 4 random 7 (omega arith) h.2)
body_back (gate.Sum mask mask2) h w1 w2 w3 w4 =
    next (λ m. Ok (gate.Sum m.0 m.1)) (next _ (short_ok mask 5 h.0) ∙ next _ (short_ok mask2 6 h.1))
body_back (gate.Scale mask c d) h w1 w2 w3 w4 =
    next _ (short_ok mask 5 h.0) ∙ next _ (short_ok c 6 h.1) ∙ next _ (short_ok d 7 h.2)
body_back (gate.Xor mask mask2) h w1 w2 w3 w4 =
    next (λ m. Ok (gate.Xor m.0 m.1)) (next _ (short_ok mask 5 h.0) ∙ next _ (short_ok mask2 6 h.1))

pub gate_back : (g : GateOrder) → GateFits g → gate_of (gate_words g) ≡ Ok g
gate_back g h =
    next _ (placed_ok (kind_text g.kind) 2 _ g.kind (kind_word g.kind).0 (kind_back g.kind))
    ∙ next _ (placed_ok (gate_text g.body) 3 _ (name_in g.body) (name_word g.body).0 (name_back g.body))
    ∙ next _ (byte_ok g.width 4 h.width)
    ∙ next _ (body_back g.body h.body _ (kind_text g.kind) (gate_text g.body) (decimal g.width))

-- every word of the line
short_word : (n : ℕ) → n < 2 ^ 32 → Word (decimal n)
short_word n h = decimal_word n (omega arith)

byte_word : (n : ℕ) → n < 256 → Word (decimal n)
byte_word n h = decimal_word n (omega arith)

body_fits : (b : GateBody) → BodyFits b → AllByRecursion Word (body_words b)
body_fits (gate.Piece mask low high coefficients random) h = (
  short_word mask h.0,
  (short_word low h.1, (short_word high h.2, (coefficients_word coefficients h.3, (random_word 14 random (omega arith) h.4, tt)))),
)
body_fits (gate.Flag mask low high pattern random) h = (
  short_word mask h.0,
  (short_word low h.1, (short_word high h.2, (short_word pattern h.3, (random_word 8 random (omega arith) h.4, tt)))),
)
body_fits (gate.Shift mask by random) h = (short_word mask h.0, (byte_word by h.1, (random_word 10 random (omega arith) h.2, tt)))
body_fits (gate.Signed mask by random) h = (short_word mask h.0, (byte_word by h.1, (random_word 10 random (omega arith) h.2, tt)))
body_fits (gate.Product mask mask2 random) h = (short_word mask h.0, (short_word mask2 h.1, (random_word 4 random (omega arith) h.2, tt)))
body_fits (gate.Sum mask mask2) h = (short_word mask h.0, (short_word mask2 h.1, tt))
body_fits (gate.Scale mask c d) h = (short_word mask h.0, (short_word c h.1, (short_word d h.2, tt)))
body_fits (gate.Xor mask mask2) h = (short_word mask h.0, (short_word mask2 h.1, tt))

pub gate_fits : (g : GateOrder) → GateFits g → AllByRecursion Word (gate_words g)
gate_fits g h =
    ((omega arith, refl), (kind_word g.kind, (name_word g.body, (byte_word g.width h.width, body_fits g.body h.body))))
