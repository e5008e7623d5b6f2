-- Words of a line, read back one by one.
use Rattle.std.proofs.Common.{◌≡◌, ℕ, ◌^◌, ◌<◌, true, not, eqb, List, [], ◌∷◌, ◌++◌, length, Ok, Err, decimal, Result, refl, ap, ◌∙◌, arith, length-append, ne_eqb}
use Rattle.std.proofs.lemmas.Bool.{cond-false, and_from}
use Rattle.std.proofs.lemmas.List.Folds.{list_all-append}
use Rattle.std.specs.List.{AllByRecursion}
use Rattle.orders.specs.declared.types.Kind.{Kind}
use Rattle.orders.specs.declared.types.Kind.TheVariants.{Aes, ChaCha, Zero}
use Rattle.orders.specs.declared.types.Wrong.{Wrong}
use Rattle.orders.specs.declared.types.Wrong.TheVariants.{MissingWord}
use Rattle.orders.specs.Grammar.{and_then, kind_of, fault, numbered, placed}
use Rattle.orders.specs.Lines.{joined_by, kind_text}
use Rattle.orders.specs.Text.{decimal_of}
use Rattle.orders.proofs.Back.{lacks, lacks_digits, Word, decimal_numeral, decimal_back}

pub next : {A B E : Type 0} {r : Result A E} {x : A} (f : A → Result B E) → r ≡ Ok x → and_then r f ≡ f x
next f e = ap (λ r. and_then r f) e

pub kind_word : (k : Kind) → Word (kind_text k)
kind_word Aes = (omega arith, refl)
kind_word ChaCha = (omega arith, refl)
kind_word Zero = (omega arith, refl)

pub kind_back : (k : Kind) → kind_of (kind_text k) ≡ Ok k
kind_back Aes = refl
kind_back ChaCha = refl
kind_back Zero = refl

lacks_append : (c : ℕ) (xs ys : List ℕ) → lacks c xs ≡ true → lacks c ys ≡ true → lacks c (xs ++ ys) ≡ true
lacks_append c xs ys h k = list_all-append (λ b. not (eqb b c)) xs ys ∙ and_from (lacks c xs) (lacks c ys) h k

pub joined_word : (v : List ℕ) (vs : List (List ℕ)) → AllByRecursion Word (v ∷ vs) → Word (joined_by 44 (v ∷ vs))
joined_word v [] h = h.0
joined_word v (w ∷ vs) h =
    let rest = joined_by 44 (w ∷ vs) in (
      omega (arith, length-append v (44 ∷ rest), h.0.0),
      lacks_append 32 v (44 ∷ rest) h.0.1 (joined_word w vs h.1).1,
    )

pub plain : (n : ℕ) → n < 2 ^ 64 → lacks 44 (decimal n) ≡ true
plain n h = lacks_digits 44 (decimal n) (omega arith) (decimal_numeral n h).all

pub word_back : (n : ℕ) → n < 2 ^ 64 → decimal_of 18446744073709551615 (decimal n) ≡ Ok n
word_back n h = decimal_back 18446744073709551615 n (omega arith) h

pub flags_back : (n : ℕ) → n < 2 ^ 32 → decimal_of 4294967295 (decimal n) ≡ Ok n
flags_back n h = decimal_back 4294967295 n (omega arith) (omega arith)

-- a word that is there and reads
pub placed_ok : {A : Type 0} (w : List ℕ) (n : ℕ) (read : Result A Wrong) (x : A) → 0 < length w → read ≡ Ok x → placed w n read ≡ Ok x
placed_ok w n read x h e =
    cond-false (eqb (length w) 0) (Err (fault MissingWord n)) (numbered n read) (ne_eqb (length w) 0 (λ z. omega arith))
    ∙ ap (numbered n) e
