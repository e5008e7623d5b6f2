-- A question that is answered no or by what was read, and the most bytes that a slice has.
use Rattle.std.proofs.Common.{◌≡◌, ℕ, Bool, true, false, Option, Some, None, MatchOption, is_some, Decides, IfSome, refl, ap, subst}
use Rattle.std.specs.Bool.{then_some}
use Rattle.std.specs.Option.{option_map}
use Rattle.std.proofs.lemmas.Bool.{both_ways}

pub decided_no : {P : Type 0} → (P → ⊥) → Decides false P
decided_no f = (λ e. absurd (both_ways false refl e), λ p. absurd (f p))

-- whether something was read
pub decided_some : {A N P : Type 0} {Q : A → Type 0} (o : Option A) (b : Bool) → b ≡ is_some o → MatchOption o N Q
    → (N → P → ⊥) → ((a : A) → Q a → P) → Decides b P
decided_some None b e m none some = rw e (decided_no (none m))
decided_some (Some a) b e m none some = (λ h. some a m, λ p. e)

-- what a further question about what was read answers
pub decided_by : {A N P : Type 0} {Q R : A → Type 0} (o : Option A) (b : Bool) → MatchOption o N Q
    → MatchOption o (b ≡ false) R → (N → P → ⊥) → ((a : A) → Q a → R a → Decides b P) → Decides b P
decided_by None b m e none some = rw e (decided_no (none m))
decided_by (Some a) b m r none some = some a m r

abbrev pub most : ℕ
most = 18446744073709551615

-- what is given where a question is answered yes
pub then_decided : {A N P : Type 0} (Q : A → Type 0) (b : Bool) (a : A) (o : Option A) → o ≡ then_some b a
    → Decides b P → (P → Q a) → (N → P) → MatchOption o (N → ⊥) Q
then_decided Q true a o e d found back = rw e (found (d.0 refl))
then_decided Q false a o e d found back = rw e (λ n. both_ways false refl (d.1 (back n)))

pub not_no : (b : Bool) → (b ≡ false → ⊥) → b ≡ true
not_no true f = refl
not_no false f = absurd (f refl)

-- something was read, and what is told of it
pub some_told : {A : Type 0} (N : Type 0) (Q : A → Type 0) (o : Option A) (a : A) → o ≡ Some a → MatchOption o N Q → Q a
some_told N Q o a e m = subst (λ p. MatchOption p N Q) e m

-- what two facts tell of what is there
pub both_told : {A : Type 0} (Q R : A → Type 0) (o : Option A) (d : A) → option_map (λ y. y) o ≡ Some d → IfSome o Q
    → IfSome o R → (a : A) × Q a × R a
both_told Q R None d e q r = absurd (both_ways false refl (ap is_some e))
both_told Q R (Some a) d e q r = (a, q, r)

pub more_told : {A : Type 0} (Q R : A → Type 0) (o : Option A) → ((a : A) → Q a → R a) → IfSome o Q → IfSome o R
more_told Q R None f q = tt
more_told Q R (Some a) f q = f a q

-- what cannot be, whether or not something was read
pub neither_told : {A N : Type 0} {Q : A → Type 0} (o : Option A) → MatchOption o N Q → (N → ⊥)
    → ((a : A) → o ≡ Some a → Q a → ⊥) → ⊥
neither_told None m none some = none m
neither_told (Some a) m none some = some a refl m
