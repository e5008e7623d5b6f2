-- A list that is the front of another, read element by element.
use Rattle.std.proofs.Common.{◌≡◌, ℕ, zero, suc, ◌+◌, ◌<◌, List, [], ◌∷◌, length, get_or, drop, sym, refl, ap, ◌∙◌, one-add, arith, get_or-drop, subst}
use Rattle.std.specs.Array.{IsFromFnResultFrom}
use Rattle.std.specs.Fn.{Called}
use denote.Param.Members.{Mut}
use Rattle.layout.specs.Bytes.{front}

pub is_front : (n : ℕ) (own xs : List ℕ) → length own ≡ n → ((k : ℕ) → k < n → get_or own k 0 ≡ get_or xs k 0) → own ≡ front n xs
is_front zero [] xs l same = refl
is_front zero (o ∷ own) xs l same = absurd (omega arith)
is_front (suc n) [] xs l same = absurd (omega arith)
is_front (suc n) (o ∷ own) xs l same =
    let here : o ≡ get_or xs 0 0 = same 0 (omega arith) in
    let rest : own ≡ front n (drop 1 xs) =
    is_front n own (drop 1 xs) (omega arith) (λ k h. same (suc k) (omega arith) ∙ sym (get_or-drop 1 xs k 0 ∙ ap (λ i. get_or xs i 0) (one-add k))) in
    λ i. here i ∷ rest i

-- what a closure that changes nothing gave at each index
pub given_each : {F : Type 0} (g : Mut F (ℕ × Unit {0}) ℕ) (f : F) (h : ℕ → ℕ) (ys : List ℕ) (i n : ℕ)
    → ((x y : ℕ) (q : F) → Called g f (x, tt) y q → (q ≡ f) × (y ≡ h x)) → IsFromFnResultFrom g f ys i n
    → (k : ℕ) → k < n → get_or ys (i + k) 0 ≡ h (i + k)
given_each g f h ys i zero pure e k l = absurd (omega arith)
given_each g f h ys i (suc n) pure (q, y, at, called, rest) zero l =
    let z : i + 0 ≡ i = omega arith in
    ap (λ j. get_or ys j 0) z ∙ at.1 0 ∙ (pure i y q called).1 ∙ ap h (sym z)
given_each g f h ys i (suc n) pure (q, y, at, called, rest) (suc k) l =
    let z : i + suc k ≡ i + 1 + k = omega arith in
    let same : IsFromFnResultFrom g f ys (i + 1) n = subst (λ p. IsFromFnResultFrom g p ys (i + 1) n) (pure i y q called).0 rest in
    ap (λ j. get_or ys j 0) z ∙ given_each g f h ys (i + 1) n pure same k (omega arith) ∙ ap h (sym z)
