-- A walk is a fold over the rows, each beside the number of its bit.
use Rattle.std.proofs.Common.{◌≡◌, ℕ, zero, suc, ◌+◌, ◌-◌, ◌<◌, List, [], ◌∷◌, ◌++◌, length, refl, sym, ap, ◌∙◌, subst, zero-add, arith}
use native.Mathlib.Nat.{sub-zero}
use Rattle.std.specs.List.{fold, zip}
use Rattle.std.specs.declared.ops.Range.{Range}
use Rattle.std.specs.declared.iter.Rev.{Rev}
use Rattle.std.specs.Iterator.Adapters.{rev_source, rev_steps}
use Rattle.std.proofs.iter.runs.Sources.{nat_range_steps_back}
use Rattle.std.proofs.lemmas.Iterator.{YieldsList}
use Rattle.std.proofs.lemmas.Iterator.Consumers.{YieldsList-from_shown}
use Rattle.std.proofs.lemmas.List.Sums.{fold_push}
use Rattle.group.specs.Groups.{OutputGroup}
use Rattle.expander.specs.Meaning.{Expansion}
use Rattle.key.specs.declared.Row.{Row}
use Rattle.evaluation.specs.declared.Walk.{Walk}
use Rattle.evaluation.specs.Evaluation.{bit_at, stepped, walked}

-- the n numbers from a on, the highest first
abbrev pub falling : ℕ → ℕ → List ℕ
falling a zero = []
falling a (suc n) = (a + n) ∷ falling a n

falls : (a n k : ℕ) → n ≡ suc k → falling a n ≡ (a + k) ∷ falling a k
falls a n k e = ap (falling a) e

no_more : (a n : ℕ) → n ≡ 0 → length (falling a n) ≡ 0
no_more a n e = ap (λ k. length (falling a k)) e

abbrev shown : Rev (Range ℕ) → List ℕ
shown s = falling (rev_source s).start ((rev_source s).end - (rev_source s).start)

one_less : (s : Rev (Range ℕ)) (x : ℕ) (t : Rev (Range ℕ)) → (rev_source t).start ≡ (rev_source s).start
    → 0 < (rev_source s).end - (rev_source s).start → x ≡ (rev_source t).end → (rev_source s).end ≡ (rev_source t).end + 1
    → shown s ≡ x ∷ shown t
one_less s x t same some is less =
    let a = (rev_source s).start in
    let k : ℕ = (rev_source t).end - a in
    falls a ((rev_source s).end - a) k (omega arith)
    ∙ ap (λ y. y ∷ falling a k) (omega arith)
    ∙ ap (λ b. x ∷ falling b ((rev_source t).end - b)) (sym same)

-- `(0..n).rev()` yields the numbers below n, the highest first
pub falls_back : {s : Rev (Range ℕ)} (n : ℕ) → rev_source s ≡ record { start = 0; end = n } → YieldsList (rev_steps nat_range_steps_back) (λ k. k) s (falling 0 n)
falls_back {s} n is =
    let all : shown s ≡ falling 0 n =
    ap (λ (r : Range ℕ). falling r.start (r.end - r.start)) is ∙ ap (falling 0) (sub-zero n) in
    subst (λ (ks : List ℕ). YieldsList {A = ℕ} {B = ℕ} (rev_steps nat_range_steps_back) (λ k. k) s ks) all
    (YieldsList-from_shown {A = ℕ} {B = ℕ} (rev_steps nat_range_steps_back) (λ k. k) shown (λ s t h. no_more _ _ h.1.0)
    (λ s x t h. one_less s x t h.0 h.1.0 h.1.1 h.1.2) s)

module _ {G M : Type 0} (x : Expansion) (g : OutputGroup M) (mean : G → M) (m : ℕ) where
  abbrev pub turn : Walk M → Row G × ℕ → Walk M
  turn w p = stepped x g mean p.0 (bit_at m p.1) w

  pub turned : (w : Walk M) (seen : List (Row G × ℕ)) (p : Row G × ℕ) (a b : Walk M) → a ≡ fold turn w seen → b ≡ turn a p
      → b ≡ fold turn w (seen ++ p ∷ [])
  turned w seen p a b ea eb = eb ∙ ap (λ v. turn v p) ea ∙ sym (fold_push turn w seen p)

  pub over : (rows : List (Row G)) (w : Walk M) → fold turn w (zip rows (falling 0 (length rows))) ≡ walked x g mean rows m w
  over [] w = refl
  over (r ∷ rs) w =
      ap (λ k. fold turn (stepped x g mean r (bit_at m k) w) (zip rs (falling 0 (length rs)))) (zero-add (length rs))
      ∙ over rs (stepped x g mean r (bit_at m (length rs)) w)
