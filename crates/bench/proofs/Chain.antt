-- One level, from what the calls give.
use Rattle.std.proofs.Common.{◌≡◌, ℕ, zero, suc, ◌+◌, true, List, map, get_or, refl, sym, ap, ◌∙◌, add-zero, zero-add, arith}
use native.Mathlib.Nat.{sub-zero}
use Rattle.std.specs.List.{fold, range_with_len}
use Rattle.std.specs.Fn.{Called}
use Rattle.std.specs.Iterator.{FoldsItems}
use Rattle.std.proofs.iter.Yields.{nat_range_steps}
use Rattle.std.proofs.lemmas.Fn.{fold_over}
use Rattle.std.proofs.lemmas.Iterator.{YieldsList-from_range}
use Rattle.std.proofs.lemmas.List.Sums.{fold_push}
use denote.Param.Members.{Mut}
use Rattle.expander.specs.Meaning.{Expansion}
use Rattle.expander.specs.Seeds.{xor_seeds}
use Rattle.expander.specs.declared.Seed.{Seed}
use Rattle.expander.specs.declared.Branches.{Branches}
use Rattle.gatekeys.specs.Random.{root_of}
use Rattle.key.specs.declared.Row.{Row}
use Rattle.key.specs.Rows.{row_mean}
use Rattle.evaluation.specs.Evaluation.{evaluated}
use Rattle.dealing.specs.Dealing.{start, dealt_rows, dealt_last}
use Rattle.joining.specs.Joining.{dealt_answer}
use Rattle.joining.proofs.Same.{same_evaluated}
use Rattle.group.specs.Groups.{OutputGroup}
use Rattle.bench.specs.Workloads.{level, sum_of}

abbrev front : List ℕ → Seed
front words = root_of (get_or words 0 0) (get_or words 1 0)

pub level_of : (x : Expansion) (seed : Seed) (b : Branches) (words : List ℕ) (r s : Seed)
    → b ≡ x.branch seed → words ≡ x.draw b.left.value → r ≡ front words → s ≡ xor_seeds b.left.seed r → s ≡ level x seed
level_of x seed b words r s eb ew er es =
    es
    ∙ ap (xor_seeds b.left.seed) (er ∙ ap front ew)
    ∙ ap (λ (b : Branches). xor_seeds b.left.seed (front (x.draw b.left.value))) eb

-- sums of equal summands
summed : {M : Type 0} (g : OutputGroup M) (f h : ℕ → M) → ((i : ℕ) → f i ≡ h i) → (n : ℕ) → sum_of g f n ≡ sum_of g h n
summed g f h e zero = refl
summed g f h e (suc n) = ap (λ t. g.sum t (f n)) (summed g f h e n) ∙ ap (g.sum (sum_of g h n)) (e n)

-- evaluating the rows that were dealt is evaluating the defined ones
pub evaluates : {G M : Type 0} (x : Expansion) (g : OutputGroup M) (mean : G → M) (n α : ℕ) (β : M) (r0 r1 : Seed)
    (rows : List (Row G)) (last : G) (at : ℕ → ℕ) (count : ℕ)
    → map (row_mean mean) rows ≡ dealt_rows x g β α n (start g r0 r1) → mean last ≡ dealt_last x g β α n (start g r0 r1)
    → sum_of g (λ i. evaluated x g mean true r1 rows last (at i)) count
    ≡ sum_of g (λ i. dealt_answer g x x n α β r0 r1 true r1 (at i)) count
evaluates x g mean n α β r0 r1 rows last at count er el =
    summed g _ _
    (λ i. same_evaluated x g mean true r1 rows last (at i)
    ∙ ap (λ rs. evaluated x g (λ v. v) true r1 rs (mean last) (at i)) er
    ∙ ap (λ l. evaluated x g (λ v. v) true r1 (dealt_rows x g β α n (start g r0 r1)) l (at i)) el) count

-- what a fold over `0..n` comes to, where each turn takes R at k to R at k + 1
module _ {M : Type 0} (h : M → ℕ → M) (R : ℕ → M) (next : (k : ℕ) → h (R k) k ≡ R (k + 1)) where
  counts : (a n : ℕ) (v : M) → v ≡ R a → fold h v (range_with_len a n) ≡ R (a + n)
  counts a zero v e = e ∙ ap R (sym (add-zero a))
  counts a (suc n) v e = counts (a + 1) n (h v a) (ap (λ w. h w a) e ∙ next a) ∙ ap R (omega arith)

  module _ {F C : Type 0} (g : Mut F (C × (ℕ × Unit {0})) C) (f : F) (mean : C → M)
      (turn : (a b : C) (k : ℕ) (f' : F) → Called g f (a, (k, tt)) b f' → (mean b ≡ h (mean a) k) × (f' ≡ f)) where
    pub counted : (n : ℕ) (a r : C) → mean a ≡ R 0 → FoldsItems nat_range_steps g (record { start = 0; end = n }) f a r → mean r ≡ R n
    counted n a r e ran =
        fold_over nat_range_steps (λ k. k) g (λ seen c. mean c ≡ fold h (mean a) seen) f
        (λ seen c k b f' is call.
        let t = turn c b k f' call in
        (t.0 ∙ ap (λ v. h v k) is ∙ sym (fold_push h (mean a) seen k), t.1))
        (record { start = 0; end = n }) (range_with_len 0 n) a r (YieldsList-from_range 0 n n refl (sub-zero n)).runs refl ran
        ∙ counts 0 n (mean a) e ∙ ap R (zero-add n)
