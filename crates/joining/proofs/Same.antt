-- Evaluation over rows of elements is evaluation over the rows of what they mean.
use Rattle.std.proofs.Common.{◌≡◌, ℕ, Bool, true, false, List, [], ◌∷◌, map, length, sym, refl, ap, ◌∙◌}
use Rattle.std.proofs.lemmas.List.{length-map}
use Rattle.group.specs.Groups.{OutputGroup}
use Rattle.expander.specs.Meaning.{Expansion}
use Rattle.expander.specs.declared.Seed.{Seed}
use Rattle.key.specs.declared.Row.{Row}
use Rattle.key.specs.Rows.{row_mean}
use Rattle.evaluation.specs.declared.Walk.{Walk}
use Rattle.evaluation.specs.Evaluation.{bit_at, stepped, walked, ended, evaluated}

module _ {G M : Type 0} (x : Expansion) (g : OutputGroup M) (mean : G → M) where
  same_step : (r : Row G) (right : Bool) (w : Walk M) → stepped x g mean r right w ≡ stepped x g (λ v. v) (row_mean mean r) right w
  same_step r true w = refl
  same_step r false w = refl

  same_walk : (rows : List (Row G)) (m : ℕ) (w : Walk M) → walked x g mean rows m w ≡ walked x g (λ v. v) (map (row_mean mean) rows) m w
  same_walk [] m w = refl
  same_walk (r ∷ rs) m w =
      same_walk rs m (stepped x g mean r (bit_at m (length rs)) w)
      ∙ ap (walked x g (λ v. v) (map (row_mean mean) rs) m) (same_step r (bit_at m (length rs)) w ∙ ap (λ n. stepped x g (λ v. v) (row_mean mean r)
      (bit_at m n) w) (sym (length-map rs (row_mean mean))))

  pub same_evaluated : (one : Bool) (root : Seed) (rows : List (Row G)) (last : G) (m : ℕ)
      → evaluated x g mean one root rows last m ≡ evaluated x g (λ v. v) one root (map (row_mean mean) rows) (mean last) m
  same_evaluated one root rows last m = ap (ended x g mean last one) (same_walk rows m (record { seed = root; control = one; sum = g.zero }))
