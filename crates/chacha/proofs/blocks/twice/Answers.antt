use Rattle.std.proofs.Common.{◌≡◌, ℕ, List, [], ◌∷◌, ◌++◌, length, take, drop, refl, sym, ap, subst, ◌∙◌}
use Rattle.std.specs.List.{flat_map}
use Rattle.standards.proofs.Written.{written_out}
use Rattle.chacha.proofs.blocks.twice.Goals as goal

doubled : (xs : List ℕ) → length xs ≡ 16 → take 32 (drop 0 (flat_map (λ x. x) (xs ∷ xs ∷ []))) ≡ xs ++ xs
doubled xs h = subst (λ (l : List ℕ). take 32 (drop 0 (flat_map (λ x. x) (l ∷ l ∷ []))) ≡ l ++ l) (sym (written_out 16 xs h)) refl

pub returns : goal.returns
returns c =
    c.bytes_at.ensures ∙ ap (λ (l : List ℕ). take 32 (drop 0 l)) c.as_flattened.ensures.value ∙ doubled c.args.half.now c.told-half
