-- What the n-th item of a chain is, or an empty text.
use Rattle.std.proofs.Common.{◌≡◌, ℕ, List, Some, None, Option, get_or, refl, ap, ◌∙◌, Bor}
use Rattle.std.proofs.lemmas.Option.{unwrap_or-slice_get}
use Rattle.std.specs.List.{slice_get}
use Rattle.std.specs.Option.{unwrap_or, option_map}

text_or : (r : Option (Bor (List ℕ))) (d : Bor (List ℕ)) → (unwrap_or r d).now ≡ unwrap_or (option_map (λ x. x.now) r) d.now
text_or None d = refl
text_or (Some x) d = refl

pub chosen : (r : Option (Bor (List ℕ))) (d : Bor (List ℕ)) (all : List (List ℕ)) (n : ℕ)
    → option_map (λ x. x.now) r ≡ slice_get all n → (unwrap_or r d).now ≡ get_or all n d.now
chosen r d all n e = text_or r d ∙ ap (λ o. unwrap_or o d.now) e ∙ unwrap_or-slice_get all n d.now
