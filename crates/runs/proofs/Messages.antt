-- Every message that was written is right.
use Rattle.std.proofs.Common.{◌≡◌, ℕ, true, cond, List, Option, sym, ap, ◌∙◌, inl, inr, ⊎_elim}
use Rattle.std.proofs.lemmas.Bool.{or_cases, false≢true}
use Rattle.key.specs.declared.BoxNumber.{BoxNumber}
use Rattle.runs.specs.Plans.{Wiring, Deal, is_input, is_keyed, all_of, plain, plain_below, meant}
use Rattle.runs.specs.Theorem.{MessageRight, MessagesStand}
use Rattle.runs.proofs.Invariant.{GoodMessage}
use Rattle.runs.proofs.ShownRight.{run_sound}

-- an input's plain value is its reading
input_plain : (p : Wiring) (r : ℕ → Option ℕ) (k : ℕ) → is_input p k ≡ true → plain p r k ≡ r k
input_plain p r k e = ap (λ t. cond t (r k) (meant (p.meaning k) (all_of (plain_below p r k) (p.reads k)))) e

carried : (p : Wiring) (d : Deal) (r : ℕ → Option ℕ) (b : BoxNumber) (m : List ℕ) → GoodMessage p d r b m → MessageRight p d r b m
carried p d r b m h =
    let k = h.0 in
    ⊎_elim
    (λ c. (k, h.1, h.2, inr c))
    (λ c. ⊎_elim
    (λ i. (k, h.1, h.2, inl (i, (c.1.0, sym (input_plain p r k i) ∙ c.1.1, c.1.2))))
    (λ t. absurd (false≢true (sym c.0 ∙ t)))
    (or_cases (is_input p k) (is_keyed p k) h.5))
    h.4

pub messages_stand : MessagesStand
messages_stand p d f g room fits cs q = λ b m w. carried p d _ b m ((run_sound p d f g room fits cs q).sent b m w)
