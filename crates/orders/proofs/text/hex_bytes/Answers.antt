use Rattle.std.proofs.Common.{◌≡◌, ℕ, ◌+◌, ◌*◌, ◌<◌, true, length, get_or, sym, rules, ◌∙◌, arith}
use Rattle.std.proofs.lemmas.List.{ext_get_or}
use Rattle.std.proofs.lemmas.List.Sums.{AllPass-from_list_all}
use Rattle.orders.specs.Text.{hex, hex_value}
use Rattle.orders.proofs.Made.{made_at, callable_at}
use Rattle.orders.proofs.Numbers.{length_hex_bytes, hex_bytes_at}
use Rattle.orders.proofs.text.hex_bytes.Goals as goal

pub from_fn-requires : goal.from_fn-requires
from_fn-requires c =
    let w = c.args.word.now in
    let each : (k : ℕ) → k < length w → hex (get_or w k 0) ≡ true = λ k h. AllPass-from_list_all hex w c.requires.1 k 0 h in
    (omega arith, callable_at _ _ _ (λ i q called. search rules) 16 (λ i lt. search (rules, each)))

pub returns : goal.returns
returns c =
    let w = c.args.word.now in
    let made = c.from_fn.ensures.items in
    ext_get_or 0 _ _ (made.long ∙ sym (length_hex_bytes w 16 c.requires.0))
    (λ k lt. made_at _ (λ i. 16 * hex_value (get_or w (2 * i) 0) + hex_value (get_or w (2 * i + 1) 0)) _ (λ i y q called. search rules) c.from_fn.result 16 k 0 made.each (omega arith)
    ∙ sym (hex_bytes_at w k (omega arith)))
