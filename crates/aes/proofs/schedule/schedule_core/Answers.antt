use Rattle.std.proofs.Common.{ℕ, ◌<◌, List, get_or, sym, ap, ◌∙◌, arith}
use lib.Bits.{bit_xor, xor_zero_r, xor_lt}
use Rattle.aes.specs.Blocks.{word_bytes}
use Rattle.standards.specs.Fips197.{s_box, schedule_core}
use Rattle.aes.proofs.Bytes.{bytes_of_join, four_bytes}
use Rattle.aes.proofs.schedule.schedule_core.Goals as goal

pub returns : goal.returns
unfolding schedule_core
returns c =
    let k = c.args.constant in
    let small : k < 256 = omega arith in
    let h = bytes_of_join
    (bit_xor c.substituted.result k) c.substituted-2.result c.substituted-3.result c.substituted-4.result
    (xor_lt 8 c.substituted.result k c.substituted.type_inv small) c.substituted-2.type_inv c.substituted-3.type_inv c.substituted-4.type_inv in
    let at : (i : ℕ) → List ℕ → ℕ = λ i l. s_box (get_or l i 0) in
    ap word_bytes c.from_be_bytes.ensures ∙ h ∙
    four_bytes _ _ _ _ _ _ _ _
    (ap (λ (x : ℕ). bit_xor x k) (c.substituted.ensures ∙ ap (at 1) c.to_be_bytes.ensures))
    (c.substituted-2.ensures ∙ ap (at 2) c.to_be_bytes.ensures ∙ sym (xor_zero_r _))
    (c.substituted-3.ensures ∙ ap (at 3) c.to_be_bytes.ensures ∙ sym (xor_zero_r _))
    (c.substituted-4.ensures ∙ ap (at 0) c.to_be_bytes.ensures ∙ sym (xor_zero_r _))
