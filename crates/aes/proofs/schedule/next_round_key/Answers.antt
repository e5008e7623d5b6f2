use Rattle.std.proofs.Common.{◌≡◌, ℕ, List, get_or, refl}
use lib.Bits.{bit_xor}
use Rattle.aes.specs.Blocks.{word_bytes, block_bytes}
use Rattle.standards.specs.Fips197.{schedule_core, next_round_key, xor}
use Rattle.aes.proofs.Bytes.{xor_of_known, four_words}
use Rattle.aes.proofs.schedule.next_round_key.Goals as goal

pub returns : goal.returns
unfolding block_bytes next_round_key schedule_core
returns c =
    let k0 : ℕ = get_or c.args.key.0 0 0 in
    let k1 : ℕ = get_or c.args.key.0 1 0 in
    let k2 : ℕ = get_or c.args.key.0 2 0 in
    let k3 : ℕ = get_or c.args.key.0 3 0 in
    let t : ℕ = c.schedule_core.result in
    let core : List ℕ = schedule_core c.args.constant (word_bytes k3) in
    let a : List ℕ = xor (word_bytes k0) core in
    let ha : word_bytes (bit_xor k0 t) ≡ a = xor_of_known k0 t (word_bytes k0) core refl c.schedule_core.ensures in
    let hb = xor_of_known k1 (bit_xor k0 t) (word_bytes k1) a refl ha in
    let hc = xor_of_known k2 (bit_xor k1 (bit_xor k0 t)) (word_bytes k2) (xor (word_bytes k1) a) refl hb in
    let hd = xor_of_known k3 (bit_xor k2 (bit_xor k1 (bit_xor k0 t))) (word_bytes k3) (xor (word_bytes k2) (xor (word_bytes k1) a)) refl hc in
    four_words _ _ _ _ _ _ _ _ ha hb hc hd
