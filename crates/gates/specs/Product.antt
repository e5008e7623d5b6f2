-- A product's key, and what both boxes come to.
use Rattle.std.specs.Prelude.{ℕ, ◌+◌, ◌%◌, List, slice_index}
use Rattle.key.specs.declared.BoxNumber.{BoxNumber}
use Rattle.key.specs.declared.BoxNumber.TheVariants.{Zero, One}
use Rattle.key.specs.Rows.{is_one}
use Rattle.masking.specs.Masking.{size}
use Rattle.masking.specs.declared.width.Width.{Width}
use Rattle.interval.specs.Interval.{plain}
use Rattle.shares.specs.Product.{part_a, part_b, part_c, product_share}
use Rattle.shares.specs.Local.{sum_of}
use Rattle.shares.specs.Plain.{plain_product}
use Rattle.gates.specs.declared.product.ProductKey.{ProductKey}

-- word 0 is the output mask, words 1 to 3 are box 1's parts
abbrev pub dealt_product : BoxNumber → Width → ℕ → ℕ → List ℕ → ProductKey
dealt_product b w r s ws =
    let N : ℕ = size w in
    record {
      number = b;
      width = w;
      parts = record {
        a = part_a (is_one b) N r (slice_index ws 1);
        b = part_b (is_one b) N s (slice_index ws 2);
        c = part_c (is_one b) N r s (slice_index ws 0 % N) (slice_index ws 3);
      };
    }

-- a box's share at the held values m and k
abbrev pub product_share_dealt : BoxNumber → Width → ℕ → ℕ → List ℕ → ℕ → ℕ → ℕ
product_share_dealt b w r s ws m k =
    let key : ProductKey = dealt_product b w r s ws in
    product_share (is_one b) (size w) m k key.parts.a key.parts.b key.parts.c

-- both boxes' shares, and their sum
abbrev pub product_numbers : Width → ℕ → ℕ → List ℕ → ℕ → ℕ → ℕ × ℕ × ℕ
product_numbers w r s ws m k =
    let s0 : ℕ = product_share_dealt Zero w r s ws m k in
    let s1 : ℕ = product_share_dealt One w r s ws m k in
    (s0, s1, sum_of (size w) s0 s1)

-- the product of the plain values, plus the output mask
abbrev pub product_held : Width → ℕ → ℕ → List ℕ → ℕ → ℕ → ℕ
product_held w r s ws m k = let N : ℕ = size w in (plain_product N (plain N r m) (plain N s k) + slice_index ws 0 % N) % N
