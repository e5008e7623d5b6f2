-- A mask where it is given, and nothing where there is nothing to write.
use Rattle.std.proofs.Common.{◌≡◌, ℕ, Bool, is_some, List, [], Option, Some, None, refl, ap, ◌∙◌, arith}
use mir.Val.{bool_byte}
use Rattle.layout.specs.Wires.{mask_bytes, given}
use Rattle.buffers.specs.declared.Writer.{Writer}
use Rattle.buffers.specs.Forms.{Put, Room}
use Rattle.buffers.proofs.Puts.{put_as, put_none}

pub given_is : (m : Option ℕ) (b : Bool) (n : ℕ) → n ≡ bool_byte b → b ≡ is_some m → n ≡ given m
given_is None b n h e = h ∙ ap bool_byte e
given_is (Some x) b n h e = h ∙ ap bool_byte e

pub nothing : (w : Writer) (bytes : List ℕ) → [] ≡ bytes → Room w bytes → Put w bytes w
nothing w bytes e r = let f = r.fits in put_as e (put_none w (omega arith))

-- no mask, no bytes
pub unmasked : (w : Writer) (m : Option ℕ) → ((n : ℕ) → m ≡ Some n → ⊥) → Room w (mask_bytes m) → Put w (mask_bytes m) w
unmasked w None h r = nothing w [] refl r
unmasked w (Some n) h r = absurd (h n refl)
