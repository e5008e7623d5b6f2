-- How many bytes words, flags and quads have.
use Rattle.std.proofs.Common.{◌≡◌, length, refl}
use Rattle.group.specs.declared.Flags.{Flags}
use Rattle.group.specs.declared.Pair.{Pair}
use Rattle.group.specs.declared.Word as code
use Rattle.keyform.specs.Forms.{word_form, flag_form, quad_form}

pub word_sized : (w : code.Word) → length (word_form w) ≡ 8
word_sized w = refl

pub flag_sized : (f : Flags) → length (flag_form f) ≡ 4
flag_sized f = refl

pub quad_sized : (q : Pair (Pair code.Word code.Word) (Pair code.Word code.Word)) → length (quad_form q) ≡ 32
quad_sized q = refl
