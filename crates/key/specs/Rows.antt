-- Rows and box numbers.
use Rattle.std.specs.Prelude.{Bool, true, false}
use Rattle.key.specs.declared.Row.{Row}
use Rattle.key.specs.declared.BoxNumber.{BoxNumber}
use Rattle.key.specs.declared.BoxNumber.TheVariants.{Zero, One}

-- a row's bit of one side
abbrev pub row_bit : {G : Type 0} → Row G → Bool → Bool
row_bit r true = r.right
row_bit r false = r.left

-- a row by what its element means
abbrev pub row_mean : {G M : Type 0} → (G → M) → Row G → Row M
row_mean mean r = record { word = r.word; left = r.left; right = r.right; element = mean r.element }

abbrev pub is_one : BoxNumber → Bool
is_one Zero = false
is_one One = true
