-- The number of each kind of expander.
use Rattle.std.specs.Prelude.{ℕ}
use Rattle.orders.specs.declared.types.Kind.{Kind}
use Rattle.orders.specs.declared.types.Kind.TheVariants.{Aes, ChaCha, Zero}

abbrev pub kind_number : Kind → ℕ
kind_number Aes = 1
kind_number ChaCha = 2
kind_number Zero = 3
