-- The meaning of each kind of expander.
use Rattle.expander.specs.Meaning.{Expansion}
use Rattle.standards.specs.Kinds.{kind1, kind2}
use Rattle.zero.specs.Zeros.{zeros}
use Rattle.orders.specs.declared.types.Kind.{Kind}
use Rattle.orders.specs.declared.types.Kind.TheVariants.{Aes, ChaCha, Zero}

abbrev pub meaning_of : Kind → Expansion
meaning_of Aes = kind1
meaning_of ChaCha = kind2
meaning_of Zero = zeros
