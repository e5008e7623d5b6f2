-- What is printed of a fault.
use Rattle.std.specs.Prelude.{ℕ, List, ◌++◌, codes, decimal}
use Rattle.orders.specs.declared.types.Fault.{Fault}
use Rattle.orders.specs.declared.types.Wrong.{Wrong}
use Rattle.orders.specs.declared.types.Wrong.TheVariants.{UnknownOrder, MissingWord, ExtraWord, NotNumber, TooLarge, UnknownKind, UnknownGroup, PayloadParts, SeedLength, NotHex, UnknownGate, CoefficientCount, WordCount}

abbrev pub wrong_text : Wrong → List ℕ
wrong_text UnknownOrder = codes "not an order"
wrong_text MissingWord = codes "a word is missing"
wrong_text ExtraWord = codes "a word too many"
wrong_text NotNumber = codes "not a decimal number"
wrong_text TooLarge = codes "the number is too large"
wrong_text UnknownKind = codes "not a kind of expander: 1, 2 or 3"
wrong_text UnknownGroup = codes "not a group: words, flags, pair or quad"
wrong_text PayloadParts = codes "the payload has not the parts of its group"
wrong_text SeedLength = codes "a seed has 32 hex digits"
wrong_text NotHex = codes "not a hex digit"
wrong_text UnknownGate = codes "not a gate: piece, flag, shift, signed, product, sum, scale or xor"
wrong_text CoefficientCount = codes "a piece has four coefficients"
wrong_text WordCount = codes "not as many random words as the gate takes"

abbrev pub fault_text : Fault → List ℕ
fault_text f = codes "word " ++ decimal f.word ++ codes ": " ++ wrong_text f.what
