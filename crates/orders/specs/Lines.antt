-- The line that writes an order: single spaces, numbers as they are printed, lowercase hex.
use Rattle.std.specs.Prelude.{◌≡◌, ℕ, ◌+◌, ◌/◌, ◌%◌, ◌^◌, ◌<◌, cond, List, [], ◌∷◌, ◌++◌, length, Some, None, Ok, codes, decimal, Result, nat_lt}
use Rattle.std.specs.List.{AllByRecursion}
use Rattle.expander.specs.declared.Seed.{Seed}
use Rattle.orders.specs.declared.types.DealOrder.{DealOrder}
use Rattle.orders.specs.declared.types.Fault.{Fault}
use Rattle.orders.specs.declared.types.GateBody.{GateBody}
use Rattle.orders.specs.declared.types.GateBody.TheVariants as gate
use Rattle.orders.specs.declared.types.GateOrder.{GateOrder}
use Rattle.orders.specs.declared.types.Kind.{Kind}
use Rattle.orders.specs.declared.types.Kind.TheVariants.{Aes, ChaCha, Zero}
use Rattle.orders.specs.declared.types.Order.{Order}
use Rattle.orders.specs.declared.types.Order.TheVariants.{Nothing, Deal, At, Gate, Hold}
use Rattle.orders.specs.declared.types.Payload.{Payload}
use Rattle.orders.specs.declared.types.Payload.TheVariants.{Words, Flags, Pair, Quad}

-- texts one after the other, with a byte between them
abbrev pub joined_by : ℕ → List (List ℕ) → List ℕ
joined_by c [] = []
joined_by c (w ∷ []) = w
joined_by c (w ∷ v ∷ ws) = w ++ (c ∷ joined_by c (v ∷ ws))

abbrev pub kind_text : Kind → List ℕ
kind_text Aes = codes "1"
kind_text ChaCha = codes "2"
kind_text Zero = codes "3"

abbrev pub group_text : Payload → List ℕ
group_text (Words a) = codes "words"
group_text (Flags a) = codes "flags"
group_text (Pair a b) = codes "pair"
group_text (Quad a b c d) = codes "quad"

abbrev pub payload_parts : Payload → List (List ℕ)
payload_parts (Words a) = decimal a ∷ []
payload_parts (Flags a) = decimal a ∷ []
payload_parts (Pair a b) = decimal a ∷ decimal b ∷ []
payload_parts (Quad a b c d) = decimal a ∷ decimal b ∷ decimal c ∷ decimal d ∷ []

abbrev pub hex_digit : ℕ → ℕ
hex_digit d = cond (nat_lt d 10) (48 + d) (87 + d)

abbrev pub hex_text : List ℕ → List ℕ
hex_text [] = []
hex_text (b ∷ bs) = hex_digit (b / 16) ∷ hex_digit (b % 16) ∷ hex_text bs

abbrev pub deal_words : DealOrder → List (List ℕ)
deal_words d =
    codes "deal" ∷ kind_text d.kind ∷ group_text d.payload ∷ decimal d.width ∷ decimal d.threshold
    ∷ joined_by 44 (payload_parts d.payload) ∷ hex_text d.root0.bytes ∷ hex_text d.root1.bytes ∷ []

-- numbers with commas between them
abbrev pub decimals : List ℕ → List (List ℕ)
decimals [] = []
decimals (n ∷ ns) = decimal n ∷ decimals ns

abbrev pub numbers_text : List ℕ → List ℕ
numbers_text ns = joined_by 44 (decimals ns)

abbrev pub gate_text : GateBody → List ℕ
gate_text (gate.Piece mask low high coefficients random) = codes "piece"
gate_text (gate.Flag mask low high pattern random) = codes "flag"
gate_text (gate.Shift mask by random) = codes "shift"
gate_text (gate.Signed mask by random) = codes "signed"
gate_text (gate.Product mask mask2 random) = codes "product"
gate_text (gate.Sum mask mask2) = codes "sum"
gate_text (gate.Scale mask c d) = codes "scale"
gate_text (gate.Xor mask mask2) = codes "xor"

abbrev pub body_words : GateBody → List (List ℕ)
body_words (gate.Piece mask low high coefficients random) =
    decimal mask ∷ decimal low ∷ decimal high ∷ numbers_text coefficients ∷ numbers_text random ∷ []
body_words (gate.Flag mask low high pattern random) =
    decimal mask ∷ decimal low ∷ decimal high ∷ decimal pattern ∷ numbers_text random ∷ []
body_words (gate.Shift mask by random) = decimal mask ∷ decimal by ∷ numbers_text random ∷ []
body_words (gate.Signed mask by random) = decimal mask ∷ decimal by ∷ numbers_text random ∷ []
body_words (gate.Product mask mask2 random) = decimal mask ∷ decimal mask2 ∷ numbers_text random ∷ []
body_words (gate.Sum mask mask2) = decimal mask ∷ decimal mask2 ∷ []
body_words (gate.Scale mask c d) = decimal mask ∷ decimal c ∷ decimal d ∷ []
body_words (gate.Xor mask mask2) = decimal mask ∷ decimal mask2 ∷ []

abbrev pub gate_words : GateOrder → List (List ℕ)
gate_words g = codes "gate" ∷ kind_text g.kind ∷ gate_text g.body ∷ decimal g.width ∷ body_words g.body

abbrev pub line_words : Order → List (List ℕ)
line_words Nothing = []
line_words (Deal d) = deal_words d
line_words (At point) = codes "at" ∷ decimal point ∷ []
line_words (Gate g) = gate_words g
line_words (Hold m None) = codes "hold" ∷ decimal m ∷ []
line_words (Hold m (Some k)) = codes "hold" ∷ decimal m ∷ decimal k ∷ []

abbrev pub written : Order → List ℕ
written order = joined_by 32 (line_words order)

-- every number within the bits that hold it
abbrev pub PayloadFits : Payload → Type 0
PayloadFits (Words a) = a < 2 ^ 64
PayloadFits (Flags a) = a < 2 ^ 32
PayloadFits (Pair a b) = (a < 2 ^ 64) × (b < 2 ^ 32)
PayloadFits (Quad a b c d) = (a < 2 ^ 64) × (b < 2 ^ 64) × (c < 2 ^ 64) × (d < 2 ^ 64)

abbrev pub SeedFits : Seed → Type 0
SeedFits seed = (length seed.bytes ≡ 16) × AllByRecursion (λ b. b < 256) seed.bytes

pub record DealFits (d : DealOrder) : Type 0 where
  pub width : d.width < 256
  pub threshold : d.threshold < 2 ^ 32
  pub payload : PayloadFits d.payload
  pub root0 : SeedFits d.root0
  pub root1 : SeedFits d.root1

-- so many random words of 64 bits
abbrev pub RandomFits : ℕ → List ℕ → Type 0
RandomFits count random = (length random ≡ count) × AllByRecursion (λ n. n < 2 ^ 64) random

abbrev pub BodyFits : GateBody → Type 0
BodyFits (gate.Piece mask low high coefficients random) =
    (mask < 2 ^ 32) × (low < 2 ^ 32) × (high < 2 ^ 32)
    × ((length coefficients ≡ 4) × AllByRecursion (λ n. n < 2 ^ 32) coefficients) × RandomFits 14 random
BodyFits (gate.Flag mask low high pattern random) =
    (mask < 2 ^ 32) × (low < 2 ^ 32) × (high < 2 ^ 32) × (pattern < 2 ^ 32) × RandomFits 8 random
BodyFits (gate.Shift mask by random) = (mask < 2 ^ 32) × (by < 256) × RandomFits 10 random
BodyFits (gate.Signed mask by random) = (mask < 2 ^ 32) × (by < 256) × RandomFits 10 random
BodyFits (gate.Product mask mask2 random) = (mask < 2 ^ 32) × (mask2 < 2 ^ 32) × RandomFits 4 random
BodyFits (gate.Sum mask mask2) = (mask < 2 ^ 32) × (mask2 < 2 ^ 32)
BodyFits (gate.Scale mask c d) = (mask < 2 ^ 32) × (c < 2 ^ 32) × (d < 2 ^ 32)
BodyFits (gate.Xor mask mask2) = (mask < 2 ^ 32) × (mask2 < 2 ^ 32)

pub record GateFits (g : GateOrder) : Type 0 where
  pub width : g.width < 256
  pub body : BodyFits g.body

abbrev pub OrderFits : Order → Type 0
OrderFits Nothing = Unit {0}
OrderFits (Deal d) = DealFits d
OrderFits (At point) = point < 2 ^ 32
OrderFits (Gate g) = GateFits g
OrderFits (Hold m None) = m < 2 ^ 32
OrderFits (Hold m (Some k)) = (m < 2 ^ 32) × (k < 2 ^ 32)

-- a line that writes an order is read as that order
abbrev pub ReadsBack : List ℕ → Result Order Fault → Type 0
ReadsBack line r = (order : Order) → OrderFits order → line ≡ written order → r ≡ Ok order
