-- The line that writes an order is parsed back to that order.
use Rattle.std.proofs.Common.{◌≡◌, ℕ, ◌^◌, ◌<◌, cond, eqb, List, [], ◌∷◌, length, Some, None, Ok, Err, decimal, Result, refl, ap, ◌∙◌, arith, ne_eqb}
use Rattle.std.proofs.lemmas.Bool.{cond-false}
use Rattle.std.specs.List.{AllByRecursion}
use Rattle.orders.specs.declared.types.DealOrder.{DealOrder}
use Rattle.orders.specs.declared.types.Fault.{Fault}
use Rattle.orders.specs.declared.types.Group.{Group}
use Rattle.orders.specs.declared.types.Group.TheVariants as group
use Rattle.orders.specs.declared.types.Order.{Order}
use Rattle.orders.specs.declared.types.Order.TheVariants.{Nothing, Deal, At, Gate, Hold}
use Rattle.orders.specs.declared.types.Payload.{Payload}
use Rattle.orders.specs.declared.types.Payload.TheVariants.{Words, Flags, Pair, Quad}
use Rattle.orders.specs.declared.types.Wrong.{Wrong}
use Rattle.orders.specs.declared.types.Wrong.TheVariants.{PayloadParts}
use Rattle.orders.specs.Grammar.{and_then, group_of, parts, payload_from, payload_of, placed, deal_of, order_of, parsed}
use Rattle.orders.specs.Lines.{joined_by, kind_text, group_text, payload_parts, deal_words, line_words, written, PayloadFits, DealFits, OrderFits}
use Rattle.orders.specs.Text.{decimal_of}
use Rattle.orders.proofs.Back.{pieces_joined, Word, words_joined, decimal_word, decimal_back, seed_word, seed_back}
use Rattle.orders.proofs.WordsBack.{next, kind_word, kind_back, joined_word, plain, word_back, flags_back, placed_ok}
use Rattle.orders.proofs.GatesBack.{gate_fits, gate_back, short_ok}

group_in : Payload → Group
group_in (Words a) = group.Words
group_in (Flags a) = group.Flags
group_in (Pair a b) = group.Pair
group_in (Quad a b c d) = group.Quad

group_word : (p : Payload) → Word (group_text p)
group_word (Words a) = (omega arith, refl)
group_word (Flags a) = (omega arith, refl)
group_word (Pair a b) = (omega arith, refl)
group_word (Quad a b c d) = (omega arith, refl)

group_back : (p : Payload) → group_of (group_text p) ≡ Ok (group_in p)
unfolding group_in
group_back (Words a) = refl
group_back (Flags a) = refl
group_back (Pair a b) = refl
group_back (Quad a b c d) = refl

payload_word : (p : Payload) → PayloadFits p → Word (joined_by 44 (payload_parts p))
payload_word (Words a) h = decimal_word a h
payload_word (Flags a) h = decimal_word a (omega arith)
payload_word (Pair a b) h =
    joined_word (decimal a) (decimal b ∷ []) (decimal_word a h.0, (decimal_word b (omega (arith, h.1)), tt))
payload_word (Quad a b c d) h =
    joined_word (decimal a) (decimal b ∷ decimal c ∷ decimal d ∷ [])
    (decimal_word a h.0, (decimal_word b h.1, (decimal_word c h.2, (decimal_word d h.3, tt))))

-- a payload's numbers, found again between its commas
cut : (g : Group) → List (List ℕ) → Result Payload Wrong
cut g ps = cond (eqb (length ps) (parts g)) (payload_from g ps) (Err PayloadParts)

payload_back : (p : Payload) → PayloadFits p → payload_of (group_in p) (joined_by 44 (payload_parts p)) ≡ Ok p
unfolding group_in cut
payload_back (Words a) h =
    ap (cut group.Words) (pieces_joined 44 (decimal a) [] (plain a h, tt)) ∙ next _ (word_back a h)
payload_back (Flags a) h =
    ap (cut group.Flags) (pieces_joined 44 (decimal a) [] (plain a (omega arith), tt)) ∙ next _ (flags_back a h)
payload_back (Pair a b) h =
    ap (cut group.Pair) (pieces_joined 44 (decimal a) (decimal b ∷ []) (plain a h.0, (plain b (omega (arith, h.1)), tt)))
    ∙ next _ (word_back a h.0) ∙ next _ (flags_back b h.1)
payload_back (Quad a b c d) h =
    ap (cut group.Quad)
    (pieces_joined 44 (decimal a) (decimal b ∷ decimal c ∷ decimal d ∷ [])
    (plain a h.0, (plain b h.1, (plain c h.2, (plain d h.3, tt)))))
    ∙ next _ (word_back a h.0) ∙ next _ (word_back b h.1) ∙ next _ (word_back c h.2) ∙ next _ (word_back d h.3)

deal_back : (d : DealOrder) → DealFits d → deal_of (deal_words d) ≡ Ok d
deal_back d h =
    next _ (placed_ok (kind_text d.kind) 2 _ d.kind (kind_word d.kind).0 (kind_back d.kind))
    ∙ next _ (placed_ok (group_text d.payload) 3 _ (group_in d.payload) (group_word d.payload).0 (group_back d.payload))
    ∙ next _ (placed_ok (decimal d.width) 4 _ d.width (decimal_word d.width (omega arith)).0
    (decimal_back 255 d.width (omega arith) (omega arith)))
    ∙ next _ (placed_ok (decimal d.threshold) 5 _ d.threshold (decimal_word d.threshold (omega arith)).0
    (flags_back d.threshold h.threshold))
    ∙ next _ (placed_ok (joined_by 44 (payload_parts d.payload)) 6 _ d.payload (payload_word d.payload h.payload).0
    (payload_back d.payload h.payload))
    ∙ next _ (placed_ok _ 7 _ d.root0 (seed_word d.root0 h.root0).0 (seed_back d.root0 h.root0))
    ∙ next _ (placed_ok _ 8 _ d.root1 (seed_word d.root1 h.root1).0 (seed_back d.root1 h.root1))

line_fits : (o : Order) → OrderFits o → AllByRecursion Word (line_words o)
line_fits Nothing h = tt
line_fits (Deal d) h = (
  (omega arith, refl),
  (
    kind_word d.kind,
    (
      group_word d.payload,
      (
        decimal_word d.width (omega (arith, h.width)),
        (
          decimal_word d.threshold (omega (arith, h.threshold)),
          (
            payload_word d.payload h.payload,
            (seed_word d.root0 h.root0, (seed_word d.root1 h.root1, tt)),
          ),
        ),
      ),
    ),
  ),
)
line_fits (At point) h = ((omega arith, refl), (decimal_word point (omega arith), tt))
line_fits (Gate g) h = gate_fits g h
line_fits (Hold m None) h = ((omega arith, refl), (decimal_word m (omega arith), tt))
line_fits (Hold m (Some k)) h = ((omega arith, refl), (decimal_word m (omega (arith, h.0)), (decimal_word k (omega (arith, h.1)), tt)))

abbrev held : ℕ → ℕ → Result Order Fault
held m k = Ok (Hold m (Some k))

second : (m k : ℕ) → k < 2 ^ 32
    → cond (eqb (length (decimal k)) 0) (Ok (Hold m None))
    (and_then (placed (decimal k) 3 (decimal_of 4294967295 (decimal k))) (λ j. held m j)) ≡ held m k
second m k h =
    cond-false (eqb (length (decimal k)) 0) (Ok (Hold m None)) _
    (ne_eqb (length (decimal k)) 0 (λ z. omega (arith, (decimal_word k (omega arith)).0)))
    ∙ next _ (short_ok k 3 h)

order_back : (o : Order) → OrderFits o → order_of (line_words o) ≡ Ok o
order_back Nothing h = refl
order_back (Deal d) h = next (λ order. Ok (Deal order)) (deal_back d h)
order_back (At point) h =
    next (λ p. Ok (At p))
    (next _ (placed_ok (decimal point) 2 _ point (decimal_word point (omega arith)).0 (flags_back point h)))
order_back (Gate g) h = next (λ order. Ok (Gate order)) (gate_back g h)
order_back (Hold m None) h = next _ (short_ok m 2 h)
order_back (Hold m (Some k)) h = next _ (short_ok m 2 h.0) ∙ second m k h.1

pub reads_back : (o : Order) → OrderFits o → parsed (written o) ≡ Ok o
reads_back o h = ap order_of (words_joined (line_words o) (line_fits o h)) ∙ order_back o h
