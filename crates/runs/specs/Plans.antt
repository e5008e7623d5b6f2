-- A plan's wires, what they mean, and what a dealer hands to the two boxes.
use Rattle.std.specs.Prelude.{◌≡◌, ℕ, zero, suc, ◌+◌, ◌^◌, ◌<◌, Bool, true, false, cond, ◌&&◌, List, [], ◌∷◌, Some, None, Option, nat_le, nat_lt}
use Rattle.key.specs.declared.BoxNumber.{BoxNumber}
use Rattle.key.specs.declared.BoxNumber.TheVariants.{Zero, One}

abbrev pub other : BoxNumber → BoxNumber
other Zero = One
other One = Zero

abbrev pub same_box : BoxNumber → BoxNumber → Bool
same_box Zero Zero = true
same_box Zero One = false
same_box One Zero = false
same_box One One = true

-- What the values of one kind of wire are, how two are added, and what takes a value back out of a sum.
pub record Group : Type 0 where
  pub within : ℕ → Bool
  pub sum : ℕ → ℕ → ℕ
  pub inv : ℕ → ℕ

pub record Lawful (g : Group) : Type 0 where
  pub small : (a : ℕ) → g.within a ≡ true → a < 2 ^ 32
  pub closed : (a b : ℕ) → g.within a ≡ true → g.within b ≡ true → g.within (g.sum a b) ≡ true
  pub comm : (a b : ℕ) → g.sum a b ≡ g.sum b a
  pub cancels : (a b : ℕ) → g.within a ≡ true → g.within b ≡ true → g.sum (g.sum a b) (g.inv b) ≡ a

-- Wires count inputs first, then gates. `meaning k` is a gate's plain value on the plain values that it reads.
pub record Wiring : Type 0 where
  pub inputs : ℕ
  pub gates : ℕ
  pub owner : ℕ → BoxNumber
  pub reads : ℕ → List ℕ
  pub keyed : ℕ → Bool
  pub shown : ℕ → Bool
  pub group : ℕ → Group
  pub meaning : ℕ → List ℕ → ℕ

abbrev pub wires : Wiring → ℕ
wires p = p.inputs + p.gates

abbrev pub is_input : Wiring → ℕ → Bool
is_input p k = nat_lt k p.inputs

abbrev pub is_gate : Wiring → ℕ → Bool
is_gate p k = nat_le p.inputs k && nat_lt k (wires p)

abbrev pub is_keyed : Wiring → ℕ → Bool
is_keyed p k = is_gate p k && p.keyed k

-- What a deal gives: a mask for each wire, the local gates on held values, and each box's shares of the keyed gates on held values.
pub record Deal : Type 0 where
  pub number : ℕ
  pub mask : ℕ → ℕ
  pub locally : ℕ → List ℕ → ℕ
  pub share : BoxNumber → ℕ → List ℕ → ℕ

-- how a wire's plain value is held, and how the mask is removed
abbrev pub hide : Wiring → Deal → ℕ → ℕ → ℕ
hide p d k v = (p.group k).sum v (d.mask k)

abbrev pub reveal : Wiring → Deal → ℕ → ℕ → ℕ
reveal p d k m = (p.group k).sum m ((p.group k).inv (d.mask k))

abbrev pub hide_all : Wiring → Deal → List ℕ → List ℕ → List ℕ
hide_all p d [] vs = []
hide_all p d (k ∷ ks) [] = []
hide_all p d (k ∷ ks) (v ∷ vs) = hide p d k v ∷ hide_all p d ks vs

abbrev pub AllBelow : ℕ → List ℕ → Type 0
AllBelow n [] = Unit {0}
AllBelow n (k ∷ ks) = (k < n) × AllBelow n ks

-- a value for each wire, each of its wire's kind
abbrev pub AllWithin : Wiring → List ℕ → List ℕ → Type 0
AllWithin p [] [] = Unit {0}
AllWithin p [] (v ∷ vs) = ⊥
AllWithin p (k ∷ ks) [] = ⊥
AllWithin p (k ∷ ks) (v ∷ vs) = ((p.group k).within v ≡ true) × AllWithin p ks vs

-- The plan is well formed: gates read lower wires, and mean values of their kind.
pub record Formed (p : Wiring) : Type 0 where
  pub lawful : (k : ℕ) → Lawful (p.group k)
  pub lower : (k : ℕ) → AllBelow k (p.reads k)
  pub means : (k : ℕ) (vs : List ℕ) → is_gate p k ≡ true → AllWithin p (p.reads k) vs → (p.group k).within (p.meaning k vs) ≡ true

-- The deal fits the plan: local gates keep 'held is plain plus mask', and the two shares of a keyed gate add up to it.
pub record Dealt (p : Wiring) (d : Deal) : Type 0 where
  pub numbered : d.number < 2 ^ 32
  pub masks : (k : ℕ) → (p.group k).within (d.mask k) ≡ true
  pub local : (k : ℕ) (vs : List ℕ) → is_gate p k ≡ true → p.keyed k ≡ false → AllWithin p (p.reads k) vs
      → d.locally k (hide_all p d (p.reads k) vs) ≡ hide p d k (p.meaning k vs)
  pub joins : (k : ℕ) (vs : List ℕ) → is_gate p k ≡ true → p.keyed k ≡ true → AllWithin p (p.reads k) vs
      → (p.group k).sum (d.share Zero k (hide_all p d (p.reads k) vs)) (d.share One k (hide_all p d (p.reads k) vs)) ≡ hide p d k (p.meaning k vs)
  pub shares : (b : BoxNumber) (k : ℕ) (vs : List ℕ) → is_gate p k ≡ true → p.keyed k ≡ true → AllWithin p (p.reads k) vs
      → (p.group k).within (d.share b k (hide_all p d (p.reads k) vs)) ≡ true

-- the values at some wires, if each of them has one
abbrev pub joined : Option ℕ → Option (List ℕ) → Option (List ℕ)
joined None xs = None
joined (Some x) None = None
joined (Some x) (Some xs) = Some (x ∷ xs)

abbrev pub all_of : (ℕ → Option ℕ) → List ℕ → Option (List ℕ)
all_of f [] = Some []
all_of f (k ∷ ks) = joined (f k) (all_of f ks)

abbrev pub meant : (List ℕ → ℕ) → Option (List ℕ) → Option ℕ
meant f None = None
meant f (Some vs) = Some (f vs)

-- Plain values on some readings: an input's is its reading, a gate's its meaning on the plain values that it reads,
-- and none while one of them is missing. Gates read lower wires, so that n steps suffice below n.
abbrev pub plain_below : Wiring → (ℕ → Option ℕ) → ℕ → ℕ → Option ℕ
plain_below p r zero k = None
plain_below p r (suc n) k = cond (is_input p k) (r k) (meant (p.meaning k) (all_of (plain_below p r n) (p.reads k)))

abbrev pub plain : Wiring → (ℕ → Option ℕ) → ℕ → Option ℕ
plain p r k = plain_below p r (suc k) k
