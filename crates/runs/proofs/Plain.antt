-- Plain values: what they are, that they only become more, and that they are values of their wire's kind.
use Rattle.std.proofs.Common.{◌≡◌, ℕ, zero, suc, ◌<◌, true, false, cond, ltb, leb, List, [], ◌∷◌, Some, None, Option, sym, refl, ap, ◌∙◌, subst, ap₂, ⊎_elim, arith}
use Rattle.std.proofs.lemmas.Bool.{cases_Bool, cond-true, cond-false, ltb-false, le-leb, lt-ltb, and_from}
use Rattle.runs.specs.Plans.{Wiring, Formed, AllBelow, AllWithin, joined, all_of, meant, plain_below, plain, is_input, is_gate, wires}

is_none : {A : Type 0} → Option A → ℕ
is_none None = 1
is_none (Some x) = 0

pub none_some : {A : Type 0} (x : A) → ◌≡◌ {A = Option A} None (Some x) → ⊥
unfolding is_none
none_some x e = let z : ◌≡◌ {A = ℕ} 1 0 = ap is_none e in omega arith

pub some_inj : {A : Type 0} (x y : A) → ◌≡◌ {A = Option A} (Some x) (Some y) → x ≡ y
some_inj x y e = cc

pub joined_some : (x : Option ℕ) (y : Option (List ℕ)) (vs : List ℕ) → joined x y ≡ Some vs
    → (a : ℕ) × (ys : List ℕ) × (x ≡ Some a) × (y ≡ Some ys) × (a ∷ ys ≡ vs)
joined_some None y vs e = absurd (none_some vs e)
joined_some (Some a) None vs e = absurd (none_some vs e)
joined_some (Some a) (Some ys) vs e = (a, ys, refl, refl, some_inj _ _ e)

pub meant_some : (f : List ℕ → ℕ) (o : Option (List ℕ)) (v : ℕ) → meant f o ≡ Some v → (vs : List ℕ) × (o ≡ Some vs) × (f vs ≡ v)
meant_some f None v e = absurd (none_some v e)
meant_some f (Some vs) v e = (vs, refl, some_inj _ _ e)

pub joined_from : (x : Option ℕ) (y : Option (List ℕ)) (a : ℕ) (ys : List ℕ) → x ≡ Some a → y ≡ Some ys → joined x y ≡ Some (a ∷ ys)
joined_from x y a ys e q = ap₂ joined e q

pub all_of_same : (f g : ℕ → Option ℕ) (n : ℕ) (ks : List ℕ) → AllBelow n ks → ((j : ℕ) → j < n → f j ≡ g j) → all_of f ks ≡ all_of g ks
all_of_same f g n [] b h = refl
all_of_same f g n (k ∷ ks) b h = ap₂ joined (h k b.0) (all_of_same f g n ks b.1 h)

pub all_of_grows : (f g : ℕ → Option ℕ) (ks : List ℕ) → ((j v : ℕ) → f j ≡ Some v → g j ≡ Some v) → (vs : List ℕ) → all_of f ks ≡ Some vs → all_of g ks ≡ Some vs
all_of_grows f g [] h vs e = e
all_of_grows f g (k ∷ ks) h vs e =
    let t = joined_some (f k) (all_of f ks) vs e in
    joined_from (g k) (all_of g ks) t.0 t.1 (h k t.0 t.2) (all_of_grows f g ks h t.1 t.3) ∙ ap Some t.4

is_nil : List ℕ → ℕ
is_nil [] = 1
is_nil (x ∷ xs) = 0

nil_cons : (x : ℕ) (xs : List ℕ) → [] ≡ x ∷ xs → ⊥
unfolding is_nil
nil_cons x xs e = let z : ◌≡◌ {A = ℕ} 1 0 = ap is_nil e in omega arith

pub all_of_within : (p : Wiring) (f : ℕ → Option ℕ) (n : ℕ) (ks : List ℕ) → AllBelow n ks → ((j v : ℕ) → j < n → f j ≡ Some v → (p.group j).within v ≡ true)
    → (vs : List ℕ) → all_of f ks ≡ Some vs → AllWithin p ks vs
all_of_within p f n [] b h [] e = tt
all_of_within p f n [] b h (v ∷ vs) e = nil_cons v vs (some_inj _ _ e)
all_of_within p f n (k ∷ ks) b h [] e =
    let t = joined_some (f k) (all_of f ks) [] e in
    nil_cons t.0 t.1 (sym t.4)
all_of_within p f n (k ∷ ks) b h (v ∷ vs) e =
    let t = joined_some (f k) (all_of f ks) (v ∷ vs) e in
    let x : f k ≡ Some v = cc in
    let y : all_of f ks ≡ Some vs = cc in
    (h k v b.0 x, all_of_within p f n ks b.1 h vs y)

pub below_same : (p : Wiring) → Formed p → (r : ℕ → Option ℕ) (m n k : ℕ) → k < m → k < n → plain_below p r m k ≡ plain_below p r n k
below_same p f r zero n k a b = absurd (omega arith)
below_same p f r (suc m) zero k a b = absurd (omega arith)
below_same p f r (suc m) (suc n) k a b =
    ap (λ (o : Option (List ℕ)). cond (is_input p k) (r k) (meant (p.meaning k) o))
    (all_of_same (plain_below p r m) (plain_below p r n) k (p.reads k) (f.lower k) (λ j h. below_same p f r m n j (omega arith) (omega arith)))

pub plain_input : (p : Wiring) (r : ℕ → Option ℕ) (k : ℕ) → is_input p k ≡ true → plain p r k ≡ r k
plain_input p r k e = cond-true (is_input p k) _ _ e

pub plain_gate : (p : Wiring) → Formed p → (r : ℕ → Option ℕ) (k : ℕ) → is_input p k ≡ false → plain p r k ≡ meant (p.meaning k) (all_of (plain p r) (p.reads k))
plain_gate p f r k e =
    cond-false (is_input p k) _ _ e
    ∙ ap (meant (p.meaning k)) (all_of_same (plain_below p r k) (plain p r) k (p.reads k) (f.lower k) (λ j h. below_same p f r k (suc j) j h (omega arith)))

-- readings that were put stay
abbrev pub Grows : (ℕ → Option ℕ) → (ℕ → Option ℕ) → Type 0
Grows r s = (k v : ℕ) → r k ≡ Some v → s k ≡ Some v

below_grows : (p : Wiring) (r s : ℕ → Option ℕ) → Grows r s → (n k v : ℕ) → plain_below p r n k ≡ Some v → plain_below p s n k ≡ Some v
below_grows p r s g zero k v e = absurd (none_some v e)
below_grows p r s g (suc n) k v e =
    ⊎_elim
    (λ t. cond-true (is_input p k) _ _ t ∙ g k v (sym (cond-true (is_input p k) _ _ t) ∙ e))
    (λ t.
    let x = meant_some (p.meaning k) (all_of (plain_below p r n) (p.reads k)) v (sym (cond-false (is_input p k) _ _ t) ∙ e) in
    let y = all_of_grows (plain_below p r n) (plain_below p s n) (p.reads k) (λ j u. below_grows p r s g n j u) x.0 x.1 in
    cond-false (is_input p k) _ _ t ∙ ap (meant (p.meaning k)) y ∙ ap Some x.2)
    (cases_Bool (is_input p k))

-- a plain value never changes once it is defined
pub plain_grows : (p : Wiring) (r s : ℕ → Option ℕ) → Grows r s → (k v : ℕ) → plain p r k ≡ Some v → plain p s k ≡ Some v
plain_grows p r s g k v e = below_grows p r s g (suc k) k v e

abbrev pub InRange : Wiring → (ℕ → Option ℕ) → Type 0
InRange p r = (k v : ℕ) → r k ≡ Some v → (p.group k).within v ≡ true

pub gate_from : (p : Wiring) (k : ℕ) → is_input p k ≡ false → k < wires p → is_gate p k ≡ true
gate_from p k e h = and_from (leb p.inputs k) (ltb k (wires p)) (le-leb _ _ (ltb-false _ _ e)) (lt-ltb _ _ h)

below_within : (p : Wiring) → Formed p → (r : ℕ → Option ℕ) → InRange p r → (n k v : ℕ) → k < wires p → plain_below p r n k ≡ Some v → (p.group k).within v ≡ true
below_within p f r g zero k v h e = absurd (none_some v e)
below_within p f r g (suc n) k v h e =
    ⊎_elim
    (λ t. g k v (sym (cond-true (is_input p k) _ _ t) ∙ e))
    (λ t.
    let x = meant_some (p.meaning k) (all_of (plain_below p r n) (p.reads k)) v (sym (cond-false (is_input p k) _ _ t) ∙ e) in
    let y = all_of_within p (plain_below p r n) k (p.reads k) (f.lower k) (λ j u q z. below_within p f r g n j u (omega arith) z) x.0 x.1 in
    subst (λ (w : ℕ). (p.group k).within w ≡ true) x.2 (f.means k x.0 (gate_from p k t h) y))
    (cases_Bool (is_input p k))

pub plain_within : (p : Wiring) → Formed p → (r : ℕ → Option ℕ) → InRange p r → (k v : ℕ) → k < wires p → plain p r k ≡ Some v → (p.group k).within v ≡ true
plain_within p f r g k v h e = below_within p f r g (suc k) k v h e

-- the plain values that a gate reads are values of their kinds
pub reads_within : (p : Wiring) → Formed p → (r : ℕ → Option ℕ) → InRange p r → (k : ℕ) → k < wires p → (vs : List ℕ) → all_of (plain p r) (p.reads k) ≡ Some vs → AllWithin p (p.reads k) vs
reads_within p f r g k h vs e = all_of_within p (plain p r) k (p.reads k) (f.lower k) (λ j u q z. plain_within p f r g j u (omega arith) z) vs e
