-- The questions as the code asks them are the questions of the rules.
use Rattle.std.proofs.Common.{◌≡◌, ℕ, Bool, true, false, ◌&&◌, eqb, leb, List, [], ◌∷◌, Ok, Err, sym, refl, ap, ◌∙◌}
use Rattle.std.specs.List.{list_all}
use Rattle.std.proofs.lemmas.Bool.{eqb-true}
use Rattle.refusal.specs.declared.Refusal.{Refusal}
use Rattle.refusal.specs.declared.Refusal.TheVariants.{KeyWidth, KeyRange, KeyRows, KeyWords}
use Rattle.refusal.specs.Questions.{answered}
use Rattle.refusal.proofs.Answered.{refused_alike, answered_alike, first_yes, rest_yes}
use Rattle.comparison.specs.Questions.{is_in_range, asks_for, asked_all, compare_asks}

-- b, r and k are what the code worked out for the rules' own b', r' and k'
module _ (w : ℕ) {b b' : Bool} {r r' k k' : ℕ} (fits : b ≡ b') (rows : r ≡ r') (words : k ≡ k') where
  same : asks_for w b r k ≡ asks_for w b' r' k'
  same = ap (λ f. asks_for w f r k) fits ∙ ap (λ n. asks_for w b' n k) rows ∙ ap (asks_for w b' r') words

  pub refused : {Y : Type 0} (y : Y) (e : Refusal) → Err e ≡ asked_all w b r k → answered (asks_for w b' r' k') y ≡ Err e
  refused y e h = ap (λ q. answered q y) (sym same) ∙ refused_alike (asks_for w b r k) tt y e (sym h)

  pub accepted : {Y : Type 0} (u : Unit {0}) (y : Y) → Ok u ≡ asked_all w b r k → answered (asks_for w b' r' k') y ≡ Ok y
  accepted u y h = ap (λ q. answered q y) (sym same) ∙ answered_alike (asks_for w b r k) tt u y (sym h)

-- what is known once the questions were answered yes
module _ (w : ℕ) (b : Bool) (r k : ℕ) {Y : Type 0} (y z : Y) (h : answered (asks_for w b r k) y ≡ Ok z) where
  abbrev last_ask : List (Bool × Refusal)
  last_ask = (leb k 8, KeyWords) ∷ []

  abbrev later_asks : List (Bool × Refusal)
  later_asks = (eqb r w, KeyRows) ∷ last_ask

  after_width : answered ((b, KeyRange) ∷ later_asks) y ≡ Ok z
  after_width = rest_yes (leb 1 w && leb w 32) KeyWidth ((b, KeyRange) ∷ later_asks) y z h

  pub fits_yes : b ≡ true
  fits_yes = first_yes b KeyRange later_asks y z after_width

  pub rows_yes : r ≡ w
  rows_yes = eqb-true r w (first_yes (eqb r w) KeyRows last_ask y z (rest_yes b KeyRange later_asks y z after_width))

both : (a b : Bool) → a && (b && true) ≡ a && b
both true true = refl
both true false = refl
both false b = refl

-- of a threshold and a point
module _ (w α m r k : ℕ) (h : Ok (tt {0}) ≡ asked_all w (list_all (is_in_range w) (α ∷ m ∷ [])) r k) where
  abbrev in_range : Bool
  in_range = is_in_range w α && is_in_range w m

  pub compare_accepted : {Y : Type 0} (y : Y) → answered (compare_asks w α m r k) y ≡ Ok y
  compare_accepted y = accepted w (both (is_in_range w α) (is_in_range w m)) refl refl tt y h

  pub compare_fits : in_range ≡ true
  compare_fits = fits_yes w in_range r k tt tt (compare_accepted (tt {0}))

  pub compare_rows : r ≡ w
  compare_rows = rows_yes w in_range r k tt tt (compare_accepted (tt {0}))
