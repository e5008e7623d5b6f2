-- Two boxes' shares of a gate on an interval, from their dealt keys.
use Rattle.std.proofs.Common.{◌≡◌, ℕ, ◌+◌, ◌-◌, ◌^◌, ◌<◌, Bool, true, false, List, map, ap, ◌∙◌, mod-lt, pow_pos}
use Rattle.expander.specs.Meaning.{Expansion}
use Rattle.group.specs.Groups.{OutputGroup}
use Rattle.key.specs.declared.Row.{Row}
use Rattle.key.specs.declared.BoxNumber.{BoxNumber}
use Rattle.key.specs.declared.BoxNumber.TheVariants.{Zero, One}
use Rattle.key.specs.Rows.{row_mean, is_one}
use Rattle.joining.specs.Joining.{AllWide}
use Rattle.masking.specs.Masking.{size}
use Rattle.interval.specs.Interval.{threshold}
use Rattle.shares.specs.Keyed as keyed
use Rattle.gates.specs.declared.interval_key.IntervalKey.{IntervalKey}
use Rattle.gates.specs.declared.interval_key.IntervalDeal.{IntervalDeal}
use Rattle.gates.specs.Interval.{interval_key_mean, deal_mean, interval_answer, key_of, rows_of}
use Rattle.gates.specs.Interval.{key_dealt, share_from, IntervalLaws}
use Rattle.gates.proofs.Meeting.{dealt_keys_join, answer_dealt}

-- three numbers, one by one
pub three_alike : {a a' b b' c c' : ℕ} → a ≡ a' → b ≡ b' → c ≡ c'
    → (let t : ℕ × ℕ × ℕ = (a, b, c) in t) ≡ (let t : ℕ × ℕ × ℕ = (a', b', c') in t)
three_alike ha hb hc = cc

-- a key as it is dealt by y, its rows, and a box's share at the held value m, where the box's expansion is x
pub record Share {G M : Type 0} (g : OutputGroup M) (mean : G → M) (share : ℕ → ℕ → G → ℕ → ℕ) (d : IntervalDeal G) (y x : Expansion)
    (b : BoxNumber) (out m own : ℕ) : Type 0 where
  pub key : IntervalKey G
  pub rows : List (Row G)
  pub key_is : interval_key_mean mean key ≡ key_of y g mean d b out d.interval.width.bits
  pub rows_are : map (row_mean mean) rows ≡ rows_of y g mean d d.interval.width.bits
  pub answer : (a : G) × (mean a ≡ interval_answer x g mean key rows m) × (own ≡ share (size key.interval.width) m a key.parts.out)

module _ {T G M : Type 0} {g : OutputGroup M} {mean : G → M} {together : ℕ → ℕ → ℕ → ℕ} {share : ℕ → ℕ → G → ℕ → ℕ}
    {deal : T → IntervalDeal G} {out : T → Bool → ℕ} {allowed : T → Type 0}
    {numbers : Expansion → Expansion → Expansion → T → ℕ → ℕ × ℕ × ℕ} {held : T → ℕ → ℕ}
    (laws : IntervalLaws g mean together share deal out allowed numbers held) (t : T) where
  abbrev d : IntervalDeal M
  d = deal_mean mean (deal t)

  abbrev N : ℕ
  N = size d.interval.width

  -- a box's share from its dealt key is the defined one
  share_is : {y x : Expansion} {b : BoxNumber} {m own : ℕ} → Share g mean share (deal t) y x b (out t (is_one b)) m own
      → own ≡ share_from g d laws.share_of (is_one b) (out t (is_one b)) (key_dealt g d y x (is_one b)) m
  share_is {y} {x} {b} {m} {own} s =
      let k = s.key in
      let a = s.answer in
      let q : M = keyed.interval_answer g (is_one b) N m d.mask d.interval.low d.interval.high d.payload d.draws.payload1 d.draws.extra1
      (key_dealt g d y x (is_one b)) in
      let f : IntervalKey M → M → ℕ = λ j v. laws.share_of (size j.interval.width) m v j.parts.out in
      a.2 ∙ laws.share_is (size k.interval.width) m a.0 k.parts.out
      ∙ ap (f (interval_key_mean mean k))
      (a.1 ∙ answer_dealt g mean y d.interval d.mask d.payload d.draws x b k s.rows (out t (is_one b)) m s.key_is s.rows_are)
      ∙ ap (λ j. f j q) s.key_is

  module _ {y x0 x1 : Expansion} {m own0 own1 joined : ℕ}
      (share0 : Share g mean share (deal t) y x0 Zero (out t false) m own0)
      (share1 : Share g mean share (deal t) y x1 One (out t true) m own1)
      (join : joined ≡ together N own0 own1) where
    abbrev three : ℕ → ℕ → ℕ → ℕ × ℕ × ℕ
    three a b c = (a, b, c)

    -- both boxes' shares and their join are the defined ones
    pub numbers_are : three own0 own1 joined ≡ numbers y x0 x1 t m
    numbers_are =
        let s0 = share_is share0 in
        let s1 = share_is share1 in
        let defined = laws.numbers_are y x0 x1 t m in
        cc

    -- the join is the plain meaning under the output mask
    pub held_is : AllWide y → y ≡ x0 → y ≡ x1 → allowed t → d.mask < 2 ^ d.interval.width.bits → m < 2 ^ d.interval.width.bits
        → joined ≡ held t m
    held_is wide e0 e1 fits hr hm =
        let keys = dealt_keys_join g y x0 x1 d.interval.width.bits (threshold N d.mask) d.payload d.draws.roots.zero d.draws.roots.one wide e0 e1
        (mod-lt (d.mask + (N - 1)) (pow_pos d.interval.width.bits)) in
        let s0 = share_is share0 in
        let s1 = share_is share1 in
        let met = laws.joins t m (key_dealt g d y x0 false) (key_dealt g d y x1 true) fits hr hm keys in
        cc
