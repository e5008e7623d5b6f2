-- A box's key for an interval, and what it answers.
use Rattle.std.specs.Prelude.{◌≡◌, ℕ, ◌+◌, ◌^◌, ◌<◌, Bool, true, false, cond, List, slice_index}
use Rattle.group.specs.Groups.{OutputGroup}
use Rattle.expander.specs.Meaning.{Expansion}
use Rattle.expander.specs.declared.Seed.{Seed}
use Rattle.key.specs.declared.Row.{Row}
use Rattle.key.specs.declared.BoxNumber.{BoxNumber}
use Rattle.key.specs.declared.KeyEnds.{KeyEnds}
use Rattle.key.specs.declared.Roots.{Roots}
use Rattle.key.specs.Rows.{is_one}
use Rattle.evaluation.specs.Evaluation.{evaluated}
use Rattle.dealing.specs.Dealing.{start, dealt_rows, dealt_last}
use Rattle.joining.specs.Joining.{dealt_answer}
use Rattle.masking.specs.Masking.{size}
use Rattle.interval.specs.Interval.{threshold, extra, answer, KeysJoin}
use Rattle.shares.specs.Splits.{part_of_element}
use Rattle.shares.specs.Keyed as keyed
use Rattle.gatekeys.specs.declared.ranges.Interval.{Interval}
use Rattle.gatekeys.specs.Random.{root_of}
use Rattle.gates.specs.declared.interval_key.IntervalKey.{IntervalKey}
use Rattle.gates.specs.declared.interval_key.IntervalDraws.{IntervalDraws}
use Rattle.gates.specs.declared.interval_key.IntervalDeal.{IntervalDeal}
use Rattle.gates.specs.declared.states.Fresh.{Fresh}
use Rattle.keyform.specs.declared.gate_keys.IntervalParts.{IntervalParts}

-- both roots in four random words from word i on, box 0's first
abbrev pub roots_at : List ℕ → ℕ → Roots
roots_at w i = record {
  zero = root_of (slice_index w i) (slice_index w (i + 1));
  one = root_of (slice_index w (i + 2)) (slice_index w (i + 3));
}

-- a comparison key's ends, a key's parts, and a key, by what their elements mean
abbrev pub ends_mean : {G M : Type 0} → (G → M) → KeyEnds G → KeyEnds M
ends_mean mean e = record { root = e.root; last = mean e.last }

abbrev pub parts_mean : {G M : Type 0} → (G → M) → IntervalParts G → IntervalParts M
parts_mean mean p = record {
  ends = ends_mean mean p.ends;
  payload = mean p.payload;
  extra = mean p.extra;
  out = p.out;
}

abbrev pub interval_key_mean : {G M : Type 0} → (G → M) → IntervalKey G → IntervalKey M
interval_key_mean mean k = record {
  number = k.number;
  interval = k.interval;
  parts = parts_mean mean k.parts;
}

abbrev pub fresh_mean : {G M : Type 0} → (G → M) → Fresh (IntervalKey G) → IntervalKey M
fresh_mean mean f = interval_key_mean mean f.key

abbrev pub draws_mean : {G M : Type 0} → (G → M) → IntervalDraws G → IntervalDraws M
draws_mean mean d = record { roots = d.roots; payload1 = mean d.payload1; extra1 = mean d.extra1 }

abbrev pub deal_mean : {G M : Type 0} → (G → M) → IntervalDeal G → IntervalDeal M
deal_mean mean d = record { interval = d.interval; mask = d.mask; payload = mean d.payload; draws = draws_mean mean d.draws }

module _ {G M : Type 0} (x : Expansion) (g : OutputGroup M) (mean : G → M) where
  -- the comparison key's answer at a point
  abbrev pub key_at : IntervalKey G → List (Row G) → ℕ → M
  key_at k rows m = evaluated x g mean (is_one k.number) k.parts.ends.root rows k.parts.ends.last m

  -- the interval rule's answer at the held value m
  abbrev pub interval_answer : IntervalKey G → List (Row G) → ℕ → M
  interval_answer k rows m =
      answer g (size k.interval.width) m k.interval.low k.interval.high (mean k.parts.payload) (mean k.parts.extra) (key_at k rows)

module _ {M : Type 0} (x : Expansion) (g : OutputGroup M) where
  -- the ends that a box is dealt of a comparison key with n rows
  abbrev pub dealt_ends : BoxNumber → ℕ → M → Roots → ℕ → KeyEnds M
  dealt_ends b α β roots n = record {
    root = cond (is_one b) roots.one roots.zero;
    last = dealt_last x g β α n (start g roots.zero roots.one);
  }

  -- the rows that are dealt, n of them, for the mask r
  abbrev pub interval_rows : Interval → ℕ → M → IntervalDraws M → ℕ → List (Row M)
  interval_rows i r β d n = dealt_rows x g β (threshold (size i.width) r) n (start g d.roots.zero d.roots.one)

  -- a box's key: the payload and E are split between the boxes
  abbrev pub dealt_interval : BoxNumber → Interval → ℕ → M → IntervalDraws M → ℕ → ℕ → IntervalKey M
  dealt_interval b i r β d out n =
      let N : ℕ = size i.width in
      record {
        number = b;
        interval = i;
        parts = record {
          ends = dealt_ends b (threshold N r) β d.roots n;
          payload = part_of_element g (is_one b) β d.payload1;
          extra = part_of_element g (is_one b) (extra g N r i.low i.high β) d.extra1;
          out = out;
        };
      }

-- what is dealt of a gate in memory: a box's key, where the table has n rows, and the rows
module _ {G M : Type 0} (x : Expansion) (g : OutputGroup M) (mean : G → M) (d : IntervalDeal G) where
  abbrev pub key_of : BoxNumber → ℕ → ℕ → IntervalKey M
  key_of b out n = dealt_interval x g b d.interval d.mask (mean d.payload) (draws_mean mean d.draws) out n

  abbrev pub rows_of : ℕ → List (Row M)
  rows_of n = interval_rows x g d.interval d.mask (mean d.payload) (draws_mean mean d.draws) n

module _ {M : Type 0} (g : OutputGroup M) (d : IntervalDeal M) where
  -- the answers of the comparison key that a dealer deals: the dealer's expansion is y, the box's is x
  abbrev pub key_dealt : Expansion → Expansion → Bool → ℕ → M
  key_dealt y x one =
      let a : Seed = d.draws.roots.zero in
      let b : Seed = d.draws.roots.one in
      dealt_answer g y x d.interval.width.bits (threshold (size d.interval.width) d.mask) d.payload a b one (cond one b a)

  module _ (share : ℕ → ℕ → M → ℕ → ℕ) where
    -- a box's share at the held value m is made of its answer, which comes of its comparison key's answers
    abbrev pub share_from : Bool → ℕ → (ℕ → M) → ℕ → ℕ
    share_from one out key m =
        let N : ℕ = size d.interval.width in
        share N m (keyed.interval_answer g one N m d.mask d.interval.low d.interval.high d.payload d.draws.payload1 d.draws.extra1 key) out

    -- both boxes' shares, and what they join to
    abbrev pub numbers_dealt : (ℕ → ℕ → ℕ → ℕ) → Expansion → Expansion → Expansion → (Bool → ℕ) → ℕ → ℕ × ℕ × ℕ
    numbers_dealt together y x0 x1 out m =
        let s0 : ℕ = share_from false (out false) (key_dealt y x0 false) m in
        let s1 : ℕ = share_from true (out true) (key_dealt y x1 true) m in
        (s0, s1, together (size d.interval.width) s0 s1)

-- the laws of a gate on an interval
pub record IntervalLaws {T G M : Type 0} (g : OutputGroup M) (mean : G → M) (together : ℕ → ℕ → ℕ → ℕ) (share : ℕ → ℕ → G → ℕ → ℕ)
    (deal : T → IntervalDeal G) (out : T → Bool → ℕ) (allowed : T → Type 0)
    (numbers : Expansion → Expansion → Expansion → T → ℕ → ℕ × ℕ × ℕ) (held : T → ℕ → ℕ) : Type 0 where
  -- a share depends on what the answer means
  pub share_of : ℕ → ℕ → M → ℕ → ℕ
  pub share_is : (N m : ℕ) (a : G) (o : ℕ) → share N m a o ≡ share_of N m (mean a) o
  -- the numbers are those of the dealt keys
  pub numbers_are : (y x0 x1 : Expansion) (t : T) (m : ℕ)
      → numbers y x0 x1 t m ≡ numbers_dealt g (deal_mean mean (deal t)) share_of together y x0 x1 (out t) m
  -- both boxes' shares join to the held value, where their keys join as the comparison says
  pub joins : (t : T) (m : ℕ) (key0 key1 : ℕ → M) → allowed t
      → (deal t).mask < 2 ^ (deal t).interval.width.bits → m < 2 ^ (deal t).interval.width.bits
      → KeysJoin g (size (deal t).interval.width) (threshold (size (deal t).interval.width) (deal t).mask) (mean (deal t).payload) key0 key1
      → together (size (deal t).interval.width) (share_from g (deal_mean mean (deal t)) share_of false (out t false) key0 m)
      (share_from g (deal_mean mean (deal t)) share_of true (out t true) key1 m)
      ≡ held t m
