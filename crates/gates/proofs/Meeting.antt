-- From two dealt keys to answers that join.
use Rattle.std.proofs.Common.{◌≡◌, ℕ, ◌^◌, ◌<◌, Bool, true, false, cond, List, map, sym, ap, ◌∙◌}
use Rattle.group.specs.Groups.{OutputGroup}
use Rattle.expander.specs.Meaning.{Expansion}
use Rattle.expander.specs.declared.Seed.{Seed}
use Rattle.key.specs.declared.Row.{Row}
use Rattle.key.specs.declared.BoxNumber.{BoxNumber}
use Rattle.key.specs.Rows.{row_mean, is_one}
use Rattle.evaluation.specs.Evaluation.{evaluated}
use Rattle.joining.specs.Joining.{AllWide, dealt_answer}
use Rattle.joining.proofs.Same.{same_evaluated}
use Rattle.joining.proofs.Meeting.{joins}
use Rattle.masking.specs.Masking.{size}
use Rattle.interval.specs.Interval.{threshold, answer, KeysJoin}
use Rattle.shares.specs.Keyed as keyed
use Rattle.gatekeys.specs.declared.ranges.Interval.{Interval}
use Rattle.gates.specs.declared.interval_key.IntervalKey.{IntervalKey}
use Rattle.gates.specs.declared.interval_key.IntervalDraws.{IntervalDraws}
use Rattle.gates.specs.Interval.{interval_key_mean, interval_answer, dealt_interval, interval_rows}

-- two boxes' keys for one threshold, dealt by d, answer as the comparison says
pub dealt_keys_join : {M : Type 0} (g : OutputGroup M) (d x y : Expansion) (n α : ℕ) (β : M) (root0 root1 : Seed)
    → AllWide d → d ≡ x → d ≡ y → α < 2 ^ n
    → KeysJoin g (2 ^ n) α β (dealt_answer g d x n α β root0 root1 false root0) (dealt_answer g d y n α β root0 root1 true root1)
dealt_keys_join g d x y n α β root0 root1 wide ex ey hα m hm =
    ap (λ z. g.sum (dealt_answer g d z n α β root0 root1 false root0 m) (dealt_answer g d y n α β root0 root1 true root1 m)) (sym ex)
    ∙ ap (λ z. g.sum (dealt_answer g d d n α β root0 root1 false root0 m) (dealt_answer g d z n α β root0 root1 true root1 m)) (sym ey)
    ∙ joins d g β α m wide n root0 root1 hm hα

module _ {G M : Type 0} (g : OutputGroup M) (mean : G → M) (d : Expansion) (i : Interval) (r : ℕ) (β : M) (dr : IntervalDraws M) where
  abbrev N : ℕ
  N = size i.width

  abbrev n : ℕ
  n = i.width.bits

  -- the box's own root
  abbrev own : Bool → Seed
  own one = cond one dr.roots.one dr.roots.zero

  -- a box's answer from its dealt key is the defined one
  pub answer_dealt : (x : Expansion) (b : BoxNumber) (k : IntervalKey G) (rows : List (Row G)) (out m : ℕ)
      → interval_key_mean mean k ≡ dealt_interval d g b i r β dr out n
      → map (row_mean mean) rows ≡ interval_rows d g i r β dr n
      → interval_answer x g mean k rows m
      ≡ keyed.interval_answer g (is_one b) N m r i.low i.high β dr.payload1 dr.extra1
      (dealt_answer g d x n (threshold N r) β dr.roots.zero dr.roots.one (is_one b) (own (is_one b)))
  answer_dealt x b k rows out m hk hr =
      let at : IntervalKey M → (ℕ → M) → M = λ j f.
      answer g (size j.interval.width) m j.interval.low j.interval.high j.parts.payload j.parts.extra f in
      let walk : IntervalKey M → List (Row M) → ℕ → M = λ j rs p. evaluated x g (λ (v : M). v) (is_one j.number) j.parts.ends.root rs j.parts.ends.last p in
      ap (at (interval_key_mean mean k)) (λ t p. same_evaluated x g mean (is_one k.number) k.parts.ends.root rows k.parts.ends.last p t)
      ∙ ap (λ rs. at (interval_key_mean mean k) (walk (interval_key_mean mean k) rs)) hr
      ∙ ap (λ j. at j (walk j (interval_rows d g i r β dr n))) hk
