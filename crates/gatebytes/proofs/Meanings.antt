-- The bytes of a gate key in memory are the bytes of what the key means.
use Rattle.std.proofs.Common.{◌≡◌, ℕ, List, ◌++◌, map, Ok, Result, sym, ap, ◌∙◌, subst}
use Rattle.stored.specs.Forms.{four_bytes}
use Rattle.key.specs.declared.Row.{Row}
use Rattle.key.specs.Rows.{row_mean}
use Rattle.refusal.specs.declared.Refusal.{Refusal}
use Rattle.refusal.specs.Questions.{answered}
use Rattle.comparison.specs.Comparison.{answer_mean, RowsAfter}
use Rattle.gatekeys.specs.declared.ranges.Shift.{Shift}
use Rattle.gates.specs.declared.states.Fresh.{Fresh}
use Rattle.gates.specs.declared.interval_key.IntervalKey.{IntervalKey}
use Rattle.gates.specs.declared.shift.ShiftKey.{ShiftKey}
use Rattle.gates.specs.Interval.{interval_key_mean, fresh_mean}
use Rattle.gates.specs.Shift.{shift_key_mean, fresh_shift_mean}
use Rattle.gates.specs.Questions.{row_asks}
use Rattle.gates.specs.ShiftQuestions.{shift_row_asks}
use Rattle.keyform.proofs.Meanings.{key_means}
use Rattle.layout.specs.Wires.{interval_bytes}
use Rattle.keyform.specs.declared.gate_keys.IntervalParts.{IntervalParts}
use Rattle.keyform.specs.declared.gate_keys.ShiftParts.{ShiftParts}
use Rattle.keyform.specs.GateKeys.{interval_key, low_key, high_key, two_keys_bytes}
use Rattle.gatebytes.specs.Keyed.{interval_key_bytes, shift_key_bytes}
use Rattle.gatebytes.proofs.Asked.{said, rows_yes, shift_rows_yes}

-- the bytes that are written of a key's parts and rows
abbrev pub parts_bytes : {G : Type 0} → (G → List ℕ) → IntervalParts G → List (Row G) → List ℕ
parts_bytes form p rows = interval_bytes form (interval_key rows p) p.payload p.extra p.out

abbrev pub shift_parts_bytes : {G : Type 0} → (G → List ℕ) → ShiftParts G → List (Row G) → List (Row G) → List ℕ
shift_parts_bytes form p low high = two_keys_bytes form (low_key low p) (high_key high p) p.rest

module _ {G M : Type 0} (form : G → List ℕ) (stored : M → List ℕ) (mean : G → M) (same : (e : G) → form e ≡ stored (mean e)) where
  interval_means : (key : IntervalKey G) (rows : List (Row G))
      → parts_bytes form key.parts rows ≡ interval_key_bytes stored (interval_key_mean mean key) (map (row_mean mean) rows)
  unfolding interval_key_bytes
  interval_means key rows =
      let c = key_means form stored mean same key.parts.ends.root rows key.parts.ends.last in
      λ i. c i ++ (same key.parts.payload i ++ (same key.parts.extra i ++ four_bytes key.parts.out))

  -- a key that is dealt as k with the rows rs, and whose rows are read as `slice`
  pub interval_dealt : (r : Result (Fresh (IntervalKey G)) Refusal) (key : Fresh (IntervalKey G)) (p : IntervalParts G)
      (slice before rows : List (Row G)) (long n : ℕ) (k : IntervalKey M) (rs : List (Row M))
      → r ≡ Ok key → long ≡ n → answer_mean (fresh_mean mean) r ≡ answered (row_asks long n) k
      → RowsAfter mean r before rows rs → p ≡ key.key.parts → slice ≡ rows
      → parts_bytes form p slice ≡ interval_key_bytes stored k rs
  interval_dealt r key p slice before rows long n k rs u e d a q s =
      let is = said (fresh_mean mean key) k _ (ap (answer_mean (fresh_mean mean)) (sym u) ∙ d) (rows_yes long n k e) in
      let m = subst (λ t. RowsAfter mean t before rows rs) u a in
      ap (λ v. parts_bytes form v slice) q
      ∙ interval_means key.key slice ∙ (λ i. interval_key_bytes stored (is i) ((ap (map (row_mean mean)) s ∙ m) i))

  shift_means : (key : ShiftKey G) (low high : List (Row G))
      → shift_parts_bytes form key.parts low high ≡ shift_key_bytes stored (shift_key_mean mean key) (map (row_mean mean) low) (map (row_mean mean) high)
  unfolding shift_key_bytes
  shift_means key low high =
      let a = key_means form stored mean same key.parts.low.root low key.parts.low.last in
      let b = key_means form stored mean same key.parts.high.root high key.parts.high.last in
      λ i. a i ++ (b i ++ four_bytes key.parts.rest)

  pub shift_dealt : (s : Shift) (r : Result (Fresh (ShiftKey G)) Refusal) (key : Fresh (ShiftKey G)) (p : ShiftParts G)
      (low low0 low1 high high0 high1 : List (Row G)) (l h : ℕ) (k : ShiftKey M) (ls hs : List (Row M))
      → r ≡ Ok key → l ≡ s.by → h ≡ s.width.bits
      → answer_mean (fresh_shift_mean mean) r ≡ answered (shift_row_asks s l h) k → p ≡ key.key.parts
      → RowsAfter mean r low0 low1 ls → low ≡ low1 → RowsAfter mean r high0 high1 hs → high ≡ high1
      → shift_parts_bytes form p low high ≡ shift_key_bytes stored k ls hs
  shift_dealt s r key p low low0 low1 high high0 high1 l h k ls hs u e f d q al sl ah sh =
      let o = ap (answer_mean (fresh_shift_mean mean)) (sym u) ∙ d in
      let is = said (fresh_shift_mean mean key) k _ o (shift_rows_yes s l h k e f) in
      let ml = subst (λ t. RowsAfter mean t low0 low1 ls) u al in
      let mh = subst (λ t. RowsAfter mean t high0 high1 hs) u ah in
      ap (λ v. shift_parts_bytes form v low high) q
      ∙ shift_means key.key low high
      ∙ (λ i. shift_key_bytes stored (is i) ((ap (map (row_mean mean)) sl ∙ ml) i) ((ap (map (row_mean mean)) sh ∙ mh) i))
