-- What is dealt from an equal threshold, payload and roots.
use Rattle.std.proofs.Common.{◌≡◌, ℕ}
use Rattle.expander.specs.Meaning.{Expansion}
use Rattle.group.specs.Groups.{OutputGroup}
use Rattle.key.specs.declared.BoxNumber.{BoxNumber}
use Rattle.key.specs.declared.Roots.{Roots}
use Rattle.key.specs.declared.KeyEnds.{KeyEnds}
use Rattle.gatekeys.specs.declared.ranges.Shift.{Shift}
use Rattle.gates.specs.declared.shift.ShiftKey.{ShiftKey}
use Rattle.dealing.specs.Dealing.{start, dealt_rows}
use Rattle.gates.specs.Interval.{dealt_ends}

module _ {M : Type 0} (x : Expansion) (g : OutputGroup M) {α α' : ℕ} {β β' : M} {roots roots' : Roots}
    (hα : α ≡ α') (hβ : β ≡ β') (hr : roots ≡ roots') (n : ℕ) where
  pub same_ends : (b : BoxNumber) → dealt_ends x g b α β roots n ≡ dealt_ends x g b α' β' roots' n
  same_ends b = cc

  pub same_rows : dealt_rows x g β α n (start g roots.zero roots.one) ≡ dealt_rows x g β' α' n (start g roots'.zero roots'.one)
  same_rows = cc

-- a shift's key, part by part
pub same_key : {M : Type 0} {b : BoxNumber} {s : Shift} {low low' high high' : KeyEnds M} {rest rest' : ℕ}
    → low ≡ low' → high ≡ high' → rest ≡ rest'
    → (let k : ShiftKey M = record { number = b; shift = s; parts = record { low = low; high = high; rest = rest } } in k)
    ≡ (let k : ShiftKey M = record { number = b; shift = s; parts = record { low = low'; high = high'; rest = rest' } } in k)
same_key hl hh hr = cc
