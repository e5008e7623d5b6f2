-- Tables before they are dealt.
use Rattle.std.specs.Prelude.{false, replicate}
use Rattle.group.specs.Groups.{OutputGroup}
use Rattle.key.specs.declared.Row.{Row}

-- a row of zeros
abbrev pub blank_row : {M : Type 0} → OutputGroup M → Row M
blank_row g = record { word = record { bytes = replicate 16 0 }; left = false; right = false; element = g.zero }
