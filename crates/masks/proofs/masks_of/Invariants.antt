use Rattle.std.proofs.Common.{◌≡◌, drop}
use Rattle.plan.specs.Plans.{stated, words_before}
use Rattle.masks.specs.Masks.{masks_below}
use Rattle.masks.proofs.masks_of.Given as goal

abbrev pub invariant-loop-k : goal.invariant-loop-k
invariant-loop-k l =
    let p = stated l.plan in (l.masks ≡ masks_below p l.words l.k) × (l.left ≡ drop (words_before p l.k) l.words)
