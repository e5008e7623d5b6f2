-- Real gates, dealt by the dealer, are what the laws over runs speak of.
use Rattle.std.specs.Prelude.{◌≡◌, ℕ, ◌^◌, ◌<◌, List, Ok}
use Rattle.refusal.specs.Questions.{answered}
use Rattle.expander.specs.Meaning.{Expansion}
use Rattle.joining.specs.Joining.{AllWide}
use Rattle.plan.specs.Plans.{Planned}
use Rattle.plan.specs.Questions.{plan_asks}
use Rattle.runs.specs.Plans.{Formed, Dealt}
use Rattle.sharing.specs.Wirings.{wiring_of, deal_of}

-- a plan that passes the questions is well formed
abbrev pub PlansAreFormed : Type 0
PlansAreFormed = (p : Planned) (b words : ℕ) → answered (plan_asks p b words) (tt {0}) ≡ Ok (tt {0}) → Formed (wiring_of p)

-- and where dealer and boxes have one meaning and kind, local gates keep 'held is plain plus mask', and the shares of every keyed
-- gate join to its plain meaning plus the mask
abbrev pub DealsFit : Type 0
DealsFit =
    (d x y : Expansion) → AllWide d → d ≡ x → d ≡ y
    → (p : Planned) (b number : ℕ) (words : List ℕ) (count : ℕ) → answered (plan_asks p b count) (tt {0}) ≡ Ok (tt {0}) → number < 2 ^ 32
    → Dealt (wiring_of p) (deal_of d x y p number words)
