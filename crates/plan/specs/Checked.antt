-- What asking about a plan answers.
use Rattle.std.specs.Prelude.{Ok, Err, Result}
use Rattle.refusal.specs.declared.Refusal.{Refusal}
use Rattle.plan.specs.declared.checked.CheckedPlan.{CheckedPlan}
use Rattle.plan.specs.Plans.{Planned, stated}

abbrev pub checked_answer : Result CheckedPlan Refusal → Result Planned Refusal
checked_answer (Ok c) = Ok (stated c.plan)
checked_answer (Err e) = Err e
