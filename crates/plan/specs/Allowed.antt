-- A plan that passed the questions 1 to 5.
use Rattle.std.specs.Prelude.{◌≡◌, ◌≤◌, true, length}
use Rattle.plan.specs.Plans.{Planned}
use Rattle.plan.specs.Questions.{owners_fit, reads_fit_from, all_fields_fit}

pub record Allowed (p : Planned) : Type 0 where
  pub least : 1 ≤ p.width
  pub most : p.width ≤ 32
  pub some_inputs : 1 ≤ length p.owners
  pub inputs : length p.owners ≤ 16
  pub some_gates : 1 ≤ length p.rows
  pub gates : length p.rows ≤ 32
  pub owners : owners_fit p.owners ≡ true
  pub reads : reads_fit_from p (length p.owners) p.rows ≡ true
  pub fields : all_fields_fit p.width p.rows ≡ true
