use Rattle.std.proofs.Common.{◌≡◌, [], sym, ap, inl, inr}
use Rattle.gatebytes.specs.Heads.{parameters}
use Rattle.gatebytes.proofs.Heads.{nothing}
use Rattle.gatebytes.proofs.put_parameters.Goals as goal

pub returns-in-Sum : goal.returns-in-Sum
returns-in-Sum c =
    let none : [] ≡ parameters c.args.body =
    elim c.in-Sum.is [
      | inl s ↦ ap parameters (sym s.2)
      | inr r ↦ elim r [ inl s ↦ ap parameters (sym s.2) | inr x ↦ ap parameters (sym x.2) ]
    ] in
    nothing c.args.writer.now (parameters c.args.body) none c.requires
