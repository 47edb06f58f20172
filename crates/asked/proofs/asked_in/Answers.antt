use Rattle.std.proofs.Common.{List, ℕ, ap, sym, ◌∙◌, subst}
use Rattle.definitions.specs.Problem.Asked.{asked}
use Rattle.theorems.proofs.Accepted.{Formed}
use Rattle.theorems.proofs.Asked.Formed.{asked_formed}
use Rattle.asked.proofs.Asking.{itself}
use Rattle.asked.proofs.asked_in.Goals as goal

pub returns-in-Part : goal.returns-in-Part
returns-in-Part c =
    let s : List ℕ = c.args.bytes.now in
    let root : ℕ = c.args.root in
    let part = rw c.in-Part.is at c.in_ok-problem.ensures in
    let is = c.trim.ensures ∙ ap (λ s. asked s root) part.0 in
    (itself s root _ part.1 is, subst Formed (sym is) (asked_formed s root part.1))
