-- A word that is none of the three. Assumes nothing.
use Rattle.std.proofs.Common.{sym, ap, ◌∙◌, List, ℕ}
use lib.Dec.{eqb}
use lib.Pointwise.{pointwise}
use Rattle.text.proofs.CommandSteps.{none_of_them}
use Rattle.text.proofs.commands.Command.of.Goals as goal

pub returns-else-eq-3 : goal.returns-else-eq-3
returns-else-eq-3 c =
    let w = c.args.word.now in
    none_of_them w
    (sym (c.eq.ensures ∙ ap (λ (b : List ℕ). pointwise eqb w b) c.as_slice.ensures) ∙ c.if-eq.false)
    (sym (c.eq-else-eq.ensures ∙ ap (λ (b : List ℕ). pointwise eqb w b) c.as_slice-else-eq.ensures) ∙ c.if-eq-2.false)
    (sym (c.eq-else-eq-2.ensures ∙ ap (λ (b : List ℕ). pointwise eqb w b) c.as_slice-else-eq-2.ensures) ∙ c.if-eq-3.false)
