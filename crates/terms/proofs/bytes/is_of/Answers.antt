-- Some byte is equal.
use Rattle.std.proofs.Common.{rules, tests, ℕ, List, [], ◌∷◌, Bool, ◌≡◌, ◌||◌, refl, ap, ◌∙◌}
use lib.Dec.{eqb}
use Rattle.std.specs.List.{list_any}
use Rattle.std.proofs.lemmas.Iterator.{YieldsList-from_slice}
use Rattle.std.proofs.lemmas.Iterator.Search.{any_from_yields_List}
use Rattle.definitions.specs.Lists.{any}
use Rattle.terms.proofs.bytes.is_of.Goals as goal

any_is : (p : ℕ → Bool) (xs : List ℕ) → list_any p xs ≡ any p xs
any_is p [] = refl
any_is p (x ∷ xs) = ap (λ b. p x || b) (any_is p xs)

pub returns : goal.returns
returns c =
    any_from_yields_List (eqb c.args.b) _ _ _ c.any.ensures.ran (YieldsList-from_slice c.args.few.now (search rules)) (λ x b q k. search (rules, tests))
    ∙ any_is (eqb c.args.b) c.args.few.now
