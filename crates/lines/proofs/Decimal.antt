-- The digits that the definition writes are those that the library writes. Assumes nothing.
use Rattle.std.proofs.Common.{◌≡◌, ℕ, suc, ◌^◌, ◌<◌, ◌≤◌, [], length, rules, sym, ◌∙◌}
use Rattle.std.specs.Fmt as library
use Rattle.std.proofs.lemmas.List.{append-nil}
use Rattle.std.proofs.lemmas.Fmt.{PrependsLastDigit, decimal_from_prepends, length-decimal-le_succ}
use Rattle.definitions.specs.Night.{digits, decimal}

prepends : PrependsLastDigit digits
prepends = search rules

pub same_decimal : (n : ℕ) → n < 2 ^ 64 → library.decimal n ≡ decimal n
same_decimal n h =
    let room : length (library.decimal n) ≤ suc n = search (rules, length-decimal-le_succ) in
    sym (decimal_from_prepends digits prepends (suc n) n [] h room ∙ append-nil (library.decimal n))
