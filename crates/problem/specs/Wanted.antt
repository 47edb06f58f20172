-- What a node of an op wants at each of its three operand fields. Assumes nothing.
use Rattle.std.specs.Prelude as std
use Rattle.std.specs.Prelude.{ℕ, List, Bool, Some, None, ◌&&◌, length, eqb, ltb}
use Rattle.std.proofs.Math.Option.{Option, none, some}
use Rattle.std.proofs.Math.ListN.{get_elem?}
use Rattle.definitions.specs.Problem.Node.{Node, node}
use Rattle.problem.specs.declared.ops.Sort as sorts
use Rattle.definitions.specs.Problem.Ops.{Sort, term, formula, op_of, sort_of, same_sort}

-- the sort wanted at field j; none where the field is unused
abbrev pub sort_wanted : Option (List Sort) → ℕ → Option Sort
sort_wanted none j = none
sort_wanted (some ss) j = get_elem? ss j

-- the sort that the code names, if it names one
abbrev pub sort_read : sorts.Sort → Sort
sort_read sorts.TheVariants.Term = term
sort_read sorts.TheVariants.Formula = formula

abbrev pub wanted_read : std.Option sorts.Sort → Option Sort
wanted_read None = none
wanted_read (Some s) = some (sort_read s)

-- an operand is right for what is wanted: an earlier node of the sort, or 0 where the field is unused
abbrev pub slot_right : List Node → Option Sort → ℕ → Bool
slot_right earlier none k = eqb 0 k
slot_right earlier (some s) k = ltb k (length earlier) && same_sort (sort_of (op_of (node earlier k).op)) s
