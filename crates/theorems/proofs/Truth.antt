-- One truth, three ways, for an accepted problem: the formula under an interpretation, the root of the function-free table under
-- an assignment, and a place within the ranges. Assumes nothing.
use mathlib.Core.Path.{◌≡◌, refl, sym, ap, ◌∙◌, subst, subst₂}
use Prim.Native.Nat.{ℕ, zero, suc, ◌+◌, ◌-◌, ◌≤◌, ◌<◌}
use native.Mathlib.Omega.{arith}
use mathlib.Core.Bool.{Bool, false}
use mathlib.Core.List.{List, [], ◌∷◌, ◌++◌, map}
use lib.ListN.{length, get_or, replicate}
use Rattle.definitions.specs.Lists.{below}
use Rattle.definitions.specs.Problem.Node.{Node}
use Rattle.definitions.specs.Problem.Ops.{Sort, term, formula, same_sort}
use Rattle.definitions.specs.Problem.Check.{symbol_count, node_count, symbols_of, nodes_of, functions_in, predicates_in}
use Rattle.definitions.specs.Logic.{Interpretation, truth_of, value_at, truth_at, values, holds}
use Rattle.definitions.specs.Elimination.{eliminated, table_of, root_of}
use Rattle.definitions.specs.Ranges.{linked, joined, rank, tops, tops_of, sizes_of, product}
use Rattle.definitions.specs.Places.{digits_at, assignment, values_at, true_at}
use Rattle.theorems.proofs.Laws.Ops.{sort_at}
use Rattle.theorems.proofs.Tables.Free.{Free}
use Rattle.theorems.proofs.Ranges.Chains.{chained_refl, chained_sym, chained_trans}
use Rattle.theorems.proofs.Ranges.Components.{linked_sym, link_chained}
use Rattle.theorems.proofs.Ranges.Renaming.{Equivalence}
use Rattle.theorems.proofs.Elimination.Counts.{count_apps}
use Rattle.theorems.proofs.Elimination.WellLaid.{eliminated_free, images_length, image_within, image_sort}
use Rattle.theorems.proofs.Elimination.OfAssignment.{built, built_value}
use Rattle.theorems.proofs.Elimination.OfInterpretation.{assigned, assigned_value}
use Rattle.theorems.proofs.Search.Places.{Positive, product_positive}
use Rattle.theorems.proofs.Ranges.Adequate.{adequate}
use Rattle.theorems.proofs.Accepted.{Accepted, length_nodes_at}

positive_ranks : (J : ℕ → ℕ → Bool) (vs : List ℕ) → Positive (map (rank J) vs)
positive_ranks J [] = tt
positive_ranks J (v ∷ vs) = (omega arith, positive_ranks J vs)

positive_truths : (n : ℕ) → Positive (replicate n 2)
positive_truths zero = tt
positive_truths (suc n) = (omega arith, positive_truths n)

positive_append : (xs ys : List ℕ) → Positive xs → Positive ys → Positive (xs ++ ys)
positive_append [] ys p q = q
positive_append (x ∷ xs) ys p q = (p.0, positive_append xs ys p.1 q)

-- every range has at least one value
pub sizes_positive : (s : List ℕ) → Positive (sizes_of s)
unfolding sizes_of tops_of tops
sizes_positive s =
    positive_append (tops_of s) (replicate (predicates_in (nodes_of s)) 2)
    (positive_ranks (joined (table_of s) (functions_in (nodes_of s))) (below (functions_in (nodes_of s))))
    (positive_truths (predicates_in (nodes_of s)))

pub some_place : (s : List ℕ) → 1 ≤ product s
unfolding product
some_place s = product_positive (sizes_of s) (sizes_positive s)

-- the components of a table are an equivalence that has its links
pub table_classes : (t : List Node) (N : ℕ) → Equivalence (joined t N) N
table_classes t N =
    record {
      self = chained_refl (linked t) N;
      back = chained_sym (linked t) (linked_sym t) N;
      on = chained_trans (linked t) N;
    }

not_term : (r : Sort) → same_sort r term ≡ false → r ≡ formula
not_term term e = absurd (mathlib.Core.Bool.true≢false e)
not_term formula e = refl

-- the image of a problem's node
abbrev pub image_of : List ℕ → ℕ → ℕ
image_of s k = get_or (eliminated s).images k 0

-- the root of the function-free table under an assignment
abbrev pub root_truth : List ℕ → Interpretation → Bool
root_truth s A = truth_at (values A [] (table_of s)) (root_of (eliminated s))

module _ (s : List ℕ) (ok : Accepted s) where
  abbrev T : List Node
  T = nodes_of s

  abbrev N : ℕ
  N = functions_in T

  abbrev P : ℕ
  P = predicates_in T

  -- the last problem node
  abbrev pub final : ℕ
  final = length T - 1

  pub final_below : final < length T
  final_below = let e : length T ≡ node_count s = length_nodes_at s (8 + symbol_count s) (node_count s) in let h = ok.layout.some_nodes in omega arith

  -- the function-free table is well formed, with a variable for each distinct application
  pub table_free : Free N P (table_of s)
  unfolding eliminated
  table_free =
      subst₂ (λ (n p : ℕ). Free n p (table_of s)) (count_apps (symbols_of s) 0 refl T) (count_apps (symbols_of s) 6 refl T)
      (eliminated_free (symbols_of s) T ok.layout.nodes_right)

  pub root_image : root_of (eliminated s) ≡ image_of s final
  unfolding eliminated
  root_image = ap (λ (n : ℕ). image_of s (n - 1)) (images_length (symbols_of s) T ok.layout.nodes_right)

  pub root_within : root_of (eliminated s) < length (table_of s)
  unfolding eliminated
  root_within =
      subst (λ (k : ℕ). k < length (table_of s)) (sym root_image)
      (image_within (symbols_of s) T ok.layout.nodes_right final final_below)

  pub root_formula : sort_at (table_of s) (root_of (eliminated s)) ≡ formula
  unfolding eliminated
  root_formula =
      ap (sort_at (table_of s)) root_image ∙ image_sort (symbols_of s) T ok.layout.nodes_right final final_below
      ∙ not_term (sort_at T final) ok.formula_asked

  -- an assignment comes from an interpretation, with the same value at every node
  pub interpretation_of : Interpretation → Interpretation
  interpretation_of A = built A (symbols_of s) T ok.layout.nodes_right

  pub of_assignment : (A : Interpretation) (k : ℕ) → k < length T
      → value_at (values (interpretation_of A) (symbols_of s) T) k ≡ value_at (values A [] (table_of s)) (image_of s k)
  unfolding eliminated interpretation_of
  of_assignment A k h = sym (built_value A (symbols_of s) T ok.layout.nodes_right k h)

  -- an interpretation gives an assignment, with the same value at every node
  pub assignment_of : Interpretation → Interpretation
  assignment_of I = assigned I (symbols_of s) T ok.layout.nodes_right

  pub of_interpretation : (I : Interpretation) (k : ℕ) → k < length T
      → value_at (values (assignment_of I) [] (table_of s)) (image_of s k) ≡ value_at (values I (symbols_of s) T) k
  unfolding eliminated assignment_of
  of_interpretation I k h = assigned_value I (symbols_of s) T ok.layout.nodes_right k h

  -- in particular the same truth of the formula
  pub assignment_truth : (A : Interpretation) → holds (interpretation_of A) s ≡ root_truth s A
  unfolding holds
  assignment_truth A =
      ap truth_of (of_assignment A final final_below)
      ∙ ap (λ (k : ℕ). truth_at (values A [] (table_of s)) k) (sym root_image)

  pub interpretation_truth : (I : Interpretation) → root_truth s (assignment_of I) ≡ holds I s
  unfolding holds
  interpretation_truth I =
      ap (λ (k : ℕ). truth_at (values (assignment_of I) [] (table_of s)) k) root_image
      ∙ ap truth_of (of_interpretation I final final_below)

  -- every assignment has the truth of some place within the ranges
  pub place_of : (A : Interpretation) → (p : ℕ) × (1 ≤ p) × (p ≤ product s) × (root_truth s A ≡ true_at s p)
  unfolding product sizes_of tops_of tops true_at values_at
  place_of A =
      let r =
      adequate (table_of s) N P table_free (joined (table_of s) N) (table_classes (table_of s) N)
      (λ u v hu hv e. link_chained (linked (table_of s)) N N u v e) A
      in
      (r.0, r.1, r.2, r.3 (root_of (eliminated s)) root_within root_formula)

  -- every place has the truth of some interpretation
  pub interpretation_at : ℕ → Interpretation
  interpretation_at p = interpretation_of (assignment N (digits_at (sizes_of s) p))

  pub place_truth : (p : ℕ) → holds (interpretation_at p) s ≡ true_at s p
  unfolding true_at values_at interpretation_at
  place_truth p = assignment_truth (assignment N (digits_at (sizes_of s) p))
