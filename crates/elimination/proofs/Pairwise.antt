-- The condition that arguments are equal in pairs, one argument after the other. Assumes nothing.
use Rattle.std.proofs.Common.{◌≡◌, ℕ, zero, suc, ◌+◌, ◌*◌, ◌≤◌, ◌<◌, List, [], ◌∷◌, length, get_or, take, drop, refl, sym, ap, subst, ◌∙◌, arith, add-one}
use lib.ListN.{length-drop}
use lib.Seq.{drop-cons}
use Rattle.definitions.specs.Lists.{snoc}
use Rattle.definitions.specs.Problem.Node.{Node, plain}
use Rattle.definitions.specs.Elimination.{further, condition}
use Rattle.problem.specs.Lays.{Lays}
use Rattle.problem.proofs.Laying.{lays_on, lays_as}
use Rattle.elimination.specs.Choice.{one_more}

further_next : (out : List Node) (xs ys : List ℕ) (j : ℕ) → j < length xs → length ys ≡ length xs
    → further out (take (suc j) xs) (take (suc j) ys) ≡ one_more (get_or xs j 0) (get_or ys j 0) (further out (take j xs) (take j ys))
further_next out [] ys j h e = absurd (omega arith)
further_next out (x ∷ xs) [] j h e = absurd (omega arith)
further_next out (x ∷ xs) (y ∷ ys) zero h e = refl
further_next out (x ∷ xs) (y ∷ ys) (suc j) h e = further_next (one_more x y out) xs ys j (omega arith) (omega arith)

condition_next : (t : List Node) (xs ys : List ℕ) (j : ℕ) → 1 ≤ j → j < length xs → length ys ≡ length xs
    → condition t (take (suc j) xs) (take (suc j) ys) ≡ one_more (get_or xs j 0) (get_or ys j 0) (condition t (take j xs) (take j ys))
condition_next t xs ys zero h l e = absurd (omega arith)
condition_next t [] ys (suc j) h l e = absurd (omega arith)
condition_next t (x ∷ xs) [] (suc j) h l e = absurd (omega arith)
condition_next t (x ∷ xs) (y ∷ ys) (suc j) h l e =
    further_next (snoc t (plain 2 x y 0)) xs ys j (omega arith) (omega arith)

-- from the buffer `before` of count nodes to the buffer `after` of `at` nodes, the condition for the first j arguments is laid
pub record Conditioned (xs ys before : List ℕ) (count : ℕ) (after : List ℕ) (at j : ℕ) : Type 0 where
  pub lays : Lays before after count at (λ t. condition t (take j xs) (take j ys))
  pub reached : at + 1 ≡ count + 2 * j
  pub long : length after ≡ length before

pub conditioned_next : {xs ys before work after : List ℕ} {count at j : ℕ} → length ys ≡ length xs
    → Conditioned xs ys before count work at j → 1 ≤ j → j < length xs → length after ≡ length work
    → Lays work after at (at + 2) (one_more (get_or xs j 0) (get_or ys j 0)) → Conditioned xs ys before count after (at + 2) (j + 1)
conditioned_next {xs} {ys} {j = j} e c i l k p =
    record {
      lays =
          lays_as
          (λ t q. sym (condition_next t xs ys j i l e) ∙ ap (λ m. condition t (take m xs) (take m ys)) (sym (add-one j)))
          refl (lays_on c.lays refl p);
      reached = (let r = c.reached in omega arith);
      long = k ∙ c.long;
    }

-- what is left of a list from its member j on
module _ (xs : List ℕ) (j x : ℕ) (rest : List ℕ) (e : drop j xs ≡ x ∷ rest) where
  member_is : j < length xs
  member_is = omega (arith, ap length e, length-drop j xs)

  opened : x ∷ rest ≡ get_or xs j 0 ∷ drop (suc j) xs
  opened = sym e ∙ drop-cons xs j 0 member_is

  first_is : x ≡ get_or xs j 0
  first_is = ap (λ l. get_or l 0 0) opened

  rest_is : rest ≡ drop (j + 1) xs
  rest_is = ap (drop 1) opened ∙ ap (λ i. drop i xs) (sym (add-one j))

pub paired_next : {xs ys before work after : List ℕ} {count at : ℕ} (j x y : ℕ) (xs' ys' : List ℕ) → length ys ≡ length xs
    → Conditioned xs ys before count work at j → 1 ≤ j → drop j xs ≡ x ∷ xs' → drop j ys ≡ y ∷ ys' → length after ≡ length work
    → Lays work after at (at + 2) (one_more x y)
    → Conditioned xs ys before count after (at + 2) (j + 1) × (xs' ≡ drop (j + 1) xs) × (ys' ≡ drop (j + 1) ys)
paired_next {xs} {ys} {before} {work} {after} {count} {at} j x y xs' ys' e c i p q k l = (
  conditioned_next e c i (member_is xs j x xs' p) k
      (subst (λ z. Lays work after at (at + 2) (one_more z (get_or ys j 0))) (first_is xs j x xs' p)
      (subst (λ z. Lays work after at (at + 2) (one_more x z)) (first_is ys j y ys' q) l)),
  rest_is xs j x xs' p,
  rest_is ys j y ys' q,
)
