-- Where a constant of the sort is declared, some token is a bare term of it; true is one of Bool (02, E1: a head is refused where
-- a term that it must have cannot be written). Assumes nothing.
use mathlib.Core.Path.{◌≡◌, refl, sym, ap, ◌∙◌, subst}
use Prim.Native.Nat.{ℕ, suc, ◌+◌, ◌<◌}
use native.Mathlib.Omega.{arith}
use mathlib.Core.Bool.{Bool, true, false, ◌&&◌, ◌||◌, false≢true}
use mathlib.Core.List.{List, [], ◌∷◌, ◌++◌, append_assoc}
use mathlib.Core.Logic.{◌⊎◌, inl, inr}
use mathlib.Core.Option.{Option, some}
use lib.ListN.{length, length-append}
use lib.Seq.{get_or-append_seam}
use lib.Dec.{eqb}
use borrow.Author.Tests.{eqb-true, lt-ltb}
use Rattle.definitions.specs.Lists.{snoc, any, all}
use Rattle.definitions.specs.Problem.Ops.{Sort, term, formula, same_sort}
use Rattle.theorems.proofs.Laws.Tests.{and_left, and_right, or_cases, or_left, or_right}
use Rattle.theorems.proofs.Laws.Ops.{same_sort_lem}
use Rattle.definitions.specs.Text.Ascii.{ascii}
use Rattle.definitions.specs.Text.Tokens.{symbol, bar_byte}
use Rattle.definitions.specs.Text.Grammar.{Symbol, Head, declared, ite, equals, negation, conjunction, disjunction, implication, verum, falsum, no_symbol, symbol_at, wanted_by, ready}
use Rattle.definitions.specs.Text.Heads.{first_with, declared_from, heads, constant, inhabited, names, bare}
use Rattle.theorems.proofs.Text.Taken.Runs.{token_same}

module _ {A : Type 0} (f : A → Bool) where
  any_first : (xs : List A) → any f xs ≡ true → (x : A) × (first_with f xs ≡ some x)
  any_first [] e = absurd (false≢true e)
  any_first (y ∷ xs) e = by (f y) e (any_first xs)
    where
      by : (b : Bool) → b || any f xs ≡ true → (any f xs ≡ true → (x : A) × (first_with f xs ≡ some x))
          → (x : A) × (◌≡◌ {A = Option A} (elim b [ true ↦ some y | false ↦ first_with f xs ]) (some x))
      by true p rec = (y, refl)
      by false p rec = rec p

-- a symbol whose name may stand between bars
abbrev pub named_in_bars : Symbol → Bool
named_in_bars y = all bar_byte y.name

module _ (sig : List Symbol) where
  -- a constant of the sort is named by its name
  abbrev plainly : List ℕ → Head → Bool
  plainly name h = names sig term (symbol name) h && ready (wanted_by sig h)

  constant_named : (k : ℕ) (y : Symbol) → k < length sig → symbol_at sig k ≡ y → constant y ≡ true → plainly y.name (declared y.result k) ≡ true
  constant_named k y l e c =
      let zero-arity : y.arity ≡ 0 = eqb-true y.arity 0 (and_left (eqb y.arity 0) (same_sort y.result term) c) in
      let result : y.result ≡ term = same_sort_lem y.result term (and_right (eqb y.arity 0) (same_sort y.result term) c) in
      rw (e, lt-ltb k (length sig) l, result, token_same (symbol y.name), zero-arity) refl

  -- one that is found among symbols
  abbrev Among : ℕ → List Symbol → Type 0
  Among k ys = (name : List ℕ) × ((all bar_byte name ≡ true) × (any (plainly name) (declared_from k ys) ≡ true))

  constant_among : (pre ys : List Symbol) → sig ≡ pre ++ ys → all named_in_bars ys ≡ true → any constant ys ≡ true → Among (length pre) ys
  constant_among pre [] e n c = absurd (false≢true c)
  constant_among pre (y ∷ ys) e n c =
      go (or_cases (constant y) (any constant ys) c)
      (constant_among (snoc pre y) ys (e ∙ sym (append_assoc pre (y ∷ []) ys)) (and_right (named_in_bars y) (all named_in_bars ys) n))
    where
      at : symbol_at sig (length pre) ≡ y
      at = ap (λ (s : List Symbol). symbol_at s (length pre)) e ∙ get_or-append_seam pre y ys no_symbol

      inside_sig : length pre < length sig
      inside_sig = let l : length sig ≡ length pre + suc (length ys) = ap length e ∙ length-append pre (y ∷ ys) in omega arith

      go : (constant y ≡ true) ⊎ (any constant ys ≡ true) → (any constant ys ≡ true → Among (length (snoc pre y)) ys) → Among (length pre) (y ∷ ys)
      go (inl p) rec = (
        y.name,
        (
          and_left (named_in_bars y) (all named_in_bars ys) n,
          or_left (plainly y.name (declared y.result (length pre))) (any (plainly y.name) (declared_from (suc (length pre)) ys)) (constant_named (length pre) y inside_sig at p),
        ),
      )
      go (inr p) rec =
          let r = rec p in
          let l : length (snoc pre y) ≡ suc (length pre) = (let q : length (snoc pre y) ≡ length pre + 1 = length-append pre (y ∷ []) in omega arith) in (
            r.0,
            (
              r.1.0,
              or_right (plainly r.0 (declared y.result (length pre))) (any (plainly r.0) (declared_from (suc (length pre)) ys))
                  (subst (λ (k : ℕ). any (plainly r.0) (declared_from k ys) ≡ true) l r.1.1),
            ),
          )

  -- some token is a bare term of a sort that has terms, and it can be spelled if the declared names can
  pub bare_found : all named_in_bars sig ≡ true → (s : Sort) → inhabited sig s ≡ true
      → (name : List ℕ) × ((all bar_byte name ≡ true) × ((h : Head) × (bare sig s (symbol name) ≡ some h)))
  bare_found n formula e = (ascii "true", (refl, (verum, refl)))
  bare_found n term e =
      let c = constant_among [] sig refl n e in
      let f = plainly c.0 in
      let o = or_right in
      let r = any_first f (heads sig) (
      o (f (ite term)) _ (o (f (ite formula)) _ (o (f equals) _ (o (f negation) _ (o (f conjunction) _ (o (f disjunction) _ (o (f implication) _ (o (f verum) _ (o (f falsum) _ c.1.1))))))))) in
      (c.0, (c.1.0, (r.0, r.1)))
