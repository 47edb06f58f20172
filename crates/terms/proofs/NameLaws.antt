-- Names: a name is new if neither search finds it; what a search finds, and how that grows with one more symbol; and the names that
-- right commands declare are new, each in its turn. Assumes nothing.
use mathlib.Core.Path.{◌≡◌, refl, sym, ap, ap₂, ◌∙◌, subst}
use Prim.Native.Nat.{ℕ, suc, ◌+◌, ◌<◌}
use native.Mathlib.Omega.{arith}
use mathlib.Core.Bool.{Bool, true, false, not, ◌&&◌, ◌||◌, true≢false, or_assoc, or-false}
use mathlib.Core.List.{List, [], ◌∷◌, ◌++◌}
use mathlib.Core.Option.{Option, none, some}
use lib.ListN.{length}
use borrow.Author.Tests.{not-false}
use Rattle.definitions.specs.Lists.{any, snoc, first_failing}
use Rattle.definitions.specs.Problem.Ops.{term}
use Rattle.definitions.specs.Text.Ascii.{same_bytes}
use Rattle.definitions.specs.Text.Grammar.{Symbol, Command, declare, assert, symbols_in, no_symbol, symbol_at, CORE, solvers_own, names_of, new_function, after, command_right, commands_right}
use Rattle.definitions.specs.Text.Heads.{constant, inhabited}
use Rattle.theorems.proofs.Laws.Tests.{and_left, and_right}
use Rattle.theorems.proofs.Laws.Scans.{failing_first}
use Rattle.theorems.proofs.Text.Taken.Runs.{same_bytes_lem}
use Rattle.theorems.proofs.Text.Taken.Kept.Invariant.{after_all, after_all_lem}
use Rattle.theorems.proofs.Text.Taken.Written.Resolve.{Fresh, fresh_snoc, name_among}
use Rattle.problem.proofs.Scans.{any_none, any_some}
use Rattle.terms.specs.Named.{core_of, resolve, is_some, or_next}

-- a search finds something exactly if some member passes
found_any : {A : Type 0} (f : A → Bool) (i : ℕ) (xs : List A) → is_some (first_failing (λ x. not (f x)) i xs) ≡ any f xs
found_any f i xs = go (first_failing (λ x. not (f x)) i xs) refl
  where
    go : (o : Option ℕ) → first_failing (λ x. not (f x)) i xs ≡ o → is_some o ≡ any f xs
    go none e = sym (any_none f i xs e)
    go (some k) e = sym (any_some f i k xs e)

-- what each right command keeps of the symbols declared so far, right commands keep
module _ (P : List Symbol → Type 0) (keeps : (sig : List Symbol) (c : Command) → command_right sig c ≡ true → P sig → P (after sig c)) where
  all_keep : (sig : List Symbol) (cs : List Command) → P sig → commands_right sig cs ≡ true → P (after_all sig cs)
  all_keep sig [] p e = p
  all_keep sig (c ∷ cs) p e =
      all_keep (after sig c) cs (keeps sig c (and_left (command_right sig c) (commands_right (after sig c) cs) e) p)
      (and_right (command_right sig c) (commands_right (after sig c) cs) e)

  pub commands_keep : (cs : List Command) → P [] → commands_right [] cs ≡ true → P (symbols_in cs)
  commands_keep cs p e = subst P (after_all_lem [] cs) (all_keep [] cs p e)

-- right commands declare names that are new, each in its turn
pub ready_fresh : (cs : List Command) → commands_right [] cs ≡ true → Fresh (symbols_in cs)
ready_fresh cs e = commands_keep Fresh one cs (λ k h. absurd (omega arith)) e
  where
    one : (sig : List Symbol) (c : Command) → command_right sig c ≡ true → Fresh sig → Fresh (after sig c)
    one sig (declare y) p fresh = fresh_snoc sig y fresh (and_left (new_function sig y.name) _ p)
    one sig (assert t) p fresh = fresh

-- names of which only one passes a test differ
pub apart : (p : List ℕ → Bool) (xs ys : List ℕ) → p xs ≡ true → p ys ≡ false → same_bytes xs ys ≡ false
apart p xs ys e f = go (same_bytes xs ys) refl
  where
    go : (b : Bool) → same_bytes xs ys ≡ b → b ≡ false
    go true q = absurd (true≢false (sym e ∙ ap p (same_bytes_lem xs ys q) ∙ f))
    go false q = refl

-- the names of declared symbols
any_names : (sig : List Symbol) (name : List ℕ) → any (same_bytes name) (names_of sig) ≡ any (λ y. same_bytes name y.name) sig
any_names [] name = refl
any_names (y ∷ ys) name = ap (λ (b : Bool). same_bytes name y.name || b) (any_names ys name)

module _ (sig : List Symbol) (name : List ℕ) where
  pub unresolved : resolve sig name ≡ none → (j : ℕ) → j < length sig → same_bytes name (symbol_at sig j).name ≡ false
  unresolved e j h = name_among sig name j h (any_names sig name ∙ any_none (λ (y : Symbol). same_bytes name y.name) 0 sig e)

  pub resolved_to : (k : ℕ) → resolve sig name ≡ some k → (k < length sig) × (name ≡ (symbol_at sig k).name)
  resolved_to k e =
      let found = (failing_first (λ (y : Symbol). not (same_bytes name y.name)) sig no_symbol k).0 e in
      (found.within, same_bytes_lem name (symbol_at sig k).name (not-false (same_bytes name (symbol_at sig k).name) found.wrong))

-- a name is new if neither search finds it and it is not the solvers' own
any_append : {A : Type 0} (f : A → Bool) (xs ys : List A) → any f (xs ++ ys) ≡ any f xs || any f ys
any_append f [] ys = refl
any_append f (x ∷ xs) ys = ap (λ (b : Bool). f x || b) (any_append f xs ys) ∙ sym (or_assoc (f x) (any f xs) (any f ys))

pub new_by : (sig : List Symbol) (name : List ℕ)
    → new_function sig name ≡ (not (is_some (core_of name)) && not (is_some (resolve sig name)) && not (solvers_own name))
new_by sig name =
    ap (λ (b : Bool). not b && not (solvers_own name)) (any_append (same_bytes name) CORE (names_of sig))
    ∙ ap₂ (λ (a b : Bool). not (a || b) && not (solvers_own name)) (sym (found_any (same_bytes name) 0 CORE))
    (any_names sig name ∙ sym (found_any (λ (y : Symbol). same_bytes name y.name) 0 sig))
    ∙ ap (λ (b : Bool). b && not (solvers_own name)) (neither (is_some (core_of name)) (is_some (resolve sig name)))
  where
    neither : (a b : Bool) → not (a || b) ≡ (not a && not b)
    neither true b = refl
    neither false b = refl

-- with one more symbol
module _ {A : Type 0} (f : A → Bool) (x : A) where
  abbrev search : ℕ → List A → Option ℕ
  search i xs = first_failing (λ z. not (f z)) i xs

  search_snoc : (i : ℕ) (xs : List A) → search i (snoc xs x) ≡ or_next (search i xs) (f x) (i + length xs)
  search_snoc i [] = go (f x) ∙ ap (or_next none (f x)) (omega arith)
    where
      go : (b : Bool) → ◌≡◌ {A = Option ℕ} (elim (not b) [ true ↦ none | false ↦ some i ]) (or_next none b i)
      go true = refl
      go false = refl
  search_snoc i (z ∷ xs) = go (f z) (search_snoc (suc i) xs ∙ ap (or_next (search (suc i) xs) (f x)) (omega arith))
    where
      go : (b : Bool) → search (suc i) (snoc xs x) ≡ or_next (search (suc i) xs) (f x) (i + suc (length xs))
          → ◌≡◌ {A = Option ℕ} (elim (not b) [ true ↦ search (suc i) (snoc xs x) | false ↦ some i ])
          (or_next (elim (not b) [ true ↦ search (suc i) xs | false ↦ some i ]) (f x) (i + suc (length xs)))
      go true e = refl
      go false e = e

module _ (sig : List Symbol) (y : Symbol) where
  pub resolve_snoc : (name : List ℕ) → resolve (snoc sig y) name ≡ or_next (resolve sig name) (same_bytes name y.name) (length sig)
  resolve_snoc name =
      search_snoc (λ (z : Symbol). same_bytes name z.name) y 0 sig
      ∙ ap (or_next (resolve sig name) (same_bytes name y.name)) (omega arith)

  pub inhabited_snoc : inhabited (snoc sig y) term ≡ (inhabited sig term || constant y)
  inhabited_snoc = any_append constant sig (y ∷ []) ∙ ap (λ (b : Bool). any constant sig || b) (or-false (constant y))
