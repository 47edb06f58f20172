-- What is so of the terms of a list that is right as far as it is read: their trees are there with all that they use, as many as
-- their heads take, and so many fewer are wanted. Assumes nothing.
use mathlib.Core.Path.{◌≡◌, refl, ap}
use Prim.Native.Nat.{ℕ, ◌≤◌, ◌<◌}
use native.Mathlib.Omega.{arith}
use mathlib.Core.Bool.{true, ◌&&◌}
use mathlib.Core.List.{List, [], ◌∷◌, append-nil}
use lib.ListN.{length}
use lib.Dec.{leb}
use borrow.Author.Tests.{leb-true}
use Rattle.definitions.specs.Lists.{snoc}
use Rattle.definitions.specs.Problem.Ops.{arity}
use Rattle.definitions.specs.Text.Grammar.{
  Symbol,
  Head,
  declared,
  ite,
  equals,
  negation,
  conjunction,
  disjunction,
  implication,
  verum,
  falsum,
  Terms,
  end,
  call,
  Command,
  declare,
  assert,
  symbols_in,
  symbol_at,
  Wanted,
  wanted_by,
  sort_of_head,
  next,
  left,
  is_wanted,
  head_right,
  terms_right,
  new_function,
  after,
  command_right,
  commands_right,
}
use Rattle.definitions.specs.Text.Reader.{put}
use Rattle.definitions.specs.Text.Nodes.{Tree, head_tree, trees_of, symbol_bytes}
use Rattle.theorems.proofs.Laws.Tests.{and_left, and_right}
use Rattle.theorems.proofs.Text.Meant.Laying.{Present, AllPresent, Full, AllFull}
use Rattle.theorems.proofs.Text.Meant.Paired.{Good, AllGood, Fits, head_good}
use Rattle.theorems.proofs.Text.Meant.Reading.{Small, anything, prefix_agrees, small_snoc, head_fits, row_good, full_of}
use Rattle.theorems.proofs.Text.Taken.Kept.Invariant.{row_right, remaining}
use Rattle.terms.specs.Heads.{left_after}
use Rattle.terms.proofs.NameLaws.{commands_keep}
use Rattle.terms.specs.Lists.{Counted}

-- one more term, one more tree
pub trees_put : (row : Terms) (h : Head) (args : Terms) → trees_of (put row h args) ≡ snoc (trees_of row) (head_tree h (trees_of args))
trees_put end h args = refl
trees_put (call g inner rest) h args = ap {B = List Tree} (λ ts. head_tree g (trees_of inner) ∷ ts) (trees_put rest h args)

-- after so many terms, what is wanted after so many
pub remaining_after : (w : Wanted) (row : Terms) → remaining w row ≡ left_after (length (trees_of row)) w
remaining_after w end = refl
remaining_after w (call h args rest) = remaining_after (left w) rest

-- right commands declare no symbol that takes more than three arguments
pub ready_small : (cs : List Command) → commands_right [] cs ≡ true → Small (symbols_in cs)
ready_small cs e = commands_keep Small one cs (λ k h. absurd (omega arith)) e
  where
    one : (sig : List Symbol) (c : Command) → command_right sig c ≡ true → Small sig → Small (after sig c)
    one sig (declare y) p small = small_snoc sig y small (leb-true y.arity 3 (and_right (new_function sig y.name) (leb y.arity 3) p))
    one sig (assert t) p small = small

none_there : (ts : List Tree) → length ts ≡ 0 → ts ≡ []
none_there [] f = refl
none_there (t ∷ ts) f = absurd (omega arith)

-- the arguments that a head takes are so many that it can be laid
fits_counted : (symbols : List ℕ) (h : Head) (ts : List Tree) → Fits symbols h ts → Counted h ts
fits_counted symbols (declared s k) ts f = f.1
fits_counted symbols (ite s) ts f = omega arith
fits_counted symbols equals ts f = f
fits_counted symbols negation ts f = f
fits_counted symbols conjunction ts f = omega arith
fits_counted symbols disjunction ts f = omega arith
fits_counted symbols implication ts f = omega arith
fits_counted symbols verum ts f = none_there ts f
fits_counted symbols falsum ts f = none_there ts f

pub present_of : (symbols : List ℕ) (xs : List Tree) → AllGood symbols xs → AllPresent xs
present_of symbols [] g = tt
present_of symbols (x ∷ xs) g = (g.0.1, present_of symbols xs g.1)

module _ (sig : List Symbol) (small : Small sig) where
  agrees : (k : ℕ) → k < length sig → (arity (symbol_bytes sig) k ≡ (symbol_at sig k).arity) × ((symbol_at sig k).arity ≤ 3)
  agrees k h = rw append-nil at (prefix_agrees sig [] small k h)

  -- a right term
  module _ (h : Head) (args : Terms) (known : head_right sig h ≡ true) (right : terms_right sig (wanted_by sig h) args ≡ true) where
    fits : Fits (symbol_bytes sig) h (trees_of args)
    fits = head_fits sig (symbol_bytes sig) agrees h args known right

    good : Good (symbol_bytes sig) (head_tree h (trees_of args))
    good = head_good (symbol_bytes sig) h (trees_of args) fits (row_good sig (symbol_bytes sig) agrees (wanted_by sig h) args right)

    pub term_counted : Counted h (trees_of args)
    term_counted = fits_counted (symbol_bytes sig) h (trees_of args) fits

    pub term_full : Full (symbol_bytes sig) (head_tree h (trees_of args))
    term_full = good.0

    pub term_present : Present (head_tree h (trees_of args))
    term_present = good.1

  -- a row that is right as far as it goes
  so_far_good : (w : Wanted) (row : Terms) → row_right sig w row ≡ true → AllGood (symbol_bytes sig) (trees_of row)
  so_far_good w end e = tt
  so_far_good w (call h args rest) e =
      let A = head_right sig h in
      let B = is_wanted (next w) (sort_of_head h) in
      let C = terms_right sig (wanted_by sig h) args in
      let D = row_right sig (left w) rest in
      let abc = and_left (A && B && C) D e in (
        good h args (and_left A B (and_left (A && B) C abc)) (and_right (A && B) C abc),
        so_far_good (left w) rest (and_right (A && B && C) D e),
      )

  pub row_full : (w : Wanted) (row : Terms) → row_right sig w row ≡ true → AllFull (symbol_bytes sig) (trees_of row)
  row_full w row e = full_of anything (symbol_bytes sig) (trees_of row) (so_far_good w row e)

  pub row_present : (w : Wanted) (row : Terms) → row_right sig w row ≡ true → AllPresent (trees_of row)
  row_present w row e = present_of (symbol_bytes sig) (trees_of row) (so_far_good w row e)
