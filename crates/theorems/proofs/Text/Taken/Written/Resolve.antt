-- Which head a token names: in a signature whose names are new, each in its turn, the token that writes a right head names that
-- head and no other; and where a right term stands, its sort has terms (02, E1). Assumes nothing.
use mathlib.Core.Path.{◌≡◌, refl, sym, ap, ap₂, ◌∙◌}
use Prim.Native.Nat.{ℕ, zero, suc, ◌+◌, ◌<◌, ◌≤◌}
use native.Mathlib.Omega.{arith}
use mathlib.Core.Bool.{Bool, true, false, not, ◌&&◌, ◌||◌, false≢true, true≢false}
use mathlib.Core.List.{List, [], ◌∷◌, ◌++◌, append_assoc}
use mathlib.Core.Option.{some}
use lib.ListN.{length, get_or, take, length-append, get_or-append}
use lib.Seq.{get_or-append_seam, get_or-take, length-take-le, take-append-le, take-append_seam}
use lib.Dec.{eqb, ltb}
use borrow.Author.Tests.{ltb-true, ltb-false, eqb-true, eqb-false, not-true}
use Rattle.definitions.specs.Lists.{snoc, all, any}
use Rattle.definitions.specs.Problem.Ops.{Sort, term, formula, same_sort}
use Rattle.theorems.proofs.Laws.Tests.{and_left, and_right, and_intro}
use Rattle.theorems.proofs.Laws.Ops.{same_sort_lem}
use Rattle.definitions.specs.Text.Ascii.{ascii, same_bytes}
use Rattle.definitions.specs.Text.Tokens.{symbol, same_token}
use Rattle.definitions.specs.Text.Grammar.{Symbol, Head, declared, ite, equals, negation, conjunction, disjunction, implication, verum, falsum, no_symbol, symbol_at, wanted_by, sort_of_head, ready, head_right, CORE, names_of, new_name, new_function, solvers_own, head_token}
use Rattle.definitions.specs.Text.Heads.{first_with, declared_from, heads, inhabited, names, bare, bracketed}
use Rattle.theorems.proofs.Text.Taken.Runs.{token_same, first_skip, first_here}

module _ {A : Type 0} (f : A → Bool) where
  -- no member passes
  pub any_append_left : (xs ys : List A) → any f (xs ++ ys) ≡ false → any f xs ≡ false
  any_append_left [] ys e = refl
  any_append_left (x ∷ xs) ys e = by (f x) e (any_append_left xs ys)
    where
      by : (b : Bool) → b || any f (xs ++ ys) ≡ false → (any f (xs ++ ys) ≡ false → any f xs ≡ false) → b || any f xs ≡ false
      by true p rec = absurd (true≢false p)
      by false p rec = rec p

  pub any_append_right : (xs ys : List A) → any f (xs ++ ys) ≡ false → any f ys ≡ false
  any_append_right [] ys e = e
  any_append_right (x ∷ xs) ys e = any_append_right xs ys (by (f x) e)
    where
      by : (b : Bool) → b || any f (xs ++ ys) ≡ false → any f (xs ++ ys) ≡ false
      by true p = absurd (true≢false p)
      by false p = p

or_false_left : (a b : Bool) → a || b ≡ false → a ≡ false
or_false_left true b e = absurd (true≢false e)
or_false_left false b e = refl

or_false_right : (a b : Bool) → a || b ≡ false → b ≡ false
or_false_right true b e = absurd (true≢false e)
or_false_right false b e = e

-- each name is new after those before it
abbrev pub Fresh : List Symbol → Type 0
Fresh sig = (k : ℕ) → k < length sig → new_function (take k sig) (symbol_at sig k).name ≡ true

pub fresh_snoc : (sig : List Symbol) (y : Symbol) → Fresh sig → new_function sig y.name ≡ true → Fresh (snoc sig y)
fresh_snoc sig y fresh new k h = go (ltb k (length sig)) refl
  where
    go : (b : Bool) → ltb k (length sig) ≡ b → new_function (take k (snoc sig y)) (symbol_at (snoc sig y) k).name ≡ true
    go true p =
        let l = ltb-true k (length sig) p in
        let before : take k (snoc sig y) ≡ take k sig = take-append-le k sig (y ∷ []) (omega arith) in
        let here : symbol_at (snoc sig y) k ≡ symbol_at sig k = get_or-append sig (y ∷ []) no_symbol k l in
        ap₂ (λ (t : List Symbol) (s : Symbol). new_function t s.name) before here ∙ fresh k l
    go false p =
        let e : k ≡ length sig = (let m = ltb-false k (length sig) p in let q : length (snoc sig y) ≡ length sig + 1 = length-append sig (y ∷ []) in omega arith) in
        let all : take k (snoc sig y) ≡ sig = rw e (take-append_seam sig (y ∷ [])) in
        let last : symbol_at (snoc sig y) k ≡ y = rw e (get_or-append_seam sig y [] no_symbol) in
        ap₂ (λ (t : List Symbol) (s : Symbol). new_function t s.name) all last ∙ new

-- a new name is none of those taken
not_taken : (taken : List (List ℕ)) (name : List ℕ) → new_name taken name ≡ true → any (same_bytes name) taken ≡ false
not_taken taken name e = not-true (any (same_bytes name) taken) (and_left (not (any (same_bytes name) taken)) (not (solvers_own name)) e)

pub name_among : (sig : List Symbol) (name : List ℕ) (j : ℕ) → j < length sig → any (same_bytes name) (names_of sig) ≡ false → same_bytes name (symbol_at sig j).name ≡ false
name_among [] name j h e = absurd (omega arith)
name_among (y ∷ ys) name zero h e = or_false_left (same_bytes name y.name) (any (same_bytes name) (names_of ys)) e
name_among (y ∷ ys) name (suc j) h e = name_among ys name j (omega arith) (or_false_right (same_bytes name y.name) (any (same_bytes name) (names_of ys)) e)

take_at : (sig : List Symbol) (k j : ℕ) → j < k → k ≤ length sig → symbol_at (take k sig) j ≡ symbol_at sig j
take_at sig k j h l = get_or-take k sig j no_symbol h

module _ (sig : List Symbol) (fresh : Fresh sig) where
  -- a later name differs from an earlier one, and from the Core names
  pub later_differs : (j k : ℕ) → j < k → k < length sig → same_bytes (symbol_at sig k).name (symbol_at sig j).name ≡ false
  later_differs j k h l =
      let name = (symbol_at sig k).name in
      let free = not_taken (CORE ++ names_of (take k sig)) name (fresh k l) in
      let e = name_among (take k sig) name j (rw (length-take-le k sig (omega arith)) h) (any_append_right (same_bytes name) CORE (names_of (take k sig)) free) in
      ap (λ (y : Symbol). same_bytes name y.name) (sym (take_at sig k j h (omega arith))) ∙ e

  pub core_differs : (k : ℕ) → k < length sig → any (same_bytes (symbol_at sig k).name) CORE ≡ false
  core_differs k l =
      let name = (symbol_at sig k).name in
      any_append_left (same_bytes name) CORE (names_of (take k sig)) (not_taken (CORE ++ names_of (take k sig)) name (fresh k l))

  sort_self : (s : Sort) → same_sort s s ≡ true
  sort_self term = refl
  sort_self formula = refl

  self_named : (s : Sort) (k : ℕ) → head_right sig (declared s k) ≡ true → names sig s (symbol (symbol_at sig k).name) (declared s k) ≡ true
  self_named s k r =
      and_intro (head_right sig (declared s k) && same_token (symbol (symbol_at sig k).name) (symbol (symbol_at sig k).name)) (same_sort s s)
      (and_intro (head_right sig (declared s k)) (same_token (symbol (symbol_at sig k).name) (symbol (symbol_at sig k).name)) r (token_same (symbol (symbol_at sig k).name)))
      (sort_self s)

  -- the token of a declared symbol names it, whatever else is asked of a head
  module _ (s : Sort) (k : ℕ) (l : k < length sig) (result : (symbol_at sig k).result ≡ s) (f : Head → Bool)
      (only : (h : Head) → names sig s (symbol (symbol_at sig k).name) h ≡ false → f h ≡ false) (this : f (declared s k) ≡ true) where
    abbrev name : List ℕ
    name = (symbol_at sig k).name

    core_name : (xs : List (List ℕ)) (i : ℕ) → i < length xs → any (same_bytes name) xs ≡ false → same_bytes name (get_or xs i []) ≡ false
    core_name [] i h e = absurd (omega arith)
    core_name (x ∷ xs) zero h e = or_false_left (same_bytes name x) (any (same_bytes name) xs) e
    core_name (x ∷ xs) (suc i) h e = core_name xs i (omega arith) (or_false_right (same_bytes name x) (any (same_bytes name) xs) e)

    not_core : (i : ℕ) → i < 10 → same_bytes name (get_or CORE i []) ≡ false
    not_core i h = core_name CORE i h (core_differs k l)

    -- the test of a head whose name differs
    differs : (a b c : Bool) → b ≡ false → a && b && c ≡ false
    differs true b c p = rw p refl
    differs false b c p = refl

    among : (pre ys : List Symbol) → sig ≡ pre ++ ys → length pre ≤ k → first_with f (declared_from (length pre) ys) ≡ some (declared s k)
    among pre [] e h = absurd (let q : length sig ≡ length pre + 0 = ap length e ∙ length-append pre [] in omega arith)
    among pre (y ∷ ys) e h =
        go (eqb (length pre) k) refl
        (λ h'. among (snoc pre y) ys (e ∙ sym (append_assoc pre (y ∷ []) ys)) (let q : length (snoc pre y) ≡ length pre + 1 = length-append pre (y ∷ []) in omega arith))
      where
        at : symbol_at sig (length pre) ≡ y
        at = ap (λ (x : List Symbol). symbol_at x (length pre)) e ∙ get_or-append_seam pre y ys no_symbol

        one_on : length (snoc pre y) ≡ suc (length pre)
        one_on = let q : length (snoc pre y) ≡ length pre + 1 = length-append pre (y ∷ []) in omega arith

        go : (b : Bool) → eqb (length pre) k ≡ b → (length pre < k → first_with f (declared_from (length (snoc pre y)) ys) ≡ some (declared s k))
            → first_with f (declared_from (length pre) (y ∷ ys)) ≡ some (declared s k)
        go true p rec =
            let q : length pre ≡ k = eqb-true (length pre) k p in
            let r : y.result ≡ s = ap (λ (x : Symbol). x.result) (sym at ∙ ap (symbol_at sig) q) ∙ result in
            let same : declared y.result (length pre) ≡ declared s k = ap₂ {C = Head} declared r q in
            first_here f (declared y.result (length pre)) (declared_from (suc (length pre)) ys) (ap f same ∙ this) ∙ ap some same
        go false p rec =
            let q = eqb-false (length pre) k p in
            let h' : length pre < k = omega (arith, q) in
            first_skip f (declared y.result (length pre)) (declared_from (suc (length pre)) ys)
            (only (declared y.result (length pre)) (differs (head_right sig (declared y.result (length pre))) (same_bytes name (symbol_at sig (length pre)).name) (same_sort y.result s)
            (later_differs (length pre) k h' l)))
            ∙ ap (λ (n : ℕ). first_with f (declared_from n ys)) (sym one_on)
            ∙ rec h'

    pub resolved : first_with f (heads sig) ≡ some (declared s k)
    resolved =
        skip (ite term) 9 (omega arith) refl (ite formula ∷ equals ∷ negation ∷ conjunction ∷ disjunction ∷ implication ∷ verum ∷ falsum ∷ declared_from 0 sig)
        ∙ skip (ite formula) 9 (omega arith) refl (equals ∷ negation ∷ conjunction ∷ disjunction ∷ implication ∷ verum ∷ falsum ∷ declared_from 0 sig)
        ∙ skip equals 7 (omega arith) refl (negation ∷ conjunction ∷ disjunction ∷ implication ∷ verum ∷ falsum ∷ declared_from 0 sig)
        ∙ skip negation 2 (omega arith) refl (conjunction ∷ disjunction ∷ implication ∷ verum ∷ falsum ∷ declared_from 0 sig)
        ∙ skip conjunction 4 (omega arith) refl (disjunction ∷ implication ∷ verum ∷ falsum ∷ declared_from 0 sig)
        ∙ skip disjunction 5 (omega arith) refl (implication ∷ verum ∷ falsum ∷ declared_from 0 sig)
        ∙ skip implication 3 (omega arith) refl (verum ∷ falsum ∷ declared_from 0 sig)
        ∙ skip verum 0 (omega arith) refl (falsum ∷ declared_from 0 sig)
        ∙ skip falsum 1 (omega arith) refl (declared_from 0 sig)
        ∙ among [] sig refl (omega arith)
      where
        skip : (h : Head) (i : ℕ) → i < 10 → names sig s (symbol name) h ≡ (same_bytes name (get_or CORE i []) && same_sort (sort_of_head h) s) → (hs : List Head)
            → first_with f (h ∷ hs) ≡ first_with f hs
        skip h i m e hs = first_skip f h hs (only h (e ∙ differs true (same_bytes name (get_or CORE i [])) (same_sort (sort_of_head h) s) (not_core i m)))

  -- the token of a right head names it: a bare one, and one after a bracket
  pub bare_head : (h : Head) → head_right sig h ≡ true → ready (wanted_by sig h) ≡ true → bare sig (sort_of_head h) (head_token sig h) ≡ some h
  bare_head (declared s k) r q =
      let l = ltb-true k (length sig) (and_left (ltb k (length sig)) (same_sort (symbol_at sig k).result s) r) in
      let e = same_sort_lem (symbol_at sig k).result s (and_right (ltb k (length sig)) (same_sort (symbol_at sig k).result s) r) in
      resolved s k l e (λ h. names sig s (symbol (symbol_at sig k).name) h && ready (wanted_by sig h)) (λ h p. rw p refl)
      (and_intro _ (ready (wanted_by sig (declared s k))) (self_named s k r) q)
  bare_head (ite s) r q = absurd (false≢true q)
  bare_head equals r q = absurd (false≢true q)
  bare_head negation r q = absurd (false≢true q)
  bare_head conjunction r q = absurd (false≢true q)
  bare_head disjunction r q = absurd (false≢true q)
  bare_head implication r q = absurd (false≢true q)
  bare_head verum r q = refl
  bare_head falsum r q = refl

  pub bracketed_head : (h : Head) → head_right sig h ≡ true → ready (wanted_by sig h) ≡ false → all (inhabited sig) (wanted_by sig h).must ≡ true
      → bracketed sig (sort_of_head h) (head_token sig h) ≡ some h
  bracketed_head (declared s k) r q a =
      let l = ltb-true k (length sig) (and_left (ltb k (length sig)) (same_sort (symbol_at sig k).result s) r) in
      let e = same_sort_lem (symbol_at sig k).result s (and_right (ltb k (length sig)) (same_sort (symbol_at sig k).result s) r) in
      let h : Head = declared s k in
      resolved s k l e (λ h. names sig s (symbol (symbol_at sig k).name) h && not (ready (wanted_by sig h)) && all (inhabited sig) (wanted_by sig h).must) (λ h p. rw p refl)
      (and_intro (names sig s (symbol (symbol_at sig k).name) h && not (ready (wanted_by sig h))) (all (inhabited sig) (wanted_by sig h).must)
      (and_intro (names sig s (symbol (symbol_at sig k).name) h) (not (ready (wanted_by sig h))) (self_named s k r) (ap not q)) a)
  bracketed_head (ite term) r q a = first_here (λ h. names sig term (symbol (ascii "ite")) h && not (ready (wanted_by sig h)) && all (inhabited sig) (wanted_by sig h).must) (ite term)
      (ite formula ∷ equals ∷ negation ∷ conjunction ∷ disjunction ∷ implication ∷ verum ∷ falsum ∷ declared_from 0 sig) a
  bracketed_head (ite formula) r q a = refl
  bracketed_head equals r q a = first_here (λ h. names sig formula (symbol (ascii "=")) h && not (ready (wanted_by sig h)) && all (inhabited sig) (wanted_by sig h).must) equals
      (negation ∷ conjunction ∷ disjunction ∷ implication ∷ verum ∷ falsum ∷ declared_from 0 sig) a
  bracketed_head negation r q a = refl
  bracketed_head conjunction r q a = refl
  bracketed_head disjunction r q a = refl
  bracketed_head implication r q a = refl
  bracketed_head verum r q a = absurd (true≢false q)
  bracketed_head falsum r q a = absurd (true≢false q)
