-- Where declared names are new, each in its turn, the head that a name gives is told by two searches: among Core's names and among
-- the declared symbols. Assumes nothing.
use mathlib.Core.Path.{◌≡◌, refl, sym, ap, ap₂, ◌∙◌, subst}
use Prim.Native.Nat.{ℕ, zero, suc, ◌<◌}
use native.Mathlib.Omega.{arith}
use mathlib.Core.Bool.{Bool, true, false, not, ◌&&◌, true≢false, and-true, and-false}
use mathlib.Core.List.{List, [], ◌∷◌}
use mathlib.Core.Logic.{inl, inr}
use mathlib.Core.Option.{Option, none, some}
use lib.ListN.{length, get_or, replicate}
use lib.Dec.{eqb, ltb}
use borrow.Author.Tests.{eqb-true, eqb-false, ltb-true, lt-ltb, ne_eqb}
use Rattle.definitions.specs.Lists.{any, all, first_failing}
use Rattle.definitions.specs.Problem.Ops.{Sort, term, formula, same_sort}
use Rattle.definitions.specs.Text.Ascii.{ascii, same_bytes}
use Rattle.definitions.specs.Text.Tokens.{Token, opening, closing, nought, wrong, symbol, word, kind_of, same_token}
use Rattle.definitions.specs.Text.Grammar.{Symbol, Head, declared, ite, equals, negation, conjunction, disjunction, implication, verum, falsum, symbol_at, wanted_by, sort_of_head, exactly, ready, head_right, CORE, head_token}
use Rattle.definitions.specs.Text.Heads.{first_with, declared_from, heads, inhabited, names, bare, bracketed}
use Rattle.definitions.specs.Text.Reader.{symbol_name}
use Rattle.theorems.proofs.Laws.Tests.{none≢some, split}
use Rattle.theorems.proofs.Laws.Ops.{same_sort_lem}
use Rattle.theorems.proofs.Laws.All.{all_replicate}
use Rattle.theorems.proofs.Text.Taken.Runs.{same_bytes_lem, bytes_same, first_skip}
use Rattle.theorems.proofs.Text.Taken.Written.Resolve.{Fresh, later_differs, core_differs, resolved}
use Rattle.terms.specs.Named.{core_of, resolve, only_if, stands_bare, stands_head, declared_by, bare_by, bracketed_by}
use Rattle.problem.proofs.Scans.{any_none}
use Rattle.terms.proofs.NameLaws.{apart, unresolved, resolved_to}

abbrev is_core : List ℕ → Bool
is_core name = any (same_bytes name) CORE

-- the second of three tests fails
second : (a b c : Bool) → b ≡ false → a && b && c ≡ false
second true b c e = rw e refl
second false b c e = refl

last : (a b : Bool) → b ≡ false → a && b ≡ false
last a b e = rw e (and-false a)

-- what is asked of a head: bare, and after a bracket
abbrev plainly : List Symbol → Sort → Token → Head → Bool
plainly sig s t h = names sig s t h && ready (wanted_by sig h)

abbrev headed : List Symbol → Sort → Token → Head → Bool
headed sig s t h = names sig s t h && not (ready (wanted_by sig h)) && all (inhabited sig) (wanted_by sig h).must

-- nothing is found where nothing passes
module _ (f : Head → Bool) where
  never : (hs : List Head) → ((h : Head) → f h ≡ false) → first_with f hs ≡ none
  never [] p = refl
  never (h ∷ hs) p = first_skip f h hs (p h) ∙ never hs p

  none_declared : (k : ℕ) (ys : List Symbol) → ((s : Sort) (j : ℕ) → f (declared s j) ≡ false) → first_with f (declared_from k ys) ≡ none
  none_declared k [] p = refl
  none_declared k (y ∷ ys) p =
      first_skip f (declared y.result k) (declared_from (suc k) ys) (p y.result k) ∙ none_declared (suc k) ys p

-- a head is written by a symbol, so a token that is no symbol names none
pub head_symbol : (sig : List Symbol) (h : Head) → kind_of (head_token sig h) ≡ 4
head_symbol sig (declared s k) = refl
head_symbol sig (ite s) = refl
head_symbol sig equals = refl
head_symbol sig negation = refl
head_symbol sig conjunction = refl
head_symbol sig disjunction = refl
head_symbol sig implication = refl
head_symbol sig verum = refl
head_symbol sig falsum = refl

no_symbol_lem : (t : Token) → symbol_name t ≡ none → eqb (kind_of t) 4 ≡ false
no_symbol_lem opening e = refl
no_symbol_lem closing e = refl
no_symbol_lem nought e = refl
no_symbol_lem wrong e = refl
no_symbol_lem (symbol name) e = absurd (none≢some (sym e))
no_symbol_lem (word name) e = refl

module _ (sig : List Symbol) (s : Sort) (t : Token) (e : symbol_name t ≡ none) where
  nameless : (h : Head) → names sig s t h ≡ false
  nameless h = second (head_right sig h) (same_token t (head_token sig h)) (same_sort (sort_of_head h) s) (rw (head_symbol sig h, no_symbol_lem t e) refl)

  pub bare_none : bare sig s t ≡ none
  bare_none = never (plainly sig s t) (heads sig) (λ h. rw (nameless h) refl)

  pub bracketed_none : bracketed sig s t ≡ none
  bracketed_none = never (headed sig s t) (heads sig) (λ h. rw (nameless h) refl)

-- a search among rows of names: what is so of each row that is found, and where none is
module _ (name : List ℕ) (P : List ℕ → Option ℕ → Type 0) where
  abbrev Each : ℕ → List (List ℕ) → Type 0
  Each i [] = Unit {0}
  Each i (x ∷ xs) = P x (some i) × Each (suc i) xs

  abbrev search : ℕ → List (List ℕ) → Option ℕ
  search i xs = first_failing (λ row. not (same_bytes name row)) i xs

  by_row : (i : ℕ) (xs : List (List ℕ)) → Each i xs → (search i xs ≡ none → P name none) → P name (search i xs)
  by_row i [] e n = n refl
  by_row i (x ∷ xs) e n = go (same_bytes name x) refl n (by_row (suc i) xs e.1)
    where
      on : Bool → Option ℕ
      on b = elim (not b) [ true ↦ search (suc i) xs | false ↦ some i ]

      go : (b : Bool) → same_bytes name x ≡ b → (on b ≡ none → P name none) → ((on false ≡ none → P name none) → P name (on false)) → P name (on b)
      go true p m rec = subst (λ (n : List ℕ). P n (some i)) (sym (same_bytes_lem name x p)) e.0
      go false p m rec = rec m

  by_core : Each 0 CORE → (is_core name ≡ false → P name none) → P name (core_of name)
  by_core e n = by_row 0 CORE e (λ q. n (any_none (same_bytes name) 0 CORE q))

module _ (sig : List Symbol) (s : Sort) where
  -- a declared symbol of another name
  other_declared : (name : List ℕ) (r : Sort) (j : ℕ) → (j < length sig → same_bytes name (symbol_at sig j).name ≡ false)
      → names sig s (symbol name) (declared r j) ≡ false
  other_declared name r j d = go (ltb j (length sig)) refl
    where
      go : (b : Bool) → ltb j (length sig) ≡ b
          → (b && same_sort (symbol_at sig j).result r && same_bytes name (symbol_at sig j).name && same_sort r s) ≡ false
      go true p =
          second (same_sort (symbol_at sig j).result r) (same_bytes name (symbol_at sig j).name) (same_sort r s) (d (ltb-true j (length sig) p))
      go false p = refl

  -- a name that is not Core's gives no head but a declared symbol
  module _ (name : List ℕ) (core : is_core name ≡ false) (f : Head → Bool) (only : (h : Head) → names sig s (symbol name) h ≡ false → f h ≡ false)
      (each : (r : Sort) (j : ℕ) → f (declared r j) ≡ false) where
    row : (x : List ℕ) → is_core x ≡ true → (b : Bool) → same_bytes name x && b ≡ false
    row x e b = rw (apart (λ n. not (is_core n)) name x (ap not core) (ap not e)) refl

    fails : (h : Head) → f h ≡ false
    fails (declared r j) = each r j
    fails (ite r) = only (ite r) (row (ascii "ite") refl (same_sort r s))
    fails equals = only equals (row (ascii "=") refl (same_sort formula s))
    fails negation = only negation (row (ascii "not") refl (same_sort formula s))
    fails conjunction = only conjunction (row (ascii "and") refl (same_sort formula s))
    fails disjunction = only disjunction (row (ascii "or") refl (same_sort formula s))
    fails implication = only implication (row (ascii "=>") refl (same_sort formula s))
    fails verum = only verum (row (ascii "true") refl (same_sort formula s))
    fails falsum = only falsum (row (ascii "false") refl (same_sort formula s))

    no_head : first_with f (heads sig) ≡ none
    no_head = never f (heads sig) fails

module _ (sig : List Symbol) (fresh : Fresh sig) (s : Sort) where
  -- the k-th symbol's own name gives that symbol or no head
  module _ (k : ℕ) (l : k < length sig) (f : Head → Bool) (only : (h : Head) → names sig s (symbol (symbol_at sig k).name) h ≡ false → f h ≡ false) where
    abbrev own : List ℕ
    own = (symbol_at sig k).name

    other : (j : ℕ) → (j ≡ k → ⊥) → j < length sig → same_bytes own (symbol_at sig j).name ≡ false
    other j n h =
        elim (split j k) [
          | inl b ↦ later_differs sig fresh j k b l
          | inr b ↦
              apart (λ (x : List ℕ). same_bytes x own) own (symbol_at sig j).name (bytes_same own)
              (later_differs sig fresh k j (omega (arith, n)) h)
        ]

    result : f (declared s k) ≡ true → (b : Bool) → same_sort (symbol_at sig k).result s ≡ b → (symbol_at sig k).result ≡ s
    result p true e = same_sort_lem (symbol_at sig k).result s e
    result p false e =
        let named : names sig s (symbol own) (declared s k) ≡ false = rw e (go (ltb k (length sig))) in
        absurd (true≢false (sym p ∙ only (declared s k) named))
      where
        go : (b : Bool) → (b && false && same_bytes own own && same_sort s s) ≡ false
        go true = refl
        go false = refl

    by_own : first_with f (heads sig) ≡ only_if (f (declared s k)) (declared s k)
    by_own = go (f (declared s k)) refl
      where
        go : (b : Bool) → f (declared s k) ≡ b → first_with f (heads sig) ≡ only_if b (declared s k)
        go true p = resolved sig fresh s k l (result p (same_sort (symbol_at sig k).result s) refl) f only p
        go false p = no_head sig s own (core_differs sig fresh k l) f only (λ r j. each r j (eqb j k) refl (same_sort r s) refl)
          where
            each : (r : Sort) (j : ℕ) (b : Bool) → eqb j k ≡ b → (c : Bool) → same_sort r s ≡ c → f (declared r j) ≡ false
            each r j true e true q = ap f (ap₂ {C = Head} declared (same_sort_lem r s q) (eqb-true j k e)) ∙ p
            each r j true e false q = only (declared r j) (last (head_right sig (declared r j) && same_bytes own (symbol_at sig j).name) (same_sort r s) q)
            each r j false e c q = only (declared r j) (other_declared sig s own r j (other j (eqb-false j k e)))

  -- any test of a head by its name, that a declared symbol passes by what it is
  module _ (f : List ℕ → Head → Bool) (only : (name : List ℕ) (h : Head) → names sig s (symbol name) h ≡ false → f name h ≡ false)
      (stands : Symbol → Bool) (own_stands : (k : ℕ) → k < length sig → f (symbol_at sig k).name (declared s k) ≡ stands (symbol_at sig k)) where
    core_only : (name : List ℕ) → is_core name ≡ true → first_with (f name) (declared_from 0 sig) ≡ none
    core_only name e =
        none_declared (f name) 0 sig
        (λ r j. only name (declared r j)
        (other_declared sig s name r j (λ l. apart is_core name (symbol_at sig j).name e (core_differs sig fresh j l))))

    by_declared : (name : List ℕ) → is_core name ≡ false → first_with (f name) (heads sig) ≡ declared_by sig stands s (resolve sig name)
    by_declared name core = go (resolve sig name) refl
      where
        go : (o : Option ℕ) → resolve sig name ≡ o → first_with (f name) (heads sig) ≡ declared_by sig stands s o
        go none e =
            no_head sig s name core (f name) (only name)
            (λ r j. only name (declared r j) (other_declared sig s name r j (unresolved sig name e j)))
        go (some k) e =
            let to = resolved_to sig name k e in
            ap (λ (n : List ℕ). first_with (f n) (heads sig)) to.1
            ∙ by_own k to.0 (f (symbol_at sig k).name) (only (symbol_at sig k).name)
            ∙ ap (λ (b : Bool). only_if b (declared s k)) (own_stands k to.0)

  -- the k-th symbol is named by its name where its result is the sort
  own_named : (k : ℕ) → k < length sig → names sig s (symbol (symbol_at sig k).name) (declared s k) ≡ same_sort (symbol_at sig k).result s
  own_named k l = simp (lt-ltb k (length sig) l, bytes_same (symbol_at sig k).name, self s, and-true)
    where
      self : (r : Sort) → same_sort r r ≡ true
      self term = refl
      self formula = refl

-- a symbol stands bare if it takes no argument
abbrev none_wanted : ℕ → Bool
none_wanted n = ready (exactly (replicate n term))

none_wanted_lem : (n : ℕ) → none_wanted n ≡ eqb n 0
none_wanted_lem zero = refl
none_wanted_lem (suc n) = sym (ne_eqb (suc n) 0 (λ e. omega arith))

-- where some argument is wanted, all have terms if the sort has
some_wanted : (p : Sort → Bool) (a : Bool) (n : ℕ) → (a && not (none_wanted n) && all p (replicate n term)) ≡ (a && not (none_wanted n) && p term)
some_wanted p true zero = refl
some_wanted p false zero = refl
some_wanted p a (suc n) = ap (λ (b : Bool). a && true && b) (go (p term) refl)
  where
    go : (b : Bool) → p term ≡ b → b && all p (replicate n term) ≡ b
    go true e = all_replicate p n term e
    go false e = refl

module _ (sig : List Symbol) (fresh : Fresh sig) (s : Sort) where
  module _ (name : List ℕ) (h : Head) (p : names sig s (symbol name) h ≡ false) where
    not_plainly : plainly sig s (symbol name) h ≡ false
    not_plainly = rw p refl

    not_headed : headed sig s (symbol name) h ≡ false
    not_headed = rw p refl

  module _ (k : ℕ) (l : k < length sig) where
    abbrev y : Symbol
    y = symbol_at sig k

    own_plainly : plainly sig s (symbol y.name) (declared s k) ≡ stands_bare s y
    own_plainly = rw (own_named sig fresh s k l, none_wanted_lem y.arity) refl

    own_headed : headed sig s (symbol y.name) (declared s k) ≡ stands_head sig s y
    own_headed =
        rw (own_named sig fresh s k l)
        (some_wanted (inhabited sig) (same_sort y.result s) y.arity
        ∙ ap (λ (b : Bool). same_sort y.result s && not b && inhabited sig term) (none_wanted_lem y.arity))

  -- no declared symbol has Core's i-th name
  core_plainly : (i : ℕ) → is_core (get_or CORE i []) ≡ true → first_with (plainly sig s (symbol (get_or CORE i []))) (declared_from 0 sig) ≡ none
  core_plainly i e = core_only sig fresh s (λ n. plainly sig s (symbol n)) not_plainly (stands_bare s) own_plainly (get_or CORE i []) e

  core_headed : (i : ℕ) → is_core (get_or CORE i []) ≡ true → first_with (headed sig s (symbol (get_or CORE i []))) (declared_from 0 sig) ≡ none
  core_headed i e = core_only sig fresh s (λ n. headed sig s (symbol n)) not_headed (stands_head sig s) own_headed (get_or CORE i []) e

-- = and ite on terms want terms of the sort
wants_terms : (b : Bool) (h : Head) (o : Option Head) → o ≡ none → (elim (b && (b && true)) [ true ↦ some h | false ↦ o ]) ≡ only_if b h
wants_terms true h o e = refl
wants_terms false h o e = e

module _ (sig : List Symbol) (fresh : Fresh sig) (name : List ℕ) where
  abbrev Bare : Sort → List ℕ → Option ℕ → Type 0
  Bare s n o = bare sig s (symbol n) ≡ bare_by sig s o (resolve sig n)

  bare_core_lem : (s : Sort) → Each name (Bare s) 0 CORE
  bare_core_lem term =
      let no = core_plainly sig fresh term in
      (no 0 refl, (no 1 refl, (no 2 refl, (no 3 refl, (no 4 refl, (no 5 refl, (no 6 refl, (no 7 refl, (no 8 refl, (no 9 refl, tt))))))))))
  bare_core_lem formula =
      let no = core_plainly sig fresh formula in
      (refl, (refl, (no 2 refl, (no 3 refl, (no 4 refl, (no 5 refl, (no 6 refl, (no 7 refl, (no 8 refl, (no 9 refl, tt))))))))))

  pub bare_by_lem : (s : Sort) → bare sig s (symbol name) ≡ bare_by sig s (core_of name) (resolve sig name)
  bare_by_lem s =
      by_core name (Bare s) (bare_core_lem s)
      (by_declared sig fresh s (λ n. plainly sig s (symbol n)) (not_plainly sig fresh s) (stands_bare s) (own_plainly sig fresh s) name)

  abbrev Bracketed : Sort → List ℕ → Option ℕ → Type 0
  Bracketed s n o = bracketed sig s (symbol n) ≡ bracketed_by sig s o (resolve sig n)

  bracketed_core_lem : (s : Sort) → Each name (Bracketed s) 0 CORE
  bracketed_core_lem term =
      let no = core_headed sig fresh term in
      let chosen = wants_terms (inhabited sig term) (ite term) (first_with (headed sig term (symbol (ascii "ite"))) (declared_from 0 sig)) (no 9 refl) in
      (no 0 refl, (no 1 refl, (no 2 refl, (no 3 refl, (no 4 refl, (no 5 refl, (no 6 refl, (no 7 refl, (no 8 refl, (chosen, tt))))))))))
  bracketed_core_lem formula =
      let no = core_headed sig fresh formula in
      let equal = wants_terms (inhabited sig term) equals (first_with (headed sig formula (symbol (ascii "="))) (declared_from 0 sig)) (no 7 refl) in
      (no 0 refl, (no 1 refl, (refl, (refl, (refl, (refl, (no 6 refl, (equal, (no 8 refl, (refl, tt))))))))))

  pub bracketed_by_lem : (s : Sort) → bracketed sig s (symbol name) ≡ bracketed_by sig s (core_of name) (resolve sig name)
  bracketed_by_lem s =
      by_core name (Bracketed s) (bracketed_core_lem s)
      (by_declared sig fresh s (λ n. headed sig s (symbol n)) (not_headed sig fresh s) (stands_head sig s) (own_headed sig fresh s) name)
