-- The declared symbols are found in the tokens again: in those that write commands each declare-fun declares its command's
-- symbol, and no other token is that word. Assumes nothing.
use mathlib.Core.Path.{◌≡◌, refl, sym, ap, ap₂, ◌∙◌}
use Prim.Native.Nat.{ℕ, zero, suc}
use mathlib.Core.Bool.{Bool, true, false, not, ◌||◌, or-false}
use mathlib.Core.List.{List, [], ◌∷◌, ◌++◌, append_assoc}
use lib.ListN.{replicate}
use borrow.Author.Tests.{not-true}
use Rattle.definitions.specs.Lists.{snoc}
use Rattle.definitions.specs.Problem.Ops.{Sort, term, formula}
use Rattle.definitions.specs.Text.Ascii.{same_bytes}
use Rattle.definitions.specs.Text.Tokens.{Token, opening, closing, symbol, same_token}
use Rattle.definitions.specs.Text.Grammar.{Symbol, Head, Terms, end, call, Command, declare, assert, symbols_in, BOOL, solvers_own, new_sort, after, head_token, term_written, terms_written, sort_written, command_written, commands_written}
use Rattle.theorems.proofs.Laws.Tests.{and_left}
use Rattle.theorems.proofs.Text.Taken.Runs.{token_same}
use Rattle.theorems.proofs.Text.Taken.Kept.Invariant.{base, DECLARE}
use Rattle.terms.specs.Declarations.{arguments_in, after_arguments, result_in, declared_here, declared_in}
use Rattle.terms.proofs.NameLaws.{apart}
use Rattle.terms.proofs.HeadLaws.{head_symbol}

module _ (sn : List ℕ) (t : Token) (ts : List Token) where
  by : {b : Bool} → same_token t DECLARE ≡ b
      → declared_in sn (t ∷ ts) ≡ elim b [ true ↦ declared_here sn ts ∷ declared_in sn ts | false ↦ declared_in sn ts ]
  by e = ap found e
    where
      found : Bool → List Symbol
      found b = elim b [ true ↦ declared_here sn ts ∷ declared_in sn ts | false ↦ declared_in sn ts ]

  pub declared_skip : same_token t DECLARE ≡ false → declared_in sn (t ∷ ts) ≡ declared_in sn ts
  declared_skip e = by e

-- no token of a term, and none of a sort, is declare-fun
head_other : (sig : List Symbol) (h : Head) → same_token (head_token sig h) DECLARE ≡ false
head_other sig h = rw (head_symbol sig h) refl

sort_other : (sn : List ℕ) (s : Sort) → same_token (sort_written sn s) DECLARE ≡ false
sort_other sn term = refl
sort_other sn formula = refl

module _ (sn : List ℕ) where
  skip_terms : (sig : List Symbol) (x : Terms) (ts : List Token) → declared_in sn (terms_written sig x ++ ts) ≡ declared_in sn ts
  skip_terms sig end ts = refl
  skip_terms sig (call h args rest) ts =
      ap (declared_in sn) (append_assoc (term_written (head_token sig h) args (terms_written sig args)) (terms_written sig rest) ts)
      ∙ one args (skip_terms sig args (closing ∷ terms_written sig rest ++ ts))
      ∙ skip_terms sig rest ts
    where
      us : List Token
      us = terms_written sig rest ++ ts

      one : (x : Terms) → declared_in sn (terms_written sig x ++ (closing ∷ us)) ≡ declared_in sn us
          → declared_in sn (term_written (head_token sig h) x (terms_written sig x) ++ us) ≡ declared_in sn us
      one end e = declared_skip sn (head_token sig h) us (head_other sig h)
      one (call g inner later) e =
          let ws : List Token = terms_written sig (call g inner later) in
          declared_skip sn (head_token sig h) (snoc ws closing ++ us) (head_other sig h)
          ∙ ap (declared_in sn) (append_assoc ws (closing ∷ []) us)
          ∙ e

  -- the arguments of a declaration
  module _ (ts : List Token) where
    arguments_in_lem : (n : ℕ) → arguments_in (replicate n (symbol sn) ++ (closing ∷ ts)) ≡ n
    arguments_in_lem zero = refl
    arguments_in_lem (suc n) = ap suc (arguments_in_lem n)

    after_arguments_lem : (n : ℕ) → after_arguments (replicate n (symbol sn) ++ (closing ∷ ts)) ≡ ts
    after_arguments_lem zero = refl
    after_arguments_lem (suc n) = after_arguments_lem n

    skip_arguments : (n : ℕ) → declared_in sn (replicate n (symbol sn) ++ ts) ≡ declared_in sn ts
    skip_arguments zero = refl
    skip_arguments (suc n) = skip_arguments n

  module _ (new : new_sort sn ≡ true) where
    -- Bool is not the sort
    result_in_lem : (s : Sort) (ts : List Token) → result_in sn (sort_written sn s ∷ ts) ≡ s
    result_in_lem term ts = rw (token_same (symbol sn)) refl
    result_in_lem formula ts = rw (apart (λ (n : List ℕ). same_bytes n BOOL) BOOL sn refl sort_new, result_in) refl
      where
        sort_new : same_bytes sn BOOL ≡ false
        sort_new =
            sym (or-false (same_bytes sn BOOL))
            ∙ not-true (same_bytes sn BOOL || false) (and_left (not (same_bytes sn BOOL || false)) (not (solvers_own sn)) new)

    here_is : (y : Symbol) (ts : List Token)
        → declared_here sn (symbol y.name ∷ opening ∷ replicate y.arity (symbol sn) ++ (closing ∷ sort_written sn y.result ∷ ts)) ≡ y
    here_is y ts =
        let us : List Token = sort_written sn y.result ∷ ts in
        rw (arguments_in_lem us y.arity, after_arguments_lem us y.arity, result_in_lem y.result ts) refl

    -- a command's tokens declare what it declares
    by_command : (sig : List Symbol) (c : Command) (ts : List Token) → declared_in sn (command_written sn sig c ++ ts) ≡ symbols_in (c ∷ []) ++ declared_in sn ts
    by_command sig (assert x) ts = ap (declared_in sn) (append_assoc (terms_written sig x) (closing ∷ []) ts) ∙ skip_terms sig x (closing ∷ ts)
    by_command sig (declare y) ts =
        let sort = sort_written sn y.result in
        let args : List Token = replicate y.arity (symbol sn) in
        ap (λ (us : List Token). declared_here sn (symbol y.name ∷ opening ∷ us) ∷ declared_in sn us) (append_assoc args (closing ∷ sort ∷ closing ∷ []) ts)
        ∙ ap₂ {C = List Symbol} (λ z zs. z ∷ zs) (here_is y (closing ∷ ts))
        (skip_arguments (closing ∷ sort ∷ closing ∷ ts) y.arity ∙ declared_skip sn sort (closing ∷ ts) (sort_other sn y.result))

    by_commands : (sig : List Symbol) (cs : List Command) (ts : List Token)
        → declared_in sn (commands_written sn sig cs ++ ts) ≡ symbols_in cs ++ declared_in sn ts
    by_commands sig [] ts = refl
    by_commands sig (c ∷ cs) ts =
        ap (declared_in sn) (append_assoc (command_written sn sig c) (commands_written sn (after sig c) cs) ts)
        ∙ by_command sig c (commands_written sn (after sig c) cs ++ ts)
        ∙ ap (λ (ys : List Symbol). symbols_in (c ∷ []) ++ ys) (by_commands (after sig c) cs ts)
        ∙ joined c
      where
        joined : (c : Command) → symbols_in (c ∷ []) ++ (symbols_in cs ++ declared_in sn ts) ≡ symbols_in (c ∷ cs) ++ declared_in sn ts
        joined (declare y) = refl
        joined (assert x) = refl

    -- what is read before a command declares the symbols of the commands before it, whatever comes then
    pub declared_on : (cs : List Command) (ts : List Token) → declared_in sn (base sn cs ++ ts) ≡ symbols_in cs ++ declared_in sn ts
    declared_on cs ts = by_commands [] cs ts
