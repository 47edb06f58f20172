-- The name after each word declare-fun is that of the symbol which a text that is read declares there. Assumes nothing.
use mathlib.Core.Path.{◌≡◌, refl, sym, ap, ◌∙◌}
use Prim.Native.Nat.{ℕ, zero, suc}
use mathlib.Core.Bool.{Bool, true, false}
use mathlib.Core.List.{List, [], ◌∷◌, ◌++◌, append-nil}
use lib.ListN.{length, get_or, take}
use Rattle.definitions.specs.Operations.Answers.{given}
use Rattle.definitions.specs.Text.Ascii.{ascii}
use Rattle.definitions.specs.Text.Tokens.{opening, closing, wrong, word, Placed, tokens_of, name_of, same_token}
use Rattle.definitions.specs.Text.Grammar.{Symbol, Script, symbols_in, symbol_at, no_symbol, new_sort, commands_right, script_right, written}
use Rattle.definitions.specs.Text.Reader.{script_read}
use Rattle.definitions.specs.Solve.{names_in, name_at}
use Rattle.theorems.specs.Texts.{plain_tokens, text_tokens}
use Rattle.theorems.proofs.Laws.Tests.{and_left}
use Rattle.theorems.proofs.Text.Taken.Exactly.{read_means}
use Rattle.theorems.proofs.Text.Taken.Kept.Invariant.{DECLARE}
use Rattle.terms.specs.Declarations.{declared_here, declared_in}
use Rattle.terms.proofs.DeclaredLaws.{declared_on}

module _ (sn : List ℕ) (d : Placed) (e : d.token ≡ wrong) where
  -- the names of placed tokens are those of the symbols that the tokens declare
  names_alike : (ps : List Placed) (k : ℕ) → name_of (get_or (names_in ps) k d).token ≡ (get_or (declared_in sn (plain_tokens ps)) k no_symbol).name
  names_alike [] k = ap name_of e
  names_alike (p ∷ ps) k = go (same_token p.token DECLARE) ps k (names_alike ps)
    where
      go : (b : Bool) (qs : List Placed) (k : ℕ)
          → ((j : ℕ) → name_of (get_or (names_in qs) j d).token ≡ (get_or (declared_in sn (plain_tokens qs)) j no_symbol).name)
          → name_of (get_or (elim b [ true ↦ take 1 qs ++ names_in qs | false ↦ names_in qs ]) k d).token
          ≡ (get_or (elim b [ true ↦ declared_here sn (plain_tokens qs) ∷ declared_in sn (plain_tokens qs) | false ↦ declared_in sn (plain_tokens qs) ]) k no_symbol).name
      go false qs k h = h k
      go true [] zero h = ap name_of e
      go true [] (suc k) h = ap name_of e
      go true (q ∷ qs) zero h = refl
      go true (q ∷ qs) (suc k) h = h k

module _ (text : List ℕ) (s : Script) (r : script_read text ≡ given s) where
  symbols_are : declared_in s.sort_name (text_tokens text) ≡ symbols_in s.commands
  unfolding written script_right
  symbols_are =
      let read = (read_means text s).0 r in
      let sn = s.sort_name in
      let new = and_left (new_sort sn) (commands_right [] s.commands) read.right in
      ap (declared_in sn) (sym read.writes)
      ∙ declared_on sn new s.commands (opening ∷ word (ascii "check-sat") ∷ closing ∷ [])
      ∙ append-nil (symbols_in s.commands)

  -- so each row is printed under its symbol's own name
  pub name_declared : (k : ℕ) → name_of (name_at text k).token ≡ (symbol_at (symbols_in s.commands) k).name
  unfolding name_at
  name_declared k =
      names_alike s.sort_name (record { token = wrong; place = length text }) refl (tokens_of text) k
      ∙ ap (λ (ys : List Symbol). (get_or ys k no_symbol).name) symbols_are
