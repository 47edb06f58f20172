-- A state is deeper than 64 exactly where more than 65 brackets are open (02, E1: "the bracket opening level 65, a term's outer one
-- being level 1"). Assumes nothing.
use mathlib.Core.Path.{◌≡◌, refl}
use Prim.Native.Nat.{zero, suc, ◌+◌, ◌<◌, ◌≤◌}
use native.Mathlib.Omega.{arith}
use mathlib.Core.List.{List, [], ◌∷◌, ◌++◌}
use mathlib.Core.Logic.{◌⊎◌, inl, inr}
use mathlib.Core.Option.{some}
use lib.ListN.{length, take, length-append}
use lib.Seq.{take-append-le, take-append_seam, take_all, take-length}
use Rattle.definitions.specs.Lists.{snoc}
use Rattle.definitions.specs.Text.Tokens.{Token, opening, closing, nought, wrong, symbol, word}
use Rattle.definitions.specs.Text.Grammar.{Symbol, symbols_in}
use Rattle.definitions.specs.Text.Reader.{Stage, exact, naming, commanding, declaring, finished, taking, giving, inside, heading, State, start, level_of}
use Rattle.theorems.specs.Texts.{opens, closes, Shallow}
use Rattle.theorems.proofs.Laws.Tests.{split}
use Rattle.theorems.proofs.Text.Taken.Runs.{runs}
use Rattle.theorems.proofs.Text.Taken.Kept.Levels.{opens_append, closes_append, owed, inv_upper, inv_deep}
use Rattle.theorems.proofs.Text.Taken.Kept.Sound.{keep_run, start_inv}
use Rattle.theorems.proofs.Text.Taken.Finished.Finishing.{CanAt}
use Rattle.theorems.proofs.Text.Taken.Finished.Able.{can_run, can_start}

-- where a state is no deeper than 64, at most 65 brackets are open
few : (sig : List Symbol) (stage : Stage) → CanAt sig stage → level_of stage ≤ 64 → owed stage ≤ 65
few sig (exact x then) c h = c.0
few sig naming c h = omega arith
few sig commanding c h = omega arith
few sig declaring c h = omega arith
few sig finished c h = omega arith
few sig (taking name k) c h = omega arith
few sig (giving name k) c h = omega arith
few sig (inside w row outer) c h = omega arith
few sig (heading s w row outer) c h = omega arith

module _ (ts : List Token) (st : State) (e : runs start ts ≡ some st) where
  pub few_open : level_of st.stage ≤ 64 → opens ts ≤ closes ts + 65
  few_open h =
      let u = inv_upper st.sort_name st.commands st.stage ts (keep_run ts start st [] start_inv e) in
      let f = few (symbols_in st.commands) st.stage (can_run ts start st can_start e) h in
      omega arith

  pub many_open : 64 < level_of st.stage → 66 + closes ts ≤ opens ts
  many_open h = inv_deep st.sort_name st.commands st.stage ts (keep_run ts start st [] start_inv e) h

-- at the start nothing is open
pub shallow_start : Shallow []
shallow_start zero = omega arith
shallow_start (suc j) = omega arith

pub shallow_snoc : (ts : List Token) (t : Token) → Shallow ts → opens (snoc ts t) ≤ closes (snoc ts t) + 65 → Shallow (snoc ts t)
shallow_snoc ts t s h j = go (split (length ts) j)
  where
    go : (length ts < j) ⊎ (j ≤ length ts) → opens (take j (snoc ts t)) ≤ closes (take j (snoc ts t)) + 65
    go (inl l) = rw (take_all j (snoc ts t) (let e : length (snoc ts t) ≡ length ts + 1 = length-append ts (t ∷ []) in omega arith)) h
    go (inr l) = rw (take-append-le j ts (t ∷ []) l) (s j)

-- at every point of tokens that are nowhere too deep, few are open
pub shallow_part : (ts us : List Token) → Shallow (ts ++ us) → opens ts ≤ closes ts + 65
shallow_part ts us s = rw take-append_seam at (s (length ts))

-- what makes few into many is an opening bracket
pub opens_deep : (ts : List Token) (t : Token) → Shallow ts → 66 + closes (snoc ts t) ≤ opens (snoc ts t) → t ≡ opening
opens_deep ts t s h = go t (opens_append ts (t ∷ [])) (closes_append ts (t ∷ []))
  where
    some_open : opens ts ≤ closes ts + 65
    some_open = rw take-length at (s (length ts))

    go : (u : Token) → opens (snoc ts t) ≡ opens ts + opens (u ∷ []) → closes (snoc ts t) ≡ closes ts + closes (u ∷ []) → u ≡ opening
    go opening p q = refl
    go closing p q = absurd (let l = some_open in omega arith)
    go nought p q = absurd (let l = some_open in omega arith)
    go wrong p q = absurd (let l = some_open in omega arith)
    go (symbol name) p q = absurd (let l = some_open in omega arith)
    go (word name) p q = absurd (let l = some_open in omega arith)
