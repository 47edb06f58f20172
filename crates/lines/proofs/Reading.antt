-- Reading the input job by job, ten bytes and then as many as they say, gives the lines of the night run. Assumes nothing.
use mathlib.Core.Path.{◌≡◌, refl, sym, ap, ap₂, ◌∙◌}
use Prim.Native.Nat.{ℕ, zero, suc, ◌+◌, ◌*◌, ◌≤◌, ◌<◌}
use native.Mathlib.Omega.{arith}
use mathlib.Core.Bool.{Bool, true, false, ◌&&◌}
use mathlib.Core.List.{List, [], ◌∷◌, ◌++◌}
use lib.ListN.{length, take, drop, length-append, get_or-append}
use lib.Seq.{take_at, drop_at, take-append-le, drop-drop}
use lib.Dec.{leb}
use borrow.Author.Tests.{le-leb, lt-leb}
use Rattle.definitions.specs.Bytes.{two_at, low_first}
use Rattle.definitions.specs.Night.{TITLE, END, CUT, line, job_line, whole, budget_of, problem_of, after_job, closing, lines, night_run}

-- the run over an input, from so many jobs on: what is read each time, and what is written
pub data Run : ℕ → List ℕ → List ℕ → Type 0 where
  ended : {jobs : ℕ} → Run jobs [] (closing END jobs)
  cut_head : {jobs : ℕ} (head : List ℕ) → 0 < length head → length head < 10 → Run jobs head (closing CUT jobs)
  cut_problem : {jobs : ℕ} (head problem : List ℕ) → length head ≡ 10 → length problem < two_at head 8
      → Run jobs (head ++ problem) (closing CUT jobs)
  answered : {jobs : ℕ} (head problem : List ℕ) {rest out : List ℕ} → length head ≡ 10 → length problem ≡ two_at head 8
      → Run (suc jobs) rest out
      → Run jobs (head ++ (problem ++ rest)) (job_line (suc jobs) (budget_of head) problem ++ out)

-- the ten bytes say the same with more behind them
module _ (head more : List ℕ) (ten : length head ≡ 10) where
  same_two : two_at (head ++ more) 8 ≡ two_at head 8
  same_two =
      ap₂ (λ (a b : ℕ). a + 256 * b) (get_or-append head more 0 8 (omega arith)) (get_or-append head more 0 9 (omega arith))

  same_budget : budget_of (head ++ more) ≡ budget_of head
  same_budget = ap low_first (take-append-le 8 head more (omega arith))

  behind : drop 10 (head ++ more) ≡ more
  behind = drop_at head more 10 ten

  fits : two_at head 8 ≤ length more → whole (head ++ more) ≡ true
  fits h =
      let l = length-append head more in
      let e = same_two in
      ap₂ ◌&&◌ (le-leb 10 (length (head ++ more)) (omega arith)) (le-leb (10 + two_at (head ++ more) 8) (length (head ++ more)) (omega arith))

  lacks : length more < two_at head 8 → whole (head ++ more) ≡ false
  lacks h =
      let l = length-append head more in
      let e = same_two in
      ap₂ ◌&&◌ (le-leb 10 (length (head ++ more)) (omega arith)) (lt-leb (10 + two_at (head ++ more) 8) (length (head ++ more)) (omega arith))

-- what comes of an input that is not empty, by whether a whole job stands at its start
abbrev onward : Bool → ℕ → ℕ → List ℕ → List ℕ
onward w fuel jobs input =
    elim w as (λ _. List ℕ) [
      | true ↦ job_line (suc jobs) (budget_of input) (problem_of input) ++ lines fuel (suc jobs) (after_job input)
      | false ↦ closing CUT jobs
    ]

step : (fuel jobs : ℕ) (input : List ℕ) {w : Bool} → whole input ≡ w → 0 < length input
    → lines (suc fuel) jobs input ≡ onward w fuel jobs input
step fuel jobs [] e h = absurd (omega arith)
step fuel jobs (b ∷ bs) e h = ap (λ (w : Bool). onward w fuel jobs (b ∷ bs)) e

pub run_lines : (fuel : ℕ) {jobs : ℕ} {input out : List ℕ} → Run jobs input out → length input ≤ fuel → lines fuel jobs input ≡ out
run_lines zero ended h = refl
run_lines (suc fuel) ended h = refl
run_lines zero (cut_head head a b) h = absurd (omega arith)
run_lines (suc fuel) {jobs} (cut_head head a b) h =
    step fuel jobs head (ap (λ (w : Bool). w && leb (10 + two_at head 8) (length head)) (lt-leb 10 (length head) b)) a
run_lines zero (cut_problem head problem a b) h = let l = length-append head problem in absurd (omega arith)
run_lines (suc fuel) {jobs} (cut_problem head problem a b) h =
    let l = length-append head problem in
    step fuel jobs (head ++ problem) (lacks head problem a b) (omega arith)
run_lines zero (answered head problem {rest} a b r) h =
    let l = length-append head (problem ++ rest) in absurd (omega arith)
run_lines (suc fuel) {jobs} (answered head problem {rest} a b r) h =
    let more = problem ++ rest in
    let l = length-append head more in
    let m = length-append problem rest in
    let e = same_two head more a in
    let taken : problem_of (head ++ more) ≡ problem =
    ap₂ {C = List ℕ} take e (behind head more a) ∙ take_at problem rest (two_at head 8) b
    in
    let left : after_job (head ++ more) ≡ rest =
    sym (drop-drop (two_at (head ++ more) 8) 10 (head ++ more)) ∙ ap₂ {C = List ℕ} drop e (behind head more a)
    ∙ drop_at problem rest (two_at head 8) b
    in
    step fuel jobs (head ++ more) (fits head more a (omega arith)) (omega arith)
    ∙ ap₂ {C = List ℕ} (λ x y. x ++ y) (ap₂ (job_line (suc jobs)) (same_budget head more a) taken)
    (ap (lines fuel (suc jobs)) left ∙ run_lines fuel r (omega arith))

pub run_is : {input out : List ℕ} → Run 0 input out → night_run input ≡ line TITLE ++ out
unfolding night_run
run_is {input} r = ap (λ (x : List ℕ). line TITLE ++ x) (run_lines (length input) r (omega arith))
