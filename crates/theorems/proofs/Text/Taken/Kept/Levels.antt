-- How many brackets are open after the tokens that led to a state: the assert's own and those of its term (02, E1: "a term's outer one
-- being level 1"). Assumes nothing.
use mathlib.Core.Path.{◌≡◌, refl, ap, ◌∙◌}
use Prim.Native.Nat.{ℕ, zero, suc, ◌+◌, ◌<◌, ◌≤◌}
use native.Mathlib.Omega.{arith}
use mathlib.Core.List.{List, [], ◌∷◌, ◌++◌}
use lib.ListN.{length, replicate}
use Rattle.definitions.specs.Lists.{snoc}
use Rattle.definitions.specs.Problem.Ops.{Sort, term, formula}
use Rattle.definitions.specs.Text.Ascii.{ascii}
use Rattle.definitions.specs.Text.Tokens.{Token, opening, closing, symbol, word}
use Rattle.definitions.specs.Text.Grammar.{Symbol, Head, declared, ite, equals, negation, conjunction, disjunction, implication, verum, falsum, Terms, end, call, Command, declare, assert, Wanted, symbols_in, after, head_token, term_written, terms_written, sort_written, command_written, commands_written}
use Rattle.definitions.specs.Text.Reader.{Opened, Stage, exact, naming, commanding, declaring, finished, taking, giving, inside, heading, level_of}
use Rattle.theorems.specs.Texts.{opens_one, closes_one, opens, closes}
use Rattle.theorems.proofs.Text.Taken.Kept.Invariant.{base, open_written, Inv, DECLARE, ASSERT}

pub opens_append : (ts us : List Token) → opens (ts ++ us) ≡ opens ts + opens us
opens_append [] us = omega arith
opens_append (t ∷ ts) us = let e = opens_append ts us in omega arith

pub closes_append : (ts us : List Token) → closes (ts ++ us) ≡ closes ts + closes us
closes_append [] us = omega arith
closes_append (t ∷ ts) us = let e = closes_append ts us in omega arith

-- so many more open than close
abbrev pub Open : ℕ → List Token → Type 0
Open n ts = opens ts ≡ closes ts + n

pub both_open : (m n : ℕ) (ts us : List Token) → Open m ts → Open n us → Open (m + n) (ts ++ us)
both_open m n ts us p q = let x = opens_append ts us in let y = closes_append ts us in omega arith

head_open : (sig : List Symbol) (h : Head) → (opens_one (head_token sig h) ≡ 0) × (closes_one (head_token sig h) ≡ 0)
head_open sig (declared s k) = (refl, refl)
head_open sig (ite s) = (refl, refl)
head_open sig equals = (refl, refl)
head_open sig negation = (refl, refl)
head_open sig conjunction = (refl, refl)
head_open sig disjunction = (refl, refl)
head_open sig implication = (refl, refl)
head_open sig verum = (refl, refl)
head_open sig falsum = (refl, refl)

-- terms, commands and what is read before a command leave nothing open
term_open : (sig : List Symbol) (h : Head) (args : Terms) (ts : List Token) → Open 0 ts → Open 0 (term_written (head_token sig h) args ts)
term_open sig h end ts p = let x = (head_open sig h).0 in let y = (head_open sig h).1 in omega arith
term_open sig h (call g a r) ts p =
    let x = (head_open sig h).0 in
    let y = (head_open sig h).1 in
    let u = opens_append ts (closing ∷ []) in
    let v = closes_append ts (closing ∷ []) in
    omega arith

pub terms_open : (sig : List Symbol) (row : Terms) → Open 0 (terms_written sig row)
terms_open sig end = refl
terms_open sig (call h args rest) =
    both_open 0 0 (term_written (head_token sig h) args (terms_written sig args)) (terms_written sig rest)
    (term_open sig h args (terms_written sig args) (terms_open sig args)) (terms_open sig rest)

sort_open : (sn : List ℕ) (s : Sort) → (opens_one (sort_written sn s) ≡ 0) × (closes_one (sort_written sn s) ≡ 0)
sort_open sn term = (refl, refl)
sort_open sn formula = (refl, refl)

names_open : (n : ℕ) (name : List ℕ) → Open 0 (replicate n (symbol name))
names_open zero name = refl
names_open (suc n) name = let e = names_open n name in omega arith

command_open : (sn : List ℕ) (sig : List Symbol) (c : Command) → Open 0 (command_written sn sig c)
command_open sn sig (declare y) =
    let R = replicate y.arity (symbol sn) in
    let u = sort_written sn y.result in
    let x = (sort_open sn y.result).0 in
    let z = (sort_open sn y.result).1 in
    let e = names_open y.arity sn in
    let p = opens_append R (closing ∷ u ∷ closing ∷ []) in
    let q = closes_append R (closing ∷ u ∷ closing ∷ []) in
    omega arith
command_open sn sig (assert t) =
    let e = terms_open sig t in
    let p = opens_append (terms_written sig t) (closing ∷ []) in
    let q = closes_append (terms_written sig t) (closing ∷ []) in
    omega arith

commands_open : (sn : List ℕ) (sig : List Symbol) (cs : List Command) → Open 0 (commands_written sn sig cs)
commands_open sn sig [] = refl
commands_open sn sig (c ∷ cs) =
    both_open 0 0 (command_written sn sig c) (commands_written sn (after sig c) cs) (command_open sn sig c) (commands_open sn (after sig c) cs)

pub base_open : (sn : List ℕ) (cs : List Command) → Open 0 (base sn cs)
base_open sn cs = let e = commands_open sn [] cs in omega arith

pub outer_open : (sig : List Symbol) (outer : List Opened) → Open (length outer) (open_written sig outer)
outer_open sig [] = refl
outer_open sig (o ∷ os) =
    let h = head_token sig o.head in
    let x = (head_open sig o.head).0 in
    let y = (head_open sig o.head).1 in
    let one : Open 1 (opening ∷ h ∷ []) = omega arith in
    let e =
    both_open (length os + 0) 1 (open_written sig os ++ terms_written sig o.before) (opening ∷ h ∷ [])
    (both_open (length os) 0 (open_written sig os) (terms_written sig o.before) (outer_open sig os) (terms_open sig o.before)) one in
    omega arith

-- the most that may be open where such a token, and then, may come
abbrev pub owed : Stage → ℕ
owed (exact x then) = closes_one x + owed then
owed naming = 1
owed commanding = 1
owed declaring = 1
owed finished = 0
owed (taking name k) = 2
owed (giving name k) = 1
owed (inside w row outer) = suc (length outer)
owed (heading s w row outer) = suc (suc (length outer))

count : (sn : List ℕ) (cs : List Command) (n : ℕ) (ts us : List Token) → ts ≡ base sn cs ++ us → Open n us → Open n ts
count sn cs n ts us e p =
    let x : opens ts ≡ opens (base sn cs) + opens us = ap opens e ∙ opens_append (base sn cs) us in
    let y : closes ts ≡ closes (base sn cs) + closes us = ap closes e ∙ closes_append (base sn cs) us in
    let b = base_open sn cs in
    omega arith

inside_open : (sn : List ℕ) (cs : List Command) (row : Terms) (outer : List Opened)
    → Open (suc (length outer)) (opening ∷ ASSERT ∷ open_written (symbols_in cs) outer ++ terms_written (symbols_in cs) row)
inside_open sn cs row outer =
    let e = both_open (length outer) 0 (open_written (symbols_in cs) outer) (terms_written (symbols_in cs) row) (outer_open (symbols_in cs) outer) (terms_open (symbols_in cs) row) in
    omega arith

pub heading_open : (sn : List ℕ) (cs : List Command) (s : Sort) (w : Wanted) (row : Terms) (outer : List Opened) (ts : List Token)
    → Inv sn cs (heading s w row outer) ts → Open (suc (suc (length outer))) ts
heading_open sn cs s w row outer ts i =
    let Y : List Token = opening ∷ ASSERT ∷ open_written (symbols_in cs) outer ++ terms_written (symbols_in cs) row in
    let e = inside_open sn cs row outer in
    let p = opens_append Y (opening ∷ []) in
    let q = closes_append Y (opening ∷ []) in
    count sn cs (suc (suc (length outer))) ts (snoc Y opening) i.3 (omega arith)

-- no more is open than that, and inside a term exactly that
pub inv_upper : (sn : List ℕ) (cs : List Command) (stage : Stage) (ts : List Token) → Inv sn cs stage ts → opens ts ≤ closes ts + owed stage
inv_upper sn cs (exact x then) ts i =
    let h = inv_upper sn cs then (snoc ts x) i in
    let p = opens_append ts (x ∷ []) in
    let q = closes_append ts (x ∷ []) in
    omega arith
inv_upper sn cs naming ts i = let p : opens ts ≡ 2 = ap opens i.1 in let q : closes ts ≡ 1 = ap closes i.1 in omega arith
inv_upper sn cs commanding ts i = let e = count sn cs 1 ts (opening ∷ []) i.1 refl in omega arith
inv_upper sn cs declaring ts i = let e = count sn cs 1 ts (opening ∷ DECLARE ∷ []) i.1 refl in omega arith
inv_upper sn cs finished ts i = let e = count sn cs 0 ts (opening ∷ word (ascii "check-sat") ∷ closing ∷ []) i.1 refl in omega arith
inv_upper sn cs (taking name k) ts i =
    let r = names_open k sn in
    let e = count sn cs 2 ts (opening ∷ DECLARE ∷ symbol name ∷ opening ∷ replicate k (symbol sn)) i.3 (omega arith) in
    omega arith
inv_upper sn cs (giving name k) ts i =
    let r = names_open k sn in
    let X = opening ∷ DECLARE ∷ symbol name ∷ opening ∷ replicate k (symbol sn) in
    let p = opens_append X (closing ∷ []) in
    let q = closes_append X (closing ∷ []) in
    let e = count sn cs 1 ts (snoc X closing) i.3 (omega arith) in
    omega arith
inv_upper sn cs (inside w row outer) ts i = let e = count sn cs (suc (length outer)) ts (opening ∷ ASSERT ∷ open_written (symbols_in cs) outer ++ terms_written (symbols_in cs) row) i.2 (inside_open sn cs row outer) in omega arith
inv_upper sn cs (heading s w row outer) ts i = let e = heading_open sn cs s w row outer ts i in omega arith

-- a state deeper than 64 has more than 65 brackets open
pub inv_deep : (sn : List ℕ) (cs : List Command) (stage : Stage) (ts : List Token) → Inv sn cs stage ts → 64 < level_of stage → 66 + closes ts ≤ opens ts
inv_deep sn cs (exact x then) ts i h = absurd (omega arith)
inv_deep sn cs naming ts i h = absurd (omega arith)
inv_deep sn cs commanding ts i h = absurd (omega arith)
inv_deep sn cs declaring ts i h = absurd (omega arith)
inv_deep sn cs finished ts i h = absurd (omega arith)
inv_deep sn cs (taking name k) ts i h = absurd (omega arith)
inv_deep sn cs (giving name k) ts i h = absurd (omega arith)
inv_deep sn cs (inside w row outer) ts i h =
    let e = count sn cs (suc (length outer)) ts (opening ∷ ASSERT ∷ open_written (symbols_in cs) outer ++ terms_written (symbols_in cs) row) i.2 (inside_open sn cs row outer) in
    omega arith
inv_deep sn cs (heading s w row outer) ts i h = let e = heading_open sn cs s w row outer ts i in omega arith
