-- The names that a state of the reader knows come from the tokens that led to it, so they can be spelled if those can; and no wrong
-- token is taken (02, E1). Assumes nothing.
use mathlib.Core.Path.{◌≡◌, refl, ap, ◌∙◌, subst}
use Prim.Native.Nat.{ℕ}
use mathlib.Core.Bool.{Bool, true, false}
use mathlib.Core.List.{List, [], ◌∷◌, ◌++◌}
use lib.ListN.{replicate}
use Rattle.definitions.specs.Lists.{snoc, all}
use Rattle.definitions.specs.Problem.Ops.{Sort, term, formula}
use Rattle.definitions.specs.Text.Tokens.{Token, opening, closing, nought, wrong, symbol, word}
use Rattle.definitions.specs.Text.Grammar.{Symbol, Head, declared, ite, equals, negation, conjunction, disjunction, implication, verum, falsum, Terms, end, call, Command, declare, assert, symbols_in, after, head_token, term_written, terms_written, sort_written, command_written, commands_written, HEADER}
use Rattle.definitions.specs.Text.Reader.{Opened, Stage, exact, naming, commanding, declaring, finished, taking, giving, inside, heading}
use Rattle.theorems.proofs.Laws.Tests.{and_left, and_right, and_intro}
use Rattle.theorems.proofs.Laws.All.{all_append, all_left, all_right, all_replicate}
use Rattle.theorems.proofs.Text.Taken.Spelling.{spellable}
use Rattle.theorems.proofs.Text.Taken.Lexed.{lexed}
use Rattle.theorems.proofs.Text.Taken.Finished.Constants.{named_in_bars}
use Rattle.theorems.proofs.Text.Taken.Finished.Finishing.{CanAt}
use Rattle.theorems.proofs.Text.Taken.Kept.Invariant.{base, open_written, Inv}

-- a declaration writes its name
commands_names : (sn : List ℕ) (sig : List Symbol) (cs : List Command) → all spellable (commands_written sn sig cs) ≡ true → all named_in_bars (symbols_in cs) ≡ true
commands_names sn sig [] e = refl
commands_names sn sig (declare y ∷ cs) e =
    let this = all_left spellable (command_written sn sig (declare y)) (commands_written sn (snoc sig y) cs) e in
    let that = all_right spellable (command_written sn sig (declare y)) (commands_written sn (snoc sig y) cs) e in
    and_intro (named_in_bars y) (all named_in_bars (symbols_in cs)) (and_left (named_in_bars y) _ this) (commands_names sn (snoc sig y) cs that)
commands_names sn sig (assert t ∷ cs) e = commands_names sn sig cs (all_right spellable (command_written sn sig (assert t)) (commands_written sn sig cs) e)

base_names : (sn : List ℕ) (cs : List Command) (ts us : List Token) → ts ≡ base sn cs ++ us → all spellable ts ≡ true → all named_in_bars (symbols_in cs) ≡ true
base_names sn cs ts us e b =
    commands_names sn [] cs
    (all_right spellable (HEADER ++ (symbol sn ∷ nought ∷ closing ∷ [])) (commands_written sn [] cs)
    (all_left spellable (base sn cs) us (subst (λ (l : List Token). all spellable l ≡ true) e b)))

pub state_names : (sn : List ℕ) (cs : List Command) (stage : Stage) (ts : List Token) → CanAt (symbols_in cs) stage → Inv sn cs stage ts → all spellable ts ≡ true
    → all named_in_bars (symbols_in cs) ≡ true
state_names sn cs (exact x then) ts c i b =
    state_names sn cs then (snoc ts x) c.2 i (all_append spellable ts (x ∷ []) b (and_intro (spellable x) true c.1 refl))
state_names sn cs naming ts c i b = ap (λ (l : List Command). all named_in_bars (symbols_in l)) i.0
state_names sn cs commanding ts c i b = base_names sn cs ts _ i.1 b
state_names sn cs declaring ts c i b = base_names sn cs ts _ i.1 b
state_names sn cs finished ts c i b = base_names sn cs ts _ i.1 b
state_names sn cs (taking name k) ts c i b = base_names sn cs ts _ i.3 b
state_names sn cs (giving name k) ts c i b = base_names sn cs ts _ i.3 b
state_names sn cs (inside w row outer) ts c i b = base_names sn cs ts _ i.2 b
state_names sn cs (heading s w row outer) ts c i b = base_names sn cs ts _ i.3 b

-- not a wrong token
abbrev not_wrong : Token → Bool
not_wrong opening = true
not_wrong closing = true
not_wrong nought = true
not_wrong wrong = false
not_wrong (symbol name) = true
not_wrong (word name) = true

-- no head, term or command writes a wrong one
head_right_lem : (sig : List Symbol) (h : Head) → not_wrong (head_token sig h) ≡ true
head_right_lem sig (declared s k) = refl
head_right_lem sig (ite s) = refl
head_right_lem sig equals = refl
head_right_lem sig negation = refl
head_right_lem sig conjunction = refl
head_right_lem sig disjunction = refl
head_right_lem sig implication = refl
head_right_lem sig verum = refl
head_right_lem sig falsum = refl

term_right : (sig : List Symbol) (h : Head) (args : Terms) (ts : List Token) → all not_wrong ts ≡ true → all not_wrong (term_written (head_token sig h) args ts) ≡ true
term_right sig h end ts e = rw (head_right_lem sig h)
term_right sig h (call g a r) ts e = rw (head_right_lem sig h) (all_append not_wrong ts (closing ∷ []) e refl)

terms_right_lem : (sig : List Symbol) (row : Terms) → all not_wrong (terms_written sig row) ≡ true
terms_right_lem sig end = refl
terms_right_lem sig (call h args rest) =
    all_append not_wrong (term_written (head_token sig h) args (terms_written sig args)) (terms_written sig rest)
    (term_right sig h args (terms_written sig args) (terms_right_lem sig args)) (terms_right_lem sig rest)

sort_right : (sn : List ℕ) (s : Sort) → all not_wrong (closing ∷ sort_written sn s ∷ closing ∷ []) ≡ true
sort_right sn term = refl
sort_right sn formula = refl

commands_right_lem : (sn : List ℕ) (sig : List Symbol) (cs : List Command) → all not_wrong (commands_written sn sig cs) ≡ true
commands_right_lem sn sig [] = refl
commands_right_lem sn sig (c ∷ cs) = all_append not_wrong (command_written sn sig c) (commands_written sn (after sig c) cs) (one c) (commands_right_lem sn (after sig c) cs)
  where
    one : (c : Command) → all not_wrong (command_written sn sig c) ≡ true
    one (declare y) =
        all_append not_wrong (replicate y.arity (symbol sn)) (closing ∷ sort_written sn y.result ∷ closing ∷ [])
        (all_replicate not_wrong y.arity (symbol sn) refl) (sort_right sn y.result)
    one (assert t) = all_append not_wrong (terms_written sig t) (closing ∷ []) (terms_right_lem sig t) refl

base_right : (sn : List ℕ) (cs : List Command) (ts us : List Token) → ts ≡ base sn cs ++ us → all not_wrong us ≡ true → all not_wrong ts ≡ true
base_right sn cs ts us e b =
    ap (all not_wrong) e ∙ all_append not_wrong (base sn cs) us (commands_right_lem sn [] cs) b

outer_right : (sig : List Symbol) (outer : List Opened) → all not_wrong (open_written sig outer) ≡ true
outer_right sig [] = refl
outer_right sig (o ∷ os) =
    all_append not_wrong (open_written sig os ++ terms_written sig o.before) (opening ∷ head_token sig o.head ∷ [])
    (all_append not_wrong (open_written sig os) (terms_written sig o.before) (outer_right sig os) (terms_right_lem sig o.before))
    (rw (head_right_lem sig o.head))

-- so no wrong token is taken
state_right : (sn : List ℕ) (cs : List Command) (stage : Stage) (ts : List Token) → Inv sn cs stage ts → all not_wrong ts ≡ true
state_right sn cs (exact x then) ts i = all_left not_wrong ts (x ∷ []) (state_right sn cs then (snoc ts x) i)
state_right sn cs naming ts i = ap (all not_wrong) i.1
state_right sn cs commanding ts i = base_right sn cs ts _ i.1 refl
state_right sn cs declaring ts i = base_right sn cs ts _ i.1 refl
state_right sn cs finished ts i = base_right sn cs ts _ i.1 refl
state_right sn cs (taking name k) ts i = base_right sn cs ts _ i.3 (all_replicate not_wrong k (symbol sn) refl)
state_right sn cs (giving name k) ts i =
    base_right sn cs ts _ i.3 (all_append not_wrong (replicate k (symbol sn)) (closing ∷ []) (all_replicate not_wrong k (symbol sn) refl) refl)
state_right sn cs (inside w row outer) ts i =
    base_right sn cs ts _ i.2
    (all_append not_wrong (open_written (symbols_in cs) outer) (terms_written (symbols_in cs) row) (outer_right (symbols_in cs) outer) (terms_right_lem (symbols_in cs) row))
state_right sn cs (heading s w row outer) ts i =
    base_right sn cs ts _ i.3
    (all_append not_wrong (open_written (symbols_in cs) outer ++ terms_written (symbols_in cs) row) (opening ∷ [])
    (all_append not_wrong (open_written (symbols_in cs) outer) (terms_written (symbols_in cs) row) (outer_right (symbols_in cs) outer) (terms_right_lem (symbols_in cs) row)) refl)

-- and what is taken of a text can be spelled
right_spelled : (ts : List Token) → all lexed ts ≡ true → all not_wrong ts ≡ true → all spellable ts ≡ true
right_spelled [] e f = refl
right_spelled (t ∷ ts) e f =
    and_intro (spellable t) (all spellable ts) (one t (and_left (lexed t) (all lexed ts) e) (and_left (not_wrong t) (all not_wrong ts) f))
    (right_spelled ts (and_right (lexed t) (all lexed ts) e) (and_right (not_wrong t) (all not_wrong ts) f))
  where
    one : (t : Token) → lexed t ≡ true → not_wrong t ≡ true → spellable t ≡ true
    one opening p q = refl
    one closing p q = refl
    one nought p q = refl
    one wrong p q = q
    one (symbol name) p q = p
    one (word name) p q = p

pub state_spelled : (sn : List ℕ) (cs : List Command) (stage : Stage) (ts : List Token) → Inv sn cs stage ts → all lexed ts ≡ true → all spellable ts ≡ true
state_spelled sn cs stage ts i e = right_spelled ts e (state_right sn cs stage ts i)
