-- What a state of the reader says of the tokens that led to it: they write the commands read so far, and what is begun. Each
-- token that is taken keeps this, so a text that is read out writes its script (02, E1). Assumes nothing.
use mathlib.Core.Path.{◌≡◌, refl, sym, ap, ◌∙◌, subst}
use Prim.Native.Nat.{ℕ, ◌≤◌}
use mathlib.Core.Bool.{Bool, true, false, ◌&&◌, true≢false}
use mathlib.Core.List.{List, [], ◌∷◌, ◌++◌, append_assoc, append-nil}
use mathlib.Core.Option.{some}
use lib.ListN.{replicate}
use Rattle.definitions.specs.Lists.{snoc}
use Rattle.theorems.proofs.Laws.Tests.{and_left, and_right, and_intro}
use Rattle.definitions.specs.Text.Ascii.{ascii}
use Rattle.definitions.specs.Text.Tokens.{Token, opening, closing, nought, symbol, word}
use Rattle.definitions.specs.Text.Grammar.{Symbol, Head, Terms, end, call, Command, declare, assert, symbols_in, Wanted, wanted_by, sort_of_head, next, left, ready, is_wanted, head_right, terms_right, one_formula, new_function, new_sort, after, command_right, commands_right, head_token, term_written, terms_written, command_written, commands_written, HEADER}
use Rattle.definitions.specs.Text.Reader.{Opened, Stage, exact, naming, commanding, declaring, finished, taking, giving, inside, heading, put}

-- a row of terms is right as far as it goes, and this is wanted after it
abbrev pub row_right : List Symbol → Wanted → Terms → Bool
row_right sig w end = true
row_right sig w (call h args rest) =
    head_right sig h && is_wanted (next w) (sort_of_head h) && terms_right sig (wanted_by sig h) args && row_right sig (left w) rest

abbrev pub remaining : Wanted → Terms → Wanted
remaining w end = w
remaining w (call h args rest) = remaining (left w) rest

-- a row that is right as far as it goes, with nothing missing, is right
pub row_whole : (sig : List Symbol) (w : Wanted) (row : Terms) → row_right sig w row ≡ true → ready (remaining w row) ≡ true → terms_right sig w row ≡ true
row_whole sig w end p q = q
row_whole sig w (call h args rest) p q =
    let A = head_right sig h && is_wanted (next w) (sort_of_head h) && terms_right sig (wanted_by sig h) args in
    and_intro A (terms_right sig (left w) rest) (and_left A (row_right sig (left w) rest) p)
    (row_whole sig (left w) rest (and_right A (row_right sig (left w) rest) p) q)

-- one more term at the end of a row
pub remaining_put : (w : Wanted) (row : Terms) (h : Head) (args : Terms) → remaining w (put row h args) ≡ left (remaining w row)
remaining_put w end h args = refl
remaining_put w (call g inner rest) h args = remaining_put (left w) rest h args

pub right_put : (sig : List Symbol) (w : Wanted) (row : Terms) (h : Head) (args : Terms) → row_right sig w row ≡ true → head_right sig h ≡ true
    → is_wanted (next (remaining w row)) (sort_of_head h) ≡ true → terms_right sig (wanted_by sig h) args ≡ true → row_right sig w (put row h args) ≡ true
right_put sig w end h args p a b c = rw (a, b, c)
right_put sig w (call g inner rest) h args p a b c =
    let A = head_right sig g && is_wanted (next w) (sort_of_head g) && terms_right sig (wanted_by sig g) inner in
    and_intro A (row_right sig (left w) (put rest h args)) (and_left A (row_right sig (left w) rest) p)
    (right_put sig (left w) rest h args (and_right A (row_right sig (left w) rest) p) a b c)

pub written_put : (sig : List Symbol) (row : Terms) (h : Head) (args : Terms)
    → terms_written sig (put row h args) ≡ terms_written sig row ++ term_written (head_token sig h) args (terms_written sig args)
written_put sig end h args = append-nil (term_written (head_token sig h) args (terms_written sig args))
written_put sig (call g inner rest) h args =
    let first = term_written (head_token sig g) inner (terms_written sig inner) in
    ap (λ (ts : List Token). first ++ ts) (written_put sig rest h args)
    ∙ sym (append_assoc first (terms_written sig rest) (term_written (head_token sig h) args (terms_written sig args)))

-- one more command
pub symbols_snoc : (cs : List Command) (c : Command) → symbols_in (snoc cs c) ≡ after (symbols_in cs) c
symbols_snoc [] (declare y) = refl
symbols_snoc [] (assert t) = refl
symbols_snoc (declare x ∷ cs) (declare y) = ap {B = List Symbol} (λ ys. x ∷ ys) (symbols_snoc cs (declare y))
symbols_snoc (declare x ∷ cs) (assert t) = ap {B = List Symbol} (λ ys. x ∷ ys) (symbols_snoc cs (assert t))
symbols_snoc (assert u ∷ cs) c = symbols_snoc cs c

-- the declarations after commands
abbrev pub after_all : List Symbol → List Command → List Symbol
after_all sig [] = sig
after_all sig (c ∷ cs) = after_all (after sig c) cs

pub after_all_lem : (sig : List Symbol) (cs : List Command) → after_all sig cs ≡ sig ++ symbols_in cs
after_all_lem sig [] = sym (append-nil sig)
after_all_lem sig (declare y ∷ cs) = after_all_lem (snoc sig y) cs ∙ append_assoc sig (y ∷ []) (symbols_in cs)
after_all_lem sig (assert t ∷ cs) = after_all_lem sig cs

right_snoc_from : (sig : List Symbol) (cs : List Command) (c : Command) → commands_right sig cs ≡ true → command_right (after_all sig cs) c ≡ true
    → commands_right sig (snoc cs c) ≡ true
right_snoc_from sig [] c p q = and_intro (command_right sig c) true q refl
right_snoc_from sig (d ∷ cs) c p q =
    and_intro (command_right sig d) (commands_right (after sig d) (snoc cs c)) (and_left (command_right sig d) (commands_right (after sig d) cs) p)
    (right_snoc_from (after sig d) cs c (and_right (command_right sig d) (commands_right (after sig d) cs) p) q)

pub right_snoc : (cs : List Command) (c : Command) → commands_right [] cs ≡ true → command_right (symbols_in cs) c ≡ true → commands_right [] (snoc cs c) ≡ true
right_snoc cs c p q = right_snoc_from [] cs c p (rw (after_all_lem [] cs) q)

written_snoc_from : (sn : List ℕ) (sig : List Symbol) (cs : List Command) (c : Command)
    → commands_written sn sig (snoc cs c) ≡ commands_written sn sig cs ++ command_written sn (after_all sig cs) c
written_snoc_from sn sig [] c = append-nil (command_written sn sig c)
written_snoc_from sn sig (d ∷ cs) c =
    let first = command_written sn sig d in
    ap (λ (ts : List Token). first ++ ts) (written_snoc_from sn (after sig d) cs c)
    ∙ sym (append_assoc first (commands_written sn (after sig d) cs) (command_written sn (after_all (after sig d) cs) c))

-- the tokens of what is read before a command
abbrev pub base : List ℕ → List Command → List Token
base sn cs = HEADER ++ (symbol sn ∷ nought ∷ closing ∷ commands_written sn [] cs)

pub base_snoc : (sn : List ℕ) (cs : List Command) (c : Command) → base sn (snoc cs c) ≡ base sn cs ++ command_written sn (symbols_in cs) c
base_snoc sn cs c =
    ap (λ (ts : List Token). HEADER ++ (symbol sn ∷ nought ∷ closing ∷ ts))
    (written_snoc_from sn [] cs c ∙ ap (λ (sig : List Symbol). commands_written sn [] cs ++ command_written sn sig c) (after_all_lem [] cs))

-- the tokens of the brackets that are open, with what stands before each in its list
abbrev pub open_written : List Symbol → List Opened → List Token
open_written sig [] = []
open_written sig (o ∷ os) = open_written sig os ++ terms_written sig o.before ++ (opening ∷ head_token sig o.head ∷ [])

-- the lists that are open are right as far as they go
abbrev pub Stack : List Symbol → Wanted → Terms → List Opened → Type 0
Stack sig w row [] = (row_right sig one_formula row ≡ true) × (w ≡ remaining one_formula row)
Stack sig w row (o ∷ os) =
    (row_right sig (wanted_by sig o.head) row ≡ true)
    × (w ≡ remaining (wanted_by sig o.head) row)
    × (head_right sig o.head ≡ true)
    × (is_wanted (next o.wanted) (sort_of_head o.head) ≡ true)
    × (ready (wanted_by sig o.head) ≡ false)
    × Stack sig o.wanted o.before os

-- a term put into the innermost list
pub stack_put : (sig : List Symbol) (w : Wanted) (row : Terms) (outer : List Opened) (h : Head) (args : Terms) → Stack sig w row outer → head_right sig h ≡ true
    → is_wanted (next w) (sort_of_head h) ≡ true → terms_right sig (wanted_by sig h) args ≡ true → Stack sig (left w) (put row h args) outer
stack_put sig w row [] h args i a b c = (
  right_put sig one_formula row h args i.0 a (subst (λ (v : Wanted). is_wanted (next v) (sort_of_head h) ≡ true) i.1 b) c,
  ap left i.1 ∙ sym (remaining_put one_formula row h args),
)
stack_put sig w row (o ∷ os) h args i a b c =
    let v = wanted_by sig o.head in (
      right_put sig v row h args i.0 a (subst (λ (v : Wanted). is_wanted (next v) (sort_of_head h) ≡ true) i.1 b) c,
      ap left i.1 ∙ sym (remaining_put v row h args),
      i.2,
      i.3,
      i.4,
      i.5,
    )

-- a row that leaves nothing missing, where something must come, is not empty: the term stands in brackets
pub in_brackets : (t : Token) (w : Wanted) (row : Terms) (ts : List Token) → ready w ≡ false → ready (remaining w row) ≡ true
    → term_written t row ts ≡ opening ∷ t ∷ snoc ts closing
in_brackets t w end ts p q = absurd (true≢false (sym q ∙ p))
in_brackets t w (call h args rest) ts p q = refl

abbrev pub Ready : List ℕ → List Command → Type 0
Ready sn cs = (new_sort sn ≡ true) × (commands_right [] cs ≡ true)

abbrev pub DECLARE : Token
DECLARE = word (ascii "declare-fun")

abbrev pub ASSERT : Token
ASSERT = word (ascii "assert")

-- what a state says of the tokens ts that led to it
abbrev pub Inv : List ℕ → List Command → Stage → List Token → Type 0
Inv sn cs (exact x then) ts = Inv sn cs then (snoc ts x)
Inv sn cs naming ts = (cs ≡ []) × (ts ≡ HEADER)
Inv sn cs commanding ts = Ready sn cs × (ts ≡ base sn cs ++ (opening ∷ []))
Inv sn cs declaring ts = Ready sn cs × (ts ≡ base sn cs ++ (opening ∷ DECLARE ∷ []))
Inv sn cs finished ts = Ready sn cs × (ts ≡ base sn cs ++ (opening ∷ word (ascii "check-sat") ∷ closing ∷ []))
Inv sn cs (taking name k) ts =
    Ready sn cs × (new_function (symbols_in cs) name ≡ true) × (k ≤ 3)
    × (ts ≡ base sn cs ++ (opening ∷ DECLARE ∷ symbol name ∷ opening ∷ replicate k (symbol sn)))
Inv sn cs (giving name k) ts =
    Ready sn cs × (new_function (symbols_in cs) name ≡ true) × (k ≤ 3)
    × (ts ≡ base sn cs ++ snoc (opening ∷ DECLARE ∷ symbol name ∷ opening ∷ replicate k (symbol sn)) closing)
Inv sn cs (inside w row outer) ts =
    Ready sn cs × Stack (symbols_in cs) w row outer
    × (ts ≡ base sn cs ++ (opening ∷ ASSERT ∷ open_written (symbols_in cs) outer ++ terms_written (symbols_in cs) row))
Inv sn cs (heading s w row outer) ts =
    Ready sn cs × Stack (symbols_in cs) w row outer × (next w ≡ some s)
    × (ts ≡ base sn cs ++ (opening ∷ ASSERT ∷ snoc (open_written (symbols_in cs) outer ++ terms_written (symbols_in cs) row) opening))
