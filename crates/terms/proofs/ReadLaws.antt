-- Reading a term: at its first token, and in the loop over the arguments after a bracket (02, E1). Assumes nothing.
use mathlib.Core.Path.{◌≡◌, refl, ap, ◌∙◌}
use Prim.Native.Nat.{ℕ, suc, min, ◌-◌, ◌<◌}
use native.Mathlib.Omega.{arith}
use mathlib.Core.List.{List}
use mathlib.Core.Option.{Option, none, some}
use lib.ListN.{length}
use Rattle.std.specs.Prelude.{None, Some, Result, Ok, Err}
use Rattle.std.specs.Prelude as code
use Rattle.definitions.specs.declared.Refusal.{Refusal}
use Rattle.definitions.specs.Problem.Node.{Node}
use Rattle.definitions.specs.Text.Tokens.{opening}
use Rattle.definitions.specs.Text.Tokens as tokens
use Rattle.definitions.specs.Text.Grammar.{Command, Terms, Wanted, symbols_in, wanted_by}
use Rattle.definitions.specs.Text.Reader.{Opened}
use Rattle.definitions.specs.Text.Nodes.{trees_of}
use Rattle.terms.specs.Lexing.{lexeme_read, Lexed}
use Rattle.problem.specs.Wanted.{sort_read}
use Rattle.terms.specs.Heads.{head_read, left_after}
use Rattle.terms.specs.Following.{HeadsAt, NextIs, Follows}
use Rattle.terms.specs.Lists.{Row, no_row, prepared, added}
use Rattle.terms.specs.Rowing.{Rows, Finishes}
use Rattle.terms.specs.Terms.{TermWanted, ReadsTerm, ReadsBare, InTerm, ArgumentsSo, left_from}
use Rattle.terms.specs.declared.declared.Declared.{Declared}
use Rattle.terms.specs.declared.declared.Shelved.{Shelved}
use Rattle.terms.specs.declared.heads.Head.{Head}
use Rattle.problem.specs.declared.ops.Sort.{Sort}
use Rattle.terms.specs.declared.terms.Term.{Term}
use Rattle.terms.specs.declared.tokens.Lexeme.{Lexeme}
use Rattle.terms.specs.declared.tokens.Token.{Token}
use Rattle.terms.proofs.LexemeLaws.{goes_on}
use Rattle.terms.proofs.OtherLexemes.{not_opening}
use Rattle.terms.proofs.TermSteps.{bracket_opens, bracket_deep, head_wrong}
use Rattle.terms.proofs.TermLaws.{bracketed_right}
use Rattle.terms.proofs.TermLoops.{list_begun, arguments_begin, arguments_wrong, arguments_end, argument_wanted, argument_added}

module _ (text : List ℕ) (shelf : List Shelved) (d : Declared) (t : Token) (s : Sort) (levels : ℕ) (u₀ : code.Option (List Node)) where
  -- a term with no bracket
  pub reads_bare : {r : Result Term Refusal} {u : code.Option (List Node)} → (t.lexeme ≡ Lexeme.Opening → ⊥) → ReadsBare text shelf d t s u₀ r u → ReadsTerm text shelf d t s levels u₀ r u
  reads_bare h bare =
      record { sound = bare.sound; says = λ sn cs w row outer at wanted. bare.says levels (not_opening t.lexeme h) sn cs w row outer at wanted }

  module _ (e : t.lexeme ≡ Lexeme.Opening) where
    opens : lexeme_read t.lexeme ≡ some opening
    opens = ap lexeme_read e

    pub reads_deep : (u : code.Option (List Node)) → levels ≡ 0 → ReadsTerm text shelf d t s levels u₀ (Err (Refusal.TooDeep t.place)) u
    reads_deep u z =
        record {
          sound = tt;
          says = λ sn cs w row outer at wanted.
              bracket_deep text sn cs w row outer at wanted.reached t wanted.lexed (sort_read s) wanted.wanted opens (let k = wanted.level in omega arith);
        }

    module _ (z : levels ≡ 0 → ⊥) {named : Token} (lexed : Lexed text t.next named) where
      -- a bracket, and no head behind it
      pub reads_no_head : (u : code.Option (List Node)) → HeadsAt text shelf d named.lexeme s None → ReadsTerm text shelf d t s levels u₀ (Err (Refusal.WrongToken named.place)) u
      reads_no_head u heads =
          record {
            sound = tt;
            says = λ sn cs w row outer at wanted.
                head_wrong text sn cs (sort_read s) w row outer t.next
                (bracket_opens text sn cs w row outer at wanted.reached t wanted.lexed (sort_read s) wanted.wanted opens (let k = wanted.level in omega arith))
                named lexed (heads.head sn cs wanted.symbols);
          }

      -- before the first argument
      pub arguments_start : {head : Head} {row : Row} {following : Token} → HeadsAt text shelf d named.lexeme s (Some head) → row ≡ no_row
          → Lexed text named.next following → ArgumentsSo text shelf d t s levels head u₀ u₀ row following
      arguments_start {head} {row} {following} heads empty next =
          record {
            at = named.next;
            onward = lexed.later;
            lexed = next;
            says = λ sn cs w before outer from wanted.
                let is = heads.head sn cs wanted.symbols in
                let begun = list_begun head wanted opens z named lexed is.0 is.1 is.2 is.3 in
                record {
                  start = named.next;
                  begun = begun;
                  sort_so = (bracketed_right (symbols_in cs) (sort_read s) is.0 (head_read head) is.2).1;
                  inside = arguments_begin head begun empty;
                };
          }

  -- in the loop
  module _ {head : Head} {u : code.Option (List Node)} {row : Row} {following : Token} (so : ArgumentsSo text shelf d t s levels head u₀ u row following)
      {seen : ℕ} (e : seen ≡ row.seen) where
    module _ {r : Result (code.Option Sort) Refusal} (follows : Follows head seen following r)
        {sn : List ℕ} {cs : List Command} {w : Wanted} {before : Terms} {outer : List Opened} {from : ℕ}
        (wanted : TermWanted text sn cs shelf d w before outer from t s levels u₀) where
      abbrev within : InTerm text sn cs shelf d w before outer s levels head u₀ u row so.at
      within = so.says sn cs w before outer from wanted

      next_is : NextIs following (left_after (length (trees_of within.inside.args)) (wanted_by (symbols_in cs) (head_read head))) r
      next_is = follows.says (symbols_in cs) within.begun.arity_is (length (trees_of within.inside.args)) (e ∙ within.inside.counted)

    -- a token that will not do
    pub reads_wrong : {refusal : Refusal} (u' : code.Option (List Node)) → Follows head seen following (Err refusal) → ReadsTerm text shelf d t s levels u₀ (Err refusal) u'
    reads_wrong {refusal} u' follows =
        record {
          sound = tt;
          says = λ sn cs w before outer from wanted.
              let i = within follows wanted in
              let n = next_is follows wanted in
              rw n.0 (arguments_wrong head i.begun i.inside following so.lexed n.1);
        }

    -- the list ends
    pub reads_whole : {number : ℕ} {u' : code.Option (List Node)} → Follows head seen following (Ok None) → Finishes head row u number u'
        → ReadsTerm text shelf d t s levels u₀ (Ok (record { at = following.next; number = number })) u'
    reads_whole follows ends =
        record {
          sound = (let l = so.lexed.later in let o = so.onward in omega arith, so.lexed.inside);
          says = λ sn cs w before outer from wanted.
              let i = within follows wanted in
              arguments_end head i.begun i.inside following so.lexed refl i.sort_so (next_is follows wanted) ends;
        }

    -- an argument comes
    module _ {f : Sort} (follows : Follows head seen following (Ok (Some f))) {row' : Row} {u' : code.Option (List Node)}
        (rows : Rows (prepared (head_read head)) row u row' u') where
      -- and is refused
      pub reads_inner : {refusal : Refusal} {u₁ : code.Option (List Node)} (u₂ : code.Option (List Node)) → ReadsTerm text shelf d following f (levels - 1) u' (Err refusal) u₁ → ReadsTerm text shelf d t s levels u₀ (Err refusal) u₂
      reads_inner u₂ inner =
          record {
            sound = tt;
            says = λ sn cs w before outer from wanted.
                let i = within follows wanted in
                inner.says sn cs _ _ _ so.at (argument_wanted head i.begun i.inside following so.lexed rows (next_is follows wanted));
          }

      -- or is read
      module _ {argument : Term} {u₁ : code.Option (List Node)} (inner : ReadsTerm text shelf d following f (levels - 1) u' (Ok argument) u₁) where
        pub arguments_more : {row₂ : Row} {u₂ : code.Option (List Node)} {next : Token} → Rows (λ k v. added (head_read head) k argument.number v) row' u₁ row₂ u₂
            → row'.seen ≡ row.seen → row₂.seen ≡ min (suc row'.seen) 3 → Lexed text argument.at next → ArgumentsSo text shelf d t s levels head u₀ u₂ row₂ next
        arguments_more adds same more next =
            record {
              at = argument.at;
              onward = (let o = so.onward in let l = so.lexed.later in let b = inner.sound.0 in omega arith);
              lexed = next;
              says = λ sn cs w before outer from wanted.
                  let i = within follows wanted in
                  let n = next_is follows wanted in
                  let read = inner.says sn cs _ _ _ so.at (argument_wanted head i.begun i.inside following so.lexed rows n) in
                  record {
                    start = i.start;
                    begun = i.begun;
                    sort_so = i.sort_so;
                    inside = argument_added head i.begun i.inside following so.lexed rows n read adds same more;
                  };
            }

        pub less_left : {next : Token} → Lexed text argument.at next → left_from text next < left_from text following
        less_left {next} lexed = by (lexeme_read next.lexeme) refl
          where
            x : tokens.Token
            x = follows.sound.0

            there : lexeme_read following.lexeme ≡ some x
            there = follows.sound.1

            now : left_from text following ≡ suc (length text - following.next)
            now = ap (λ (o : Option tokens.Token). elim o as (λ _. ℕ) [ none ↦ 0 | some x ↦ suc (length text - following.next) ]) there

            by : (o : Option tokens.Token) → lexeme_read next.lexeme ≡ o → left_from text next < left_from text following
            by none e =
                let l : left_from text next ≡ 0 = ap (λ (o : Option tokens.Token). elim o as (λ _. ℕ) [ none ↦ 0 | some x ↦ suc (length text - next.next) ]) e in
                omega (arith, now)
            by (some y) e =
                let l : left_from text next ≡ suc (length text - next.next) =
                ap (λ (o : Option tokens.Token). elim o as (λ _. ℕ) [ none ↦ 0 | some x ↦ suc (length text - next.next) ]) e in
                let further = goes_on text argument.at next next.lexeme lexed.fits e in
                let behind = inner.sound.0 in
                let inside = lexed.inside in
                omega (arith, now)
