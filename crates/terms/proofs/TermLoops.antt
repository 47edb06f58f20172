-- Reading the arguments of a term: from its bracket to its closing bracket, each step of the loop (02, E1). Assumes nothing.
use mathlib.Core.Path.{◌≡◌, refl, sym, ap, ◌∙◌, subst}
use Prim.Native.Nat.{ℕ, zero, suc, min, ◌-◌, ◌≤◌, ◌<◌}
use native.Mathlib.Omega.{arith}
use native.Mathlib.Numerals.{add-one}
use mathlib.Core.Bool.{Bool, true, false, true≢false}
use mathlib.Core.List.{List, [], ◌∷◌}
use mathlib.Core.Logic.{inl, inr}
use mathlib.Core.Option.{Option, some}
use lib.ListN.{length, length-append}
use Rattle.definitions.specs.Text.Tokens.{opening, closing}
use Rattle.definitions.specs.Text.Tokens as tokens
use Rattle.definitions.specs.Text.Grammar.{Terms, end, Command, symbols_in, Wanted, wanted_by, is_wanted, next, ready, sort_of_head}
use Rattle.definitions.specs.Text.Grammar as grammar
use Rattle.definitions.specs.Text.Heads.{bracketed}
use Rattle.definitions.specs.Text.Nodes.{Tree, head_tree, trees_of, symbol_bytes}
use Rattle.definitions.specs.Text.Reader.{Opened, put}
use Rattle.definitions.specs.Problem.Ops.{Sort, term, formula, same_sort}
use Rattle.std.specs.Prelude.{None, Some, Ok, Err}
use Rattle.std.specs.Prelude as code
use Rattle.definitions.specs.Problem.Node.{Node}
use Rattle.theorems.specs.Origins.{NoTwins}
use Rattle.theorems.proofs.Text.Meant.Shared.{Earlier}
use Rattle.theorems.proofs.Text.Taken.Kept.Invariant.{remaining, row_whole, right_put}
use Rattle.terms.specs.Lexing.{lexeme_read, Lexed}
use Rattle.terms.specs.Reading.{Reached, WrongAt}
use Rattle.problem.specs.Wanted.{sort_read}
use Rattle.terms.specs.Heads.{head_read, ArityIs, left_after}
use Rattle.terms.specs.Following.{NoNext, NextIs}
use Rattle.terms.specs.Lists.{Row, no_row, prepared, added}
use Rattle.terms.specs.Laying.{over, standing}
use Rattle.terms.specs.Rowing.{Rows, Finishes}
use Rattle.terms.specs.Terms.{in_list, TableGood, TermWanted, TermRead, ListSo, ListReady, ListBegun, InArguments, bracket_of}
use Rattle.terms.specs.declared.tokens.Token.{Token}
use Rattle.terms.specs.declared.declared.Declared.{Declared}
use Rattle.terms.specs.declared.declared.Shelved.{Shelved}
use Rattle.terms.specs.declared.heads.Head.{Head}
use Rattle.problem.specs.declared.ops.Sort as sorts
use Rattle.terms.proofs.TermSteps.{bracket_opens, head_taken, none_wanted_lem, closed_early, list_closes}
use Rattle.terms.proofs.TermRights.{trees_put, remaining_after, row_full, row_present}
use Rattle.terms.proofs.TermLaws.{bracketed_right, symbols_right, list_whole}
use Rattle.terms.proofs.ReachLaws.{ends}
use Rattle.terms.proofs.RowLaws.{no_row_is}
use Rattle.terms.proofs.LexemeLaws.{end_place}
use Rattle.terms.proofs.ListBelow.{list_step}
use Rattle.terms.proofs.ArgumentLaws.{list_begins, list_prepares, list_adds}

sort_same : (s : Sort) → same_sort s s ≡ true
sort_same term = refl
sort_same formula = refl

-- one argument more is wanted no longer
left_later : (n : ℕ) (w : Wanted) → grammar.left (left_after n w) ≡ left_after (suc n) w
left_later zero w = refl
left_later (suc n) w = left_later n (grammar.left w)

module _ {text sn : List ℕ} {cs : List Command} {shelf : List Shelved} {d : Declared} (head : Head) where
  -- a bracket, and the head after it
  pub list_begun : {w : Wanted} {row : Terms} {outer : List Opened} {at : ℕ} {t : Token} {f : sorts.Sort} {levels : ℕ} {v : code.Option (List Node)}
      → TermWanted text sn cs shelf d w row outer at t f levels v → lexeme_read t.lexeme ≡ some opening → (levels ≡ 0 → ⊥)
      → (named : Token) → Lexed text t.next named → (x : tokens.Token) → lexeme_read named.lexeme ≡ some x
      → bracketed (symbols_in cs) (sort_read f) x ≡ some (head_read head) → ArityIs (symbols_in cs) head
      → ListBegun text sn cs shelf d head levels (bracket_of head w row) outer v named.next
  list_begun {w} {row} {outer} {at} {t} {f} {levels} {v} wanted e z named lexed x p b arity =
      let few : length outer < 64 = (let k = wanted.level in omega arith) in
      record {
        symbols = wanted.symbols;
        arity_is = arity;
        head_right_lem = (bracketed_right (symbols_in cs) (sort_read f) x (head_read head) b).0;
        good = wanted.good;
        level = wanted.level;
        left_over = omega arith;
        reached =
            head_taken text sn cs (sort_read f) w row outer t.next
            (bracket_opens text sn cs w row outer at wanted.reached t wanted.lexed (sort_read f) wanted.wanted e few) named lexed x (head_read head) p b few;
      }

  module _ {levels : ℕ} {o : Opened} {outer : List Opened} {v₀ : code.Option (List Node)} {at₀ : ℕ}
      (begun : ListBegun text sn cs shelf d head levels o outer v₀ at₀) where
    -- before the first argument
    pub arguments_begin : {row : Row} → row ≡ no_row → InArguments text sn cs head o outer v₀ v₀ row at₀
    arguments_begin is =
        record {
          args = end;
          reached = begun.reached;
          right = refl;
          counted = ap (λ (r : Row). r.seen) is;
          so = list_begins (symbols_in cs) (head_read head) (standing v₀) (over v₀) v₀ refl refl (no_row_is is);
        }

    module _ {v : code.Option (List Node)} {row : Row} {at : ℕ} (inside : InArguments text sn cs head o outer v₀ v row at)
        (t : Token) (lexed : Lexed text at t) where
      abbrev w : Wanted
      w = left_after (length (trees_of inside.args)) (wanted_by (symbols_in cs) (head_read head))

      pub arguments_wrong : NoNext (lexeme_read t.lexeme) w → WrongAt text t.place
      arguments_wrong (inl e) =
          ends text (in_list sn cs w inside.args (o ∷ outer)) at inside.reached t lexed (end_place text at t t.lexeme lexed.fits e) e refl
      arguments_wrong (inr (inl (e, f))) = closed_early text sn cs w inside.args (o ∷ outer) at inside.reached t lexed e f
      arguments_wrong (inr (inr (e, f))) = none_wanted_lem text sn cs w inside.args (o ∷ outer) at inside.reached t lexed f e

      -- the list ends
      pub arguments_end : {w₀ : Wanted} {row₀ : Terms} {f : sorts.Sort} → o ≡ bracket_of head w₀ row₀ → sort_of_head (head_read head) ≡ sort_read f → NextIs t w (Ok None)
          → {r : ℕ} {v' : code.Option (List Node)} → Finishes head row v r v' → TermRead text sn cs w₀ row₀ outer f v₀ t.next r v'
      arguments_end {w₀} {row₀} e s (p, q) {r} {v'} finishes =
          let sig = symbols_in cs in
          let whole =
          row_whole sig (wanted_by sig (head_read head)) inside.args inside.right (ap ready (remaining_after (wanted_by sig (head_read head)) inside.args) ∙ q) in
          let few : length outer ≤ 64 = (let k = begun.level in omega arith) in
          record {
            head = head_read head;
            args = inside.args;
            reached =
                subst (λ (z : Opened). Reached text (in_list sn cs (grammar.left z.wanted) (put z.before z.head inside.args) outer) t.next) e
                (list_closes text sn cs w inside.args o outer at inside.reached t lexed p q few);
            head_right_lem = begun.head_right_lem;
            sort_is_lem = s;
            args_right = whole;
            performs = list_whole (symbols_right begun.symbols) head inside.args begun.good begun.head_right_lem whole inside.so finishes;
          }

      -- an argument comes
      module _ {row' : Row} {v' : code.Option (List Node)} (rows : Rows (prepared (head_read head)) row v row' v') where
        ready_so : ListReady (symbols_in cs) (head_read head) (standing v₀) (over v₀) (trees_of inside.args) row' v'
        ready_so =
            list_prepares (symbols_in cs) (head_read head) (standing v₀) (over v₀) begun.good.twins begun.good.earlier (trees_of inside.args) inside.so rows

        -- there is room now, so there was at the beginning
        had_room : over v' ≡ false → over v₀ ≡ false
        had_room q = go (over v₀) refl
          where
            go : (b : Bool) → over v₀ ≡ b → b ≡ false
            go true e = absurd (true≢false (sym (ready_so.stays e) ∙ q))
            go false e = refl

        good_now : TableGood (symbols_in cs) v'
        good_now =
            let sig = symbols_in cs in
            let small = symbols_right begun.symbols in
            let t₀ = standing v₀ in
            let xs = trees_of inside.args in
            let full = row_full sig small (wanted_by sig (head_read head)) inside.args inside.right in
            let present = row_present sig small (wanted_by sig (head_read head)) inside.args inside.right in
            record {
              twins = λ q. let p = had_room q in subst NoTwins (ready_so.table_so p q) (list_step (symbol_bytes sig) (head_read head) xs t₀ (begun.good.earlier p) full present (begun.good.twins p)).twins;
              earlier = λ q.
                  let p = had_room q in
                  subst (Earlier (symbol_bytes sig)) (ready_so.table_so p q) (list_step (symbol_bytes sig) (head_read head) xs t₀ (begun.good.earlier p) full present (begun.good.twins p)).earlier;
              symbols_few = λ q. begun.good.symbols_few (had_room q);
            }

        pub argument_wanted : {f : sorts.Sort} → NextIs t w (Ok (Some f))
            → TermWanted text sn cs shelf d w inside.args (o ∷ outer) at t f (levels - 1) v'
        argument_wanted (e, n) =
            record {
              symbols = begun.symbols;
              reached = inside.reached;
              lexed = lexed;
              unclosed = e;
              wanted = n;
              level = (let k = begun.level in let z = begun.left_over in omega arith);
              good = good_now;
            }

        -- and is read
        pub argument_added : {f : sorts.Sort} {after a : ℕ} {v₁ v₂ : code.Option (List Node)} {row₂ : Row} → NextIs t w (Ok (Some f))
            → TermRead text sn cs w inside.args (o ∷ outer) f v' after a v₁
            → Rows (λ k u. added (head_read head) k a u) row' v₁ row₂ v₂
            → row'.seen ≡ row.seen → row₂.seen ≡ min (suc row'.seen) 3
            → InArguments text sn cs head o outer v₀ v₂ row₂ after
        argument_added {f} {after} {a} {v₁} {v₂} {row₂} (e, n) read adds same more =
            let sig = symbols_in cs in
            let H = head_read head in
            let args = inside.args in
            let xs = trees_of args in
            let x = head_tree read.head (trees_of read.args) in
            let trees = trees_put args read.head read.args in
            let one : length (trees_of (put args read.head read.args)) ≡ suc (length xs) = ap length trees ∙ length-append xs (x ∷ []) ∙ add-one (length xs) in
            let wanted : is_wanted (next (remaining (wanted_by sig H) args)) (sort_of_head read.head) ≡ true =
            ap (λ (z : Wanted). is_wanted (next z) (sort_of_head read.head)) (remaining_after (wanted_by sig H) args)
            ∙ ap (λ (z : Option Sort). is_wanted z (sort_of_head read.head)) n
            ∙ ap (same_sort (sort_read f)) read.sort_is_lem
            ∙ sort_same (sort_read f) in
            record {
              args = put args read.head read.args;
              reached =
                  subst (λ (k : ℕ). Reached text (in_list sn cs (left_after k (wanted_by sig H)) (put args read.head read.args) (o ∷ outer)) after) (sym one)
                  (subst (λ (z : Wanted). Reached text (in_list sn cs z (put args read.head read.args) (o ∷ outer)) after) (left_later (length xs) (wanted_by sig H)) read.reached);
              right = right_put sig (wanted_by sig H) args read.head read.args inside.right read.head_right_lem wanted read.args_right;
              counted = (let before = inside.counted in omega arith);
              so =
                  subst (λ (zs : List Tree). ListSo sig H (standing v₀) (over v₀) zs row₂ v₂) (sym trees)
                  (list_adds sig H (standing v₀) (over v₀) begun.good.twins begun.good.earlier xs x ready_so read.performs adds);
            }
