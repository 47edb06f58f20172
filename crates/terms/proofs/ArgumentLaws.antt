-- A list of arguments in the code's table, from its beginning to its end: each step keeps that what is read so far is laid as the
-- definition lays it, or that the table has no room for the list whatever follows. Assumes nothing.
use mathlib.Core.Path.{◌≡◌, refl, sym, ap, ◌∙◌, subst}
use Prim.Native.Nat.{ℕ, ◌<◌}
use mathlib.Core.Bool.{Bool, true, false, true≢false}
use mathlib.Core.List.{List, [], ◌∷◌, ◌++◌, append_assoc, append-nil}
use mathlib.Core.Logic.{inl, inr}
use lib.ListN.{length}
use Rattle.std.specs.Prelude as code
use Rattle.definitions.specs.Lists.{snoc}
use Rattle.definitions.specs.Problem.Node as table
use Rattle.definitions.specs.Text.Grammar.{Symbol, Head}
use Rattle.definitions.specs.Text.Nodes.{Tree, Laid, laid, lay, head_tree, symbol_bytes}
use Rattle.theorems.specs.Origins.{NoTwins}
use Rattle.theorems.proofs.Text.Meant.Shared.{Earlier}
use Rattle.theorems.proofs.Text.Meant.Laying.{Full}
use Rattle.terms.specs.Lists.{Row, Kept, kept, no_row, prepared, added, ended, arguments, awaiting, Counted}
use Rattle.terms.specs.Laying.{over, standing, Performs}
use Rattle.terms.specs.Rowing.{RowIs, TooLong, Rows}
use Rattle.terms.specs.Terms.{TooLongWith, ListSo, ListReady}
use Rattle.terms.proofs.ListLaws.{list_laid_lem, too_many, too_many_prepared, too_many_argument}
use Rattle.terms.proofs.ListBelow.{arguments_snoc, too_waiting}

module _ (sig : List Symbol) (h : Head) (t : List table.Node) (full : Bool) where
  -- before the first argument
  pub list_begins : {row : Row} (v : code.Option (List table.Node)) → over v ≡ full → t ≡ standing v → RowIs no_row row
      → ListSo sig h t full [] row v
  list_begins v e s r =
      record {
        stays = λ p. e ∙ p;
        row_so = λ p q. r;
        table_so = λ p q. s;
        over_so = λ p q. absurd (true≢false (sym q ∙ e ∙ p));
      }

  -- what is too long stays so with one more
  too_long_on : (xs : List Tree) → TooLongWith sig h t xs → (x : Tree) → TooLongWith sig h t (snoc xs x)
  too_long_on xs long x us c f =
      subst (λ (zs : List Tree). 256 < length (lay (head_tree h zs) t).table) (sym (append_assoc xs (x ∷ []) us))
      (long (x ∷ us) (subst (Counted h) (append_assoc xs (x ∷ []) us) c)
      (subst (λ (zs : List Tree). Full (symbol_bytes sig) (head_tree h zs)) (append_assoc xs (x ∷ []) us) f))

  module _ (twins : full ≡ false → NoTwins t) (earlier : full ≡ false → Earlier (symbol_bytes sig) t) (xs : List Tree) where
    -- where the next argument finds no room, neither do the others
    too_long_awaiting : full ≡ false → TooLong (awaiting h xs t) → (x : Tree) → TooLongWith sig h t (snoc xs x)
    too_long_awaiting e (inl long) x us c f =
        subst (λ (zs : List Tree). 256 < length (lay (head_tree h zs) t).table) (sym (append_assoc xs (x ∷ []) us))
        (too_many_prepared h xs x us t (twins e) (subst (Counted h) (append_assoc xs (x ∷ []) us) c) long)
    too_long_awaiting e (inr long) x us c f =
        subst (λ (zs : List Tree). 256 < length (lay (head_tree h zs) t).table) (sym (append_assoc xs (x ∷ []) us))
        (too_waiting (symbol_bytes sig) h xs (x ∷ us) t (subst (λ (zs : List Tree). Full (symbol_bytes sig) (head_tree h zs)) (append_assoc xs (x ∷ []) us) f) (earlier e) long)

    -- one more argument may come
    pub list_prepares : {row row' : Row} {v v' : code.Option (List table.Node)} → ListSo sig h t full xs row v
        → Rows (prepared h) row v row' v' → ListReady sig h t full xs row' v'
    list_prepares {row} {row'} {v} {v'} so rows =
        record {
          stays = λ p. rows.stays (so.stays p);
          row_so = λ p q. let o = had_room q in subst (λ (u : List table.Node). RowIs (prepared h k.row u).row row') (sym (so.table_so p o)) (rows.row_done k.row (so.row_so p o) o q);
          table_so = λ p q. let o = had_room q in ap (λ (u : List table.Node). (prepared h k.row u).table) (so.table_so p o) ∙ rows.table_done k.row (so.row_so p o) o q;
          over_so = λ p q x. over_by p q x (over v) refl;
        }
      where
        k : Kept
        k = arguments h xs (kept no_row t)

        had_room : over v' ≡ false → over v ≡ false
        had_room q = go (over v) refl
          where
            go : (o : Bool) → over v ≡ o → o ≡ false
            go true e = absurd (true≢false (sym (rows.stays e) ∙ q))
            go false e = refl

        over_by : full ≡ false → over v' ≡ true → (x : Tree) (o : Bool) → over v ≡ o → TooLongWith sig h t (snoc xs x)
        over_by p q x true e = too_long_on xs (so.over_so p e) x
        over_by p q x false e =
            too_long_awaiting p (subst (λ (u : List table.Node). TooLong (prepared h k.row u)) (sym (so.table_so p e)) (rows.more k.row (so.row_so p e) e q)) x

    -- the argument is read and laid
    module _ (x : Tree) {row row' : Row} {v v₁ v₂ : code.Option (List table.Node)} {a : ℕ}
        (so : ListReady sig h t full xs row v) (performs : Performs (lay x) v a v₁)
        (rows : Rows (λ k u. added h k a u) row v₁ row' v₂) where
      -- there is room now, so there was before
      laid_room : over v₂ ≡ false → over v₁ ≡ false
      laid_room q = go (over v₁) refl
        where
          go : (o : Bool) → over v₁ ≡ o → o ≡ false
          go true e = absurd (true≢false (sym (rows.stays e) ∙ q))
          go false e = refl

      had_room : over v₁ ≡ false → over v ≡ false
      had_room q = go (over v) refl
        where
          go : (o : Bool) → over v ≡ o → o ≡ false
          go true e = absurd (true≢false (sym (performs.stays e) ∙ q))
          go false e = refl

      adds : full ≡ false → over v₁ ≡ false → arguments h (snoc xs x) (kept no_row t) ≡ added h (awaiting h xs t).row a (standing v₁)
      adds p q =
          arguments_snoc h xs x t
          ∙ ap (λ (u : Laid). added h (awaiting h xs t).row u.number u.table) (ap (lay x) (so.table_so p (had_room q)) ∙ performs.done (had_room q) q)

      over_adds : full ≡ false → over v₂ ≡ true → (o n : Bool) → over v ≡ o → over v₁ ≡ n → TooLongWith sig h t (snoc xs x)
      over_adds p q true n e d us c f = so.over_so p e x us c f
      over_adds p q false true e d us c f =
          let long : 256 < length (lay x (awaiting h xs t).table).table = subst (λ (u : List table.Node). 256 < length (lay x u).table) (sym (so.table_so p e)) (performs.more e d) in
          subst (λ (zs : List Tree). 256 < length (lay (head_tree h zs) t).table) (sym (append_assoc xs (x ∷ []) us))
          (too_many_argument h xs x us t (twins p) (subst (Counted h) (append_assoc xs (x ∷ []) us) c) long)
      over_adds p q false false e d us c f = go (rows.more (awaiting h xs t).row (so.row_so p e) d q)
        where
          go : TooLong (added h (awaiting h xs t).row a (standing v₁)) → 256 < length (lay (head_tree h (snoc xs x ++ us)) t).table
          go (inl long) = too_many h (snoc xs x) us t (twins p) c (subst (λ (u : Kept). 256 < length u.table) (sym (adds p d)) long)
          go (inr long) =
              subst (λ (zs : List Tree). 256 < length (lay (head_tree h zs) t).table) (sym (append_assoc xs (x ∷ []) us))
              (too_waiting (symbol_bytes sig) h xs (x ∷ us) t (subst (λ (zs : List Tree). Full (symbol_bytes sig) (head_tree h zs)) (append_assoc xs (x ∷ []) us) f) (earlier p) long)

      pub list_adds : ListSo sig h t full (snoc xs x) row' v₂
      list_adds =
          record {
            stays = λ p. rows.stays (performs.stays (so.stays p));
            row_so = λ p q.
                let d = laid_room q in
                subst (λ (u : Kept). RowIs u.row row') (sym (adds p d)) (rows.row_done (awaiting h xs t).row (so.row_so p (had_room d)) d q);
            table_so = λ p q.
                let d = laid_room q in
                ap (λ (u : Kept). u.table) (adds p d) ∙ rows.table_done (awaiting h xs t).row (so.row_so p (had_room d)) d q;
            over_so = λ p q. over_adds p q (over v) (over v₁) refl refl;
          }

    -- the list ends
    pub list_ends : {row : Row} {v₀ v v' : code.Option (List table.Node)} {r : ℕ} → over v₀ ≡ full → t ≡ standing v₀
        → ListSo sig h t full xs row v → Counted h xs → Full (symbol_bytes sig) (head_tree h xs) → (over v ≡ true → over v' ≡ true)
        → (full ≡ false → (k : Row) → RowIs k row → Performs (ended h k) v r v') → Performs (lay (head_tree h xs)) v₀ r v'
    list_ends {row} {v₀} {v} {v'} {r} o e so counted whole stays performs =
        record {
          stays = λ p. stays (so.stays (sym o ∙ p));
          done = λ p q. subst (λ (u : List table.Node). lay (head_tree h xs) u ≡ laid r (standing v')) e (done (sym o ∙ p) q);
          more = λ p q. subst (λ (u : List table.Node). 256 < length (lay (head_tree h xs) u).table) e (more (sym o ∙ p) q (over v) refl);
        }
      where
        had : over v' ≡ false → over v ≡ false
        had q = go (over v) refl
          where
            go : (b : Bool) → over v ≡ b → b ≡ false
            go true p = absurd (true≢false (sym (stays p) ∙ q))
            go false p = refl

        same : (p : full ≡ false) → over v ≡ false → ended h (arguments h xs (kept no_row t)).row (standing v) ≡ lay (head_tree h xs) t
        same p d = ap (ended h (arguments h xs (kept no_row t)).row) (sym (so.table_so p d)) ∙ list_laid_lem h xs t (twins p) counted

        done : full ≡ false → over v' ≡ false → lay (head_tree h xs) t ≡ laid r (standing v')
        done p q = let d = had q in sym (same p d) ∙ (performs p _ (so.row_so p d)).done d q

        more : full ≡ false → over v' ≡ true → (b : Bool) → over v ≡ b → 256 < length (lay (head_tree h xs) t).table
        more p q true d =
            subst (λ (zs : List Tree). 256 < length (lay (head_tree h zs) t).table) (append-nil xs)
            (so.over_so p d [] (subst (Counted h) (sym (append-nil xs)) counted) (subst (λ (zs : List Tree). Full (symbol_bytes sig) (head_tree h zs)) (sym (append-nil xs)) whole))
        more p q false d = subst (λ (u : Laid). 256 < length u.table) (same p d) ((performs p _ (so.row_so p d)).more d q)
