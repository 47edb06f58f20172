-- The name, the arguments and the result, as far as each will do.
use Rattle.std.proofs.Common.{ℕ, List, Ok, refl, sym, subst, arith}
use Rattle.definitions.specs.Lists.{snoc}
use Rattle.definitions.specs.Text.Grammar.{Command, declare}
use Rattle.terms.specs.Reading.{Reached}
use Rattle.terms.specs.Symbols.{Symbols, at_command}
use Rattle.terms.specs.Ranks.{in_taking}
use Rattle.terms.specs.Functions.{ReadsFunction, NameIs, symbol_of}
use Rattle.terms.specs.declared.declared.Declared.{Declared}
use Rattle.terms.specs.declared.declared.Shelved.{Shelved}
use Rattle.terms.specs.declared.prologue.Named.{Named}
use Rattle.terms.proofs.LexemeLaws.{passed_on}
use Rattle.terms.proofs.functions.read_function.Goals as goal

pub returns-in_err-named : goal.returns-in_err-named
returns-in_err-named c =
    passed_on (ReadsFunction c.args.signature.text.now c.args.signature.shelf.now c.args.signature.declared c.args.at) _ _ c.from_residual.ensures.1
    (record { sound = tt; says = λ sn cs symbols r. c.in_err-named.ensures.says sn cs symbols r })

-- the arguments may come
module _ (text : List ℕ) (shelf : List Shelved) (d : Declared) (n : Named) (sn : List ℕ) (cs : List Command) where
  taking_of : Symbols text sn cs shelf d → NameIs text sn cs (Ok n) → Reached text (in_taking d.sort.now cs n.name.now 0) n.at
  taking_of symbols named = subst (λ (z : List ℕ). Reached text (in_taking z cs n.name.now 0) n.at) symbols.sort_is_lem named.0

pub returns-in_err-counted : goal.returns-in_err-counted
returns-in_err-counted c =
    passed_on (ReadsFunction c.args.signature.text.now c.args.signature.shelf.now c.args.signature.declared c.args.at) _ _ c.from_residual-in_err-counted.ensures.1
    (record { sound = tt; says = λ sn cs symbols r. c.in_err-counted.ensures.says cs _ (taking_of c.args.signature.text.now c.args.signature.shelf.now c.args.signature.declared c.in_ok-named.named sn cs symbols (c.in_ok-named.ensures.says sn cs symbols r)) })

pub returns-in_err-ranked : goal.returns-in_err-ranked
returns-in_err-ranked c =
    passed_on (ReadsFunction c.args.signature.text.now c.args.signature.shelf.now c.args.signature.declared c.args.at) _ _ c.from_residual-in_err-ranked.ensures.1
    (record {
      sound = tt;
      says = λ sn cs symbols r. c.in_err-ranked.ensures.says cs _ (c.in_ok-counted.ensures.says cs _ (taking_of c.args.signature.text.now c.args.signature.shelf.now c.args.signature.declared c.in_ok-named.named sn cs symbols (c.in_ok-named.ensures.says sn cs symbols r)));
    })

pub returns : goal.returns
returns c =
    let text = c.args.signature.text.now in
    let name = c.in_ok-named.named.name in
    let arity = c.in_ok-counted.counted.arity in
    let ranked = c.in_ok-ranked.ranked in
    record {
      sound = (
        c.in_ok-ranked.ensures.sound.0,
        c.in_ok-ranked.ensures.sound.1,
        omega (arith, c.in_ok-named.ensures.sound.1, c.in_ok-counted.ensures.sound.2, c.in_ok-ranked.ensures.sound.2),
      );
      says = λ sn cs symbols r.
          let rank = c.in_ok-ranked.ensures.says cs _ (c.in_ok-counted.ensures.says cs _ (taking_of c.args.signature.text.now c.args.signature.shelf.now c.args.signature.declared c.in_ok-named.named sn cs symbols (c.in_ok-named.ensures.says sn cs symbols r))) in
          record {
            declared = symbol_of name.now arity rank.0;
            name_is = refl;
            byte_is = rank.1;
            new = (c.in_ok-named.ensures.says sn cs symbols r).1;
            short = c.in_ok-counted.ensures.sound.0;
            reached =
                subst (λ (z : List ℕ). Reached text (at_command z (snoc cs (declare (symbol_of name.now arity rank.0)))) ranked.at)
                (sym symbols.sort_is_lem) rank.2;
          };
    }
