-- By the opening bracket, and by the word behind it. Assumes nothing.
use Rattle.std.proofs.Common.{sym, ap, subst, Ok, Err, arith}
use Rattle.definitions.specs.Text.Tokens.{opening}
use Rattle.std.proofs.lemmas.Result.{err_from_is_err_and}
use Rattle.terms.specs.Lexing.{lexeme_read, LexemeWithin}
use Rattle.terms.proofs.LexemeLaws.{exactly_later}
use Rattle.text.proofs.CommandSteps.{command_opens, Chosen, word_read, no_command}
use Rattle.text.proofs.commands.read_command.Goals as goal

pub returns-in_err-opened : goal.returns-in_err-opened
returns-in_err-opened c =
    let p = err_from_is_err_and c.from_residual.result c.from_residual.ensures.1 in
    rw (p.1, p.2) (record { sound = tt; says = λ sn cs r. command_opens c.args.text.now sn cs c.args.at (Err c.in_err-opened.field-0.0) c.in_err-opened.ensures.0 r })

pub returns-in_default : goal.returns-in_default
returns-in_default c =
    record {
      sound = tt;
      says = λ sn cs r.
          no_command c.args.text.now sn cs c.in_ok-opened.opened (command_opens c.args.text.now sn cs c.args.at (Ok c.in_ok-opened.opened) c.in_ok-opened.ensures.0 r) c.next-token.result c.next-token.ensures
          c.in_default.not-Word;
    }

pub returns-in-Some : goal.returns-in-Some
returns-in-Some c =
    record {
      sound =
          let w = subst (LexemeWithin c.args.text.now c.in_ok-opened.opened c.next-token.result) c.in-Word.is c.next-token.ensures.fits in
          (omega (arith, w, exactly_later c.args.text.now opening c.in_ok-opened.ensures.0), c.next-token.ensures.inside);
      says = λ sn cs r.
          let there = command_opens c.args.text.now sn cs c.args.at (Ok c.in_ok-opened.opened) c.in_ok-opened.ensures.0 r in
          subst (Chosen c.args.text.now sn cs c.in_ok-opened.opened there c.next-token.result c.next-token.ensures)
          (sym c.in-Some.ensures)
          (word_read c.args.text.now sn cs c.in_ok-opened.opened there c.next-token.result c.next-token.ensures c.in-Word.name.now (ap lexeme_read c.in-Word.is));
    }

pub returns-in-None : goal.returns-in-None
returns-in-None c =
    record {
      sound = tt;
      says = λ sn cs r.
          let there = command_opens c.args.text.now sn cs c.args.at (Ok c.in_ok-opened.opened) c.in_ok-opened.ensures.0 r in
          subst (Chosen c.args.text.now sn cs c.in_ok-opened.opened there c.next-token.result c.next-token.ensures)
          (sym c.in-None.ensures)
          (word_read c.args.text.now sn cs c.in_ok-opened.opened there c.next-token.result c.next-token.ensures c.in-Word.name.now (ap lexeme_read c.in-Word.is));
    }
