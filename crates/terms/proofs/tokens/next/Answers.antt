-- Past the gap the text ends, or a word, a name in bars or a byte by itself stands there.
use Rattle.std.proofs.Common.{sym, arith}
use Rattle.terms.proofs.TokenLaws.{byte_is}
use Rattle.terms.proofs.Streams.{ends_here, starts_here}
use Rattle.terms.proofs.tokens.next.Goals as goal

pub returns-then-place-text : goal.returns-then-place-text
returns-then-place-text c = ends_here c.args.text.now c.args.at _ c.requires c.blank_end-place.ensures c.if-place-text.true

pub returns-then-word_byte : goal.returns-then-word_byte
returns-then-word_byte c = starts_here c.args.text.now c.args.at _ c.requires c.blank_end-place.ensures _ (omega arith) c.word_token.ensures

pub returns-then-b-eq124 : goal.returns-then-b-eq124
returns-then-b-eq124 c = starts_here c.args.text.now c.args.at _ c.requires c.blank_end-place.ensures _ (omega arith) c.bar_token.ensures

pub returns : goal.returns
returns c =
    starts_here c.args.text.now c.args.at _ c.requires c.blank_end-place.ensures _ (omega arith)
    (byte_is c.args.text.now _ (omega arith) (sym c.if-word_byte.ensures) c.if-b-eq124.false c.byte_token.ensures)
