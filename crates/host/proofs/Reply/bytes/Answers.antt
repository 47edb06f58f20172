-- Each part is a number's bytes. Assumes nothing.
use Rattle.std.proofs.Common.{◌≡◌, ap, ◌∙◌, take}
use Rattle.definitions.specs.Bytes.{bytes_of, two}
use Rattle.host.proofs.Bytes.{eight_bytes}
use Rattle.host.proofs.Reply.bytes.Goals as goal

pub returns : goal.returns
returns c =
    let r = c.args.self in
    let written : c.copy_from_slice.new.self ≡ two r.written =
    c.copy_from_slice.ensures.after ∙ ap (take 2) (c.to_le_bytes.ensures ∙ eight_bytes r.written)
    in
    let place : c.copy_from_slice-2.new.self ≡ bytes_of 8 r.place =
    c.copy_from_slice-2.ensures.after ∙ c.to_le_bytes-2.ensures ∙ eight_bytes r.place
    in
    let tried : c.copy_from_slice-3.new.self ≡ bytes_of 8 r.tried =
    c.copy_from_slice-3.ensures.after ∙ c.to_le_bytes-3.ensures ∙ eight_bytes r.tried
    in
    let product : c.copy_from_slice-4.new.self ≡ bytes_of 8 r.product =
    c.copy_from_slice-4.ensures.after ∙ c.to_le_bytes-4.ensures ∙ eight_bytes r.product
    in
    simp (written, place, tried, product)
