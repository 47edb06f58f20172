-- Both are 32 bytes long. Assumes nothing.
use Rattle.std.proofs.Common.{◌≡◌, length, ap, arith, length-take}
use Rattle.host.proofs.Reply.put.Goals as goal

pub copy_from_slice-requires : goal.copy_from_slice-requires
copy_from_slice-requires c =
    let whole : length c.bytes.result ≡ 32 = ap length c.bytes.ensures in
    omega (arith, length-take 32 c.args.answer.now)
