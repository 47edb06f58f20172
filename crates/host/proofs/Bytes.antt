-- The eight bytes that the library gives of a number, low byte first, are the definitions'. Assumes nothing.
use Rattle.std.proofs.Common.{◌≡◌, ℕ, ◌/◌, ◌^◌, arith}
use Rattle.std.specs.Int.{w64, to_le_bytes}
use Rattle.definitions.specs.Bytes.{bytes_of}

pub eight_bytes : (n : ℕ) → to_le_bytes w64 n ≡ bytes_of 8 n
eight_bytes n =
    let two : n / 256 ^ 2 ≡ n / 256 / 256 = omega arith in
    let three : n / 256 ^ 3 ≡ n / 256 / 256 / 256 = omega arith in
    let four : n / 256 ^ 4 ≡ n / 256 / 256 / 256 / 256 = omega arith in
    let five : n / 256 ^ 5 ≡ n / 256 / 256 / 256 / 256 / 256 = omega arith in
    let six : n / 256 ^ 6 ≡ n / 256 / 256 / 256 / 256 / 256 / 256 = omega arith in
    let seven : n / 256 ^ 7 ≡ n / 256 / 256 / 256 / 256 / 256 / 256 / 256 = omega arith in
    simp (two, three, four, five, six, seven)
