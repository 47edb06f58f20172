-- Numbers in bytes, low byte first, and the fixed marks (01, 'Problem bytes' and 'Witness'). Assumes nothing.
use Rattle.std.specs.Prelude.{ℕ, zero, suc, ◌+◌, ◌*◌, ◌/◌, ◌%◌, List, [], ◌∷◌, get_or}

-- the byte at an offset; 0 past the end
abbrev pub byte_at : List ℕ → ℕ → ℕ
byte_at s i = get_or s i 0

-- the two-byte number at an offset
abbrev pub two_at : List ℕ → ℕ → ℕ
two_at s i = byte_at s i + 256 * byte_at s (i + 1)

-- the number that bytes stand for
abbrev pub low_first : List ℕ → ℕ
low_first [] = 0
low_first (b ∷ bs) = b + 256 * low_first bs

-- a number as so many bytes
abbrev pub bytes_of : ℕ → ℕ → List ℕ
bytes_of zero n = []
bytes_of (suc k) n = n % 256 ∷ bytes_of k (n / 256)

-- a number as two bytes
abbrev pub two : ℕ → List ℕ
two n = bytes_of 2 n

-- the letters EQP, with which a problem starts
abbrev pub EQP : List ℕ
EQP = 69 ∷ 81 ∷ 80 ∷ []

-- the letters EQW, with which a witness starts
abbrev pub EQW : List ℕ
EQW = 69 ∷ 81 ∷ 87 ∷ []
