-- The host's 32 bytes, read back field by field (docs/FORMAT.md, 'The host's answer'). Assumes nothing.
use Rattle.std.specs.Prelude.{ℕ, List, take, drop}
use Rattle.definitions.specs.Bytes.{byte_at, two_at, low_first}

-- byte 0: 0 for a refusal, 1 valid, 2 falsified, 3 stopped
abbrev pub verdict_in : List ℕ → ℕ
verdict_in answer = byte_at answer 0

abbrev pub refusal_in : List ℕ → ℕ
refusal_in answer = byte_at answer 1

abbrev pub written_in : List ℕ → ℕ
written_in answer = two_at answer 6

-- a number of eight bytes, low byte first
abbrev pub eight_at : List ℕ → ℕ → ℕ
eight_at answer i = low_first (take 8 (drop i answer))

abbrev pub place_in : List ℕ → ℕ
place_in answer = eight_at answer 8

abbrev pub tried_in : List ℕ → ℕ
tried_in answer = eight_at answer 16

abbrev pub product_in : List ℕ → ℕ
product_in answer = eight_at answer 24
