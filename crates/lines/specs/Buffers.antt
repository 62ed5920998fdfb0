-- The memory of a reading, as it is lent: how many of each there are.
use Rattle.std.specs.Prelude.{◌≡◌, List, ℕ, ℤ, length}

-- cells for 256 segments of four, the words of their index, the numbers of an answer, and the bytes of a line
pub record Buffers (cells index numbers : List ℤ) (carry : List ℕ) : Type 0 where
  pub table : length cells ≡ 1024
  pub words : length index ≡ 7684
  pub numbered : length numbers ≡ 256
  pub carries : length carry ≡ 80
