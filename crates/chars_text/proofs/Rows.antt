-- A byte and a range of bytes; and which row of the grammar a character follows, by its first byte: the ranges of the first
-- bytes do not meet. Assumes nothing.
use mathlib.Core.Path.{◌≡◌, refl}
use mathlib.Core.Bool.{Bool, true, false, ◌&&◌}
use Prim.Native.Nat.{ℕ, ◌≤◌, ◌<◌}
use native.Mathlib.Omega.{arith}
use mathlib.Core.List.{List, ◌∷◌}
use lib.Dec.{leb}
use borrow.Author.Tests.{le-leb, lt-leb}
use Rattle.chars_text.specs.Utf8.{octets, character}
use Rattle.chars_text.specs.Promises.{sized}

-- ---- A byte and a range

module _ (from to byte : ℕ) where
  pub bytes_in : from ≤ byte → byte ≤ to → octets from to byte ≡ true
  unfolding octets
  bytes_in low high = simp (le-leb from byte low, le-leb byte to high)

  pub bytes_under : byte < from → octets from to byte ≡ false
  unfolding octets
  bytes_under h = simp (lt-leb from byte h)

  pub bytes_over : to < byte → octets from to byte ≡ false
  unfolding octets
  bytes_over h = simp (lt-leb byte to h) (go (leb from byte))
    where
      go : (t : Bool) → t && false ≡ false
      go true = refl
      go false = refl

-- ---- The row that a first byte stands in

module _ (first : ℕ) (text : List ℕ) where
  pub one : first < 0x80 → character (first ∷ text) ≡ 1
  unfolding character
  one h = simp (bytes_in 0x00 0x7F first (omega arith) (omega arith))

  pub none_low : 0x80 ≤ first → first < 0xC2 → character (first ∷ text) ≡ 0
  unfolding character
  none_low low high =
      simp (
        bytes_over 0x00 0x7F first (omega arith),
        bytes_under 0xC2 0xDF first (omega arith),
        bytes_under 0xE0 0xE0 first (omega arith),
        bytes_under 0xE1 0xEC first (omega arith),
        bytes_under 0xED 0xED first (omega arith),
        bytes_under 0xEE 0xEF first (omega arith),
        bytes_under 0xF0 0xF0 first (omega arith),
        bytes_under 0xF1 0xF3 first (omega arith),
        bytes_under 0xF4 0xF4 first (omega arith),
      )

  pub two : 0xC2 ≤ first → first < 0xE0 → character (first ∷ text) ≡ sized 2 0x80 0xBF text
  unfolding character
  two low high =
      simp (
        bytes_over 0x00 0x7F first (omega arith),
        bytes_in 0xC2 0xDF first (omega arith) (omega arith),
        bytes_under 0xE0 0xE0 first (omega arith),
        bytes_under 0xE1 0xEC first (omega arith),
        bytes_under 0xED 0xED first (omega arith),
        bytes_under 0xEE 0xEF first (omega arith),
        bytes_under 0xF0 0xF0 first (omega arith),
        bytes_under 0xF1 0xF3 first (omega arith),
        bytes_under 0xF4 0xF4 first (omega arith),
      )

  pub three_low : 0xE0 < first → first < 0xED → character (first ∷ text) ≡ sized 3 0x80 0xBF text
  unfolding character
  three_low low high =
      simp (
        bytes_over 0x00 0x7F first (omega arith),
        bytes_over 0xC2 0xDF first (omega arith),
        bytes_over 0xE0 0xE0 first (omega arith),
        bytes_in 0xE1 0xEC first (omega arith) (omega arith),
        bytes_under 0xED 0xED first (omega arith),
        bytes_under 0xEE 0xEF first (omega arith),
        bytes_under 0xF0 0xF0 first (omega arith),
        bytes_under 0xF1 0xF3 first (omega arith),
        bytes_under 0xF4 0xF4 first (omega arith),
      )

  pub three_high : 0xED < first → first < 0xF0 → character (first ∷ text) ≡ sized 3 0x80 0xBF text
  unfolding character
  three_high low high =
      simp (
        bytes_over 0x00 0x7F first (omega arith),
        bytes_over 0xC2 0xDF first (omega arith),
        bytes_over 0xE0 0xE0 first (omega arith),
        bytes_over 0xE1 0xEC first (omega arith),
        bytes_over 0xED 0xED first (omega arith),
        bytes_in 0xEE 0xEF first (omega arith) (omega arith),
        bytes_under 0xF0 0xF0 first (omega arith),
        bytes_under 0xF1 0xF3 first (omega arith),
        bytes_under 0xF4 0xF4 first (omega arith),
      )

  pub four : 0xF0 < first → first < 0xF4 → character (first ∷ text) ≡ sized 4 0x80 0xBF text
  unfolding character
  four low high =
      simp (
        bytes_over 0x00 0x7F first (omega arith),
        bytes_over 0xC2 0xDF first (omega arith),
        bytes_over 0xE0 0xE0 first (omega arith),
        bytes_over 0xE1 0xEC first (omega arith),
        bytes_over 0xED 0xED first (omega arith),
        bytes_over 0xEE 0xEF first (omega arith),
        bytes_over 0xF0 0xF0 first (omega arith),
        bytes_in 0xF1 0xF3 first (omega arith) (omega arith),
        bytes_under 0xF4 0xF4 first (omega arith),
      )

  pub none_high : 0xF5 ≤ first → character (first ∷ text) ≡ 0
  unfolding character
  none_high low =
      simp (
        bytes_over 0x00 0x7F first (omega arith),
        bytes_over 0xC2 0xDF first (omega arith),
        bytes_over 0xE0 0xE0 first (omega arith),
        bytes_over 0xE1 0xEC first (omega arith),
        bytes_over 0xED 0xED first (omega arith),
        bytes_over 0xEE 0xEF first (omega arith),
        bytes_over 0xF0 0xF0 first (omega arith),
        bytes_over 0xF1 0xF3 first (omega arith),
        bytes_over 0xF4 0xF4 first (omega arith),
      )
