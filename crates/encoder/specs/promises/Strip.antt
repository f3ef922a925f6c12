-- Lines written into a strip from a place on. A write past its end changes nothing, as `set` does: on a strip that is too short, or on none,
-- the same pass counts.
use Rattle.std.specs.Prelude.{ℕ, ◌+◌, ◌*◌, ◌≡◌, List, [], ◌∷◌, length, set}
use Rattle.frames.specs.Lines.{Line, in_hex, text}

-- no place of a strip to which a pass comes is beyond this
abbrev pub far : ℕ
far = 1000000000000

-- a list with others written into it, from place i on
unfoldable pub overwritten : ℕ → List ℕ → List ℕ → List ℕ
overwritten i [] l = l
overwritten i (p ∷ ps) l = overwritten (i + 1) ps (set l i p)

-- so many digits of a number are written from a place on
pub record Digits (at count n : ℕ) (before after : List ℕ) : Type 0 where
  pub strip : after ≡ overwritten at (in_hex count n []) before

-- lines are written from a place on; r is the place behind them
pub record Puts (at : ℕ) (xs : List Line) (before after : List ℕ) (r : ℕ) : Type 0 where
  pub behind : r ≡ at + 11 * length xs
  pub strip : after ≡ overwritten at (text xs) before
