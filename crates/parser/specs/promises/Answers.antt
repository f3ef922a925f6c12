-- The answers of the parser's functions.
use Rattle.std.specs.Prelude.{ℕ, Result, Ok, Err}
use Rattle.parser.specs.declared.answer.Part as Declared
use Rattle.parser.specs.declared.answer.Misfit.{Misfit}

abbrev pub Answer : Type 0
Answer = Result Declared.Part Misfit

-- what was read has this row, and the token behind it this number
abbrev pub At : (row next : ℕ) → Answer
At x j = Ok (record { row = x; next = j })

-- the first token that fits nowhere has this number
abbrev pub Bad : (token : ℕ) → Answer
Bad k = Err (record { token = k })
