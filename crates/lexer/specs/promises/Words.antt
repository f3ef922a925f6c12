-- The reserved words of one length, as the code has them: each with its kind.
use Rattle.std.specs.Prelude.{ℕ, List, [], ◌∷◌, ◌≡◌, map, length, eqb}
use Rattle.base.specs.Choice.{if◌then◌otherwise◌}
use Rattle.lexer.specs.Kinds.{Word, words}

-- the words of length n
abbrev pub has_length : ℕ → List Word → List Word
has_length n [] = []
has_length n (w ∷ ws) = if eqb (length w.text) n then (λ _. w ∷ has_length n ws) otherwise λ _. has_length n ws

-- a word with its kind
abbrev pub as_word : List ℕ × ℕ → Word
as_word w = record { text = w.0; kind = w.1 }

-- these are the reserved words of length n
abbrev pub Listed : ℕ → List (List ℕ × ℕ) → Type 0
Listed n ws = has_length n words ≡ map as_word ws
