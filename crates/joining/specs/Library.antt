-- Document 02, (x): "A library is zero or more class declarations." Its grammar, and what the reading rules find in it: those of Read, with
-- class declarations alone for the grammar.
use Rattle.std.specs.Prelude.{ℕ, ◌+◌, ◌*◌, ◌≡◌, List, length, take, ltb}
use Rattle.base.specs.Choice.{if◌then◌otherwise◌, option}
use Rattle.base.specs.Codes.{source_too_long, source_most, too_deep}
use Rattle.base.specs.Outcome.{Outcome, accepted, refused, ◌>>=◌}
use Rattle.lexer.specs.Tokens.{Token, tokens}
use Rattle.parser.specs.Tree.{Class}
use Rattle.parser.specs.Parse.{Parsed, classes_from}
use Rattle.parser.specs.Grammar.{DerivesClasses}
use Rattle.parser.specs.Measure.{classes_deep}
use Rattle.parser.specs.Read.{grammatical}

-- THE GRAMMAR

-- the tokens, all of them, are zero or more class declarations
abbrev pub Library : List Token → Type 0
Library ts = (ks : List Class) × DerivesClasses ts 0 (length ts) ks

-- some library begins with the first k tokens
abbrev pub ViableLibrary : List Token → ℕ → Type 0
ViableLibrary ts k = (us : List Token) × Library us × (take k us ≡ take k ts)

-- WHAT THE READING RULES FIND

-- the parsing function, from the first token on. At most 16 parsers are open for each token read.
unfoldable pub parse_library : List Token → Parsed (List Class)
parse_library ts = classes_from (16 * length ts + 16) ts 0

-- the tokens of a library and its classes
pub record LibraryReading : Type 0 where
  pub stream : List Token
  pub classes : List Class

-- refusal 17
abbrev pub library_shallow : List Class → Outcome (List Class)
library_shallow ks = option (classes_deep ks) (accepted ks) λ at. refused too_deep at

-- Read's rules in Read's order: 10, then 11 to 15, 60 and 65, then 16, then 17
unfoldable pub reading_library : List ℕ → Outcome LibraryReading
reading_library lib =
    if ltb source_most (length lib) then (λ _. refused source_too_long 0) otherwise λ _.
    tokens lib >>= λ ls. grammatical lib ls (parse_library ls) >>= λ ks. library_shallow ks >>= λ ks.
    accepted (record { stream = ls; classes = ks })
