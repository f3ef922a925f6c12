-- Document 02, (x), "library refused by the reading rules, at its position": what is found in a library, said by its tokens, the grammar
-- and the depth of its classes. The parsing function is not named here, and who takes this as the promise need not believe it. It holds
-- since parsing and the grammar agree (laws/LibraryLaws).
use Rattle.std.specs.Prelude.{ℕ, ◌+◌, ◌≤◌, ◌<◌, ◌≡◌, List, ◌↔◌, length}
use Rattle.std.proofs.Common.{subst}
use Rattle.std.proofs.Math.Option.{none, some}
use Rattle.base.specs.Codes.{source_too_long, source_most, not_in_grammar, too_deep}
use Rattle.base.specs.Outcome.{Outcome, accepted, refused}
use Rattle.lexer.specs.Tokens.{Token, tokens}
use Rattle.parser.specs.Tree.{Class}
use Rattle.parser.specs.Stream.{start_at}
use Rattle.parser.specs.Grammar.{DerivesClasses}
use Rattle.parser.specs.Measure.{classes_deep}
use Rattle.joining.specs.Library.{Library, ViableLibrary, LibraryReading, reading_library}
use Rattle.joining.specs.Found.{ByLibraryGrammar, misfit, ends-early, too-deep, library, FindsLibrary, library-too-long, tokens-refused, tokens-read}
use Rattle.joining.proofs.laws.LibraryLaws.{too_long, not-lexed, at-token, at-end, deep-library, good-library, by-grammar, by-tokens}

-- What is found in a library is what `FindsLibrary` says.
pub library-exactly : (lib : List ℕ) (o : Outcome LibraryReading) → (reading_library lib ≡ o) ↔ FindsLibrary lib o
library-exactly lib o = (λ e. subst (FindsLibrary lib) e all, given)
  where
    all : FindsLibrary lib (reading_library lib)
    all =
        by-tokens lib (FindsLibrary lib) library-too-long (λ n q h e. tokens-refused h e)
        (λ ls h e. by-grammar lib h ls e (FindsLibrary lib) (λ k l v n. tokens-read h e (misfit l v n))
        (λ v n. tokens-read h e (ends-early v n)) (λ ks at d q. tokens-read h e (too-deep d q)) (λ ks d q. tokens-read h e (library d q)))

    of-grammar : {ls : List Token} {o : Outcome LibraryReading} → length lib ≤ source_most → tokens lib ≡ accepted ls
        → ByLibraryGrammar lib ls o → reading_library lib ≡ o
    of-grammar {ls} h e (misfit {k = k} l v n) = at-token lib h ls e k l v n
    of-grammar {ls} h e (ends-early v n) = at-end lib h ls e v n
    of-grammar {ls} h e (too-deep d q) = deep-library lib h ls e d q
    of-grammar {ls} h e (library d q) = good-library lib h ls e d q

    given : {o : Outcome LibraryReading} → FindsLibrary lib o → reading_library lib ≡ o
    given (library-too-long l) = too_long lib l
    given (tokens-refused h e) = not-lexed lib h e
    given (tokens-read h e g) = of-grammar h e g

-- a library that is accepted: it is not too long, its tokens are class declarations, and no node is deeper than 64
pub record ReadableLibrary (lib : List ℕ) (ls : List Token) (ks : List Class) : Type 0 where
  pub short : length lib ≤ source_most
  pub lexed : tokens lib ≡ accepted ls
  pub derived : DerivesClasses ls 0 (length ls) ks
  pub shallow : classes_deep ks ≡ none

-- Its tokens and its classes are found exactly when it is accepted by bounds and grammar.
pub readable-library : (lib : List ℕ) (ls : List Token) (ks : List Class)
    → (reading_library lib ≡ accepted (record { stream = ls; classes = ks })) ↔ ReadableLibrary lib ls ks
readable-library lib ls ks = (
  λ e. found ((library-exactly lib _).0 e),
  λ h. good-library lib h.short ls h.lexed h.derived h.shallow,
)
  where
    found : {l : LibraryReading} → FindsLibrary lib (accepted l) → ReadableLibrary lib l.stream l.classes
    found (tokens-read h e (library d q)) = record { short = h; lexed = e; derived = d; shallow = q }
