-- Demand 2: a source is accepted exactly when document 01's grammar, bounds and typing rules allow it. It holds since Check is Read
-- (Read) and then the judging of the tree, which agrees with the typing rules (crate `typing`).
use Rattle.std.specs.Prelude.{ℕ, ◌≡◌, refl, List, ◌↔◌}
use Rattle.std.proofs.Common.{sym, subst}
use Rattle.base.specs.Outcome.{accepted}
use Rattle.lexer.specs.Tokens.{Token}
use Rattle.parser.specs.Tree.{Program}
use Rattle.parser.specs.Read.{reading}
use Rattle.typesystem.specs.Check.{checking}
use Rattle.typesystem.specs.TypingRules.{ProgramTyped}
use Rattle.typing.specs.laws.Agreement.{program-agrees}
use Rattle.typing.specs.laws.Choices.{bound}
use Rattle.acceptance.specs.Read.{Readable, readable-exactly}

-- what document 01 allows: a source that is not too long, whose tokens are the yield of a derivation of the program p, of depth at most 64,
-- well typed
pub record Allowed (s : List ℕ) (p : Program) : Type 0 where
  pub stream : List Token
  pub readable : Readable s stream p
  pub typed : ProgramTyped p

pub allowed : (s : List ℕ) (p : Program) → checking s ≡ accepted p → Allowed s p
unfolding checking
allowed s p e =
    let v = bound (reading s) _ e in
    let t = (program-agrees v.0.tree p).0 v.2 in
    let ts = v.0.stream in
    subst (Allowed s) (sym t.0) (record { stream = ts; readable = (readable-exactly s ts v.0.tree).0 v.1; typed = t.1 })

pub allowed-accepted : (s : List ℕ) (p : Program) → Allowed s p → checking s ≡ accepted p
unfolding checking
allowed-accepted s p h = rw ((readable-exactly s h.stream p).1 h.readable) ((program-agrees p p).1 (refl, h.typed))

-- A source is accepted, with its tree, exactly when it is allowed.
pub accepted-exactly : (s : List ℕ) (p : Program) → (checking s ≡ accepted p) ↔ Allowed s p
accepted-exactly s p = (allowed s p, allowed-accepted s p)
