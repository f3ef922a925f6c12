-- Document 01, "What each operation refuses": every refusal of Read and of Check has one of the document's numbers, none of which is 0. It
-- holds stage by stage: a chain of stages refuses as one of them does (RefusalLaws).
use Rattle.std.specs.Prelude.{ℕ, ◌≡◌, ◌≢◌, List}
use Rattle.std.proofs.Common.{arith}
use Rattle.base.specs.Codes.{success}
use Rattle.base.specs.Outcome.{refused}
use Rattle.parser.specs.Read.{reading}
use Rattle.typesystem.specs.Check.{checking}
use Rattle.acceptance.specs.Numbers.{ReadRefusal, CheckRefusal}
use Rattle.acceptance.specs.laws.RefusalLaws.{refusal-of, reading-refuses, checking-refuses, at-least-ten}

-- Read refuses with 10 to 17, 60 or 65.
pub read-refusal : (s : List ℕ) (n q : ℕ) → reading s ≡ refused n q → ReadRefusal n
read-refusal s n q e = refusal-of e (reading-refuses s)

-- Check refuses as Read does, or with 20 to 28 or 30 to 34.
pub check-refusal : (s : List ℕ) (n q : ℕ) → checking s ≡ refused n q → CheckRefusal n
check-refusal s n q e = refusal-of e (checking-refuses s)

-- No refusal has the number of success.
pub not-success : {n : ℕ} → CheckRefusal n → n ≢ success
not-success r e = omega (arith, at-least-ten r)
