-- What the operations of document 02 that write a text into a lent byte strip, (v), (x) and (xii), answer, and what the strip holds afterwards.
use Rattle.std.specs.Prelude.{ℕ, List, ◌++◌, length, drop, nat_lt}
use Rattle.base.specs.Choice.{if◌then◌otherwise◌}
use Rattle.base.specs.Codes.{success}
use Rattle.base.specs.Outcome.{Outcome, accepted, refused}

-- "Success gives the bytes written"
pub record WriteAnswer : Type 0 where
  pub number : ℕ
  pub position : ℕ
  pub count : ℕ

-- document 01: "Refusals give zero counts"
abbrev pub write_refusal : (number position : ℕ) → WriteAnswer
write_refusal n p = record { number = n; position = p; count = 0 }

-- the answer and the strip afterwards
pub record WriteResult : Type 0 where
  pub answer : WriteAnswer
  pub strip : List ℕ

-- the text leads the strip, "the strip's rest, and all of it on refusal, is unchanged"; where the strip is too short it is refused with
-- `tooShort`, at no place
abbrev pub write_result : (tooShort : ℕ) → Outcome (List ℕ) → (before : List ℕ) → WriteResult
write_result tooShort (accepted text) before =
    if nat_lt (length before) (length text) then (λ _. record { answer = write_refusal tooShort 0; strip = before }) otherwise λ _.
    record {
      answer = record { number = success; position = 0; count = length text };
      strip = text ++ drop (length text) before;
    }
write_result tooShort (refused n p) before = record { answer = write_refusal n p; strip = before }
