-- The code's answer of an operation that writes a text, the bytes written or a refusal, as the definition counts it, and the strip beside it.
use Rattle.std.specs.Prelude.{ℕ, List, Result, Ok, Err}
use Rattle.base.specs.Codes.{success}
use Rattle.base.specs.Write.{WriteAnswer, WriteResult, write_refusal}
use Rattle.base.specs.declared.refusal.Refusal.{Refusal}
use Rattle.base.specs.promises.Refusals.{number_of}

abbrev pub write_answer_of : Result ℕ Refusal → WriteAnswer
write_answer_of (Ok count) = record { number = success; position = 0; count = count }
write_answer_of (Err r) = write_refusal (number_of r.reason) r.position

abbrev pub write_result_of : Result ℕ Refusal → List ℕ → WriteResult
write_result_of a strip = record { answer = write_answer_of a; strip = strip }
