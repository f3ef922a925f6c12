-- What encode_result digits returns meets its contract.
use Prim.Native.Nat.{ℕ, suc, ◌+◌, ◌-◌, ◌/◌, ◌%◌}
use native.Mathlib.Omega.{arith}
use mathlib.Core.Path.{◌≡◌, sym, ap, ◌∙◌}
use mathlib.Core.List.{List, []}
use lib.ListN.{set}
use Rattle.frames.specs.Lines.{digit, in_hex}
use Rattle.encoder.specs.promises.Strip.{overwritten, Digits}
use Rattle.encoder.specs.laws.Bytes.{digits-none, digits_more}

pub digits-end : {at count n : ℕ} {l : List ℕ} → count ≡ 0 → Digits at count n l l
digits-end {at} {count} {n} {l} z = record { strip = sym (ap (λ (k : ℕ). overwritten at (in_hex k n []) l) z ∙ digits-none at n l) }

pub digits-next : {at count n d : ℕ} {l₀ l₁ l₂ : List ℕ} → (count ≡ 0 → ⊥) → Digits at (count - 1) (n / 16) l₀ l₁ → d ≡ digit (n % 16)
    → l₂ ≡ set l₁ (at + (count - 1)) d → Digits at count n l₀ l₂
digits-next {at} {count} {n} {d} {l₀} {l₁} {l₂} some p q r =
    let z : count ≡ suc (count - 1) = omega (arith, some) in
    record {
      strip =
          r ∙ ap (λ (l : List ℕ). set l (at + (count - 1)) d) p.strip
          ∙ ap (set (overwritten at (in_hex (count - 1) (n / 16) []) l₀) (at + (count - 1))) q
          ∙ sym (digits_more at (count - 1) n l₀)
          ∙ ap (λ (k : ℕ). overwritten at (in_hex k n []) l₀) (sym z);
    }
