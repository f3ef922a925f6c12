-- `base::word::signed` meets its contract: from 2 ^ 31 up a word x stands for -1 - (2 ^ 32 - 1 - x).
use Rattle.std.proofs.Common.{◌≡◌, ℕ, zero, suc, ◌-◌, ◌^◌, ◌<◌, ◌≤◌, Bool, ℤ, pos, negsuc, ◌-ℤ◌, sym, refl, ap, ◌∙◌, subst, arith, w32, SFits, to_z, of_z, le-ltb}
use mir.Val.{sel}
use mir.ValLaws.{to_z-of_z, to_z_pos}
use Rattle.base.proofs.word.signed.Goals as goal

less_one : (n : ℕ) → negsuc 0 -ℤ pos n ≡ negsuc n
less_one zero = refl
less_one (suc n) = ap negsuc (omega arith)

module _ (x : ℕ) (h : 2 ^ 31 ≤ x) (l : x < 2 ^ 32) where
  made : negsuc 0 -ℤ to_z w32 (4294967295 - x) ≡ negsuc (4294967295 - x)
  made = ap (λ (z : ℤ). negsuc 0 -ℤ z) (to_z_pos w32 (4294967295 - x) (omega arith)) ∙ less_one (4294967295 - x)

  fits : SFits w32 (negsuc 0 -ℤ to_z w32 (4294967295 - x))
  fits = subst (SFits w32) (sym made) (record { sfits = omega arith })

  value : to_z w32 x ≡ negsuc (4294967295 - x)
  value = ap (λ (b : Bool). sel b (pos x) (negsuc (2 ^ 32 - suc x))) (le-ltb x (2 ^ 31) h) ∙ ap negsuc (omega arith)

  value_made : to_z w32 (of_z w32 (negsuc 0 -ℤ to_z w32 (4294967295 - x))) ≡ to_z w32 x
  value_made = to_z-of_z w32 _ fits ∙ made ∙ sym value

pub overflow_sub-result : goal.overflow_sub-result
overflow_sub-result c = fits c.args.x (omega arith) (omega arith)

pub returns : goal.returns
returns c = value_made c.args.x (omega arith) (omega arith)
