-- What encode_result the frames of plain instructions returns meets its contract.
use Prim.Native.Nat.{ℕ, suc, ◌+◌, ◌-◌, ◌*◌, ◌≤◌, ◌<◌, min}
use native.Mathlib.Omega.{arith}
use native.Mathlib.Nat.{mul-le-mul}
use mathlib.Core.Bool.{true, false, false≢true}
use mathlib.Core.Path.{◌≡◌, refl, sym, ap, ap₂, ◌∙◌, subst}
use mathlib.Core.List.{List, [], ◌∷◌, map}
use lib.ListN.{length, get_or}
use Rattle.base.specs.All.{All, all_cons}
use Rattle.codegen.specs.promises.Code.{Instruction, Code}
use Rattle.writer.specs.promises.Words.{Words, words, encode}
use Rattle.writer.specs.laws.Stored.{StandAt}
use Rattle.frames.specs.Lines.{Line, line}
use Rattle.frames.specs.Encode.{place_of, class_number, method_names, table_line_lem, frame_of}
use Rattle.encoder.specs.declared.plan.Plan.{Plan}
use Rattle.encoder.specs.promises.Strip.{Puts}
use Rattle.encoder.specs.promises.Frames.{Placed, HeldFrom, NumbersHeld, OperatorPost, OperandPost, BehindPost, PlainPost}
use Rattle.encoder.specs.laws.Bytes.{puts_none, puts_then}
use Rattle.encoder.specs.laws.Instructions.{special, View, as_is, an-operator, an-object, a_call, view, stands-first, number_small, held_first, held-rest}

-- OPERANDS

-- a table line is below 2 to the power 34
pub product-few : {a b : ℕ} → a ≤ 2048 → b ≤ 4194304 → a * b ≤ 8589934592
product-few h k = mul-le-mul h k

apart-special : {o n : ℕ} → special o ≡ false → o ≡ n → special n ≡ true → ⊥
apart-special {o} {n} f e t = false≢true (sym f ∙ ap special e ∙ t)

-- what stands where the words are these
stand-as : (code : List ℕ) (i : ℕ) {w : Words} (v : Words) → w ≡ v → StandAt code i w → StandAt code i v
stand-as code i v e s = subst (λ (y : Words). StandAt code i y) e s

module _ {code classes methods : List ℕ} {p : Plan} {i op : ℕ} where
  pub operand-operator : {a r : ℕ} → op ≡ 8 → a ≡ get_or code (4 * i + 1) 0 → OperatorPost a r → OperandPost code classes methods p i op r
  operand-operator {a} {r} is e f = record { says = λ ν P H x h s q. go ν P H s q (view ν P x h) }
    where
      go : (ν : List ℕ → ℕ) (P : Code) → NumbersHeld ν P classes methods p → {x : Instruction} → StandAt code i (encode ν x) → op ≡ get_or code (4 * i) 0
          → View ν P x → line op r ≡ frame_of P x
      go ν P H s q (as_is o a b d w t z) = absurd (apart-special z (sym (stand-as code i (words o a b d) w s).0 ∙ sym q ∙ is) refl)
      go ν P H s q (an-operator o) = ap₂ line is (f.says o (e ∙ s.1))
      go ν P H s q (an-object g c xs) = absurd (omega (arith, is, q, s.0))
      go ν P H s q (a_call g m n) = absurd (omega (arith, is, q, s.0))

  pub operand-object : {x y c d f : ℕ} → op ≡ 17 → x ≡ get_or code (4 * i + 2) 0 → y ≡ get_or classes x 0 → c ≡ min y p.classes
      → d ≡ get_or code (4 * i + 3) 0 → f ≡ min d 65535 → OperandPost code classes methods p i op (65536 * c + f)
  operand-object {x} {y} {c} {d} {f} is ex ey ec ed ef = record { says = λ ν P H x h s q. go ν P H s q (view ν P x h) }
    where
      go : (ν : List ℕ → ℕ) (P : Code) → NumbersHeld ν P classes methods p → {x : Instruction} → StandAt code i (encode ν x) → op ≡ get_or code (4 * i) 0
          → View ν P x → line op (65536 * c + f) ≡ frame_of P x
      go ν P H s q (as_is o a b d w t z) = absurd (apart-special z (sym (stand-as code i (words o a b d) w s).0 ∙ sym q ∙ is) refl)
      go ν P H s q (an-operator o) = absurd (omega (arith, is, q, s.0))
      go ν P H s q (an-object g k xs) =
          let cn : c ≡ class_number P.rows k = ec ∙ ap (λ (v : ℕ). min v p.classes) (ey ∙ ap (λ (j : ℕ). get_or classes j 0) (ex ∙ s.2)) ∙ H.class k in
          let fn : f ≡ min (length xs) 65535 = ef ∙ ap (λ (v : ℕ). min v 65535) (ed ∙ s.3) in
          ap₂ line is (ap₂ (λ (a b : ℕ). 65536 * a + b) cn fn)
      go ν P H s q (a_call g m n) = absurd (omega (arith, is, q, s.0))

  pub operand-call : {x y c d t : ℕ} → op ≡ 18 → x ≡ get_or code (4 * i + 2) 0 → y ≡ get_or methods x 0 → c ≡ min y p.methods
      → d ≡ get_or code (4 * i + 3) 0 → t ≡ p.lines + p.classes * c → OperandPost code classes methods p i op (256 * t + d)
  operand-call {x} {y} {c} {d} {t} is ex ey ec ed et = record { says = λ ν P H x h s q. go ν P H s q (view ν P x h) }
    where
      go : (ν : List ℕ → ℕ) (P : Code) → NumbersHeld ν P classes methods p → {x : Instruction} → StandAt code i (encode ν x) → op ≡ get_or code (4 * i) 0
          → View ν P x → line op (256 * t + d) ≡ frame_of P x
      go ν P H s q (as_is o a b d w t z) = absurd (apart-special z (sym (stand-as code i (words o a b d) w s).0 ∙ sym q ∙ is) refl)
      go ν P H s q (an-operator o) = absurd (omega (arith, is, q, s.0))
      go ν P H s q (an-object g k xs) = absurd (omega (arith, is, q, s.0))
      go ν P H s q (a_call g m n) =
          let cn : c ≡ place_of (method_names P.rows) m = ec ∙ ap (λ (v : ℕ). min v p.methods) (ey ∙ ap (λ (j : ℕ). get_or methods j 0) (ex ∙ s.2)) ∙ H.method m in
          let tn : t ≡ table_line_lem P m = et ∙ ap₂ ◌+◌ H.lines (ap₂ ◌*◌ H.rows cn) in
          ap₂ line is (ap₂ (λ (a b : ℕ). 256 * a + b) tn (ed ∙ s.3))

  pub operand-word : {a : ℕ} → (op ≡ 8 → ⊥) → (op ≡ 17 → ⊥) → (op ≡ 18 → ⊥) → a ≡ get_or code (4 * i + 1) 0 → OperandPost code classes methods p i op a
  operand-word {a} n₁ n₂ n₃ e = record { says = λ ν P H x h s q. go ν P H s q (view ν P x h) }
    where
      go : (ν : List ℕ → ℕ) (P : Code) → NumbersHeld ν P classes methods p → {x : Instruction} → StandAt code i (encode ν x) → op ≡ get_or code (4 * i) 0
          → View ν P x → line op a ≡ frame_of P x
      go ν P H s q (as_is o a' b d w t z) = let v = stand-as code i (words o a' b d) w s in ap₂ line (q ∙ v.0) (e ∙ v.1) ∙ sym t
      go ν P H s q (an-operator o) = absurd (n₁ (q ∙ s.0))
      go ν P H s q (an-object g c xs) = absurd (n₂ (q ∙ s.0))
      go ν P H s q (a_call g m n) = absurd (n₃ (q ∙ s.0))

-- HOW MANY

module _ {code : List ℕ} {i left : ℕ} where
  pub behind-end : {o : ℕ} → o ≡ get_or code (4 * i) 0 → 255 ≤ o → BehindPost code i left i
  behind-end {o} e far = record { within = omega arith; says = λ ν k h few past. go ν k h }
    where
      go : (ν : List ℕ → ℕ) (k : List Instruction) → HeldFrom code ν i k → i ≡ i + length k
      go ν [] h = omega arith
      go ν (x ∷ k) h = absurd (omega (arith, e, far, stands-first code i (encode ν x) (held_first h), number_small ν x))

  pub behind-next : {o r : ℕ} → (left ≡ 0 → ⊥) → o ≡ get_or code (4 * i) 0 → o < 255 → BehindPost code (i + 1) (left - 1) r → BehindPost code i left r
  behind-next {o} {r} some e near f = record { within = omega (arith, f.within, some); says = go }
    where
      go : (ν : List ℕ → ℕ) (k : List Instruction) → HeldFrom code ν i k → length k ≤ left → (length k < left → 255 ≤ get_or code (4 * (i + length k)) 0)
          → r ≡ i + length k
      go ν [] h few past =
          let z : i + 0 ≡ i = omega arith in
          absurd (omega (arith, e, near, past (omega (arith, some)), ap (λ (n : ℕ). get_or code (4 * n) 0) z))
      go ν (x ∷ k) h few past =
          let z : i + suc (length k) ≡ i + 1 + length k = omega arith in
          f.says ν k (held-rest h) (omega (arith, few))
          (λ l. subst (λ (n : ℕ). 255 ≤ get_or code (4 * n) 0) z (past (omega (arith, l)))) ∙ sym z

-- FRAMES

module _ {code classes methods : List ℕ} {p : Plan} {i left at : ℕ} {before : List ℕ} where
  pub plain-none : left ≡ 0 → PlainPost code classes methods p i left at before before at
  plain-none z = record { within = omega arith; says = λ ν P H k a h l. go ν P k (l ∙ z) }
    where
      go : (ν : List ℕ → ℕ) (P : Code) (k : List Instruction) → length k ≡ 0 → Puts at (map (frame_of P) k) before before at
      go ν P [] l = puts_none at before
      go ν P (x ∷ k) l = absurd (omega (arith, l))

  pub plain-next : {op x m r : ℕ} {mid after : List ℕ} → (left ≡ 0 → ⊥) → op ≡ get_or code (4 * i) 0 → OperandPost code classes methods p i op x
      → Puts at (line op x ∷ []) before mid m → PlainPost code classes methods p (i + 1) (left - 1) m mid after r
      → PlainPost code classes methods p i left at before after r
  plain-next {op} {x} {m} {r} {mid} {after} some e f g h = record { within = omega (arith, h.within, g.behind, some); says = go }
    where
      go : (ν : List ℕ → ℕ) (P : Code) → NumbersHeld ν P classes methods p → (k : List Instruction) → All Placed k → HeldFrom code ν i k
          → length k ≡ left → Puts at (map (frame_of P) k) before after r
      go ν P H [] a w l = absurd (some (sym l))
      go ν P H (y ∷ k) (all_cons u us) w l =
          let q : line op x ≡ frame_of P y = f.says ν P H y u (held_first w) e in
          puts_then (subst (λ (n : Line). Puts at (n ∷ []) before mid m) q g) (h.says ν P H k us (held-rest w) (omega (arith, l)))
