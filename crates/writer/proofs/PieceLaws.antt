-- Pieces of code as the code writes them: one instruction, a piece behind another, and a piece behind a jump that is written last.
use Prim.Native.Nat.{ℕ, suc, ◌+◌, ◌*◌, ◌≤◌, ◌<◌}
use native.Mathlib.Omega.{arith}
use mathlib.Core.Path.{◌≡◌, refl, sym, ap, subst, ◌∙◌}
use mathlib.Core.List.{List, ◌∷◌}
use lib.ListN.{set}
use Rattle.parser.specs.Tree.{Sort, Part, Class}
use Rattle.parser.specs.Measure.{nodes}
use Rattle.typesystem.specs.ClassTable.{Context}
use Rattle.codegen.specs.promises.Code.{Instruction, mark, i_mark}
use Rattle.codegen.specs.promises.Compile.{end, emit}
use Rattle.writer.specs.promises.Words.{words, encode, put_at, store}
use Rattle.writer.specs.laws.Emits.{behind, before, one}
use Rattle.writer.specs.laws.Lengths.{sized}
use Rattle.writer.specs.promises.Posts.{room, PutPost, NextPost, Wrote}

abbrev pub Piece : Type 0
Piece = List Instruction → List Instruction

-- one instruction
pub put_one : (x : Instruction) {ν : List ℕ → ℕ} {at op a b d r : ℕ} {c c' : List ℕ} → words op a b d ≡ encode ν x
    → PutPost at op a b d c c' r → suc at ≤ room → Wrote ν (λ k. x ∷ k) (suc at) at c c' r
put_one x {ν} {at} {op} {a} {b} {d} {r} {c} {c'} e f h = record { ends = f.next h; code = rw (f.next h, f.says h, e) (one x) }

-- a piece behind another, which ends at m
pub next-to : (g : ℕ → Piece) (stop : ℕ → ℕ) {ν : List ℕ → ℕ} {f : Piece} {m i a b : ℕ} {c c₁ c₂ : List ℕ}
    → Wrote ν f m i c c₁ a → Wrote ν (g a) (stop a) a c₁ c₂ b → Wrote ν (λ k. f (g m k)) (stop m) i c c₂ b
next-to g stop {ν} {f} {m} {i} {a} {b} {c} {c₁} {c₂} u v =
    subst (λ (n : ℕ). Wrote ν (λ k. f (g n k)) (stop n) i c c₂ b) u.ends (record { ends = v.ends; code = behind u.code v.code })

-- a node's code is the mark of its position, and what follows
pub record Opens (G : List Class) (Γ : Context) {q : Sort} (t : Part q) (start : ℕ) (inner : ℕ → Piece) (stop : ℕ → ℕ) : Type 0 where
  pub code : (i : ℕ) (k : List Instruction) → emit G Γ t i k ≡ mark start ∷ inner (suc i) k
  pub ends : (i : ℕ) → end t i ≡ stop (suc i)

pub node-wrote : {G : List Class} {Γ : Context} {q : Sort} {t : Part q} {start : ℕ} {inner : ℕ → Piece} {stop : ℕ → ℕ}
    → Opens G Γ t start inner stop → 1 ≤ nodes t → {ν : List ℕ → ℕ} {v at i r : ℕ} {c c₁ c₂ : List ℕ} → v ≡ start
    → PutPost at i_mark v 0 0 c c₁ i → end t at ≤ room → (stop i ≤ room → Wrote ν (inner i) (stop i) i c₁ c₂ r)
    → Wrote ν (emit G Γ t at) (end t at) at c c₂ r
node-wrote {t = t} {start} {inner} {stop} o some {ν} {at = at} {c = c} e p h f =
    let low : suc at ≤ room = omega (arith, (sized t at).least) in
    let m = put_one (mark start) (ap (λ (n : ℕ). words i_mark n 0 0) e) p low in
    let w = next-to inner stop m (f (rw (p.next low) (omega (arith, o.ends at)))) in
    record {
      ends = w.ends ∙ sym (o.ends at);
      code = record { is = λ k. ap (λ (l : List Instruction). store ν l at c) (o.code at k) ∙ w.code.is k };
    }

-- a piece behind an instruction that is written after it
pub over : (x : Instruction) (g : ℕ → Piece) (stop : ℕ → ℕ) {ν : List ℕ → ℕ} {at n op a b d r j : ℕ} {c c₁ c₂ : List ℕ}
    → NextPost at n → Wrote ν (g n) (stop n) n c c₁ j → words op a b d ≡ encode ν x → PutPost at op a b d c₁ c₂ r → suc at ≤ room
    → suc at ≤ stop (suc at) → Wrote ν (λ k. x ∷ g (suc at) k) (stop (suc at)) at c c₂ j
over x g stop {ν} {at} {n} {op} {a} {b} {d} {r} {j} {c} {c₁} {c₂} m v e p h l =
    let w : Wrote ν (g (suc at)) (stop (suc at)) (suc at) c c₁ j = subst (λ (i : ℕ). Wrote ν (g i) (stop i) i c c₁ j) (m.next h) v in
    record { ends = w.ends; code = rw (p.says h, e) (before x (omega (arith, w.ends)) w.code) }

-- four words, one after another, are an instruction
pub put_four : {at op a b d : ℕ} {c c₁ c₂ c₃ c₄ : List ℕ} → at < room → c₁ ≡ set c (4 * at) op → c₂ ≡ set c₁ (4 * at + 1) a
    → c₃ ≡ set c₂ (4 * at + 2) b → c₄ ≡ set c₃ (4 * at + 3) d
    → PutPost at op a b d c c₄ (at + 1)
unfolding put_at
put_four l e f g h = record { within = omega arith; next = λ _. omega arith; says = λ _. h ∙ rw (g, f, e) refl }
