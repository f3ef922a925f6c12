-- A run in parts is one run. What is shown first is about one cut: a run with a budget b + c goes on where the run with b paused, with
-- what that left and c; and where that did not pause, it ends the same.
use Prim.Native.Nat.{ℕ, zero, suc, ◌+◌, ◌-◌, ◌≤◌, ◌<◌}
use native.Mathlib.Omega.{arith}
use Rattle.std.specs.Prelude.{Bool, ◌≡◌, ltb}
use Rattle.std.proofs.Math.Bool.{true, false}
use mathlib.Core.List.{List, [], ◌∷◌}
use Rattle.std.proofs.Math.Path.{refl, sym, ap}
use Rattle.std.proofs.Common.{◌∙◌, lt-ltb, le-ltb}
use Rattle.std.proofs.Math.Dec.{eqb}
use Rattle.base.specs.All.{All, all_cons}
use Rattle.base.specs.Choice.{if◌then◌otherwise◌}
use Rattle.base.specs.Codes.{budget_spent}
use Rattle.frames.specs.Machine.{State, Around}
use Rattle.frames.specs.Parts.{Report, cost, finish, run_for, run_frames, Part, one_part_lem, in_parts, prices_of, sum}
use Rattle.frames.proofs.laws.Steps.{Priced, cost-some, Stepped, past, spent, went, halted, stepped, run_past, run-spent, run-went}
use Rattle.frames.proofs.laws.Steps.{run-halted, fuel}

module _ (A : Around) (π : ℕ → ℕ) (h : Priced π) where
  -- what was counted before is not lost
  pub frames-grow : (f n b : ℕ) (s : State) → n ≤ (run_for A π f n b s).frames
  unfolding run_for
  frames-grow zero n b s = omega arith
  frames-grow (suc f) n b s = by (stepped A π n b s) (λ c t. frames-grow f (n + 1) c t)
    where
      by : Stepped A π n b s → ((c : ℕ) (t : State) → n + 1 ≤ (run_for A π f (n + 1) c t).frames) → n ≤ (run_for A π (suc f) n b s).frames
      by (past e) i = rw (run_past A π n b s f e) (omega arith)
      by (spent x e l) i = rw (run-spent A π n b s f x e l) (omega arith)
      by (went x e l t q) i = rw (run-went A π n b s f x e l t q) (omega (arith, i (b - cost (π n) x) t))
      by (halted x e l k q o) i = rw (run-halted A π n b s f x e l k q) (omega arith)

-- ONE CUT

module _ (A : Around) (π π' : ℕ → ℕ) (h : Priced π) (h' : Priced π') (c : ℕ) where
  -- the run goes on with c more where it paused
  abbrev onwards : Report → Report
  onwards r = if eqb r.number budget_spent then (λ _. run_frames A π' r.frames (r.unspent + c) r.state) otherwise λ _. r

  abbrev Alike : (n k : ℕ) → Type 0
  Alike n k = (i : ℕ) → n ≤ i → i < k → π' i ≡ π i

  pub cut : (f g n b : ℕ) (s : State) → b < f → b + c < g → Alike n (run_for A π f n b s).frames
      → run_for A π' g n (b + c) s ≡ onwards (run_for A π f n b s)
  unfolding run_frames
  cut zero g n b s i j a = absurd (omega arith)
  cut (suc f) zero n b s i j a = absurd (omega arith)
  cut (suc f) (suc g) n b s i j a = by (stepped A π n b s) (λ d t k l m. cut f g (n + 1) d t k l m) a
    where
      by : Stepped A π n b s
          → ((d : ℕ) (t : State) → d < f → d + c < g → Alike (n + 1) (run_for A π f (n + 1) d t).frames
          → run_for A π' g (n + 1) (d + c) t ≡ onwards (run_for A π f (n + 1) d t))
          → Alike n (run_for A π (suc f) n b s).frames → run_for A π' (suc g) n (b + c) s ≡ onwards (run_for A π (suc f) n b s)
      by (past e) r a = run_past A π' n (b + c) s g e ∙ ap onwards (sym (run_past A π n b s f e))
      by (spent x e l) r a =
          fuel A π' h' (suc g) (b + c + 1) n (b + c) s (omega arith) (omega arith) ∙ ap onwards (sym (run-spent A π n b s f x e l))
      by (went x e l t q) r a =
          let w = run-went A π n b s f x e l t q in
          let u : n < (run_for A π (suc f) n b s).frames = rw w (omega (arith, frames-grow A π h f (n + 1) (b - cost (π n) x) t)) in
          let p : cost (π' n) x ≡ cost (π n) x = ap (λ (y : ℕ). cost y x) (a n (omega arith) u) in
          let k = cost-some (π n) x (h n) in
          let m : b + c - cost (π' n) x ≡ b - cost (π n) x + c = omega (arith, p) in
          run-went A π' n (b + c) s g x e (omega (arith, p)) t q
          ∙ ap (λ (y : ℕ). run_for A π' g (n + 1) y t) m
          ∙ r (b - cost (π n) x) t (omega arith) (omega arith) (λ i v z. a i (omega arith) (rw w z))
          ∙ ap onwards (sym w)
      by (halted x e l k q o) r a =
          let w = run-halted A π n b s f x e l k q in
          let u : n < (run_for A π (suc f) n b s).frames = rw w (omega arith) in
          let p : cost (π' n) x ≡ cost (π n) x = ap (λ (y : ℕ). cost y x) (a n (omega arith) u) in
          run-halted A π' n (b + c) s g x e (omega (arith, p)) k q
          ∙ sym (ap (λ (z : Bool). if z then (λ _. run_frames A π' (n + 1) (0 + c) s) otherwise λ _. finish k (n + 1) s) o)
          ∙ ap onwards (sym w)

-- two prices that are alike from a frame on
module _ (A : Around) (π π' : ℕ → ℕ) where
  pub alike : (f n b : ℕ) (s : State) → ((i : ℕ) → n ≤ i → π' i ≡ π i) → run_for A π' f n b s ≡ run_for A π f n b s
  unfolding run_for
  alike zero n b s a = refl
  alike (suc f) n b s a = by (stepped A π n b s) (λ d t. alike f (n + 1) d t (λ i l. a i (omega arith)))
    where
      by : Stepped A π n b s → ((d : ℕ) (t : State) → run_for A π' f (n + 1) d t ≡ run_for A π f (n + 1) d t)
          → run_for A π' (suc f) n b s ≡ run_for A π (suc f) n b s
      by (past e) r = run_past A π' n b s f e ∙ sym (run_past A π n b s f e)
      by (spent x e l) r =
          let p : cost (π' n) x ≡ cost (π n) x = ap (λ (y : ℕ). cost y x) (a n (omega arith)) in
          run-spent A π' n b s f x e (omega (arith, p)) ∙ sym (run-spent A π n b s f x e l)
      by (went x e l t q) r =
          let p : cost (π' n) x ≡ cost (π n) x = ap (λ (y : ℕ). cost y x) (a n (omega arith)) in
          run-went A π' n b s f x e (omega (arith, p)) t q ∙ ap (λ (y : ℕ). run_for A π' f (n + 1) (b - y) t) p ∙ r (b - cost (π n) x) t
          ∙ sym (run-went A π n b s f x e l t q)
      by (halted x e l k q o) r =
          let p : cost (π' n) x ≡ cost (π n) x = ap (λ (y : ℕ). cost y x) (a n (omega arith)) in
          run-halted A π' n b s f x e (omega (arith, p)) k q ∙ sym (run-halted A π n b s f x e l k q)

-- MANY PARTS

abbrev pub Fair : Part → Type 0
Fair q = 1 ≤ q.price

module _ (A : Around) where
  pub fair-prices : (q : Part) (qs : List Part) (n u : ℕ) (s : State) → Fair q → All Fair qs → Priced (prices_of A q qs n u s)
  unfolding prices_of
  fair-prices q [] n u s h a i = h
  fair-prices q (q' ∷ qs) n u s h (all_cons h' a) i =
      let r = one_part_lem A q n u s in
      choice (ltb i r.frames) (fair-prices q' qs r.frames r.unspent r.state h' a i)
    where
      choice : {m : ℕ} (b : Bool) → 1 ≤ m → 1 ≤ (if b then (λ _. q.price) otherwise λ _. m)
      choice true k = h
      choice false k = k

  pub most-prices : (c : ℕ) (q : Part) (qs : List Part) (n u : ℕ) (s : State) → q.price ≤ c → All (λ (q : Part). q.price ≤ c) qs
      → (i : ℕ) → prices_of A q qs n u s i ≤ c
  unfolding prices_of
  most-prices c q [] n u s h a i = h
  most-prices c q (q' ∷ qs) n u s h (all_cons h' a) i =
      let r = one_part_lem A q n u s in
      choice (ltb i r.frames) (most-prices c q' qs r.frames r.unspent r.state h' a i)
    where
      choice : {m : ℕ} (b : Bool) → m ≤ c → (if b then (λ _. q.price) otherwise λ _. m) ≤ c
      choice true k = h
      choice false k = k

  -- Document 02, (xiii): parts "used up to the first end other than 50" are one run with the sum, "changing its price at the same frame".
  -- For all frames and all states.
  pub parts-are-one : (q : Part) (qs : List Part) (n u : ℕ) (s : State) → Fair q → All Fair qs
      → in_parts A q qs n u s ≡ run_frames A (prices_of A q qs n u s) n (u + (q.budget + sum qs)) s
  unfolding in_parts prices_of run_frames
  parts-are-one q [] n u s h a =
      let z : u + q.budget ≡ u + (q.budget + 0) = omega arith in
      ap (λ (b : ℕ). run_for A (λ _. q.price) (b + 1) n b s) z
  parts-are-one q (q' ∷ qs) n u s h (all_cons h' a) =
      let r = one_part_lem A q n u s in
      let π = prices_of A q (q' ∷ qs) n u s in
      let π'' = prices_of A q' qs r.frames r.unspent r.state in
      let c = q'.budget + sum qs in
      let b = u + q.budget in
      let z : b + c ≡ u + (q.budget + (q'.budget + sum qs)) = omega arith in
      let whole : run_for A π (b + c + 1) n (b + c) s ≡ onwards A (λ _. q.price) π (λ _. h) (fair-prices q (q' ∷ qs) n u s h
      (all_cons h' a)) c r
      = cut A (λ _. q.price) π (λ _. h) (fair-prices q (q' ∷ qs) n u s h (all_cons h' a)) c (b + 1) (b + c + 1) n b s (omega arith)
      (omega arith)
      (λ i l m. rw (lt-ltb i r.frames m) refl) in
      let rest : run_for A π (r.unspent + c + 1) r.frames (r.unspent + c) r.state ≡ run_for A π'' (r.unspent + c + 1) r.frames
      (r.unspent + c) r.state
      = alike A π'' π (r.unspent + c + 1) r.frames (r.unspent + c) r.state (λ i l. rw (le-ltb i r.frames l) refl) in
      let back = parts-are-one q' qs r.frames r.unspent r.state h' a in
      ap (λ (x : Report). if eqb r.number budget_spent then (λ _. x) otherwise λ _. r) (back ∙ sym rest)
      ∙ sym whole ∙ ap (λ (y : ℕ). run_for A π (y + 1) n y s) z
