-- Larger limits change nothing of a run but an end by a limit: two runs stay in step until the smaller limits stop one, and since `plan`
-- sees neither limits nor meters only the ten requests are looked at. More fuel changes nothing of a run that ended, so this holds of
-- `run`, which has fuel by its budget.
use Prim.Native.Nat.{ℕ, zero, suc, ◌+◌, ◌*◌, ◌≤◌}
use Rattle.std.proofs.Common.{arith, not-suc-le-zero, le_of_suc-le-suc, append_assoc, append-nil, sym, ap, ◌∙◌, subst, ltb-true, leb-true, lt-ltb, le-leb}
use Rattle.std.specs.Prelude.{Bool, true, false, List, [], ◌∷◌, ◌++◌, ◌≡◌, refl, length, ltb, leb, ℤ}
use Rattle.parser.specs.Tree.{Class, Program}
use Rattle.typing.specs.laws.Choices.{by-test}
use Rattle.semantics.specs.Machine.{Core, Request, Request.charge, Request.allocate, Request.enter, Request.output, Request.receive, Request.send, Request.move, Request.fault, Request.done, Request.stuck, plan, start}
use Rattle.semantics.specs.Limits.{Limits, Meters, begun, ended, Progress, next, stop, within, guard, Report, size_of, after, run_with, run}
use Rattle.soundness.specs.Results.{Finish, ByLimit, by-budget, by-heap, by-calls, by-output, ◌⊑◌, Begins}
use Rattle.soundness.specs.laws.ResultLaws.{finish-or-limit, Over}
use Rattle.soundness.specs.laws.Continuations.{after-by}
use Rattle.soundness.specs.laws.Ending.{run_ends}

pub begins-refl : (a : List ℤ) → Begins a a
begins-refl a = record { rest = []; is = sym (append-nil a) }

begins-trans : {a b c : List ℤ} → Begins a b → Begins b c → Begins a c
begins-trans {a} p q =
    record { rest = p.rest ++ q.rest; is = q.is ∙ ap (λ (l : List ℤ). l ++ q.rest) p.is ∙ append_assoc a p.rest q.rest }

-- ---- the printed list only grows

abbrev pub Grows : Meters → Progress Core → Type 0
Grows m (next c n) = Begins m.printed n.printed
Grows m (stop e) = Unit {0}

pub guard-grows : (L : Limits) (m : Meters) (r : Request Core) → Grows m (guard L m r)
unfolding guard
guard-grows L m (charge p c) = by-test (Grows m) (ltb m.steps L.budget) _ _ (λ _. begins-refl m.printed) (λ _. tt)
guard-grows L m (allocate p n c) = by-test (Grows m) (leb n L.heap) _ _ (λ _. begins-refl m.printed) (λ _. tt)
guard-grows L m (enter p n k c) = by-test (Grows m) (leb n L.calls) _ _ (λ _. begins-refl m.printed) (λ _. tt)
guard-grows L m (output p z c) =
    by-test (Grows m) (ltb (length m.printed) L.printed) _ _ (λ _. record { rest = z ∷ []; is = refl }) (λ _. tt)
guard-grows L m (receive n c) = begins-refl m.printed
guard-grows L m (send n v c) = begins-refl m.printed
guard-grows L m (move c) = begins-refl m.printed
guard-grows L m (fault k p) = tt
guard-grows L m done = tt
guard-grows L m stuck = tt

pub run-grows : (f : ℕ) (G : List Class) (L : Limits) (c : Core) (m : Meters)
    → Begins m.printed (run_with (plan G) size_of L f c m).printed
unfolding run_with
run-grows zero G L c m = begins-refl m.printed
run-grows (suc f) G L c m =
    after-by (Grows m) (λ r. Begins m.printed r.printed) (λ d n. run_with (plan G) size_of L f d n) c m (λ d n g. begins-trans g (run-grows f G L d n))
    (λ e _. begins-refl m.printed) (guard L m (plan G c)) (guard-grows L m (plan G c))

-- ---- two runs in step

-- the outcome of a request under limits and under larger ones: the same, or an end by a limit
data Alike : Progress Core → Progress Core → Type 0 where
  alike : {o : Progress Core} → Alike o o
  stopped : {k p : ℕ} {o : Progress Core} → ByLimit k → Alike (stop (ended k p)) o

within-alike : (a b : Bool) {k : ℕ} (p : ℕ) (o : Unit {0} → Progress Core) → ByLimit k → (a ≡ true → b ≡ true)
    → Alike (within a k p o) (within b k p o)
within-alike true true p o l h = alike
within-alike true false p o l h = absurd (let e = h refl in let z : ◌≡◌ {A = ℕ} 0 1 = cc in omega arith)
within-alike false b p o l h = stopped l

guard-alike : (L M : Limits) → L ⊑ M → (m : Meters) (r : Request Core) → Alike (guard L m r) (guard M m r)
unfolding guard
guard-alike L M h m (charge p c) =
    within-alike _ _ p _ by-budget (λ e. lt-ltb m.steps M.budget (omega (arith, h.budget, ltb-true m.steps L.budget e)))
guard-alike L M h m (allocate p n c) =
    within-alike _ _ p _ by-heap (λ e. le-leb n M.heap (omega (arith, h.heap, leb-true n L.heap e)))
guard-alike L M h m (enter p n k c) =
    within-alike _ _ p _ by-calls (λ e. le-leb n M.calls (omega (arith, h.calls, leb-true n L.calls e)))
guard-alike L M h m (output p z c) =
    within-alike _ _ p _ by-output (λ e. lt-ltb (length m.printed) M.printed (omega (arith, h.printed, ltb-true (length m.printed) L.printed e)))
guard-alike L M h m (receive n c) = alike
guard-alike L M h m (send n v c) = alike
guard-alike L M h m (move c) = alike
guard-alike L M h m (fault k p) = alike
guard-alike L M h m done = alike
guard-alike L M h m stuck = alike

-- a run under limits and one under larger limits: they report the same, or a limit stopped the first and its printed list begins the
-- other's
pub data Agree : Report → Report → Type 0 where
  agree : {r : Report} → Agree r r
  cut : {k p : ℕ} {r s : Report} → ByLimit k → r.ending ≡ ended k p → Begins r.printed s.printed → Agree r s

after-agree : (j k : Core → Meters → Report) (c : Core) (m : Meters) {o q : Progress Core} → Alike o q
    → ((d : Core) (n : Meters) → Agree (j d n) (k d n)) → Begins m.printed (after size_of k c m q).printed
    → Agree (after size_of j c m o) (after size_of k c m q)
after-agree j k c m (alike {o = next d n}) h b = h d n
after-agree j k c m (alike {o = stop e}) h b = agree
after-agree j k c m (stopped l) h b = cut l refl b

pub runs-agree : (f : ℕ) (G : List Class) (L M : Limits) → L ⊑ M → (c : Core) (m : Meters)
    → Agree (run_with (plan G) size_of L f c m) (run_with (plan G) size_of M f c m)
unfolding run_with
runs-agree zero G L M h c m = agree
runs-agree (suc f) G L M h c m =
    after-agree (λ d n. run_with (plan G) size_of L f d n) (λ d n. run_with (plan G) size_of M f d n) c m (guard-alike L M h m (plan G c)) (λ d n. runs-agree f G L M h d n)
    (run-grows (suc f) G M c m)

-- ---- more fuel, of any machine

after-fuel : {C : Type 0} (size : C → ℕ) (j k : C → Meters → Report) (c : C) (m : Meters) (o : Progress C)
    → ((d : C) (n : Meters) → Over (j d n).ending → k d n ≡ j d n) → Over (after size j c m o).ending
    → after size k c m o ≡ after size j c m o
after-fuel size j k c m (next d n) h e = h d n e
after-fuel size j k c m (stop x) h e = refl

module _ {C : Type 0} (ask : C → Request C) (size : C → ℕ) (L : Limits) where
  pub more-fuel : (f g : ℕ) → f ≤ g → (c : C) (m : Meters) → Over (run_with ask size L f c m).ending
      → run_with ask size L g c m ≡ run_with ask size L f c m
  unfolding run_with
  more-fuel zero g h c m e = absurd e
  more-fuel (suc f) zero h c m e = absurd (not-suc-le-zero h)
  more-fuel (suc f) (suc g) h c m e = after-fuel size _ _ c m (guard L m (ask c)) (λ d n x. more-fuel f g (le_of_suc-le-suc h) d n x) e

-- ---- runs on their own fuel

pub run-agrees : (p : Program) (L M : Limits) (tape : List ℕ) → L ⊑ M → Agree (run p L tape) (run p M tape)
unfolding run
run-agrees p L M tape h =
    subst (λ (r : Report). Agree r (run p M tape))
    (more-fuel (plan p.classes) size_of L (4 * L.budget + 4) (4 * M.budget + 4) (omega (arith, h.budget)) (start p) (begun tape) (run_ends p L tape))
    (runs-agree (4 * M.budget + 4) p.classes L M h (start p) (begun tape))

pub agree_same : {k q : ℕ} {r s : Report} → Finish k → r.ending ≡ ended k q → Agree r s → s ≡ r
agree_same f e agree = refl
agree_same f e (cut l x b) = absurd (finish-or-limit f (subst ByLimit (same_number (sym x ∙ e)) l))
  where
    same_number : {k l q r : ℕ} → ended k q ≡ ended l r → k ≡ l
    same_number e = cc

pub agree-begins : {r s : Report} → Agree r s → Begins r.printed s.printed
agree-begins (agree {r = r}) = begins-refl r.printed
agree-begins (cut l x b) = b
