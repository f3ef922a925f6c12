-- What a row says of the operation Run: its answer and the strips afterwards, whatever the strips held before. It holds where the row's end
-- is how the definitions end, since Run's definition is Check's verdict and then the machine's run.
use Prim.Native.Nat.{ℕ, ◌≤◌}
use Rattle.std.specs.Prelude.{◌≡◌, refl, ◌↔◌, List, [], ◌∷◌, map, Bool, true, ◌&&◌, length, ltb, leb, ℤ}
use Rattle.std.proofs.Common.{sym, ◌∙◌, arith, ltb-true, leb-true, le-ltb, ne_eqb, eq-eqb}
use Rattle.std.proofs.Math.Path.{ap, subst}
use Rattle.std.proofs.Math.Option.{Option, none}
use Rattle.base.specs.Choice.{option}
use Rattle.base.specs.Codes.{table_least, calls_most, heap_most, registers_count}
use Rattle.base.specs.All.{All, all_nil, all_cons}
use Rattle.base.specs.Outcome.{Outcome, accepted, refused}
use Rattle.base.specs.laws.Tests.{and-true}
use Rattle.parser.specs.Tree.{Program}
use Rattle.typesystem.specs.Check.{checking}
use Rattle.semantics.specs.Run.{RunAnswer, Strips, limits_of_lem, unfit, strips_after, refusal, Reports, RunMeets, Runs}
use Rattle.semantics.specs.Ends.{End, refused_at, ran, of_outcome, end_on, Row, found, expected}

-- Run's answer at an end: a refusal with zero counts, or the run's number, position, steps, climbs, heap words and printed count
abbrev pub Answered : End → RunAnswer → Type 0
Answered (refused_at n p) a = a ≡ refusal n p
Answered (ran r) a = Reports r a

-- the printed numbers
abbrev pub printed_at : End → List ℤ
printed_at (refused_at n p) = []
printed_at (ran r) = r.printed

-- the register strip then, of which a refusal changes nothing
abbrev pub registers_at : End → (before : List ℕ) → List ℕ
registers_at (refused_at n p) g = g
registers_at (ran r) g = r.registers

-- what is lent for a row: a work table that is long enough, a heap strip and an output strip of the row's lengths, a register strip
pub record Lent (r : Row) (m : Strips) : Type 0 where
  pub table : table_least ≤ length m.table
  pub heap : length m.heap ≡ r.limits.heap
  pub output : length m.output ≡ r.limits.printed
  pub registers : length m.registers ≡ registers_count

-- the strips at a row's end: its printed numbers lead the output strip, the registers are the row's, work table and heap strip are all 0
abbrev pub strips_at : End → Strips → Strips
strips_at e before = strips_after (printed_at e) (registers_at e before.registers) before

-- Run answers the row's end and nothing else
pub record RowHolds (r : Row) : Type 0 where
  pub says : (before : Strips) → Lent r before → (a : RunAnswer) (after : Strips)
      → Runs r.source r.limits.budget r.limits.calls r.tape before a after
      ↔ (Answered r.end a × (after ≡ strips_at r.end before))

-- a row's call limit and heap strip are in range
abbrev in_range : Row → Bool
in_range r = (ltb 0 r.limits.calls && leb r.limits.calls calls_most) && leb r.limits.heap heap_most

-- rows that the definitions end as they say, within the ranges
pub record Computed (rows : List Row) : Type 0 where
  pub ends : found rows ≡ expected rows
  pub ranges : map in_range rows ≡ map (λ _. true) rows

fit : (r : Row) (m : Strips) → in_range r ≡ true → Lent r m → unfit r.limits.calls m ≡ none
fit r m e l =
    let q = and-true (ltb 0 r.limits.calls && leb r.limits.calls calls_most) (leb r.limits.heap heap_most) e in
    let c = and-true (ltb 0 r.limits.calls) (leb r.limits.calls calls_most) q.0 in
    let positive = ltb-true 0 r.limits.calls c.0 in
    let most = leb-true r.limits.calls calls_most c.1 in
    let heap = leb-true r.limits.heap heap_most q.1 in
    rw (
      le-ltb (length m.table) table_least l.table,
      ne_eqb r.limits.calls 0 (omega arith),
      le-ltb calls_most r.limits.calls most,
      le-ltb heap_most (length m.heap) (omega (arith, l.heap, heap)),
      eq-eqb (length m.registers) registers_count l.registers,
    ) refl

module _ (r : Row) (ends : end_on r.tape r.source r.limits ≡ r.end) (ranges : in_range r ≡ true)
    (before : Strips) (l : Lent r before) (a : RunAnswer) (after : Strips) where
  -- what is right at an end
  abbrev At : End → Type 0
  At e = Answered e a × (after ≡ strips_at e before)

  abbrev Meets : Outcome Program → Type 0
  Meets o = RunMeets o r.limits.budget r.limits.calls r.tape before a after

  lent-limits : limits_of_lem r.limits.budget r.limits.calls before ≡ r.limits
  lent-limits i = record { budget = r.limits.budget; calls = r.limits.calls; heap = l.heap i; printed = l.output i }

  met_at : (o : Outcome Program) → Meets o → At (of_outcome (limits_of_lem r.limits.budget r.limits.calls before) r.tape o)
  met_at (accepted p) h = h
  met_at (refused n p) h = h

  at-met : (o : Outcome Program) → At (of_outcome (limits_of_lem r.limits.budget r.limits.calls before) r.tape o) → Meets o
  at-met (accepted p) h = h
  at-met (refused n p) h = h

  is-end : of_outcome (limits_of_lem r.limits.budget r.limits.calls before) r.tape (checking r.source) ≡ r.end
  unfolding end_on
  is-end = ap (λ L. end_on r.tape r.source L) lent-limits ∙ ends

  run_at : Runs r.source r.limits.budget r.limits.calls r.tape before a after ↔ At r.end
  unfolding Runs
  run_at =
      let F : Option ℕ → Type 0 = λ x. option x (Meets (checking r.source)) λ n. (a ≡ refusal n 0) × (after ≡ before) in
      let u = fit r before ranges l in (
        λ h. subst At is-end (met_at (checking r.source) (subst F u h)),
        λ h. subst F (sym u) (at-met (checking r.source) (subst At (sym is-end) h)),
      )

-- A row holds of Run where the definitions end as it says.
pub hold : (rows : List Row) → Computed rows → All RowHolds rows
hold [] c = all_nil
hold (r ∷ rows) c =
    let e = heads c.ends in
    let t = heads c.ranges in
    all_cons (record { says = λ before l a after. run_at r e.0 t.0 before l a after })
    (hold rows (record { ends = e.1; ranges = t.1 }))
  where
    heads : {A : Type 0} {x y : A} {xs ys : List A} → x ∷ xs ≡ y ∷ ys → (x ≡ y) × (xs ≡ ys)
    heads e = (cc, cc)
