-- What the functions of Run return meets their contracts: Check's promise makes the lesson runnable, and the run reports what the machine
-- does.
use Prim.Native.Nat.{ℕ, ◌+◌, ◌*◌, ◌/◌, ◌≤◌, ◌<◌}
use native.Mathlib.Omega.{arith}
use native.Mathlib.Nat.{mul-le-mul}
use mathlib.Core.Path.{◌≡◌, refl, ap, ◌∙◌, subst}
use mathlib.Core.List.{List}
use lib.ListN.{length, drop, replicate, length-replicate}
use lib.IntN.{ℤ, pos}
use borrow.Author.Tests.{eq-eqb, ne_eqb, lt-ltb, le-ltb}
use Rattle.base.specs.laws.Lists.{drop-none}
use Rattle.base.specs.Outcome.{Outcome, accepted, refused}
use Rattle.base.specs.laws.Tests.{apart}
use Rattle.base.specs.Codes.{table_too_short, call_limit_out_of_range, heap_too_long, registers_not_sixteen, table_least, tokens_most, calls_most, heap_most, registers_count}
use Rattle.base.specs.promises.Table.{rows}
use Rattle.parser.specs.Tree.{Program, Statement}
use Rattle.parser.specs.Tree.{Part.block, Part.conditional, Part.loop, Part.print, Part.assign, Part.assign_element_lem, Part.port_put_lem}
use Rattle.parser.specs.Measure.{nodes, program_nodes}
use Rattle.reader.specs.laws.Counting.{program-nodes}
use Rattle.typesystem.specs.Check.{checking}
use Rattle.std.specs.Prelude.{Option, Some, None, Ok, Err}
use Rattle.base.specs.declared.refusal.Refusal.{Refusal}
use Rattle.base.specs.promises.Refusals.{number_of, Refuses}
use Rattle.typecheck.specs.promises.CheckPost.{Finding, found}
use Rattle.writer.specs.promises.Preparing.{CodeWritten, Prepares}
use Rattle.typecheck.specs.promises.CheckPost.{Checked, FindsProgram, Leaves}
use Rattle.lookup.specs.declared.sizes.Sizes.{Sizes}
use Rattle.semantics.specs.Run.{Strips, refusal, RunMeets, Runs}
use Rattle.semantics.specs.Run as Run
use Rattle.guarantees.proofs.laws.Literals.{small, literals-fit}
use Rattle.interpreter.specs.declared.state.Bounds.{Bounds}
use Rattle.interpreter.specs.declared.report.Ended.{Ended}
use Rattle.interpreter.specs.promises.Running.{Runnable, Roomy, end_answer_of, Executed}
use Rattle.runner.specs.promises.RunPost.{strips, ResultStrips, result_strips, Completes, CompletesInRoom, Performs, LeftByCheck, Performed}

-- CHECK'S PROMISE

-- it is within its bounds: the table can be walked over
pub accepted-few : {s : List ℕ} {z : Sizes} {tab : List ℕ} {known : Option Sizes} → LeftByCheck s known tab → known ≡ Some z
    → (z.tokens ≤ tokens_most) × (z.classes ≤ rows)
accepted-few {s} {z} {tab} k q = by (checking s) (k.says z q).finds
  where
    by : (v : Outcome Program) → FindsProgram s v (found z.tokens z.classes) tab → (z.tokens ≤ tokens_most) × (z.classes ≤ rows)
    by (accepted p) a =
        let e = a.answer in
        let t : length a.stream ≡ z.tokens = cc in
        let c : length p.classes ≡ z.classes = cc in
        (omega (arith, t, a.ready.world.tokens.few), omega (arith, c, a.ready.world.few, a.ready.world.tokens.few))
    by (refused n i) a = let e = a in apart (cc)

abbrev sizes_in : Finding → Sizes
sizes_in (Ok z) = z
sizes_in (Err r) = record { tokens = 0; classes = 0 }

-- an accepted lesson can be run
runnable : (s : List ℕ) (p : Program) (tokens classes : ℕ) (tab code code' entries entries' : List ℕ)
    → Checked s p (found tokens classes) tab
    → CodeWritten p (found tokens classes) tab code code' entries entries' → 16 * tokens ≤ length code → rows ≤ length entries
    → Runnable tab code' entries' (record { tokens = tokens; classes = classes }) p
runnable s p tokens classes tab code code' entries entries' h a long many =
    let t : tokens ≡ length a.stream = ap (λ (f : Finding). (sizes_in f).tokens) a.answer in
    let c : classes ≡ length p.classes = ap (λ (f : Finding). (sizes_in f).classes) a.answer in
    record {
      answer = found tokens classes;
      code₀ = code;
      entries₀ = entries;
      accepted = a;
      room = long;
      entries-room = many;
      tokens = t;
      classes = c;
      typed = h.typed;
      fits = literals-fit (small s h.stream h.lexed) h.derived;
      shallow = h.shallow;
    }

-- WHAT IS PERFORMED

pub completed : (tab code fast values : List ℕ) (sz : Sizes) (b : Bounds) (tape : List ℕ) (heap output : List ℤ) (registers : List ℕ)
    {code' entries' : List ℕ} {x : Ended} {output' : List ℤ} {registers' : List ℕ}
    → Prepares sz.tokens sz.classes tab code code' (replicate rows 0) entries'
    → Executed tab code' entries' fast values sz b tape heap output x output' registers'
    → CompletesInRoom tab code fast values sz b tape heap (result_strips output registers) (end_answer_of x) (result_strips output' registers')
completed tab code fast values sz b tape heap output registers {code'} {entries'} {x} {output'} {registers'} w E =
    record { says = λ long roomy. record { says = λ s h. by long roomy s (checking s) h.finds } }
  where
    by : 16 * sz.tokens ≤ length code → Roomy sz.tokens b.calls fast values → (s : List ℕ) (v : Outcome Program)
        → FindsProgram s v (found sz.tokens sz.classes) tab
        → Performs v b tape heap (result_strips output registers) (end_answer_of x) (result_strips output' registers')
    by long roomy s (accepted p) h =
        let many : length (replicate {A = ℕ} rows 0) ≡ rows = length-replicate {A = ℕ} rows 0 in
        let r = E.says p (runnable s p sz.tokens sz.classes tab code code' (replicate rows 0) entries' h (w.says h.stream p (record { answer = h.answer; ready = h.ready; derived = h.derived })) long (omega (arith, many))) roomy in
        (r.reports, r.strip, r.registers)
    by long roomy s (refused n i) h = let z = h in apart (cc)

-- room for the values of so many tokens in main and 64 calls
values-fit : (tokens calls k : ℕ) {n : ℕ} → (tokens + 1) / 2 ≤ k → calls ≤ calls_most → 65 * k < n → (calls + 1) * ((tokens + 1) / 2) < n
values-fit tokens calls k t c l = let m : (calls + 1) * ((tokens + 1) / 2) ≤ 65 * k = mul-le-mul (omega arith) t in omega (arith, m)

-- room of so many words is enough for lessons of so many tokens at most, of which a body keeps k values at most
room_fits : (most k n m v : ℕ) {tab : List ℕ} {sz : Sizes} {b : Bounds} {tape : List ℕ} {heap : List ℤ} {z z' : ResultStrips} {a : Run.RunAnswer}
    → 16 * most ≤ n → 4 * most ≤ m → (most + 1) / 2 ≤ k → 65 * k < v → sz.tokens ≤ most → b.calls ≤ calls_most
    → CompletesInRoom tab (replicate n 0) (replicate m 0) (replicate v 0) sz b tape heap z a z'
    → Completes tab sz b tape heap z a z'
room_fits most k n m v {sz = sz} {b = b} f g h l t c X =
    let en : length (replicate {A = ℕ} n 0) ≡ n = length-replicate {A = ℕ} n 0 in
    let em : length (replicate {A = ℕ} m 0) ≡ m = length-replicate {A = ℕ} m 0 in
    let ev : length (replicate {A = ℕ} v 0) ≡ v = length-replicate {A = ℕ} v 0 in
    X.says (omega (arith, en, f, t))
    (record { places = omega (arith, em, g, t); enough = values-fit sz.tokens b.calls k (omega (arith, h, t)) c (omega (arith, ev, l)) })

-- the room of a small lesson, and of any
pub small-fits : {tab : List ℕ} {sz : Sizes} {b : Bounds} {tape : List ℕ} {heap : List ℤ} {z z' : ResultStrips} {a : Run.RunAnswer}
    → sz.tokens ≤ 125 → b.calls ≤ calls_most
    → CompletesInRoom tab (replicate 2048 0) (replicate 512 0) (replicate 4096 0) sz b tape heap z a z'
    → Completes tab sz b tape heap z a z'
small-fits t c X = room_fits 125 63 2048 512 4096 (omega arith) (omega arith) (omega arith) (omega arith) t c X

pub wide_fits : {tab : List ℕ} {sz : Sizes} {b : Bounds} {tape : List ℕ} {heap : List ℤ} {z z' : ResultStrips} {a : Run.RunAnswer}
    → sz.tokens ≤ tokens_most → b.calls ≤ calls_most
    → CompletesInRoom tab (replicate 32768 0) (replicate 8192 0) (replicate 66561 0) sz b tape heap z a z'
    → Completes tab sz b tape heap z a z'
wide_fits t c X = room_fits 2048 1024 32768 8192 66561 (omega arith) (omega arith) (omega arith) (omega arith) t c X

pub performed : {s : List ℕ} {z : Sizes} {known : Option Sizes} {b : Bounds} {tape : List ℕ} {heap : List ℤ} {w w' : ResultStrips} {tab table' : List ℕ}
    {heap' : List ℤ} {a : Run.RunAnswer} → LeftByCheck s known tab → known ≡ Some z
    → Completes tab z b tape heap w a w' → Performed s known b tape tab heap w a table' heap' w'
performed {s} {z} k q C = record { performs = C.says s (k.says z q); clears = λ e. absurd (apart (cc)) }

refuses-so : (s : List ℕ) (b : Bounds) (tape : List ℕ) (heap : List ℤ) (w : ResultStrips) (tab : List ℕ) {f : Finding} {r : Refusal} {a : Run.RunAnswer}
    → Leaves s (checking s) f tab → f ≡ Err r → a ≡ refusal (number_of r.reason) r.position → Performs (checking s) b tape heap w a w
refuses-so s b tape heap w tab {f} {r} {a} h q e = by (checking s) h.finds
  where
    by : (v : Outcome Program) → FindsProgram s v f tab → Performs v b tape heap w a w
    by (accepted p) c = let z = c.answer in apart (cc)
    by (refused k i) c =
        let z : refused (number_of r.reason) r.position ≡ refused k i = subst (λ (x : Finding). Refuses x k i) q c in
        let x : number_of r.reason ≡ k = cc in
        let y : r.position ≡ i = cc in
        (e ∙ rw (x, y), refl, refl)

-- zeros as long as the strips were
cleared : (table table₁ : List ℕ) (heap heap₁ : List ℤ) {table₂ : List ℕ} {heap₂ : List ℤ} → length table₁ ≡ length table
    → length heap₁ ≡ length heap
    → table₂ ≡ replicate (length table₁) 0 → heap₂ ≡ replicate (length heap₁) (pos 0)
    → (table₂ ≡ replicate (length table) 0) × (heap₂ ≡ replicate (length heap) (pos 0))
cleared table table₁ heap heap₁ lt lh et eh = (et ∙ ap (λ (n : ℕ). replicate n 0) lt, eh ∙ ap (λ (n : ℕ). replicate n (pos 0)) lh)

pub unperformed : (s : List ℕ) (z : Option Sizes) (b : Bounds) (tape table table₁ : List ℕ) (heap output : List ℤ) (registers : List ℕ)
    {table₂ : List ℕ} {heap₂ : List ℤ} {f : Finding} {r : Refusal} {a : Run.RunAnswer}
    → Leaves s (checking s) f table₁ → f ≡ Err r → length table₁ ≡ length table → table₂ ≡ replicate (length table₁) 0
    → heap₂ ≡ replicate (length heap) (pos 0) → a ≡ refusal (number_of r.reason) r.position
    → Performed s z b tape table heap (result_strips output registers) a table₂ heap₂ (result_strips output registers)
unperformed s z b tape table table₁ heap output registers h q lt et eh e =
    record { performs = refuses-so s b tape heap (result_strips output registers) table₁ h q e; clears = λ _. cleared table table₁ heap heap lt refl et eh }

pub checked : {s : List ℕ} {z y : Option Sizes} {b : Bounds} {tape : List ℕ} (table table₁ table₂ : List ℕ) {heap heap₁ : List ℤ} {w w' : ResultStrips}
    {table₃ : List ℕ} {heap₂ : List ℤ} {a : Run.RunAnswer}
    → Performed s y b tape table₁ heap w a table₂ heap₁ w' → length table₂ ≡ length table → length heap₁ ≡ length heap
    → table₃ ≡ replicate (length table₂) 0 → heap₂ ≡ replicate (length heap₁) (pos 0)
    → Performed s z b tape table heap w a table₃ heap₂ w'
checked table table₁ table₂ {heap} {heap₁} h lt lh et eh =
    record { performs = h.performs; clears = λ _. cleared table table₂ heap heap₁ lt lh et eh }

-- what Check found is known of the lesson
pub now-known : {s tab : List ℕ} {z : Sizes} {f : Finding} → Leaves s (checking s) f tab → f ≡ Ok z → LeftByCheck s (Some z) tab
now-known {s} {tab} {z} h q =
    record {
      says = λ y e. subst (λ (x : Finding). Leaves s (checking s) x tab) (q ∙ ap (λ (k : Option Sizes). finding k) e) h;
    }
  where
    finding : Option Sizes → Finding
    finding (Some k) = Ok k
    finding None = Ok z

pub nothing_known : (s tab : List ℕ) → LeftByCheck s None tab
nothing_known s tab = record { says = λ z e. apart (cc) }

-- RUN

module _ (s : List ℕ) (budget calls : ℕ) (tape table : List ℕ) (heap output : List ℤ) (registers : List ℕ) where
  abbrev Before : Strips
  Before = strips table heap output registers

  pub too_short : {a : Run.RunAnswer} → length table < table_least → a ≡ refusal table_too_short 0 → Runs s budget calls tape Before a Before
  unfolding Runs
  too_short h e = rw (lt-ltb (length table) table_least h) (e, refl)

  module _ (long : table_least ≤ length table) where
    pub no-calls : {a : Run.RunAnswer} → calls ≡ 0 → a ≡ refusal call_limit_out_of_range 0 → Runs s budget calls tape Before a Before
    unfolding Runs
    no-calls z e = rw (le-ltb (length table) table_least long, eq-eqb calls 0 z) (e, refl)

    module _ (some-calls : calls ≡ 0 → ⊥) where
      pub many-calls : {a : Run.RunAnswer} → calls_most < calls → a ≡ refusal call_limit_out_of_range 0 → Runs s budget calls tape Before a Before
      unfolding Runs
      many-calls m e = rw (le-ltb (length table) table_least long, ne_eqb calls 0 some-calls, lt-ltb calls_most calls m) (e, refl)

      module _ (few-calls : calls ≤ calls_most) where
        pub long-heap : {a : Run.RunAnswer} → heap_most < length heap → a ≡ refusal heap_too_long 0 → Runs s budget calls tape Before a Before
        unfolding Runs
        long-heap m e =
            rw (le-ltb (length table) table_least long, ne_eqb calls 0 some-calls, le-ltb calls_most calls few-calls, lt-ltb heap_most (length heap) m) (e, refl)

        module _ (short : length heap ≤ heap_most) where
          pub not-sixteen : {a : Run.RunAnswer} → (length registers ≡ registers_count → ⊥) → a ≡ refusal registers_not_sixteen 0 → Runs s budget calls tape Before a Before
          unfolding Runs
          not-sixteen n e =
              rw (le-ltb (length table) table_least long, ne_eqb calls 0 some-calls, le-ltb calls_most calls few-calls, le-ltb heap_most (length heap) short, ne_eqb (length registers) registers_count n) (e, refl)

          pub runs : (a : Run.RunAnswer) {table₂ : List ℕ} {heap₂ : List ℤ} (output₂ : List ℤ) (registers₂ : List ℕ) → length registers ≡ registers_count
              → Performed s None (record { budget = budget; calls = calls }) tape table heap (result_strips output registers) a table₂ heap₂ (result_strips output₂ registers₂)
              → Runs s budget calls tape Before a (strips table₂ heap₂ output₂ registers₂)
          unfolding Runs
          runs a {table₂} {heap₂} output₂ registers₂ n h =
              rw (le-ltb (length table) table_least long, ne_eqb calls 0 some-calls, le-ltb calls_most calls few-calls, le-ltb heap_most (length heap) short, eq-eqb (length registers) registers_count n) (by (checking s) h.performs)
            where
              same : (o : List ℤ) (g : List ℕ) → output₂ ≡ o → registers₂ ≡ g
                  → strips table₂ heap₂ output₂ registers₂ ≡ strips (replicate (length table) 0) (replicate (length heap) (pos 0)) o g
              same o g e f =
                  let z = h.clears refl in
                  ap (λ (t : List ℕ). strips t heap₂ output₂ registers₂) z.0
                  ∙ ap (λ (k : List ℤ). strips (replicate (length table) 0) k output₂ registers₂) z.1
                  ∙ ap (λ (o : List ℤ). strips (replicate (length table) 0) (replicate (length heap) (pos 0)) o registers₂) e
                  ∙ ap (strips (replicate (length table) 0) (replicate (length heap) (pos 0)) o) f

              by : (v : Outcome Program) → Performs v (record { budget = budget; calls = calls }) tape heap (result_strips output registers) a (result_strips output₂ registers₂)
                  → RunMeets v budget calls tape Before a (strips table₂ heap₂ output₂ registers₂)
              by (accepted p) (r, e, f) = (r, same _ _ e f)
              by (refused n i) (r, e, f) = (r, same (drop 0 output) registers (e ∙ drop-none output) f)
