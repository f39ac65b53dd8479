-- What the file call's contract says of one of two runs, and counts of parts. Assumes nothing.
use Prim.Native.Nat.{ℕ, ◌-◌, ◌≤◌}
use native.Mathlib.Omega.{arith}
use mathlib.Core.Path.{◌≡◌, ap, ◌∙◌}
use mathlib.Core.List.{List}
use lib.ListN.{length, take, drop}
use lib.IntN.{ℤ}
use Rattle.std.specs.Prelude.{Result}
use Rattle.refusals.specs.declared.Refusal.{Refusal}
use Rattle.answers.specs.declared.Filtered.{Filtered}
use Rattle.answers.specs.declared.Movement.{Movement}
use Rattle.room.specs.Room.{lent}
use Rattle.filter_answers.specs.Limits.{archive}
use Rattle.filter_answers.specs.FileAnswer.{file_answer}
use Rattle.file_filter.specs.FiltersFile.{FiltersFile}
use Rattle.movement.specs.Motions.{motions, Counted}
use Rattle.movement_answers.specs.declared.Pair.{Pair}
use Rattle.movement_answers.specs.Run.{Run}
use Rattle.movement_runs.specs.RunsBoth.{Leaves, counts_in}

pub same-lent : {w w' r r' s s' o : ℕ} → w ≡ w' → r ≡ r' → s ≡ s' → lent w r s o ≡ lent w' r' s' o
same-lent e f g = rw (e, f, g)

-- a run on buffers of the lengths that count
pub leaves : (r : Run) {work work' : List ℕ} {rows rows' : List ℤ} {sums sums' out out' : List ℕ} {answer : Result Filtered Refusal}
    → FiltersFile archive r.recipe r.still work work' rows rows' sums sums' out out' answer
    → lent (length work) (length rows) (length sums) (length out) ≡ r.lent → Leaves r out out'
leaves r f e =
    let h = f.answered ∙ ap (file_answer archive r.recipe r.still) e in
    record { output = rw h at f.output; within = rw h at f.within }

-- the k samples that end two files
pub counts_in_lem : (L : ℕ) (p : Pair) (out1 out2 : List ℕ) {k m s o : ℕ} → k ≡ p.samples
    → Counted (motions L p.tolerance1 p.tolerance2 (take k (drop (p.len - p.samples) out1)) (take k (drop (p.len - p.samples) out2))) m s o
    → ◌≡◌ {A = Movement} (record { moved = m; still = s; «open» = o; tolerance1 = p.tolerance1; tolerance2 = p.tolerance2; len = p.len }) (counts_in L p out1 out2)
counts_in_lem L p out1 out2 e c = rw (c.moved-are, c.still-are, c.open-are, e)

-- a part from n - m to n has m elements
pub back : {n m : ℕ} → m ≤ n → n - (n - m) ≡ m
back h = omega (arith, h)
