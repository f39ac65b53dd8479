-- What is told of an answer is told of the answer as defined. Assumes nothing.
use Prim.Native.Nat.{ℕ}
use mathlib.Core.Path.{subst}
use mathlib.Core.List.{List}
use Rattle.std.specs.Prelude.{Option, Result}
use Rattle.refusals.specs.declared.Refusal.{Refusal}
use Rattle.answers.specs.declared.Held.{Held}
use Rattle.answers.specs.declared.Mean.{Mean}
use Rattle.background.specs.Background.{Background}
use Rattle.background.specs.Change.{Outcome}
use Rattle.background.specs.Memory.{Changes, Means}
use Rattle.told.specs.Numbers.{Tells, changed_told, mean_told}
use Rattle.told.proofs.Alike.{told}
use Rattle.told_background.specs.Calls.{ChangesBackground, MeansStills}

-- a background changed and its answer told
pub changes : {o : Outcome} {rasters rasters' labels labels' xs ys : List ℕ} {r : ℕ} {a : Result Held Refusal} → Changes o rasters rasters' labels labels' a → Tells (changed_told a) xs ys r → ChangesBackground o rasters rasters' labels labels' xs ys r
changes {o} {rasters} {rasters'} {labels} {labels'} c t = record { changed = subst (λ (x : Result Held Refusal). Changes o rasters rasters' labels labels' x) c.answered c; told = told changed_told c.answered t }

-- a mean and its answer told
pub means : {b : Background} {rasters labels out out' xs ys : List ℕ} {r : ℕ} {a : Result (Option Mean) Refusal} → Means b rasters labels out out' a → Tells (mean_told a) xs ys r → MeansStills b rasters labels out out' xs ys r
means {b} {rasters} {labels} {out} {out'} m t = record { written = subst (λ (x : Result (Option Mean) Refusal). Means b rasters labels out out' x) m.answered m; told = told mean_told m.answered t }
