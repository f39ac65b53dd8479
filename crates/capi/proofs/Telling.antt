-- What is told of an answer is told of the answer as defined.
use Prim.Native.Nat.{ℕ}
use mathlib.Core.Path.{subst}
use mathlib.Core.List.{List}
use lib.IntN.{ℤ}
use Rattle.std.specs.Prelude.{Result}
use Rattle.refusals.specs.declared.Refusal.{Refusal}
use Rattle.still_writer.specs.Write.{Writes}
use Rattle.answers.specs.declared.Filtered.{Filtered}
use Rattle.answers.specs.declared.Movement.{Movement}
use Rattle.plane_filter.specs.FiltersPlane as Plane
use Rattle.file_filter.specs.FiltersFile as File
use Rattle.filter_answers.specs.declared.Limits.{Limits}
use Rattle.movement_answers.specs.Run.{Run}
use Rattle.movement_filter.specs.CountsMovement as Movement
use Rattle.told.specs.Numbers.{Tells, written_told, plane_told, file_told, movement_told}
use Rattle.told.proofs.Alike.{told}
use Rattle.capi.specs.Calls.{WritesStill, FiltersPlane, FiltersFile, CountsMovement}

-- a still written and its answer told
pub writes : {W H c : ℕ} {raster out out' xs ys : List ℕ} {r : ℕ} {a : Result ℕ Refusal} → Writes W H c raster out a out' → Tells (written_told a) xs ys r → WritesStill W H c raster out out' xs ys r
writes {W} {H} {c} {raster} {out} {out'} w t = record { wrote = subst (λ (x : Result ℕ Refusal). Writes W H c raster out x out') w.answered w; told = told written_told w.answered t }

-- a plane filtered and its answer told
pub filters_plane : {recipe : List ℕ} {W H : ℕ} {plane work work' : List ℕ} {rows rows' : List ℤ} {sums sums' out out' xs ys : List ℕ} {r : ℕ} {a : Result ℕ Refusal} → Plane.FiltersPlane recipe W H plane work work' rows rows' sums sums' out out' a → Tells (plane_told a) xs ys r → FiltersPlane recipe W H plane work work' rows rows' sums sums' out out' xs ys r
filters_plane {recipe} {W} {H} {plane} {work} {work'} {rows} {rows'} {sums} {sums'} {out} {out'} f t = record { filtered = subst (λ (x : Result ℕ Refusal). Plane.FiltersPlane recipe W H plane work work' rows rows' sums sums' out out' x) f.answered f; told = told plane_told f.answered t }

-- a file filtered and its answer told
pub filters_file : {m : Limits} {recipe still work work' : List ℕ} {rows rows' : List ℤ} {sums sums' out out' xs ys : List ℕ} {r : ℕ} {a : Result Filtered Refusal} → File.FiltersFile m recipe still work work' rows rows' sums sums' out out' a → Tells (file_told a) xs ys r → FiltersFile m recipe still work work' rows rows' sums sums' out out' xs ys r
filters_file {m} {recipe} {still} {work} {work'} {rows} {rows'} {sums} {sums'} {out} {out'} f t = record { filtered = subst (λ (x : Result Filtered Refusal). File.FiltersFile m recipe still work work' rows rows' sums sums' out out' x) f.answered f; told = told file_told f.answered t }

-- the movement between two stills counted and its answer told
pub counts_movement : {L : ℕ} {a b : Run} {work work' : List ℕ} {rows rows' : List ℤ} {sums sums' out1 out1' out2 out2' xs ys : List ℕ} {r : ℕ} {m : Result Movement Refusal} → Movement.CountsMovement L a b work work' rows rows' sums sums' out1 out1' out2 out2' m → Tells (movement_told m) xs ys r → CountsMovement L a b work work' rows rows' sums sums' out1 out1' out2 out2' xs ys r
counts_movement {L} {a} {b} {work} {work'} {rows} {rows'} {sums} {sums'} {out1} {out1'} {out2} {out2'} c t = record { counted = subst (λ (x : Result Movement Refusal). Movement.CountsMovement L a b work work' rows rows' sums sums' out1 out1' out2 out2' x) c.answered c; told = told movement_told c.answered t }
