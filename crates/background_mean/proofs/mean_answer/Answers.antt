-- `background_mean::mean_answer` meets its contract, test by test. Assumes nothing.
use Prim.Native.Nat.{ℕ, ◌<◌}
use native.Mathlib.Omega.{arith}
use mathlib.Core.Path.{◌≡◌, sym, ap, ◌∙◌}
use borrow.Author.Tests.{eq-eqb, ne_eqb, le-leb, lt-leb}
use Rattle.std.specs.Prelude.{Some, Ok}
use Rattle.background_slots.proofs.HeldRoom.{held_lent}
use Rattle.background_mean.proofs.MeanLaws.{answer_with, answer_in}
use Rattle.background_mean.proofs.mean_answer.Goals as goal

positive : {n : ℕ} → (n ≡ 0 → ⊥) → 0 < n
positive {n} d = omega (arith, d)

pub returns-then-held-eq0 : goal.returns-then-held-eq0
returns-then-held-eq0 c =
    rw (answer_in c.args.held c.args.rasters.now c.args.labels.now _ _ _, eq-eqb _ _ c.if-held-eq0.true)

pub returns-then-not-held_room : goal.returns-then-not-held_room
returns-then-not-held_room c =
    rw (answer_in c.args.held c.args.rasters.now c.args.labels.now _ _ _, ne_eqb _ _ c.if-held-eq0.false, sym c.held_room.ensures ∙ c.if-not-held_room.true)

pub raster_size-len-requires : goal.raster_size-len-requires
raster_size-len-requires c =
    (held_lent c.args.held _ _ (sym c.held_room.ensures ∙ c.if-not-held_room.false) (positive c.if-held-eq0.false)).small-numbers

pub returns-then-out-len : goal.returns-then-out-len
returns-then-out-len c =
    rw (answer_in c.args.held c.args.rasters.now c.args.labels.now _ _ _, ne_eqb _ _ c.if-held-eq0.false, sym c.held_room.ensures ∙ c.if-not-held_room.false, lt-leb _ _ (rw c.raster_size-len.ensures at c.if-out-len.true))

pub mean_tolerance-requires : goal.mean_tolerance-requires
mean_tolerance-requires c =
    (held_lent c.args.held _ _ (sym c.held_room.ensures ∙ c.if-not-held_room.false) (positive c.if-held-eq0.false)).labels-inside

pub returns : goal.returns
returns c =
    let a = c.args in
    rw (c.raster_size-len.ensures, answer_in a.held a.rasters.now a.labels.now _ _ _, ne_eqb _ _ c.if-held-eq0.false, sym c.held_room.ensures ∙ c.if-not-held_room.false, le-leb _ _ (rw c.raster_size-len.ensures at c.if-out-len.false))
    (ap (λ (t : ℕ). Ok (Some (answer_with a.held a.rasters.now a.labels.now t))) c.mean_tolerance.ensures)
