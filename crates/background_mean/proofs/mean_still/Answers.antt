-- `background_mean::mean_still` meets its contract. Assumes nothing.
use mathlib.Core.Path.{sym, ap, ◌∙◌}
use Rattle.std.specs.Prelude.{Ok}
use Rattle.background_mean.proofs.MeanLaws.{shown, written}
use Rattle.background_mean.proofs.mean_still.Goals as goal

pub mean_raster-requires : goal.mean_raster-requires
mean_raster-requires c =
    let a = c.args in
    let s = shown a.held a.rasters.now a.labels.now _ _ _ (sym c.in_ok-answer.ensures ∙ ap Ok c.in-Some.is) in
    rw (s.stills_are, s.length-is) (s.some, s.lent.few, s.lent.rasters-inside, s.room)

pub returns-in-Some : goal.returns-in-Some
returns-in-Some c =
    let a = c.args in
    let e = sym (ap Ok c.in-Some.is) ∙ c.in_ok-answer.ensures in
    record { answered = e; output = written a.held a.rasters.now a.labels.now a.out.now (shown a.held a.rasters.now a.labels.now _ _ _ (sym e)) c.mean_raster.ensures }
