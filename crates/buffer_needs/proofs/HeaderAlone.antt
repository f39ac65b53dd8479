-- WHAT FOLLOWS THE HEADER DOES NOT MATTER: stills with the same bytes up to the raster's place need the same, whatever stands behind it, if anything. Assumes nothing.
use Prim.Native.Nat.{ℕ}
use mathlib.Core.Path.{◌≡◌}
use mathlib.Core.List.{List}
use lib.ListN.{take}
use Rattle.std.specs.Prelude.{Ok}
use Rattle.answers.specs.declared.Picture.{Picture}
use Rattle.still_reader.specs.Head.{head_of}
use Rattle.still_reader.proofs.Front.{announced_alike}
use Rattle.buffer_needs.specs.NeedsAnswer.{needs_answer}

pub header-alone : (recipe still other : List ℕ) {p : Picture} → head_of still ≡ Ok p → take p.start still ≡ take p.start other → needs_answer recipe other ≡ needs_answer recipe still
unfolding needs_answer
header-alone recipe still other e same = rw (e, announced_alike still other e same)
