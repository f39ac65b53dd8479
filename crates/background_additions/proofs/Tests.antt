-- The tests of an addition on what lent memory holds, and how an answer by tests becomes an outcome. Assumes nothing.
use Prim.Native.Nat.{ℕ, ◌+◌, ◌*◌, ◌≤◌}
use native.Mathlib.Nat.{mul-le-mul}
use native.Mathlib.Omega.{arith}
use native.Mathlib.Numerals.{add-one}
use mathlib.Core.Path.{◌≡◌, refl}
use mathlib.Core.Bool.{Bool, not}
use mathlib.Core.List.{List, [], ◌∷◌}
use mathlib.Core.Logic.{⊎_elim}
use lib.ListN.{length, drop, length-drop}
use lib.Dec.{ltb}
use Rattle.std.specs.Prelude.{Ok, Err}
use Rattle.refusals.specs.declared.Refusal.{Refusal}
use Rattle.refusals.specs.Refusal.{Test, tested, verdict}
use Rattle.refusals.proofs.Passed.{passed_whole, refused-whole}
use Rattle.answers.specs.declared.Picture.{Picture}
use Rattle.still_reader.specs.Read.{still_of}
use Rattle.picture_sizes.proofs.PictureSizeLaws.{side-le, size_small, channels_cases, channels_few}
use Rattle.round_trip.proofs.RoundTrip.{picture_valid}
use Rattle.answers.specs.declared.Held.{Held}
use Rattle.background.specs.Background.{member, Background, present}
use Rattle.background.specs.Room.{room_for, held_of, held_room}
use Rattle.background.specs.Change.{suits, add_tests, joined, addition}
use Rattle.background.specs.Memory.{background_in, Lies, Changes}
use Rattle.background_slots.proofs.Holding.{slot_of, stills_in, held_in_lem, numbers_in}

module _ (n bytes words : ℕ) (h : Held) (rasters labels : List ℕ) where
  pub add_tests_in : (W H c : ℕ) → add_tests n W H c bytes words (background_in h rasters labels)
      ≡ (held_room h bytes words, Refusal.Room)
      ∷ (not (ltb (slot_of n labels h.count) h.count), Refusal.StillNumber)
      ∷ (suits W H c h, Refusal.StillSize)
      ∷ (ltb h.count 1000, Refusal.BackgroundFull)
      ∷ (room_for (h.count + 1) (W * H * c) bytes words, Refusal.Room)
      ∷ []
  unfolding add_tests present
  add_tests_in W H c = rw (held_in_lem h rasters labels, numbers_in h rasters labels, stills_in h rasters labels, add-one)

  -- their verdict, by what each of them finds
  pub verdict_in : (W H c : ℕ) {room there fits few more : Bool} → held_room h bytes words ≡ room → ltb (slot_of n labels h.count) h.count ≡ there → suits W H c h ≡ fits
      → ltb h.count 1000 ≡ few → room_for (h.count + 1) (W * H * c) bytes words ≡ more
      → verdict (add_tests n W H c bytes words (background_in h rasters labels))
      ≡ verdict ((room, Refusal.Room) ∷ (not there, Refusal.StillNumber) ∷ (fits, Refusal.StillSize) ∷ (few, Refusal.BackgroundFull) ∷ (more, Refusal.Room) ∷ [])
  verdict_in W H c a b d e f = rw (add_tests_in W H c, a, b, d, e, f)

-- ---- answers by tests

module _ (rasters labels : List ℕ) where
  -- tests that refuse leave all as it was
  pub refuses : (ts : List Test) (b : Background) {r : Refusal} → verdict ts ≡ Err r → Changes (tested Err ts (Ok b)) rasters rasters labels labels (Err r)
  refuses ts b e = rw (refused-whole Err (Ok b) ts e) (record { answered = refl; left = (refl, refl) })

  -- tests that pass leave what was done
  pub passes : {rasters' labels' : List ℕ} (ts : List Test) (b : Background) → verdict ts ≡ Ok tt → Lies b rasters rasters' labels labels'
      → Changes (tested Err ts (Ok b)) rasters rasters' labels labels' (Ok (held_of b))
  passes ts b e l = rw (passed_whole Err (Ok b) ts e) (record { answered = refl; left = l })

-- a still that cannot be read refuses an addition
pub still_refuses : (file : List ℕ) (n T : ℕ) (rasters labels : List ℕ) (b : Background) {r : Refusal} → still_of file ≡ Err r
    → Changes (addition file n T (length rasters) (length labels) b) rasters rasters labels labels (Err r)
unfolding addition
still_refuses file n T rasters labels b e = rw e (record { answered = refl; left = (refl, refl) })

-- a still that can be read is added as a picture
pub still_read : (file : List ℕ) (n T bytes words : ℕ) (b : Background) {p : Picture} → still_of file ≡ Ok p
    → addition file n T bytes words b ≡ tested Err (add_tests n p.width p.height p.channels bytes words b) (Ok (joined p.width p.height p.channels (member n T (drop p.start file)) b))
unfolding addition
still_read file n T bytes words b e = rw e

-- what a still that can be read has shown: its raster is small, and begins inside the file
pub record Readable (file : List ℕ) (p : Picture) : Type 0 where
  pub plane : p.width * p.height ≤ 67108864
  pub size : p.width * p.height * p.channels ≤ 201326592
  pub begins : p.start ≤ length file
  pub raster : length (drop p.start file) ≡ p.width * p.height * p.channels

pub readable : (file : List ℕ) {p : Picture} → still_of file ≡ Ok p → Readable file p
readable file {p} e =
    let v = picture_valid file e in
    let w = side-le p.width v.width in
    let h = side-le p.height v.height in
    let few = channels_few p.channels v.channels in
    let s = size_small p.width p.height p.channels w.1 h.1 few in
    let some : 1 ≤ p.channels = ⊎_elim (λ f. omega (arith, f)) (λ f. omega (arith, f)) (channels_cases p.channels v.channels) in
    let any : 1 * 1 * 1 ≤ p.width * p.height * p.channels = mul-le-mul (mul-le-mul w.0 h.0) some in
    record { plane = s.0; size = s.1; begins = omega (arith, any, v.raster, length-drop p.start file); raster = v.raster }
