-- The refusals of document 01 ('Who causes which refusal') and of document 02, their numbers, and tests in their order.
use Rattle.std.specs.Prelude.{ℕ, Bool, cond, List, [], ◌∷◌, Result, Ok, Err}
use Rattle.refusals.specs.declared.Refusal.{Refusal}
use Rattle.refusals.specs.declared.Refusal.TheVariants.{Magic, Header, Side, Maximum, RasterShort, RasterLong, StageCount, Cut, Trailing, Kind, Count, Offset, RealWeight, Gain, Position, Channels, Room, FileLong, FileUnread, StillNumber, StillSize, BackgroundFull, SizesDiffer, MovementLimit, StageLimit, SampleLimit, VerdictStage, ReceivedSize, DistanceLimit}

-- the number of each:
abbrev pub number : Refusal → ℕ
-- 1 to 6, of a still: no P5 or P6 · a header of another form, or cut · a side beyond its limits · a maximum other than 255 · too few samples · too many
number Magic = 1
number Header = 2
number Side = 3
number Maximum = 4
number RasterShort = 5
number RasterLong = 6
-- 10 to 14, of a recipe: how many stages · it ends too early · it goes on too long · an unknown kind or border, or a border value out of place · how many taps, a D, a radius, and for `filter_plane` an S other than 1
number StageCount = 10
number Cut = 11
number Trailing = 12
number Kind = 13
number Count = 14
-- 15 to 18, of a recipe too: an offset · a real weight · an axis's gain · a rank's position
number Offset = 15
number RealWeight = 16
number Gain = 17
number Position = 18
-- 19 and 20, of a call: how many channels · a lent buffer without enough room
number Channels = 19
number Room = 20
-- 21 and 22, of the program's files: one is too long · one cannot be read or written
number FileLong = 21
number FileUnread = 22
-- 23 to 25, of a background: a number to add that is there, or one to remove that is not · a still of another size or other channels than those held · a thousand held
number StillNumber = 23
number StillSize = 24
number BackgroundFull = 25
-- 26 and 27, of the movement between two stills: another size or other channels · a limit over 255
number SizesDiffer = 26
number MovementLimit = 27
-- 28 and 29, of a caller's limits: more stages than it takes · more samples a plane
number StageLimit = 28
number SampleLimit = 29
-- 30 to 32, of a verdict: more than one stage, or one of another kind than ratios, box and rank · a received still of another size or other channels · a distance over 255
number VerdictStage = 30
number ReceivedSize = 31
number DistanceLimit = 32

-- what must hold, and the refusal where it does not
abbrev pub Test : Type 0
Test = Bool × Refusal

-- the answer of a call: refused by the first test that fails, else what the call gives
abbrev pub tested : {A : Type 0} → (Refusal → A) → List Test → A → A
tested refuse [] answer = answer
tested refuse (t ∷ ts) answer = cond t.0 (tested refuse ts answer) (refuse t.1)

-- what a run of tests finds: the refusal of the first that fails, or that all pass
abbrev pub Verdict : Type 0
Verdict = Result (Unit {0}) Refusal

unfoldable pub verdict : List Test → Verdict
verdict ts = tested Err ts (Ok tt)

-- the first verdict where it refuses, else the second
abbrev pub and_then : Verdict → Verdict → Verdict
and_then (Err refusal) v = Err refusal
and_then (Ok _) v = v
