-- Worked examples. `bench` has the starred cases of 'Bench stills' and, not starred there, the T of its first line; `details` pins what those and the
-- tolerance leave open, `outlines` the kind of request 2026-01, `symmetry` the order of service of request 2026-06, and `rounding` the rounded taps of request 2026-08.
-- A row names the case, what the definitions give for its input, and what they should give. The theorem at the end goes over all rows.
use Rattle.std.specs.Prelude.{ℕ, ◌^◌, Bool, true, false, List, [], ◌∷◌, ◌++◌, map, ◌≡◌, refl, length, ℤ, pos, neg_ℤ, ◌-ℤ◌}
use Prim.Native.String.{String}
use Rattle.integers.specs.Divide.{modulo, ceil_div, clamp}
use Rattle.integers.specs.Sum.{sum, sumℤ}
use Rattle.lists.specs.Count.{count}
use Rattle.lists.specs.Tabulate.{tabulate, raster}
use Rattle.model.specs.Border.{Border, constant, nearest, mirror, wrap, inside, closest, folded, supply}
use Rattle.model.specs.Plane.{plane_of, around, pick}
use Rattle.model.specs.Flip.{flipped, flipped_samples}
use Rattle.model.specs.Kernel.{Kernel, tap, kernel, weighted_sum, total, magnitude}
use Rattle.model.specs.Binomial.{binomial, pair_sums, pascal_row, choose}
use Rattle.model.specs.Apportion.{apportion, quotient, remainder, rounded, rounded_taps, wanted_total, lacking, distance, nearer, comes_before, served_before, gets_unit, share}
use Rattle.model.specs.Symmetry.{symmetric, same, opposite, has_opposite, units_left, split, unsplit}
use Rattle.model.specs.Weighted.{row_value, weighted_result}
use Rattle.model.specs.Window.{area, window}
use Rattle.model.specs.Box.{box_result}
use Rattle.model.specs.Rank.{insert, sort, smallest, rank_result}
use Rattle.model.specs.Outline.{outline_kernels, response, largest, edge_strength, outline_result}
use Rattle.model.specs.Stage.{Work, weighted, box, rank, outline, Stage, stage, written, result, stage_plane}
use Rattle.model.specs.Tolerance.{tolerance, scaled_gain, weighted_growth, growth, after_stage, tolerance_from}
use Rattle.model.specs.Exact.{exact, exact_denominator, denominator, numerator, exact_plane, exact_from, denominator_from}

pub data Answer : Type 0 where
  samples : List ℕ → Answer
  weights : List ℤ → Answer
  tolerances : List ℕ → Answer
  counts : List ℕ → Answer
  verdicts : List Bool → Answer
  fractions : ℕ → List ℕ → Answer

pub record Example : Type 0 where
  pub name : String
  pub found : Answer
  pub expected : Answer

unfoldable pub row : String → Answer → Answer → Example
row n f e = record { name = n; found = f; expected = e }

-- one stage with border value k on a plane of W by H
unfoldable pub filtered : ℕ → ℕ → Border → ℕ → Work → List ℕ → Answer
filtered W H b k w plane = samples (written W H (stage b k w ∷ []) plane)

-- exact results on a plane of W by H: the denominator and the numerators
unfoldable pub exactly : ℕ → ℕ → List Stage → List ℕ → Answer
exactly W H ts plane = fractions (exact_denominator ts) (exact W H ts plane)

-- the weights in 65,536ths
unfoldable pub apportioned : Kernel → Answer
apportioned K = weights (map (λ t. t.weight) (apportion K))

-- T after these works; no rule of T looks at the border
unfoldable pub tolerance_of : List Work → ℕ
tolerance_of ws = tolerance (map (λ w. stage nearest 0 w) ws)

-- the samples that a plane of one row supplies at columns -5 to 7, with border value 99
unfoldable pub supplied : Border → List ℕ → Answer
supplied b xs = samples (tabulate (λ k. around b 99 (length xs) 1 (plane_of (length xs) xs) 0 0 (pos k -ℤ pos 5) (pos 0)) 13)

-- -n
unfoldable pub minus : ℕ → ℤ
minus n = neg_ℤ (pos n)

-- three taps at offsets -1 0 1
unfoldable pub three : ℕ → ℤ → ℤ → ℤ → Kernel
three D a b c = kernel D (tap (minus 1) a ∷ tap (pos 0) b ∷ tap (pos 1) c ∷ [])

-- a single tap, 1/1 at offset 0
unfoldable pub one : Kernel
one = kernel 1 (tap (pos 0) (pos 1) ∷ [])

-- 'Bench stills': samples are filtered in a plane of 3 by 1, which is 10 20 40 or these backwards, with s 0
unfoldable pub bench : List Example
bench =
    row "binomial r 1: nearest" (filtered 3 1 nearest 0 (weighted (binomial 1) (binomial 0)) (10 ∷ 20 ∷ 40 ∷ [])) (samples (13 ∷ 23 ∷ 35 ∷ []))
    ∷ row "binomial r 1: constant 0" (filtered 3 1 constant 0 (weighted (binomial 1) (binomial 0)) (10 ∷ 20 ∷ 40 ∷ [])) (samples (10 ∷ 23 ∷ 25 ∷ []))
    ∷ row "binomial r 1: wrap" (filtered 3 1 wrap 0 (weighted (binomial 1) (binomial 0)) (10 ∷ 20 ∷ 40 ∷ [])) (samples (20 ∷ 23 ∷ 28 ∷ []))
    ∷ row "binomial r 1: T" (tolerances (tolerance_of (weighted (binomial 1) (binomial 0) ∷ []) ∷ [])) (tolerances (33280 ∷ []))
    ∷ row "box r 1, nearest" (filtered 3 1 nearest 0 (box 1 0) (10 ∷ 20 ∷ 40 ∷ [])) (samples (13 ∷ 23 ∷ 33 ∷ []))
    ∷ row "rank r 1, nearest: p 1" (filtered 3 1 nearest 0 (rank 1 0 1) (10 ∷ 20 ∷ 40 ∷ [])) (samples (10 ∷ 10 ∷ 20 ∷ []))
    ∷ row "rank r 1, nearest: p 2" (filtered 3 1 nearest 0 (rank 1 0 2) (10 ∷ 20 ∷ 40 ∷ [])) (samples (10 ∷ 20 ∷ 40 ∷ []))
    ∷ row "ratios -1 0 1 over 2, nearest" (filtered 3 1 nearest 0 (weighted (three 2 (minus 1) (pos 0) (pos 1)) one) (10 ∷ 20 ∷ 40 ∷ [])) (samples (5 ∷ 15 ∷ 10 ∷ []))
    ∷ row "ratios -1 0 1 over 2, on 40 20 10" (filtered 3 1 nearest 0 (weighted (three 2 (minus 1) (pos 0) (pos 1)) one) (40 ∷ 20 ∷ 10 ∷ [])) (samples (0 ∷ 0 ∷ 0 ∷ []))
    ∷ row "thirds 1 1 1 over 3" (apportioned (three 3 (pos 1) (pos 1) (pos 1))) (weights (pos 21845 ∷ pos 21846 ∷ pos 21845 ∷ []))
    ∷ row "-1 -1 5 over 3" (apportioned (three 3 (minus 1) (minus 1) (pos 5))) (weights (minus 21845 ∷ minus 21845 ∷ pos 109226 ∷ []))
    ∷ row "binomial 1,1 then box"
    (tolerances (tolerance_of (weighted (binomial 1) (binomial 1) ∷ []) ∷ tolerance_of (weighted (binomial 1) (binomial 1) ∷ box 1 1 ∷ []) ∷ []))
    (tolerances (33280 ∷ 66048 ∷ []))
    ∷ []

-- taps a and b over D at offsets 0 and 1; a tap alone at 0
unfoldable pub two : ℕ → ℤ → ℤ → Kernel
two D a b = kernel D (tap (pos 0) a ∷ tap (pos 1) b ∷ [])

unfoldable pub alone : ℕ → ℤ → Kernel
alone D a = kernel D (tap (pos 0) a ∷ [])

-- gains of 4 both ways
unfoldable pub quadruple : Work
quadruple = weighted (alone 1 (pos 4)) (alone 1 (pos 4))

-- a tap 1/1 k columns to the left, or k rows up
unfoldable pub back : ℕ → Kernel
back k = kernel 1 (tap (minus k) (pos 1) ∷ [])

-- Worked by hand:
-- mirror: there and back, 10 20 40 40 20 10, over and over; -5 is 1 modulo 6, and so is 7. Of two, 10 30 30 10, and -4 is 0 modulo 4; of one, always that one;
-- wrap: -5 is 1 modulo 3, and 7 is 1;
-- box, nearest: the corner (0, 0) has its own row and column twice, (4·10 + 2·20 + 2·30 + 40) / 9 = 20, and 210/9 = 23.3, 240/9 = 26.7, 270/9 = 30 follow;
-- box, constant 100: each window has the whole plane and five samples of 100, 600/9 = 66.7; box, wrap: the other row and column twice, 10 + 2·20 + 2·30 + 4·40 = 270;
-- the row above the first is the border value's, or the last row. Six rows up, or six columns left, of 10 30 are -6 and -5, which are 2 and 3 modulo 4;
-- 1 and 2 over 3: (10 + 2·40) / 3 = 30. The weights are 21,845 1/3 and 43,690 2/3, and the one unit goes to the second;
-- halves across and down: (12.5 + 12) / 2 = 12.25, since row values keep their fractions; -1 across and -1 down: the row value -20 is kept;
-- -1/128 across, -1 down: 63 gives -31.5 64ths, rounded up to -31, and 31/64 is nearest to 0;
-- 1/128 across, 1 down: 63 gives 31.5 64ths, rounded up to 32, and 32/64 is rounded up to 1; down before across, 63/128 would be rounded once, to 0;
-- 4 over 1: 800 is clamped to 255, and four such stages carry T past the cut;
-- weights that make half a unit: 16.5 is wanted as 17, -16.5 as -16. Binomial r 2: 1 4 6 4 1 in 16ths;
-- box, rank, then 1 1 2 over 3 across and 1 1 over 3 down: g1 is 87,381.3 and g2 43,690.7, rounded up; 29,127.6 + 851.3 + 680.04, each rounded up, + 32,768;
-- two stages: box gives 13 23 33, of whose windows 13 13 23, 13 23 33, 23 33 33 the third is taken;
-- exact: 50/4 = 12.5; 40/3; the middle one; 10/2 and 30/2; -20/2, -30/2 and -10/2 are clamped, and so is 800; box twice, where the border value 100 enters as 300 thirds.
unfoldable pub details : List Example
details =
    row "constant" (supplied constant (10 ∷ 20 ∷ 40 ∷ [])) (samples (99 ∷ 99 ∷ 99 ∷ 99 ∷ 99 ∷ 10 ∷ 20 ∷ 40 ∷ 99 ∷ 99 ∷ 99 ∷ 99 ∷ 99 ∷ []))
    ∷ row "nearest" (supplied nearest (10 ∷ 20 ∷ 40 ∷ [])) (samples (10 ∷ 10 ∷ 10 ∷ 10 ∷ 10 ∷ 10 ∷ 20 ∷ 40 ∷ 40 ∷ 40 ∷ 40 ∷ 40 ∷ 40 ∷ []))
    ∷ row "mirror" (supplied mirror (10 ∷ 20 ∷ 40 ∷ [])) (samples (20 ∷ 40 ∷ 40 ∷ 20 ∷ 10 ∷ 10 ∷ 20 ∷ 40 ∷ 40 ∷ 20 ∷ 10 ∷ 10 ∷ 20 ∷ []))
    ∷ row "mirror, two samples" (supplied mirror (10 ∷ 30 ∷ [])) (samples (10 ∷ 10 ∷ 30 ∷ 30 ∷ 10 ∷ 10 ∷ 30 ∷ 30 ∷ 10 ∷ 10 ∷ 30 ∷ 30 ∷ 10 ∷ []))
    ∷ row "mirror, one sample" (supplied mirror (10 ∷ [])) (samples (10 ∷ 10 ∷ 10 ∷ 10 ∷ 10 ∷ 10 ∷ 10 ∷ 10 ∷ 10 ∷ 10 ∷ 10 ∷ 10 ∷ 10 ∷ []))
    ∷ row "wrap" (supplied wrap (10 ∷ 20 ∷ 40 ∷ [])) (samples (20 ∷ 40 ∷ 10 ∷ 20 ∷ 40 ∷ 10 ∷ 20 ∷ 40 ∷ 10 ∷ 20 ∷ 40 ∷ 10 ∷ 20 ∷ []))
    ∷ row "box 1,1 on 10 20 / 30 40, nearest" (filtered 2 2 nearest 0 (box 1 1) (10 ∷ 20 ∷ 30 ∷ 40 ∷ [])) (samples (20 ∷ 23 ∷ 27 ∷ 30 ∷ []))
    ∷ row "box 1,1 on 10 20 / 30 40, constant 100" (filtered 2 2 constant 100 (box 1 1) (10 ∷ 20 ∷ 30 ∷ 40 ∷ [])) (samples (67 ∷ 67 ∷ 67 ∷ 67 ∷ []))
    ∷ row "box 1,1 on 10 20 / 30 40, wrap" (filtered 2 2 wrap 0 (box 1 1) (10 ∷ 20 ∷ 30 ∷ 40 ∷ [])) (samples (30 ∷ 27 ∷ 23 ∷ 20 ∷ []))
    ∷ row "the row above, constant 7" (filtered 1 3 constant 7 (weighted one (back 1)) (10 ∷ 20 ∷ 40 ∷ [])) (samples (7 ∷ 10 ∷ 20 ∷ []))
    ∷ row "the row above, wrap" (filtered 1 3 wrap 0 (weighted one (back 1)) (10 ∷ 20 ∷ 40 ∷ [])) (samples (40 ∷ 10 ∷ 20 ∷ []))
    ∷ row "six rows up, mirror" (filtered 1 2 mirror 0 (weighted one (back 6)) (10 ∷ 30 ∷ [])) (samples (30 ∷ 10 ∷ []))
    ∷ row "1 2 over 3 at 0 1" (filtered 2 1 nearest 0 (weighted (two 3 (pos 1) (pos 2)) one) (10 ∷ 40 ∷ [])) (samples (30 ∷ 40 ∷ []))
    ∷ row "1 2 over 3" (apportioned (two 3 (pos 1) (pos 2))) (weights (pos 21845 ∷ pos 43691 ∷ []))
    ∷ row "halves at 0 1, across and down" (filtered 2 2 nearest 0 (weighted (two 2 (pos 1) (pos 1)) (two 2 (pos 1) (pos 1))) (12 ∷ 13 ∷ 12 ∷ 12 ∷ [])) (samples (12 ∷ 13 ∷ 12 ∷ 12 ∷ []))
    ∷ row "-1 across, -1 down" (filtered 1 1 nearest 0 (weighted (alone 1 (minus 1)) (alone 1 (minus 1))) (20 ∷ [])) (samples (20 ∷ []))
    ∷ row "-1/128 across, -1 down" (filtered 1 1 nearest 0 (weighted (alone 128 (minus 1)) (alone 1 (minus 1))) (63 ∷ [])) (samples (0 ∷ []))
    ∷ row "1/128 across, 1 down" (filtered 1 1 nearest 0 (weighted (alone 128 (pos 1)) one) (63 ∷ [])) (samples (1 ∷ []))
    ∷ row "16.5 units" (apportioned (alone (2 ^ 35) (pos 8650752))) (weights (pos 17 ∷ []))
    ∷ row "-16.5 units" (apportioned (alone (2 ^ 35) (minus 8650752))) (weights (minus 16 ∷ []))
    ∷ row "binomial r 2" (apportioned (binomial 2)) (weights (pos 4096 ∷ pos 16384 ∷ pos 24576 ∷ pos 16384 ∷ pos 4096 ∷ []))
    ∷ row "T of 4 over 1 both ways, four times"
    (tolerances (tolerance_of (quadruple ∷ []) ∷ tolerance_of (quadruple ∷ quadruple ∷ []) ∷ tolerance_of (quadruple ∷ quadruple ∷ quadruple ∷ []) ∷ tolerance_of (quadruple ∷ quadruple ∷ quadruple ∷ quadruple ∷ []) ∷ []))
    (tolerances (34816 ∷ 591872 ∷ 9504768 ∷ 16711680 ∷ []))
    ∷ row "T of box, rank, 1 1 2 over 3 across with 1 1 over 3 down"
    (tolerances (tolerance_of (box 1 1 ∷ []) ∷ tolerance_of (box 1 1 ∷ rank 1 1 5 ∷ []) ∷ tolerance_of (box 1 1 ∷ rank 1 1 5 ∷ weighted (three 3 (pos 1) (pos 1) (pos 2)) (two 3 (pos 1) (pos 1)) ∷ []) ∷ []))
    (tolerances (32768 ∷ 32768 ∷ 63429 ∷ []))
    ∷ row "4 over 1 on 200" (filtered 1 1 nearest 0 (weighted (alone 1 (pos 4)) one) (200 ∷ [])) (samples (255 ∷ []))
    ∷ row "box r 1, then rank r 1 p 3" (samples (written 3 1 (stage nearest 0 (box 1 0) ∷ stage nearest 0 (rank 1 0 3) ∷ []) (10 ∷ 20 ∷ 40 ∷ []))) (samples (23 ∷ 33 ∷ 33 ∷ []))
    ∷ row "exact binomial" (exactly 3 1 (stage nearest 0 (weighted (binomial 1) (binomial 0)) ∷ []) (10 ∷ 20 ∷ 40 ∷ [])) (fractions 4 (50 ∷ 90 ∷ 140 ∷ []))
    ∷ row "exact box" (exactly 3 1 (stage nearest 0 (box 1 0) ∷ []) (10 ∷ 20 ∷ 40 ∷ [])) (fractions 3 (40 ∷ 70 ∷ 100 ∷ []))
    ∷ row "exact rank, p 2" (exactly 3 1 (stage nearest 0 (rank 1 0 2) ∷ []) (10 ∷ 20 ∷ 40 ∷ [])) (fractions 1 (10 ∷ 20 ∷ 40 ∷ []))
    ∷ row "exact -1 0 1 over 2" (exactly 3 1 (stage nearest 0 (weighted (three 2 (minus 1) (pos 0) (pos 1)) one) ∷ []) (10 ∷ 20 ∷ 40 ∷ [])) (fractions 2 (10 ∷ 30 ∷ 20 ∷ []))
    ∷ row "exact -1 0 1 over 2, on 40 20 10" (exactly 3 1 (stage nearest 0 (weighted (three 2 (minus 1) (pos 0) (pos 1)) one) ∷ []) (40 ∷ 20 ∷ 10 ∷ [])) (fractions 2 (0 ∷ 0 ∷ 0 ∷ []))
    ∷ row "exact 4 over 1 on 200" (exactly 1 1 (stage nearest 0 (weighted (alone 1 (pos 4)) one) ∷ []) (200 ∷ [])) (fractions 1 (255 ∷ []))
    ∷ row "exact, six columns left, mirror" (exactly 2 1 (stage mirror 0 (weighted (back 6) one) ∷ []) (10 ∷ 30 ∷ [])) (fractions 1 (30 ∷ 10 ∷ []))
    ∷ row "exact box, then box with constant 100"
    (exactly 3 1 (stage nearest 0 (box 1 0) ∷ stage constant 100 (box 1 0) ∷ []) (10 ∷ 20 ∷ 40 ∷ []))
    (fractions 9 (410 ∷ 210 ∷ 470 ∷ []))
    ∷ []

-- the middle sample of a plane of 3 by 3 after an outline stage
unfoldable pub outlined : List ℕ → Answer
outlined plane = samples (stage_plane 3 3 (stage constant 0 outline) (plane_of 3 plane) 1 1 ∷ [])

-- binomial 1,1, then outlines
unfoldable pub smoothed : List Work → List Work
smoothed ws = weighted (binomial 1) (binomial 1) ∷ ws

-- Request 2026-01, worked by hand. The responses of the four kernels, in their order:
-- 177, 24, 96, 140; 24, 207, -116, 160; 120, -76, 147, 24; -98, -140, 22, -177; 20, -20, 30, 0; and 270, 0, 180, 180, where 270 is clamped;
-- one row of 10 20 40: with nearest and wrap it stands above and below too, and the first kernel gives three times the difference of the two sides; with constant 0 once;
-- 33,280 times 6, and again, until the fourth passes the cut; exact: 40, 230 and 420 thirds, whose differences are 190, 380 and 190, and 3·380 is clamped to 765.
unfoldable pub outlines : List Example
outlines =
    row "the first kernel's" (outlined (1 ∷ 20 ∷ 60 ∷ 2 ∷ 30 ∷ 61 ∷ 3 ∷ 40 ∷ 62 ∷ [])) (samples (177 ∷ []))
    ∷ row "the second's" (outlined (1 ∷ 2 ∷ 3 ∷ 20 ∷ 30 ∷ 40 ∷ 70 ∷ 71 ∷ 72 ∷ [])) (samples (207 ∷ []))
    ∷ row "the third's" (outlined (20 ∷ 50 ∷ 51 ∷ 1 ∷ 30 ∷ 52 ∷ 2 ∷ 3 ∷ 40 ∷ [])) (samples (147 ∷ []))
    ∷ row "the fourth's, below 0" (outlined (62 ∷ 61 ∷ 40 ∷ 60 ∷ 30 ∷ 3 ∷ 20 ∷ 2 ∷ 1 ∷ [])) (samples (177 ∷ []))
    ∷ row "a corner, the third's" (outlined (0 ∷ 10 ∷ 10 ∷ 0 ∷ 0 ∷ 10 ∷ 0 ∷ 0 ∷ 0 ∷ [])) (samples (30 ∷ []))
    ∷ row "clamped" (outlined (0 ∷ 0 ∷ 90 ∷ 0 ∷ 0 ∷ 90 ∷ 0 ∷ 0 ∷ 90 ∷ [])) (samples (255 ∷ []))
    ∷ row "outline, nearest" (filtered 3 1 nearest 0 outline (10 ∷ 20 ∷ 40 ∷ [])) (samples (30 ∷ 90 ∷ 60 ∷ []))
    ∷ row "outline, constant 0" (filtered 3 1 constant 0 outline (10 ∷ 20 ∷ 40 ∷ [])) (samples (20 ∷ 30 ∷ 20 ∷ []))
    ∷ row "outline, wrap" (filtered 3 1 wrap 0 outline (10 ∷ 20 ∷ 40 ∷ [])) (samples (60 ∷ 90 ∷ 30 ∷ []))
    ∷ row "outline twice" (samples (written 3 1 (stage nearest 0 outline ∷ stage nearest 0 outline ∷ []) (10 ∷ 20 ∷ 40 ∷ []))) (samples (180 ∷ 90 ∷ 90 ∷ []))
    ∷ row "T of an outline" (tolerances (tolerance_of (outline ∷ []) ∷ [])) (tolerances (0 ∷ []))
    ∷ row "T of binomial 1,1 and one to four outlines"
    (tolerances (tolerance_of (smoothed (outline ∷ [])) ∷ tolerance_of (smoothed (outline ∷ outline ∷ [])) ∷ tolerance_of (smoothed (outline ∷ outline ∷ outline ∷ [])) ∷ tolerance_of (smoothed (outline ∷ outline ∷ outline ∷ outline ∷ [])) ∷ []))
    (tolerances (199680 ∷ 1198080 ∷ 7188480 ∷ 16711680 ∷ []))
    ∷ row "exact box, then outline"
    (exactly 3 1 (stage nearest 0 (box 1 0) ∷ stage nearest 0 outline ∷ []) (10 ∷ 20 ∷ 200 ∷ []))
    (fractions 3 (570 ∷ 765 ∷ 570 ∷ []))
    ∷ []

-- two taps, both 1 over D, at offsets -k and k
unfoldable pub pair : ℕ → ℕ → Kernel
pair D k = kernel D (tap (minus k) (pos 1) ∷ tap (pos k) (pos 1) ∷ [])

-- four taps, all a over D, at offsets -2 -1 1 2
unfoldable pub four : ℕ → ℕ → Kernel
four D a = kernel D (tap (minus 2) (pos a) ∷ tap (minus 1) (pos a) ∷ tap (pos 1) (pos a) ∷ tap (pos 2) (pos a) ∷ [])

-- thirds at three offsets
unfoldable pub thirds : ℤ → ℤ → ℤ → Kernel
thirds i j k = kernel 3 (tap i (pos 1) ∷ tap j (pos 1) ∷ tap k (pos 1) ∷ [])

-- the binomials r 0 to 15, each put to a test
unfoldable pub binomials : (Kernel → Bool) → Answer
binomials p = verdicts (tabulate (λ r. p (binomial r)) 16)

-- what should come of that: r 9, 10, 12 and 13 fail
unfoldable pub all_but_four : Answer
all_but_four = verdicts (true ∷ true ∷ true ∷ true ∷ true ∷ true ∷ true ∷ true ∷ true ∷ false ∷ false ∷ true ∷ false ∷ false ∷ true ∷ true ∷ [])

-- Request 2026-06, worked by hand. 1/3 is 21,845 1/3 units and 2/3 43,690 2/3; 3/5 is 39,321 3/5:
-- two taps of 1/3 lack 2/3 of a unit, which is rounded to one, and three of them one; 2 2 2 over 3 lack two; 2 2 2 2 over 3 lack 2 2/3, so three; 3 3 3 3 over 5 lack 2 2/5, so two;
-- 1 1 over 384 are 170 2/3 units each and lack one. 171·189 is 32,319 and 170·189 is 32,130, 31.6 and 31.4 64ths: 32 of them are rounded up to a level, 31 down.
unfoldable pub symmetry : List Example
symmetry =
    row "1 1 over 3 at -2 2" (apportioned (pair 3 2)) (weights (pos 21846 ∷ pos 21845 ∷ []))
    ∷ row "thirds at 1 2 3" (apportioned (thirds (pos 1) (pos 2) (pos 3))) (weights (pos 21846 ∷ pos 21845 ∷ pos 21845 ∷ []))
    ∷ row "thirds at -3 -2 -1" (apportioned (thirds (minus 3) (minus 2) (minus 1))) (weights (pos 21845 ∷ pos 21845 ∷ pos 21846 ∷ []))
    ∷ row "2 2 2 over 3 at -1 0 1" (apportioned (three 3 (pos 2) (pos 2) (pos 2))) (weights (pos 43691 ∷ pos 43691 ∷ pos 43690 ∷ []))
    ∷ row "2 2 2 2 over 3 at -2 -1 1 2" (apportioned (four 3 2)) (weights (pos 43691 ∷ pos 43691 ∷ pos 43691 ∷ pos 43690 ∷ []))
    ∷ row "3 3 3 3 over 5 at -2 -1 1 2" (apportioned (four 5 3)) (weights (pos 39321 ∷ pos 39322 ∷ pos 39322 ∷ pos 39321 ∷ []))
    ∷ row "dealt without splitting a pair: thirds; 2 2 2 over 3; the pair; the four over 3; those over 5; and where there is no pair: -1 -1 5; thirds at -3 -2 -1"
    (verdicts (map unsplit (three 3 (pos 1) (pos 1) (pos 1) ∷ three 3 (pos 2) (pos 2) (pos 2) ∷ pair 3 2 ∷ four 3 2 ∷ four 5 3 ∷ three 3 (minus 1) (minus 1) (pos 5) ∷ thirds (minus 3) (minus 2) (minus 1) ∷ [])))
    (verdicts (true ∷ false ∷ false ∷ false ∷ true ∷ true ∷ true ∷ []))
    ∷ row "symmetric taps: a pair; 1 2 1; one at 0; 1 2 3; -1 0 1; thirds at 1 2 3"
    (verdicts (map (λ K. symmetric K.taps) (pair 3 2 ∷ three 4 (pos 1) (pos 2) (pos 1) ∷ one ∷ three 6 (pos 1) (pos 2) (pos 3) ∷ three 2 (minus 1) (pos 0) (pos 1) ∷ thirds (pos 1) (pos 2) (pos 3) ∷ [])))
    (verdicts (true ∷ true ∷ true ∷ false ∷ false ∷ false ∷ []))
    ∷ row "binomials with symmetric weights" (binomials (λ K. symmetric (apportion K))) all_but_four
    ∷ row "binomials that split no pair" (binomials unsplit) all_but_four
    ∷ row "1 1 over 384 at -1 1: a level of difference" (filtered 3 1 constant 0 (weighted (pair 384 1) one) (189 ∷ 0 ∷ 0 ∷ [])) (samples (0 ∷ 1 ∷ 0 ∷ []))
    ∷ row "and flipped" (filtered 3 1 constant 0 (weighted (pair 384 1) one) (flipped_samples 3 1 (189 ∷ 0 ∷ 0 ∷ []))) (samples (0 ∷ 0 ∷ 0 ∷ []))
    ∷ row "1 2 3 / 4 5 6, flipped" (samples (flipped_samples 3 2 (1 ∷ 2 ∷ 3 ∷ 4 ∷ 5 ∷ 6 ∷ []))) (samples (3 ∷ 2 ∷ 1 ∷ 6 ∷ 5 ∷ 4 ∷ []))
    ∷ []

-- a quarter, a half and a quarter; three thirds
unfoldable pub quarters : Kernel
quarters = three 4 (pos 1) (pos 2) (pos 1)

unfoldable pub even_thirds : Kernel
even_thirds = three 3 (pos 1) (pos 1) (pos 1)

-- one binary32 weight at 0, by its numerator: 2^-12 is 2^23 over 2^35; 1/3, rounded to binary32, is 11,184,811 over 2^25, so 11,453,246,464 over 2^35
unfoldable pub tiny_real : Kernel
tiny_real = alone (2 ^ 35) (pos 8388608)

unfoldable pub third_real : Kernel
third_real = alone (2 ^ 35) (pos 11453246464)

-- Request 2026-08, worked by hand. In units of 1/65,536, a quarter is 16,384, a half 32,768, 2^-12 is 16 and 0 is 0, all whole; 1/3 is 21,845 1/3, 1/6 is 10,922 2/3, and 1/3 as binary32 21,845 171/512;
-- 1 2 3 over 6 is 1/6, 1/3 and 1/2: two are rounded, and the one unit that they lack goes to one of them;
-- C(2r,k)/2^(2r) is whole for all r up to 8, and else where C(2r,k) is a multiple of 2^(2r-16): 11 of the 19 for r 9, 4 of the 21 for r 10, and none from r 11 on;
-- T of a first stage, with gains of 1: n rounded taps across add 255 n, and m down 255 m and what 255 n + 512 come to, m times, in 65,536ths, rounded up to 1; 512 and 32,768 are always there, and with m 0 the gain across does not count.
-- So quarters 33,280, thirds 765 + 766 more, quarters across with thirds down 766, thirds across with quarters down 765, two rounded taps across 510, and 2^-12 across nothing;
-- 1/3 as binary32: 255 across; down, with g2 21,846, 512 become 170.7, and one tap adds 255 and what 512 65,536ths come to.
unfoldable pub rounding : List Example
rounding =
    row "rounded taps: quarters; thirds; -1 -1 5 over 3; -1 0 1 over 3; 1 2 3 over 6; 2^-12 and 1/3 as binary32"
    (counts (map rounded_taps (quarters ∷ even_thirds ∷ three 3 (minus 1) (minus 1) (pos 5) ∷ three 3 (minus 1) (pos 0) (pos 1) ∷ three 6 (pos 1) (pos 2) (pos 3) ∷ tiny_real ∷ third_real ∷ [])))
    (counts (0 ∷ 3 ∷ 3 ∷ 2 ∷ 2 ∷ 0 ∷ 1 ∷ []))
    ∷ row "rounded taps: the binomials r 0 to 15" (counts (tabulate (λ r. rounded_taps (binomial r)) 16))
    (counts (0 ∷ 0 ∷ 0 ∷ 0 ∷ 0 ∷ 0 ∷ 0 ∷ 0 ∷ 0 ∷ 8 ∷ 17 ∷ 23 ∷ 25 ∷ 27 ∷ 29 ∷ 31 ∷ []))
    ∷ row "T of quarters both ways, of thirds both ways"
    (tolerances (tolerance_of (weighted quarters quarters ∷ []) ∷ tolerance_of (weighted even_thirds even_thirds ∷ []) ∷ []))
    (tolerances (33280 ∷ 34811 ∷ []))
    ∷ row "T of quarters across with thirds down, of thirds across with quarters down"
    (tolerances (tolerance_of (weighted quarters even_thirds ∷ []) ∷ tolerance_of (weighted even_thirds quarters ∷ []) ∷ []))
    (tolerances (34046 ∷ 34045 ∷ []))
    ∷ row "T of -1 0 1 over 3, of 1 2 3 over 6, both across"
    (tolerances (tolerance_of (weighted (three 3 (minus 1) (pos 0) (pos 1)) one ∷ []) ∷ tolerance_of (weighted (three 6 (pos 1) (pos 2) (pos 3)) one ∷ []) ∷ []))
    (tolerances (33790 ∷ 33790 ∷ []))
    ∷ row "T of 2^-12 across, of 1/3 across, of 1/3 down, as binary32"
    (tolerances (tolerance_of (weighted tiny_real one ∷ []) ∷ tolerance_of (weighted third_real one ∷ []) ∷ tolerance_of (weighted one third_real ∷ []) ∷ []))
    (tolerances (33280 ∷ 33535 ∷ 33195 ∷ []))
    ∷ []

-- every definition that an example runs through, opened by one name
opened : Unit {0}
unfolding modulo ceil_div clamp sum sumℤ tabulate raster count inside closest folded supply plane_of pick around tap kernel weighted_sum total magnitude pair_sums pascal_row choose binomial quotient remainder rounded rounded_taps wanted_total lacking distance nearer comes_before served_before gets_unit share apportion same opposite has_opposite symmetric units_left split unsplit flipped flipped_samples row_value weighted_result area window box_result insert sort smallest rank_result outline_kernels response largest edge_strength outline_result stage result stage_plane written scaled_gain weighted_growth growth after_stage tolerance_from tolerance denominator numerator exact_plane exact_from denominator_from exact exact_denominator row filtered exactly apportioned tolerance_of supplied minus three one two alone quadruple back outlined smoothed pair four thirds binomials all_but_four quarters even_thirds tiny_real third_real
opened = tt

-- THE WORKED EXAMPLES HOLD, by computation
pub examples_hold : map (λ e. e.found) (bench ++ details ++ outlines ++ symmetry ++ rounding) ≡ map (λ e. e.expected) (bench ++ details ++ outlines ++ symmetry ++ rounding)
unfolding opened bench details outlines symmetry rounding
examples_hold = refl
