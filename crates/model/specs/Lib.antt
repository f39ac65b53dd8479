-- The arithmetic of document 01 and of the requests that landed, definitions only. Read the files in this order; each names the term of docs/METHOD.md's section that it defines.
--
-- Words that come from the two crates below:
--   floorDiv z m     z / m rounded down               tabulate f n     the list f 0, f 1, .., f (n - 1)
--   modulo z m       what that leaves, 0 to m - 1     raster f w h     h rows of w, row by row: f u v at column u, row v
--   ceilDiv a m      a / m rounded up                 count p xs       how many elements of xs pass the test p
--   clamp m z        z cut to 0 to m                  sum, sumℤ        of a list
-- and from the toolchain: an integer is `pos n` or `negsuc n`, which is -(n + 1); `get_or xs k d` is entry k of xs, from 0, or d past the end.
--
-- Left to the recipe's reader: the numbers of kinds and borders, binary32 weights, and the limits (taps, radii, gain). The limit on the sides is
-- `isSide` (crates/picture_sizes/specs/PictureSize.antt).
pub mod Border
pub mod Plane
pub mod Kernel
pub mod Binomial
pub mod Apportion
pub mod Symmetry
pub mod Weighted
pub mod Window
pub mod Box
pub mod Rank
pub mod Outline
pub mod Stage
pub mod Tolerance
pub mod Exact
pub mod Within
pub mod Sound
pub mod Flip
pub mod Examples
