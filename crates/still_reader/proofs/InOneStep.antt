-- The answer of `read_still` told in one step, with the raster tested among the header's tests: it is the same. Assumes nothing.
use Prim.Native.Nat.{ℕ, ◌+◌, ◌-◌, ◌*◌}
use mathlib.Core.Path.{◌≡◌, refl, sym, ap, ◌∙◌}
use mathlib.Core.List.{List, [], ◌∷◌, ◌++◌}
use lib.ListN.{length, get_or, drop}
use Rattle.refusals.specs.Refusal.{Test, tested}
use Rattle.refusals.proofs.Passed.{tested_through, tested_append}
use Rattle.header_reader.specs.Header.{Header, header}
use Rattle.answers.specs.declared.Picture.{Picture}
use Rattle.refusals.specs.declared.Refusal.{Refusal}
use Rattle.std.specs.Prelude.{Result, Ok, Err}
use Rattle.still_reader.specs.Head.{channels_of, magic_test, header_tests, announced, head_of}
use Rattle.still_reader.specs.Read.{raster_tests, with_raster, still_of}

-- the answer for c channels and a header after the two magic bytes; `total` bytes in all
abbrev pub picture_in_one_step : ℕ → Header → ℕ → Result Picture Refusal
picture_in_one_step c h total = tested Err (header_tests h ++ raster_tests (h.width * h.height * c) (total - (2 + h.size))) (Ok (record { width = h.width; height = h.height; channels = c; start = 2 + h.size }))

pub same-still : (bytes : List ℕ) → still_of bytes ≡ tested Err (magic_test bytes ∷ []) (picture_in_one_step (channels_of (get_or bytes 1 0)) (header (drop 2 bytes)) (length bytes))
unfolding still_of head_of announced
same-still bytes =
    let H = header (drop 2 bytes) in
    let C = channels_of (get_or bytes 1 0) in
    let P : Result Picture Refusal = Ok (record { width = H.width; height = H.height; channels = C; start = 2 + H.size }) in
    let last : (ts : List Test) (s : Result Picture Refusal) → with_raster (length bytes) (tested Err ts s) ≡ tested Err ts (with_raster (length bytes) s) = tested_through Err Err (with_raster (length bytes)) (λ n. refl) in
    last (magic_test bytes ∷ []) (announced C H)
    ∙ ap (tested Err (magic_test bytes ∷ [])) (last (header_tests H) P ∙ sym (tested_append Err (header_tests H) (raster_tests (H.width * H.height * C) (length bytes - (2 + H.size))) P))
