-- WHAT FOLLOWS A HEADER DOES NOT MATTER to what it announces: files with the same bytes up to its end announce the same. Assumes nothing.
use Prim.Native.Nat.{ℕ, ◌+◌, ◌-◌, ◌≤◌}
use native.Mathlib.Omega.{arith}
use mathlib.Core.Path.{◌≡◌, ◌∙◌}
use mathlib.Core.List.{List}
use lib.ListN.{drop, take}
use Rattle.text.proofs.Front.{drop_front}
use Rattle.header_reader.specs.Header.{header}
use Rattle.header_reader.proofs.Front.{byte_front, header_front}
use Rattle.answers.specs.declared.Picture.{Picture}
use Rattle.std.specs.Prelude.{Ok}
use Rattle.still_reader.specs.Head.{magic_test, head_of}
use Rattle.still_reader.proofs.Headed.{headed}

-- also where it is refused
pub head_front : (n : ℕ) (xs ys : List ℕ) → 2 + (header (drop 2 xs)).size ≤ n → take n xs ≡ take n ys → head_of ys ≡ head_of xs
unfolding head_of magic_test
head_front n xs ys h e =
    let same-header = header_front (n - 2) (drop 2 xs) (drop 2 ys) (omega (arith, h)) (drop_front 2 n xs ys e) in
    rw (byte_front 0 n xs ys (omega (arith, h)) e, byte_front 1 n xs ys (omega (arith, h)) e, same-header)

pub announced_alike : (xs ys : List ℕ) {p : Picture} → head_of xs ≡ Ok p → take p.start xs ≡ take p.start ys → head_of ys ≡ Ok p
announced_alike xs ys {p} e same = head_front p.start xs ys (omega (arith, (headed xs e).ends)) same ∙ e
