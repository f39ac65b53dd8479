-- What is found of the two files lies within their limits. Assumes nothing.
use Prim.Native.Nat.{ℕ, ◌≤◌}
use mathlib.Core.Path.{◌≡◌, ap}
use native.Mathlib.Omega.{arith}
use borrow.Author.Tests.{leb-true}
use Rattle.std.specs.Prelude.{Option, Result, Ok, Err}
use Rattle.refusals.specs.declared.Refusal.{Refusal}
use Rattle.refusals.proofs.Passed.{passed}
use Rattle.disk_tests.specs.Disk.{size, disk_tests, found}

ok_injective : {x y : ℕ × ℕ} → ◌≡◌ {A = Result (ℕ × ℕ) Refusal} (Ok x) (Ok y) → x ≡ y
ok_injective e = cc

pub found_within : (still recipe : Option ℕ) {a b : ℕ} → found still recipe ≡ Ok (a, b) → (a ≤ 65536) × (b ≤ 4096)
unfolding found disk_tests
found_within still recipe {a} {b} e =
    let p = passed Err (disk_tests still recipe) (Ok (size still, size recipe)) (Ok (a, b)) (λ n (f : ◌≡◌ {A = Result (ℕ × ℕ) Refusal} (Err n) (Ok (a, b))). let z : ◌≡◌ {A = ℕ} 0 1 = cc in omega arith) e in
    let s : size still ≡ a = ap (λ (x : ℕ × ℕ). x.0) (ok_injective p.1) in
    let r : size recipe ≡ b = ap (λ (x : ℕ × ℕ). x.1) (ok_injective p.1) in
    (rw s at (leb-true (size still) 65536 p.0.1.0), rw r at (leb-true (size recipe) 4096 p.0.1.1.1.0))
