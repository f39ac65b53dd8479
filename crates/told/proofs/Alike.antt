-- Equal answers are told alike. Assumes nothing.
use Prim.Native.Nat.{ℕ}
use mathlib.Core.Path.{◌≡◌, subst}
use mathlib.Core.List.{List}
use Rattle.told.specs.Numbers.{Told, Tells}

pub told : {A : Type 0} (tell : A → Told) {a b : A} {xs ys : List ℕ} {r : ℕ} → a ≡ b → Tells (tell a) xs ys r → Tells (tell b) xs ys r
told tell {a} {b} {xs} {ys} {r} e t = subst (λ (x : _). Tells (tell x) xs ys r) e t
