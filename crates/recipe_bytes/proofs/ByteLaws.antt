-- Laws of numbers in bytes: signed ones, patterns, and what follows some bytes. Assumes nothing.
use Prim.Native.Nat.{ℕ, ◌+◌, ◌%◌, ◌≤◌, ◌<◌}
use native.Mathlib.Omega.{arith}
use mathlib.Core.Path.{◌≡◌}
use mathlib.Core.Bool.{Bool, cond}
use mathlib.Core.List.{List}
use lib.ListN.{length, drop}
use lib.Seq.{get_or-drop}
use mir.Syntax.{w16}
use mir.Val.{to_z}
use lib.IntN.{pos, nat_abs, ◌+ℤ◌}
use borrow.Author.Tests.{le-leb, lt-leb, lt-ltb, le-ltb}
use mathlib.Core.Logic.{inl, inr}
use Rattle.std.proofs.lemmas.Bool.{cases_lt}
use Rattle.std.proofs.lemmas.Int.{ints}
use Rattle.model.specs.Sound.{Bytes}
use Rattle.std.specs.Prelude.{Ok, Err}
use Rattle.refusals.specs.declared.Refusal.{Refusal}
use Rattle.refusals.specs.Refusal.{verdict}
use Rattle.recipe_bytes.specs.Bytes.{at, there, byte_at, field, signed8, signed16, bits}

-- ---- a byte that is there, or not

module _ (k : ℕ) (b : List ℕ) where
  -- a byte that is read is there
  pub byte_read : {x : ℕ} → Ok x ≡ byte_at k b → (k < length b) × (x ≡ at b k)
  unfolding byte_at there
  byte_read e = elim (cases_lt k (length b)) [ inl here ↦ (here, cc (le-leb (k + 1) (length b) (omega arith))) | inr past ↦ absurd (cc (lt-leb (k + 1) (length b) (omega arith))) ]

  -- and one that is not read is past the end
  pub byte_past : {r : Refusal} → Err r ≡ byte_at k b → (length b ≤ k) × (r ≡ Refusal.Cut)
  unfolding byte_at there
  byte_past e = elim (cases_lt k (length b)) [ inl here ↦ absurd (cc (le-leb (k + 1) (length b) (omega arith))) | inr past ↦ (past, cc (lt-leb (k + 1) (length b) (omega arith))) ]

  -- a field of one byte: its test decides where the byte is there, and its end where it is not
  module _ (ok : Bool) (refusal : Refusal) where
    pub field_read : {x : ℕ} → Ok x ≡ byte_at k b → verdict (field b (k + 1) ok refusal) ≡ cond ok (Ok tt) (Err refusal)
    unfolding verdict there
    field_read e = rw (le-leb (k + 1) (length b) (omega (arith, byte_read e)))

    pub field_cut : {r : Refusal} → Err r ≡ byte_at k b → Err r ≡ verdict (field b (k + 1) ok refusal)
    unfolding verdict there
    field_cut e = let p = byte_past e in rw (p.1, lt-leb (k + 1) (length b) (omega arith))

-- ---- signed bytes, held 128 too large

pub raised : (v : ℕ) → v < 256 → pos ((v + 128) % 256) ≡ signed8 v +ℤ pos 128
unfolding signed8
raised v h = elim (cases_lt v 128) [ inl low ↦ rw (lt-ltb v 128 low) (omega (arith, ints)) | inr high ↦ rw (le-ltb v 128 high) (omega (arith, ints)) ]

-- ---- signed 16-bit numbers

pub ratio : (v : ℕ) → v < 65536 → to_z w16 v ≡ signed16 v
unfolding signed16
ratio v h = elim (cases_lt v 32768) [ inl low ↦ rw (lt-ltb v 32768 low) | inr high ↦ rw (le-ltb v 32768 high) (omega (arith, ints)) ]

pub ratio_small : (v : ℕ) → v < 65536 → nat_abs (signed16 v) ≤ 137438953472
unfolding signed16
ratio_small v h = elim (cases_lt v 32768) [ inl low ↦ rw (lt-ltb v 32768 low) (omega (arith, ints)) | inr high ↦ rw (le-ltb v 32768 high) (omega (arith, ints)) ]

-- ---- what follows some bytes

pub bits-drop : (a : ℕ) (b : List ℕ) (k : ℕ) → bits (drop a b) k ≡ bits b (a + k)
unfolding bits
bits-drop a b k =
    let e : a + (k + 1) ≡ a + k + 1 = omega arith in
    let f : a + (k + 2) ≡ a + k + 2 = omega arith in
    let g : a + (k + 3) ≡ a + k + 3 = omega arith in
    rw (get_or-drop a b k 0, get_or-drop a b (k + 1) 0, get_or-drop a b (k + 2) 0, get_or-drop a b (k + 3) 0, e, f, g)

-- it is bytes too
pub bytes_drop : (k : ℕ) (b : List ℕ) → Bytes b → Bytes (drop k b)
bytes_drop k b h i = rw (get_or-drop k b i 0) (h (k + i))
