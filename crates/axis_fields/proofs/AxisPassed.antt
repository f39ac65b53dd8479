-- What fields that pass are: sizes, offsets that rise within -15 to 15, and weights. Assumes nothing.
use Prim.Native.Nat.{ℕ, zero, suc, ◌+◌, ◌*◌, ◌%◌, ◌≤◌, ◌<◌}
use native.Mathlib.Omega.{arith}
use mathlib.Core.Path.{◌≡◌, sym, ap, ◌∙◌, subst}
use mathlib.Core.Bool.{Bool, true, false, not, and-eq-true_iff, false≢true}
use mathlib.Core.List.{List, [], ◌∷◌}
use lib.ListN.{length, drop, length-drop}
use lib.Dec.{T}
use lib.IntN.{ℤ, pos, negsuc, neg_ℤ, ◌+ℤ◌}
use lib.Signed.{le_z, ◌<ℤ◌}
use borrow.Author.Tests.{leb-true}
use Rattle.integers.proofs.Parts.{pos_part, neg_part, add_parts}
use Rattle.integers.proofs.Order.{lt_of_parts}
use Rattle.refusals.specs.Refusal.{verdict}
use Rattle.std.specs.Prelude.{Ok}
use Rattle.refusals.proofs.Passed.{AllPass, all_pass, between}
use Rattle.weights.specs.Bits.{accepted}
use Rattle.recipe_bytes.specs.Bytes.{at, word, signed8, bits, there}
use Rattle.recipe_bytes.proofs.ByteLaws.{raised, bits-drop}
use Rattle.axis_fields.specs.AxisFields.{is_count, sizes_length, divisor_at, size_tests, offset_tests, axis_tests, real_tests, weight_tests, weight_length}
use Rattle.axis_fields.proofs.SizeLaws.{sizes_least}

-- ---- sizes

count_passed : (n : ℕ) → is_count n ≡ true → (1 ≤ n) × (n ≤ 31)
unfolding is_count
count_passed n e = between 1 n 31 e

pub sizes_passed : (real : Bool) (b : List ℕ) → AllPass (size_tests real b)
    → (1 ≤ at b 0) × (at b 0 ≤ 31) × (1 ≤ at b 1) × (at b 1 ≤ 31) × (0 < divisor_at real 2 b) × (0 < divisor_at real 4 b) × (sizes_length real ≤ length b)
unfolding size_tests there sizes_length divisor_at
sizes_passed true b h =
    let n = count_passed (at b 0) h.1.0 in
    let m = count_passed (at b 1) h.1.1.1.0 in
    (n.0, n.1, m.0, m.1, omega arith, omega arith, leb-true 2 (length b) h.1.1.0)
sizes_passed false b h =
    let n = count_passed (at b 0) h.1.0 in
    let m = count_passed (at b 1) h.1.1.1.0 in
    let r = h.1.1.1.1 in
    (n.0, n.1, m.0, m.1, leb-true 1 (word b 2) r.1.0, leb-true 1 (word b 4) r.1.1.1.0, leb-true 6 (length b) r.1.1.0)

-- what sizes that pass are
pub record Sizes (real : Bool) (b : List ℕ) : Type 0 where
  pub some-across : 1 ≤ at b 0
  pub few-across : at b 0 ≤ 31
  pub some-down : 1 ≤ at b 1
  pub few-down : at b 1 ≤ 31
  pub divisor-across : 0 < divisor_at real 2 b
  pub divisor-down : 0 < divisor_at real 4 b
  pub enough : sizes_length real ≤ length b
  pub counts-there : 2 ≤ length b

pub sizes_known : (real : Bool) (b : List ℕ) → verdict (size_tests real b) ≡ Ok tt → Sizes real b
sizes_known real b h =
    let s = sizes_passed real b (all_pass (size_tests real b) h) in
    record {
      some-across = s.0;
      few-across = s.1;
      some-down = s.2;
      few-down = s.3;
      divisor-across = s.4;
      divisor-down = s.5;
      enough = s.6;
      counts-there = omega (arith, s.6, sizes_least real);
    }

pub divisors_there : (real : Bool) (b : List ℕ) → Sizes real b → T (not real) → 6 ≤ length b
unfolding sizes_length
divisors_there true b s t = absurd t
divisors_there false b s t = s.enough

-- ---- offsets

-- x is at most y
abbrev Below : ℤ → ℤ → Type 0
Below x y = pos_part x + neg_part y ≤ pos_part y + neg_part x

below : (x y : ℤ) → le_z x y ≡ true → Below x y
below (pos a) (pos b) e = omega (arith, leb-true a b e)
below (pos a) (negsuc b) e = absurd (false≢true e)
below (negsuc a) (pos b) e = omega arith
below (negsuc a) (negsuc b) e = omega (arith, leb-true b a e)

-- n offsets that rise from at least `least` to at most 15
record Offsets (least : ℤ) (n : ℕ) (b : List ℕ) : Type 0 where
  enough : n ≤ length b
  low : (i : ℕ) → i < n → Below least (signed8 (at b i))
  high : (i : ℕ) → i < n → Below (signed8 (at b i)) (pos 15)
  rising : (i j : ℕ) → i < j → j < n → signed8 (at b i) <ℤ signed8 (at b j)

one_more : (least : ℤ) (n x : ℕ) (b : List ℕ) → Below least (signed8 x) → Below (signed8 x) (pos 15) → Offsets (signed8 x +ℤ pos 1) n b → Offsets least (suc n) (x ∷ b)
one_more least n x b p q r = record { enough = omega (arith, r.enough); low = low; high = high; rising = rising }
  where
    low : (i : ℕ) → i < suc n → Below least (signed8 (at (x ∷ b) i))
    low zero l = p
    low (suc i) l = omega (arith, p, add_parts (signed8 x) (pos 1), r.low i (omega arith))

    high : (i : ℕ) → i < suc n → Below (signed8 (at (x ∷ b) i)) (pos 15)
    high zero l = q
    high (suc i) l = r.high i (omega arith)

    rising : (i j : ℕ) → i < j → j < suc n → signed8 (at (x ∷ b) i) <ℤ signed8 (at (x ∷ b) j)
    rising i zero l k = absurd (omega arith)
    rising zero (suc j) l k = lt_of_parts (signed8 x) (signed8 (at b j)) (omega (arith, add_parts (signed8 x) (pos 1), r.low j (omega arith)))
    rising (suc i) (suc j) l k = r.rising i j (omega arith) (omega arith)

offsets : (least : ℤ) (n : ℕ) (b : List ℕ) → AllPass (offset_tests least n b) → Offsets least n b
unfolding offset_tests there
offsets least zero b h = record {
  enough = omega arith;
  low = λ i l. absurd (omega arith);
  high = λ i l. absurd (omega arith);
  rising = λ i j l k. absurd (omega arith);
}
offsets least (suc n) [] h = absurd (omega (arith, leb-true 1 0 h.0))
offsets least (suc n) (x ∷ b) h =
    let p = (and-eq-true_iff (le_z least (signed8 x)) (le_z (signed8 x) (pos 15))).0 h.1.0 in
    one_more least n x b (below least (signed8 x) p.0) (below (signed8 x) (pos 15) p.1) (offsets (signed8 x +ℤ pos 1) n b h.1.1)

in_range_lem : (v : ℕ) → v < 256 → Below (neg_ℤ (pos 15)) (signed8 v) → Below (signed8 v) (pos 15) → (113 ≤ (v + 128) % 256) × ((v + 128) % 256 ≤ 143)
in_range_lem v h p q =
    let e = ap pos_part (raised v h) in
    let s = add_parts (signed8 v) (pos 128) in
    (omega (arith, e, s), omega (arith, e, s, ap neg_part (raised v h)))

pub offsets_passed : (n : ℕ) (b : List ℕ) → ((i : ℕ) → at b i < 256) → AllPass (axis_tests n b)
    → (n ≤ length b)
    × ((i : ℕ) → i < n → (113 ≤ (at b i + 128) % 256) × ((at b i + 128) % 256 ≤ 143))
    × ((i j : ℕ) → i < j → j < n → signed8 (at b i) <ℤ signed8 (at b j))
unfolding axis_tests
offsets_passed n b bytes h = let r = offsets (neg_ℤ (pos 15)) n b h in (r.enough, (λ i l. in_range_lem (at b i) (bytes i) (r.low i l) (r.high i l)), r.rising)

-- ---- weights

-- the pattern at a place is accepted
abbrev Good : List ℕ → ℕ → Type 0
Good b k = T (accepted (bits b k))

reals : (n : ℕ) (b : List ℕ) → AllPass (real_tests n b) → (4 * n ≤ length b) × ((i : ℕ) → i < n → Good b (4 * i))
unfolding real_tests there
reals zero b h = (omega arith, λ i l. absurd (omega arith))
reals (suc n) b h =
    let r = reals n (drop 4 b) h.1.1 in
    (omega (arith, r.0, leb-true 4 (length b) h.0, length-drop 4 b), go (subst T (sym h.1.0) tt) r.1)
  where
    go : Good b 0 → ((i : ℕ) → i < n → Good (drop 4 b) (4 * i)) → (i : ℕ) → i < suc n → Good b (4 * i)
    go p q zero l = p
    go p q (suc i) l = subst (λ (k : ℕ). T (accepted k)) (bits-drop 4 b (4 * i) ∙ ap (bits b) (omega arith)) (q i (omega arith))

pub weights_passed : (real : Bool) (n : ℕ) (b : List ℕ) → AllPass (weight_tests real n b)
    → (weight_length real * n ≤ length b) × (T real → (i : ℕ) → i < n → T (accepted (bits b (weight_length real * i))))
unfolding weight_tests weight_length there
weights_passed true n b h = let r = reals n b h in (r.0, λ t. r.1)
weights_passed false n b h = (leb-true (2 * n) (length b) h.0, λ t. absurd t)
