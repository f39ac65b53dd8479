-- Where the edges of a row's windows lie among the rows that are held. Assumes nothing.
use Prim.Native.Nat.{ℕ, ◌+◌, ◌*◌, ◌≤◌}
use native.Mathlib.Omega.{arith}
use mathlib.Core.Path.{◌≡◌, ap, ◌∙◌}
use Rattle.table_sizes.specs.Ring.{table_width, ring_rows, ring_size, row_start}
use Rattle.table_sizes.proofs.Places.{place_again}
use Rattle.area_tables.proofs.Held.{place_fits}

module _ (w r s v lower upper : ℕ) (el : lower ≡ row_start w r s (v + (2 * s + 1))) (eu : upper ≡ row_start w r s (v + (2 * s + 1) + 1)) where
  -- after the newest row lies the oldest
  pub upper_edge : upper ≡ row_start w r s v
  upper_edge =
      let round : v + (2 * s + 1) + 1 ≡ v + ring_rows s = omega arith in
      eu ∙ ap (λ (y : ℕ). row_start w r s y) round ∙ place_again (ring_rows s) (table_width w r) v

  -- both are whole
  pub upper_fits : {m : ℕ} → ring_size w r s ≤ m → upper + table_width w r ≤ m
  upper_fits h = rw eu (place_fits w r s (v + (2 * s + 1) + 1) h)

  pub lower_fits : {m : ℕ} → ring_size w r s ≤ m → lower + table_width w r ≤ m
  lower_fits h = rw el (place_fits w r s (v + (2 * s + 1)) h)
