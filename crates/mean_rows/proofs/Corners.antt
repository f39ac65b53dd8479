-- Differences of entries that are held modulo 2^32. Assumes nothing.
use Rattle.std.proofs.Common.{◌≡◌, ℕ, ◌+◌, ◌-◌, ◌*◌, ◌/◌, ◌%◌, ◌^◌, ◌<◌, sym, ap, ◌∙◌, mod-eq_of_lt, arith}
use native.Mathlib.Nat.{div-add-mod, add-mul-mod_self_left}

-- the one number below 2^32 that equals x modulo 2^32
one_below : (x n j k : ℕ) → n < 2 ^ 32 → x + 2 ^ 32 * k ≡ n + 2 ^ 32 * j → x % 2 ^ 32 ≡ n
one_below x n j k h e = sym (add-mul-mod_self_left x (2 ^ 32) k) ∙ ap (λ (m : ℕ). m % 2 ^ 32) e ∙ add-mul-mod_self_left n (2 ^ 32) j ∙ mod-eq_of_lt h

-- three differences modulo 2^32 are one
pub three_differences : (a b c d right left r : ℕ) → b < 2 ^ 32 → c < 2 ^ 32 → r < 2 ^ 32 → (right + b) % 2 ^ 32 ≡ a → (left + d) % 2 ^ 32 ≡ c → (r + left) % 2 ^ 32 ≡ right
    → r ≡ (a + d + (2 ^ 32 - b) + (2 ^ 32 - c)) % 2 ^ 32
three_differences a b c d right left r hb hc hr e1 e2 e3 =
    sym
    (one_below (a + d + (2 ^ 32 - b) + (2 ^ 32 - c)) r ((left + d) / 2 ^ 32 + 2) ((right + b) / 2 ^ 32 + (r + left) / 2 ^ 32) hr
    (omega (arith, div-add-mod (right + b) (2 ^ 32), div-add-mod (left + d) (2 ^ 32), div-add-mod (r + left) (2 ^ 32))))

-- and as the code takes them, each modulo 2^32 by itself
pub wrapped_differences : (a b c d : ℕ) → b < 2 ^ 32 → c < 2 ^ 32 → d < 2 ^ 32
    → ((a + (2 ^ 32 - b)) % 2 ^ 32 + (2 ^ 32 - (c + (2 ^ 32 - d)) % 2 ^ 32)) % 2 ^ 32 ≡ (a + d + (2 ^ 32 - b) + (2 ^ 32 - c)) % 2 ^ 32
wrapped_differences a b c d hb hc hd =
    let right = (a + (2 ^ 32 - b)) % 2 ^ 32 in
    let left = (c + (2 ^ 32 - d)) % 2 ^ 32 in
    three_differences (a % 2 ^ 32) b c d right left ((right + (2 ^ 32 - left)) % 2 ^ 32) hb hc (omega arith) (omega arith) (omega arith) (omega arith)
    ∙ omega arith

-- Totals pass 2^32 and a table holds them modulo 2^32, so the difference of four entries is right only modulo 2^32.
-- The sum of a window is below 2^32, so it is the one number below 2^32 that the difference can be.
pub difference_is_sum : (sum A B C D : ℕ) → sum < 2 ^ 32 → sum + B + C ≡ A + D
    → (A % 2 ^ 32 + D % 2 ^ 32 + (2 ^ 32 - B % 2 ^ 32) + (2 ^ 32 - C % 2 ^ 32)) % 2 ^ 32 ≡ sum
difference_is_sum sum A B C D h e =
    one_below (A % 2 ^ 32 + D % 2 ^ 32 + (2 ^ 32 - B % 2 ^ 32) + (2 ^ 32 - C % 2 ^ 32)) sum (B / 2 ^ 32 + C / 2 ^ 32 + 2) (A / 2 ^ 32 + D / 2 ^ 32) h
    (omega arith)
