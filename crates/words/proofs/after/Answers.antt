-- `words::after` meets its contract: what it gives is the end of the text, since each part that `splitn` gives leaves an end, and the last one is all that is left. Assumes nothing.
use Rattle.std.proofs.Common.{◌≡◌, ◌+◌, ◌-◌, ◌≤◌, ◌<◌, ℕ, Bool, true, false, List, [], ◌∷◌, ◌++◌, length, drop, Bor, arith, refl, sym, ap, subst, ◌∙◌, append-nil, append_assoc}
use Rattle.std.proofs.Math.Seq.{drop-append_seam}
use Rattle.std.proofs.lemmas.List.{length-append}
use Rattle.std.specs.Prelude.{Option, Some, None, MatchBool, MatchOption, unwrap_or, ◌⊎◌}
use Rattle.std.specs.Fn.{ComputesKey}
use Rattle.std.specs.List.{IsFirstMatchOrLen}
use Rattle.std.specs.Iterator.{Yields, SkipsThenYields}
use Rattle.std.specs.Slice.Iter.{splitn_parts, splitn_count, split_rest, split_done, split_callee}
use Rattle.std.specs.declared.slice.SplitN.{SplitN}
use denote.Param.Members.{Mut}
use Rattle.words.proofs.after.Goals as goal

-- what is left to cut
abbrev left : {A F : Type 0} → SplitN A F → List A
left s = split_rest (splitn_parts s)

-- whether the last part has come
abbrev done : {A F : Type 0} → SplitN A F → Bool
done s = split_done (splitn_parts s)

-- ys is the end of xs
abbrev IsEnd : {A : Type 0} → List A → List A → Type 0
IsEnd {A} ys xs = (front : List A) × (xs ≡ front ++ ys)

-- one part x, which takes what is left from that of s to that of t
record Cut {A F : Type 0} (s : SplitN A F) (x : Bor (List A)) (t : SplitN A F) : Type 0 where
  count : splitn_count t ≡ splitn_count s - 1
  some : 0 < splitn_count s
  last : splitn_count s ≡ 1 → done t ≡ true
  parts : MatchBool (done t) (left s ≡ x.now) ((y : A) × (left s ≡ x.now ++ (y ∷ left t)))
  goes_on : done s ≡ false

module _ {A F : Type 0} (steps : SplitN A F → Option (Bor (List A)) → SplitN A F → Type 0) (cut : (s : SplitN A F) (x : Bor (List A)) (t : SplitN A F) → steps s (Some x) t → Cut s x t) where
  -- where a part comes, the last one had not come before
  live : (s : SplitN A F) (xs : List (Bor (List A))) (t : SplitN A F) (x : Bor (List A)) (u : SplitN A F) → Yields steps s xs t → steps t (Some x) u → done s ≡ false
  live s [] t x u y h = subst (λ z. done z ≡ false) (sym y) (cut t x u h).goes_on
  live s (w ∷ ws) t x u y h = (cut s w y.0 y.1).goes_on

  -- the last part is all that is left
  whole : (s : SplitN A F) (x : Bor (List A)) (t : SplitN A F) → splitn_count s ≤ 1 → steps s (Some x) t → left s ≡ x.now
  whole s x t le h =
      let c = cut s x t h in
      subst (λ b. MatchBool b (left s ≡ x.now) ((y : A) × (left s ≡ x.now ++ (y ∷ left t)))) (c.last (omega (arith, le, c.some))) c.parts

  -- so it is an end of what was left before the parts that came before it
  ends : (s : SplitN A F) (xs : List (Bor (List A))) (t : SplitN A F) (x : Bor (List A)) (u : SplitN A F) → splitn_count s ≤ length xs + 1 → Yields steps s xs t → steps t (Some x) u → IsEnd x.now (left s)
  ends s [] t x u le y h = subst (λ z. IsEnd x.now (left z)) (sym y) ([], whole t x u (subst (λ z. splitn_count z ≤ 1) y le) h)
  ends s (w ∷ ws) t x u le y h =
      let c = cut s w y.0 y.1 in
      let more = subst (λ b. MatchBool b (left s ≡ w.now) ((z : A) × (left s ≡ w.now ++ (z ∷ left y.0)))) (live y.0 ws t x u y.2 h) c.parts in
      let e = ends y.0 ws t x u (omega (arith, le, c.count)) y.2 h in
      (w.now ++ (more.0 ∷ e.0), more.1 ∙ ap (λ v. w.now ++ (more.0 ∷ v)) e.1 ∙ sym (append_assoc w.now (more.0 ∷ e.0) x.now))

  -- and nothing is the end of all
  given : (n : ℕ) (s : SplitN A F) (o : Option (Bor (List A))) (u : SplitN A F) (d : Bor (List A)) → d.now ≡ [] → splitn_count s ≤ n + 1 → SkipsThenYields steps s n o u → IsEnd (unwrap_or o d).now (left s)
  given n s None u d e le h = (left s, sym (append-nil (left s)) ∙ ap (λ v. left s ++ v) (sym e))
  given n s (Some x) u d e le h = ends s h.0 h.1.0 x u (omega (arith, le, h.2)) h.1.1 h.1.2

-- an end by its length
by_length : {A : Type 0} (xs ys : List A) → IsEnd ys xs → (length ys ≤ length xs) × (ys ≡ drop (length xs - length ys) xs)
by_length xs ys e =
    let m : length xs ≡ length e.0 + length ys = ap length e.1 ∙ length-append e.0 ys in
    let k : length e.0 ≡ length xs - length ys = omega (arith, m) in
    (omega (arith, m), sym (drop-append_seam e.0 ys) ∙ ap (λ v. drop (length e.0) v) (sym e.1) ∙ ap (λ n. drop n xs) k)

-- the same of what `after` gives
fits : {A F : Type 0} (steps : SplitN A F → Option (Bor (List A)) → SplitN A F → Type 0) (n : ℕ) (s : SplitN A F) (o : Option (Bor (List A))) (u : SplitN A F) (d r : Bor (List A)) (xs : List A)
    → SkipsThenYields steps s n o u → r ≡ unwrap_or o d → d.now ≡ [] → splitn_count s ≤ n + 1 → left s ≡ xs
    → ((s : SplitN A F) (x : Bor (List A)) (t : SplitN A F) → steps s (Some x) t → Cut s x t)
    → (length r.now ≤ length xs) × (r.now ≡ drop (length xs - length r.now) xs)
fits steps n s o u d r xs ran is empty le all cut =
    by_length xs r.now (subst (λ v. IsEnd r.now v) all (subst (λ v. IsEnd v.now (left s)) (sym is) (given steps cut n s o u d empty le ran)))

-- what the library says of one call of `next`, with the test g
abbrev steps : {A F : Type 0} → Mut F (Bor A × Unit {0}) Bool → SplitN A F → Option (Bor (List A)) → SplitN A F → Type 0
steps {A} g s r t = (splitn_count t ≡ splitn_count s - 1) × MatchOption r ((splitn_count s ≡ 0) ⊎ (done s ≡ true))
    (λ x. (0 < splitn_count s) × (splitn_count s ≡ 1 → done t ≡ true) × MatchBool (done t) (left s ≡ x.now) ((y : A) × (left s ≡ x.now ++ (y ∷ left t))) × (done s ≡ false)
    × (1 < splitn_count s → (p : A → Bool) → ComputesKey g p (split_callee (splitn_parts s)) → ComputesKey g p (split_callee (splitn_parts t)) × IsFirstMatchOrLen p (left s) (length x.now)))

-- which says what `Cut` does
cut_of : {A F : Type 0} (g : Mut F (Bor A × Unit {0}) Bool) (s : SplitN A F) (x : Bor (List A)) (t : SplitN A F) → steps g s (Some x) t → Cut s x t
cut_of g s x t h = record { count = h.0; some = h.1.0; last = h.1.1; parts = h.1.2; goes_on = h.1.3 }

pub returns-clause-within : goal.returns-clause-within
returns-clause-within c =
    (fits (steps _) c.args.k c.splitn.result c.nth.result c.nth.new.self _ c.unwrap_or.result c.args.text.now c.nth.ensures.ran c.unwrap_or.ensures refl (omega (arith, c.splitn.ensures.count, c.saturating_add.ensures)) c.splitn.ensures.rest (cut_of _)).0

pub returns-clause-back : goal.returns-clause-back
returns-clause-back c =
    (fits (steps _) c.args.k c.splitn.result c.nth.result c.nth.new.self _ c.unwrap_or.result c.args.text.now c.nth.ensures.ran c.unwrap_or.ensures refl (omega (arith, c.splitn.ensures.count, c.saturating_add.ensures)) c.splitn.ensures.rest (cut_of _)).1
