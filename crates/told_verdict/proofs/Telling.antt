-- What is told of an answer is told of the answer as defined.
use Prim.Native.Nat.{ℕ}
use mathlib.Core.Path.{subst}
use mathlib.Core.List.{List}
use Rattle.std.specs.Prelude.{Bool, Result}
use Rattle.refusals.specs.declared.Refusal.{Refusal}
use Rattle.verdicts.specs.GivesVerdict as Verdict
use Rattle.told.specs.Numbers.{Tells, judged_told}
use Rattle.told.proofs.Alike.{told}
use Rattle.told_verdict.specs.Call.{GivesVerdict}

pub gives_verdict : {c : ℕ} {recipe raw received work work' xs ys : List ℕ} {r : ℕ} {a : Result Bool Refusal} → Verdict.GivesVerdict c recipe raw received work work' a → Tells (judged_told a) xs ys r → GivesVerdict c recipe raw received work work' xs ys r
gives_verdict {c} {recipe} {raw} {received} {work} {work'} v t = record { given = subst (λ (x : Result Bool Refusal). Verdict.GivesVerdict c recipe raw received work work' x) v.answered v; told = told judged_told v.answered t }
