-- `rereading::rewritten` meets its contract: an accepted output fits. Assumes nothing.
use Rattle.std.proofs.Common.{ℕ, ◌≡◌, ◌≤◌, length, IfOk, arith, refl, sym, ◌∙◌}
use Rattle.std.specs.Prelude.{Result, Ok, Err}
use Rattle.refusals.specs.declared.Refusal.{Refusal}
use Rattle.still_writer.proofs.WriteLaws.{accepted}
use Rattle.rereading.proofs.rewritten.Goals as goal

at_most : {m : ℕ} (r : Result ℕ Refusal) → ((n : ℕ) → r ≡ Ok n → n ≤ m) → IfOk r (λ n. n ≤ m)
at_most (Ok n) h = h n refl
at_most (Err refusal) h = tt

pub returns : goal.returns
returns c =
    at_most c.write_still.result (λ n e. omega (arith, (accepted _ _ _ _ _ (sym c.write_still.ensures.answered ∙ e)).fits))
