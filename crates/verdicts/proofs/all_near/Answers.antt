-- `verdicts::all_near` meets its contract: all channels so far are near, and the first that is not decides. Assumes nothing.
use Prim.Native.Nat.{ℕ, ◌*◌, ◌≤◌, ◌<◌}
use native.Mathlib.Nat.{le_antisymm, mul_comm, mul-le-mul}
use native.Mathlib.Omega.{arith}
use mathlib.Core.Path.{◌≡◌, refl, sym, ◌∙◌}
use mathlib.Core.List.{List, ◌++◌}
use lib.ListN.{length, take, drop, length-append}
use lib.Seq.{take_at}
use Rattle.lists.proofs.Tabulate.{length-tabulate}
use Rattle.channels.specs.Channel.{channel}
use Rattle.recipe.specs.Recipe.{recipe_stages}
use Rattle.near_rows.specs.Places.{Inside}
use Rattle.near_rows.proofs.EverywhereLaws.{everywhere-none, everywhere-more, everywhere_fails}
use Rattle.verdict_answers.specs.VerdictAnswer.{all_near}
use Rattle.verdicts.specs.Compares.{Compares}
use Rattle.verdicts.proofs.Verdicts.{channel_test, channel-tested}
use borrow.Author.Rules.{rules}
use Rattle.verdicts.proofs.all_near.Goals as goal

-- a channel's samples at the front of a buffer
channel-long : (channels n k : ℕ) (raw : List ℕ) → length (channel channels n raw k) ≡ n
unfolding channel
channel-long channels n k raw = length-tabulate _ n

channel-front : (channels n k : ℕ) (raw d l : List ℕ) → l ≡ channel channels n raw k ++ drop n d → take n l ≡ channel channels n raw k
channel-front channels n k raw d l e = rw e (take_at (channel channels n raw k) (drop n d) n (channel-long channels n k raw))

-- no plane is large
plane-small : {W H channels x y z : ℕ} → Compares W H channels x y z → W * H ≤ 67108864
plane-small p = mul-le-mul {n₂ = 8192} {m₂ = 8192} p.sides.width.1 p.sides.height.1

-- every sample of a channel is there
inside : {W H channels x z k : ℕ} {received : List ℕ} → Compares W H channels x (length received) z → k < channels → Inside W H (record { channels = channels; index = k }) received
inside {W} {H} {channels} p h = record { few = p.some.1; one = h; whole = rw (mul_comm H W) p.received-whole }

pub overflow_mul-n : goal.overflow_mul-n
overflow_mul-n c =
    record { fits = omega (arith, plane-small c.requires.1) }

pub loop-k-init : goal.loop-k-init
loop-k-init c =
    everywhere-none _

pub take_channel-requires : goal.take_channel-requires
take_channel-requires c =
    let p = c.requires.1 in
    (plane-small p, p.some.1, c.loop-k-test.true, p.raw-whole, omega (arith, p.room, c.loop-k.auto.work))

pub slice_bounds-channel_near-end : goal.slice_bounds-channel_near-end
slice_bounds-channel_near-end c =
    rw c.take_channel.ensures (simp (length-append, channel-long) (omega arith))

pub slice_bounds-channel_near-end-in-loop-k : goal.slice_bounds-channel_near-end-in-loop-k
slice_bounds-channel_near-end-in-loop-k c =
    rw (channel-front _ _ _ _ _ _ c.take_channel.ensures) (sym (channel-long _ _ _ _))

pub channel_near-requires : goal.channel_near-requires
channel_near-requires c =
    let a = c.args in
    let p = c.requires in
    (p.0, p.1.sides, rw (channel-front _ _ _ _ _ _ c.take_channel.ensures) (channel-long _ _ _ _ ∙ mul_comm a.w a.h), inside p.1 c.loop-k-test.true, p.2)

pub returns-then-not-channel_near : goal.returns-then-not-channel_near
unfolding all_near
returns-then-not-channel_near c =
    let a = c.args in
    let L = c.loop-k in
    let e = channel-front a.channels (a.w * a.h) L.k a.raw.now _ _ c.take_channel.ensures in
    sym (everywhere_fails (channel_test a.c a.w a.h a.channels (recipe_stages a.recipe.now) a.raw.now a.received.now) a.channels L.k c.loop-k-test.true
    (sym (channel-tested c.requires.0 a.c a.w a.h a.channels L.k a.raw.now a.received.now _ _ e c.channel_near.ensures) ∙ c.if-not-channel_near.true))

pub loop-k-preserved : goal.loop-k-preserved
loop-k-preserved c =
    let a = c.args in
    let L = c.loop-k in
    let e = channel-front a.channels (a.w * a.h) L.k a.raw.now _ _ c.take_channel.ensures in
    everywhere-more (channel_test a.c a.w a.h a.channels (recipe_stages a.recipe.now) a.raw.now a.received.now) L.k L.invariant
    (sym (channel-tested c.requires.0 a.c a.w a.h a.channels L.k a.raw.now a.received.now _ _ e c.channel_near.ensures) ∙ c.if-not-channel_near.false)

pub returns : goal.returns
unfolding all_near
returns c =
    sym (rw (le_antisymm c.loop-k.auto.k-end c.loop-k-test.false) at c.loop-k.invariant)
