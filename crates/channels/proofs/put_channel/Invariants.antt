-- `channels::put_channel` meets its contract: the samples so far are in the channel. Assumes nothing.
use Rattle.channels.proofs.Interleaved.{Stored}
use Rattle.channels.proofs.put_channel.Given as goal

abbrev pub invariant-loop-i : goal.invariant-loop-i
invariant-loop-i l = Stored l.channels l.c l.src l.initial.dst l.i l.dst
