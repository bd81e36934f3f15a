-- `replay_filing::put_numbering` meets its contract: of each place passed one byte is written, after the space.
use Rattle.lines.specs.Written.{AddsAtMost}
use Rattle.replay_filing.proofs.put_numbering.Given as goal

abbrev pub invariant-loop-node : goal.invariant-loop-node
invariant-loop-node l = AddsAtMost l.node-index l.initial.out l.out
