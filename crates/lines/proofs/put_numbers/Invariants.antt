-- `lines::put_numbers` meets its contract. The invariant: the numbers passed are added, each in 21 bytes at most.
use Rattle.std.proofs.Common.{◌*◌, take}
use Rattle.arrayvec.specs.ArrayVec.{Extends}
use Rattle.lexicon.specs.Answers.{spaced}
use Rattle.lines.specs.Written.{AddsAtMost}
use Rattle.lines.proofs.put_numbers.Given as goal

abbrev pub invariant-loop-n : goal.invariant-loop-n
invariant-loop-n g l = record {
  added : Extends l.initial.out (spaced (take l.n-index l.numbers)) l.out;
  bound : AddsAtMost (21 * l.n-index) l.initial.out l.out;
}
