-- Up to the last name, what is left of the list begins where the next name does.
use Rattle.std.proofs.Common.{◌≡◌, ◌+◌, length, false}
use Rattle.std.specs.Slice.Iter.{split_rest, split_done}
use Rattle.sheet.proofs.reading.receivers.Given as goal

abbrev pub invariant-loop-name : goal.invariant-loop-name
invariant-loop-name l =
    (goal.iterator-loop-name).can_next l.name-iterator
    × (goal.iterator-loop-name).is_finite l.name-iterator
    × (split_done l.name-iterator ≡ false → l.from + length (split_rest l.name-iterator) ≡ length l.list)
