-- The bytes passed are digits, and write the value so far.
use Rattle.wordlist.specs.Text.{Writes}
use Rattle.wordlist.proofs.number_in.Given as goal

abbrev pub invariant-loop-b : goal.invariant-loop-b
invariant-loop-b l = Writes l.base l.digits l.b-index l.value
