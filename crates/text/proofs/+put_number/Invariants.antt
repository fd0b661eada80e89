-- `text::put_number` writes the digits before the last by a call of itself, on a smaller number.
use Rattle.text.proofs.+put_number.Given as goal

abbrev pub decreases-put_number : goal.decreases-put_number
decreases-put_number l = l.n
