-- Of `text_cases::show_number`: 20 bytes hold a number of 64 bits. Assumes nothing.
use Rattle.std.proofs.Common.{sym, ◌∙◌, arith}
use Rattle.text.specs.Decimal.{read_at}
use Rattle.text.proofs.Round.{read-converse, digits-64}
use Rattle.text_cases.proofs.show_number.Goals as goal

pub put_number-k-requires : goal.put_number-k-requires
unfolding read_at
put_number-k-requires g c =
    let read = read-converse c.args.limit c.args.s.now 0 _ _ (sym c.read_number.ensures ∙ c.in-Some.is) in
    omega (arith, digits-64 c.in-Some.n (omega (arith, read.small, c.ranges.limit.fits)))
