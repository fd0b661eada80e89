-- `show::write_name` meets its contract.
use Rattle.show.proofs.Names.{padded-over}
use Rattle.show.proofs.write_name.Goals as goal

pub returns : goal.returns
returns c = padded-over c.args.name.now c.copy_from_slice.new.self c.fill.new.self _ c.copy_from_slice.ensures.after (c.fill.ensures.after (λ y e. e)) c.requires.1
