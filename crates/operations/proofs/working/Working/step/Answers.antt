-- `operations::working::Working::step` meets its contract.
use native.Mathlib.Omega.{arith}
use Rattle.std.proofs.lemmas.Grind.{common_steps}
use Rattle.operations.specs.Ready.{Leaves}
use Rattle.operations.specs.Steps.{step_of}
use Rattle.operations.proofs.working.Working.step.Goals as goal

pub returns-in-NextIds-clause-told : goal.returns-in-NextIds-clause-told
unfolding Leaves step_of
returns-in-NextIds-clause-told c = grind (arith, common_steps)
