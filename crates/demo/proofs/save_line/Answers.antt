use Rattle.std.proofs.Common.{refl, inr}
use Rattle.demo.proofs.save_line.Goals as goal

pub returns-in_err-text-clause-failed : goal.returns-in_err-text-clause-failed
returns-in_err-text-clause-failed g c = inr refl
