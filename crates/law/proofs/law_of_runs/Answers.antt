use Rattle.std.proofs.Common.{refl}
use Rattle.law.proofs.Runs.{every_run_lawful, answered_lawful}
use Rattle.law.proofs.law_of_runs.Goals as goal

pub returns : goal.returns
returns c = record { calls = refl; runs = every_run_lawful; histories = answered_lawful }
