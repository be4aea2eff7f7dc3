use Rattle.netfile.proofs.Accepted.{accepted_exactly}
use Rattle.netfile.proofs.Written.{written_in_bytes}
use Rattle.netfile.proofs.laws.accepted_files.Goals as goal

pub returns : goal.returns
returns c = record { exactly = accepted_exactly; bytes = written_in_bytes }
