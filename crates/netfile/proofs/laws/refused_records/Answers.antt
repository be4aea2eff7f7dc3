use Rattle.netfile.proofs.Faultless.{first_faulty_record}
use Rattle.netfile.proofs.laws.refused_records.Goals as goal

pub returns : goal.returns
returns c = first_faulty_record
