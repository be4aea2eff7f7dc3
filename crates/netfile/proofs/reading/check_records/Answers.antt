use Rattle.std.proofs.Common.{rules}
use Rattle.netfile.proofs.Scanning.{scanned_err}
use Rattle.netfile.proofs.reading.check_records.Goals as goal

pub returns-in_err-check_record : goal.returns-in_err-check_record
returns-in_err-check_record g c =
    let e =
    scanned_err _ _ _ _ _ c.loop-index-test.true _ c.index-records-index.is _ c.record_place.ensures _ c.check_record.ensures c.loop-index.invariant _ c.in_err-check_record.was in
    search (rules, e)
