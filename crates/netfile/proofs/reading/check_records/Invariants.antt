use Rattle.netfile.proofs.Scanning.{Scanned}
use Rattle.netfile.proofs.reading.check_records.Given as goal

abbrev pub invariant-loop-index : goal.invariant-loop-index
invariant-loop-index g l = Scanned (λ bytes. g.R.Record.fault l.nodes (g.R.Record.read bytes)) g.row.SIZE l.start l.records l.index
